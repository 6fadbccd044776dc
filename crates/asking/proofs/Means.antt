-- The question means the critical constraint and the end or its opposite, and its ends are within the limits if the tree's are. Walking
-- down the path, what is gathered below a node, with the node's own constraint, is the constraint of the end with the end: each step is
-- that `and` may be regrouped.
use Prim.Native.Nat.{ℕ, ◌-◌, ◌<◌}
use mathlib.Core.Path.{◌≡◌, refl, sym, ap, ◌∙◌}
use mathlib.Core.Bool.{Bool, true, false}
use native.Mathlib.Omega.{arith}
use Rattle.condition.specs.Meaning.{Assignment, met, Join, all, any, joined, Tree, plain, leaf, join, Forest, none, more, holds, each, negate}
use Rattle.condition.specs.Meaning.{End, EndWithin, Formed, FormedAll}
use Rattle.condition.specs.Satisfying.{Named}
use Rattle.condition.specs.Folding.{live, live_all}
use Rattle.condition.specs.Critical.{end_at, end_in, both, star, critical_from, critical_in, critical}
use Rattle.condition.proofs.Putting.{split}
use Rattle.condition.proofs.Negation.{opposite_within, negate_all_formed}
use Rattle.condition.proofs.Critical.{star_formed}
use Rattle.condition.proofs.Small.{formed_named_all}
use Rattle.asking.specs.Asked.{asked, star_all, onto, gathered, gathered_in, question}

and_assoc : (x y z : Bool) → joined all (joined all x y) z ≡ joined all x (joined all y z)
and_assoc true y z = refl
and_assoc false y z = refl

and_one : (x y : Bool) → joined all x (joined all y true) ≡ joined all x y
and_one true true = refl
and_one true false = refl
and_one false y = refl

-- a sibling's meaning goes from what is gathered to the constraint
regroup : (x y z : Bool) → joined all x (joined all y z) ≡ joined all (joined all x (joined all y true)) z
regroup true true z = refl
regroup true false z = refl
regroup false y z = refl

onto_each : (ts us : Forest) (a : Assignment) → each (onto ts us) all a ≡ joined all (each ts all a) (each us all a)
unfolding holds
onto_each none us a = refl
onto_each (more t ts) us a =
    ap (joined all (holds t a)) (onto_each ts us a) ∙ sym (and_assoc (holds t a) (each ts all a) (each us all a))

star_each : (j : Join) (ts : Forest) (a : Assignment) → each (star_all j ts) all a ≡ holds (star j (join j ts)) a
unfolding holds negate
star_each all ts a = refl
star_each any ts a = refl

module _ (opp : Bool) (a : Assignment) where
  here : (t : Tree) (ts : Forest) (j : Join) (c : Tree) (m : ℕ) {x : Bool} →
      joined all (holds (both c (star j (join j ts))) a) (each (gathered t m opp) all a) ≡ x →
      joined all (holds c a) (each (onto (star_all j ts) (gathered t m opp)) all a) ≡ x
  unfolding holds
  here t ts j c m e =
      let rest = each (gathered t m opp) all a in
      ap (joined all (holds c a)) (onto_each (star_all j ts) (gathered t m opp) a ∙ ap (λ y. joined all y rest) (star_each j ts a)) ∙
      regroup (holds c a) (holds (star j (join j ts)) a) rest ∙
      e

  later : (t : Tree) (us : Forest) (j : Join) (c : Tree) {x : Bool} →
      joined all (holds (both c (star j t)) a) (each us all a) ≡ x →
      joined all (holds c a) (each (more (star j t) us) all a) ≡ x
  unfolding holds
  later t us j c e = regroup (holds c a) (holds (star j t) a) (each us all a) ∙ e

  mutual
    unfolding holds gathered critical_from end_at live

    means : (t c : Tree) (m : ℕ) → m < live t →
        joined all (holds c a) (each (gathered t m opp) all a) ≡
        joined all (holds (critical_from t c m) a) (met (asked opp (end_at t m)) a)
    means (plain b) c m h = absurd (omega arith)
    means (leaf e) c m h = and_one (holds c a) (met (asked opp e) a)
    means (join j ts) c m h = means_in ts j c m h

    means_in : (ts : Forest) (j : Join) (c : Tree) (m : ℕ) → m < live_all ts →
        joined all (holds c a) (each (gathered_in ts j m opp) all a) ≡
        joined all (holds (critical_in ts j c m) a) (met (asked opp (end_in ts m)) a)
    means_in none j c m h = absurd (omega arith)
    means_in (more t ts) j c m h = split m (live t)
        (λ l q. rw q (here t ts j c m (means t (both c (star j (join j ts))) m l)))
        (λ l q. rw q (later t (gathered_in ts j (m - live t) opp) j c (means_in ts j (both c (star j t)) (m - live t) (omega arith))))

pub question_holds : (t : Tree) (m : ℕ) (opp : Bool) (a : Assignment) → m < live t →
    holds (question t m opp) a ≡ holds (both (critical t m) (leaf (asked opp (end_at t m)))) a
unfolding holds critical
question_holds t m opp a h = means opp a t (plain true) m h ∙ sym (and_one (holds (critical t m) a) (met (asked opp (end_at t m)) a))

-- ---- what the search asks of a tree: its ends are within the limits

onto_formed : (ts us : Forest) → FormedAll ts → FormedAll us → FormedAll (onto ts us)
unfolding Formed
onto_formed none us w v = v
onto_formed (more t ts) us w v = (w.0, onto_formed ts us w.1 v)

star_all_formed : (j : Join) (ts : Forest) → FormedAll ts → FormedAll (star_all j ts)
star_all_formed all ts w = w
star_all_formed any ts w = negate_all_formed ts w

asked_within : (opp : Bool) (e : End) → EndWithin e → EndWithin (asked opp e)
asked_within true e w = opposite_within e w
asked_within false e w = w

mutual
  unfolding gathered Formed

  gathered_formed : (t : Tree) (m : ℕ) (opp : Bool) → Formed t → FormedAll (gathered t m opp)
  gathered_formed (plain b) m opp w = tt
  gathered_formed (leaf e) m opp w = (asked_within opp e w, tt)
  gathered_formed (join j ts) m opp w = gathered_in_formed ts j m opp w.1

  gathered_in_formed : (ts : Forest) (j : Join) (m : ℕ) (opp : Bool) → FormedAll ts → FormedAll (gathered_in ts j m opp)
  gathered_in_formed none j m opp w = tt
  gathered_in_formed (more t ts) j m opp w = split m (live t)
      (λ l q. rw q (onto_formed (star_all j ts) (gathered t m opp) (star_all_formed j ts w.1) (gathered_formed t m opp w.0)))
      (λ l q. rw q (star_formed j t w.0, gathered_in_formed ts j (m - live t) opp w.1))

pub question_named : (t : Tree) (m : ℕ) (opp : Bool) → Formed t → Named (question t m opp)
unfolding Named
question_named t m opp w = formed_named_all (gathered t m opp) (gathered_formed t m opp w)
