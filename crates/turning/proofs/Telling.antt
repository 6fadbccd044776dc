-- What an assignment tells of an end, down the path. A node's own constraint only adds itself to the constraint of an end below, so what
-- is told of an end below a connective is what its child tells of it, where the siblings leave the connective to that child, and else nothing.
use Prim.Native.Nat.{ℕ, ◌+◌, ◌-◌, ◌<◌}
use mathlib.Core.Path.{◌≡◌, refl, sym, ap, ◌∙◌}
use mathlib.Core.Bool.{Bool, true, false, not, cond, ◌&&◌}
use native.Mathlib.Omega.{arith}
use Rattle.std.proofs.Common.{Option, Some, None}
use lib.Dec.{ltb}
use borrow.Table.Steps.{cases}
use borrow.Author.Tests.{lt-ltb, le-ltb}
use Rattle.condition.specs.Meaning.{Assignment, End, met, Join, joined, unit, Tree, plain, leaf, join, Forest, none, more, holds, each}
use Rattle.condition.specs.Folding.{live, live_all}
use Rattle.condition.specs.Critical.{end_at, end_in, both, star, critical, critical_from, critical_in}
use Rattle.condition.proofs.Putting.{split}
use Rattle.condition.proofs.Negation.{holds_negate}
use Rattle.nodes.specs.Laid.{join_of}
use Rattle.turning.specs.Turned.{tells, tells_in}

-- what a connective needs of a sibling for the others to matter
abbrev pub leaves : Bool → Bool → Bool
leaves b v = cond b v (not v)

star_holds : (b : Bool) (t : Tree) (a : Assignment) → holds (star (join_of b) t) a ≡ leaves b (holds t a)
star_holds true t a = refl
star_holds false t a = holds_negate t a

-- of Booleans only
and_true : (x : Bool) → x ≡ (x && true)
and_true true = refl
and_true false = refl

regroup : (p s x : Bool) → ((p && (s && true)) && x) ≡ (p && ((true && (s && true)) && x))
regroup true s x = refl
regroup false s x = refl

picked : (s s' x : Bool) (y : Option Bool) → s ≡ s' → cond ((s && true) && x) y None ≡ cond s' (cond x y None) None
picked true s' x y e = rw (sym e) refl
picked false s' x y e = rw (sym e) refl

module _ (a : Assignment) where
  -- one more tree s in the constraint c, x what is below
  added : (c s : Tree) (x : Bool) {u v : Bool} → u ≡ (holds (both c s) a && x) → v ≡ (holds (both (plain true) s) a && x) → u ≡ (holds c a && v)
  unfolding holds
  added c s x p q = p ∙ regroup (holds c a) (holds s a) x ∙ ap (λ y. holds c a && y) (sym q)

  mutual
    unfolding holds critical_from

    from_and : (t c : Tree) (i : ℕ) → holds (critical_from t c i) a ≡ (holds c a && holds (critical_from t (plain true) i) a)
    from_and (plain b) c i = and_true (holds c a)
    from_and (leaf e) c i = and_true (holds c a)
    from_and (join j ts) c i = in_and ts j c i

    in_and : (ts : Forest) (j : Join) (c : Tree) (i : ℕ) →
        holds (critical_in ts j c i) a ≡ (holds c a && holds (critical_in ts j (plain true) i) a)
    in_and none j c i = and_true (holds c a)
    in_and (more t ts) j c i =
        cases (ltb i (live t))
        (λ e. rw e
        (added c (star j (join j ts)) _ (from_and t (both c (star j (join j ts))) i) (from_and t (both (plain true) (star j (join j ts))) i)))
        (λ e. rw e
        (added c (star j t) _ (in_and ts j (both c (star j t)) (i - live t)) (in_and ts j (both (plain true) (star j t)) (i - live t))))

  module _ (b : Bool) (t : Tree) (ts : Forest) (i : ℕ) where
    -- end i is in the first child, or in one of the others
    pub first_tells : ltb i (live t) ≡ true → tells_in (more t ts) (join_of b) i a ≡ cond (leaves b (each ts (join_of b) a)) (tells t i a) None
    unfolding tells_in tells critical critical_from end_at holds
    first_tells e = rw e
        (ap (λ x. cond x (Some (met (end_at t i) a)) None) (from_and t (both (plain true) (star (join_of b) (join (join_of b) ts))) i)
        ∙ picked _ _ _ _ (star_holds b (join (join_of b) ts) a))

    pub later_tells : ltb i (live t) ≡ false →
        tells_in (more t ts) (join_of b) i a ≡ cond (leaves b (holds t a)) (tells_in ts (join_of b) (i - live t) a) None
    unfolding tells_in critical_from end_at holds
    later_tells e = rw e
        (ap (λ x. cond x (Some (met (end_in ts (i - live t)) a)) None) (in_and ts (join_of b) (both (plain true) (star (join_of b) t)) (i - live t))
        ∙ picked _ _ _ _ (star_holds b t a))

  -- a connective is told of as its children are, and an end alone turns itself
  pub join_tells : (j : Join) (ts : Forest) (i : ℕ) → tells (join j ts) i a ≡ tells_in ts j i a
  unfolding tells_in tells critical critical_from end_at
  join_tells j ts i = refl

  pub end_tells : (e : End) (i : ℕ) → tells (leaf e) i a ≡ Some (met e a)
  unfolding tells critical critical_from end_at holds
  end_tells e i = refl

-- ---- one tree after others

abbrev pub last : Forest → Tree → Forest
last none t = more t none
last (more u us) t = more u (last us t)

abbrev pub onto : Forest → Forest → Forest
onto none us = us
onto (more t ts) us = more t (onto ts us)

pub onto_last : (ts : Forest) (t : Tree) (us : Forest) → onto ts (more t us) ≡ onto (last ts t) us
onto_last none t us = refl
onto_last (more u ts) t us = ap (more u) (onto_last ts t us)

pub onto_none : (ts : Forest) → onto ts none ≡ ts
onto_none none = refl
onto_none (more t ts) = ap (more t) (onto_none ts)

pub last_live : (ts : Forest) (t : Tree) → live_all (last ts t) ≡ live_all ts + live t
unfolding live
last_live none t = omega arith
last_live (more u ts) t = omega (arith, last_live ts t)

-- of Booleans only
joined_unit : (b x : Bool) → joined (join_of b) x (unit (join_of b)) ≡ joined (join_of b) (unit (join_of b)) x
joined_unit true true = refl
joined_unit true false = refl
joined_unit false true = refl
joined_unit false false = refl

joined_assoc : (b x y z : Bool) → joined (join_of b) x (joined (join_of b) y z) ≡ joined (join_of b) (joined (join_of b) x y) z
joined_assoc true true y z = refl
joined_assoc true false y z = refl
joined_assoc false true y z = refl
joined_assoc false false y z = refl

leave_both : (b x y : Bool) (w : Option Bool) → cond (leaves b (joined (join_of b) x y)) w None ≡ cond (leaves b x) (cond (leaves b y) w None) None
leave_both true true y w = refl
leave_both true false y w = refl
leave_both false true y w = refl
leave_both false false y w = refl

swapped : (x y : Bool) (w : Option Bool) → cond x (cond y w None) None ≡ cond y (cond x w None) None
swapped true y w = refl
swapped false true w = refl
swapped false false w = refl

module _ (a : Assignment) (b : Bool) (t : Tree) where
  pub last_each : (ts : Forest) → each (last ts t) (join_of b) a ≡ joined (join_of b) (each ts (join_of b) a) (holds t a)
  unfolding holds
  last_each none = joined_unit b (holds t a)
  last_each (more u ts) = ap (joined (join_of b) (holds u a)) (last_each ts) ∙ joined_assoc b (holds u a) (each ts (join_of b) a) (holds t a)

  -- an end of the elder trees, and one of the last
  pub elder_tells : (ts : Forest) (x : ℕ) → x < live_all ts →
      tells_in (last ts t) (join_of b) x a ≡ cond (leaves b (holds t a)) (tells_in ts (join_of b) x a) None
  unfolding live
  elder_tells none x h = absurd (omega arith)
  elder_tells (more u ts) x h = split x (live u)
      (λ l e. first_tells a b u (last ts t) x e
      ∙ ap (λ y. cond (leaves b y) (tells u x a) None) (last_each ts)
      ∙ leave_both b (each ts (join_of b) a) (holds t a) (tells u x a)
      ∙ swapped (leaves b (each ts (join_of b) a)) (leaves b (holds t a)) (tells u x a)
      ∙ ap (λ y. cond (leaves b (holds t a)) y None) (sym (first_tells a b u ts x e)))
      (λ l e. later_tells a b u (last ts t) x e
      ∙ ap (λ y. cond (leaves b (holds u a)) y None) (elder_tells ts (x - live u) (omega arith))
      ∙ swapped (leaves b (holds u a)) (leaves b (holds t a)) (tells_in ts (join_of b) (x - live u) a)
      ∙ ap (λ y. cond (leaves b (holds t a)) y None) (sym (later_tells a b u ts x e)))

  pub last_tells : (ts : Forest) (x : ℕ) → x < live t →
      tells_in (last ts t) (join_of b) (live_all ts + x) a ≡ cond (leaves b (each ts (join_of b) a)) (tells t x a) None
  unfolding live holds
  last_tells none x h =
      let here : 0 + x ≡ x = omega arith in
      ap (λ y. tells_in (more t none) (join_of b) y a) here ∙ first_tells a b t none x (lt-ltb x (live t) h)
  last_tells (more u ts) x h =
      let there : live u + live_all ts + x - live u ≡ live_all ts + x = omega arith in
      later_tells a b u (last ts t) (live u + live_all ts + x) (le-ltb (live u + live_all ts + x) (live u) (omega arith))
      ∙ ap (λ y. cond (leaves b (holds u a)) (tells_in (last ts t) (join_of b) y a) None) there
      ∙ ap (λ y. cond (leaves b (holds u a)) y None) (last_tells ts x h)
      ∙ sym (leave_both b (holds u a) (each ts (join_of b) a) (tells t x a))
