-- 000's lemmas 4 and 5. Under one assignment either the end matters, and then its critical constraint holds and the tree is whatever
-- the end is; or it doesn't, and the tree has one value whatever is put there. `Weighed` says this with two Booleans, by recursion down
-- the path to the end; both lemmas are then facts about Booleans.
use Prim.Native.Nat.{ℕ, suc, ◌+◌, ◌-◌, ◌<◌}
use mathlib.Core.Path.{◌≡◌, refl, sym, ap, ◌∙◌}
use mathlib.Core.Bool.{Bool, true, false, not, cond, ◌&&◌, false≢true}
use mathlib.Core.Logic.{◌↔◌}
use native.Mathlib.Omega.{arith}
use lib.Dec.{ltb}
use Rattle.condition.specs.Meaning.{Assignment, met, Join, all, any, joined, Tree, plain, leaf, join, Forest, none, more}
use Rattle.condition.specs.Meaning.{holds, each, negate, negate_all, Formed}
use Rattle.condition.specs.Folding.{fold, live, live_all}
use Rattle.condition.specs.Critical.{end_at, put, put_in, both, star, critical, critical_from, critical_in}
use Rattle.condition.specs.Critical.{Implies, NonConstraining, NonRelaxing}
use Rattle.condition.proofs.Negation.{opposite_met, holds_negate, negate_formed}
use Rattle.condition.proofs.Folding.{fold_holds}
use Rattle.condition.proofs.Putting.{split, put_same}

-- What a connective needs of a sibling for the others to matter

abbrev starred : Join → Bool → Bool
starred all x = x
starred any x = not x

star_holds : (j : Join) (t : Tree) (a : Assignment) → holds (star j t) a ≡ starred j (holds t a)
star_holds all t a = refl
star_holds any t a = holds_negate t a

pub star_formed : (j : Join) (t : Tree) → Formed t → Formed (star j t)
star_formed all t w = w
star_formed any t w = negate_formed t w

-- Under one assignment: c, the end matters; d, the tree's value if it doesn't. `constraint` carries the constraint p of the node itself
record Site (t p : Tree) (i : ℕ) (a : Assignment) : Type 0 where
  c : Bool
  d : Bool
  constraint : holds (critical_from t p i) a ≡ (holds p a && c)
  puts : (u : Tree) → holds (put t i u) a ≡ cond c (holds u a) d

record SiteIn (ts : Forest) (j : Join) (p : Tree) (i : ℕ) (a : Assignment) : Type 0 where
  c : Bool
  d : Bool
  constraint : holds (critical_in ts j p i) a ≡ (holds p a && c)
  puts : (u : Tree) → each (put_in ts i u) j a ≡ cond c (holds u a) d

-- of Booleans only
assoc : (x y y' c : Bool) → y' ≡ y → ((x && (y && true)) && c) ≡ (x && (y' && c))
assoc true true y' c e = rw e
assoc true false y' c e = rw e
assoc false y y' c e = refl

joined_cond : (j : Join) (x c u d : Bool) → joined j x (cond c u d) ≡ cond (starred j x && c) u (joined j x d)
joined_cond all true c u d = refl
joined_cond all false c u d = refl
joined_cond any true c u d = refl
joined_cond any false c u d = refl

joined_comm : (j : Join) (x y : Bool) → joined j x y ≡ joined j y x
joined_comm all true true = refl
joined_comm all true false = refl
joined_comm all false true = refl
joined_comm all false false = refl
joined_comm any true true = refl
joined_comm any true false = refl
joined_comm any false true = refl
joined_comm any false false = refl

and_true : (x : Bool) → x ≡ (x && true)
and_true true = refl
and_true false = refl

module _ (t : Tree) (ts : Forest) (j : Join) (p : Tree) (i : ℕ) (a : Assignment) where
  site_first : ltb i (live t) ≡ true → Site t (both p (star j (join j ts))) i a → SiteIn (more t ts) j p i a
  unfolding holds each put_in critical_in
  site_first e s =
      record {
        c = starred j (each ts j a) && s.c;
        d = joined j (each ts j a) s.d;
        constraint = rw e (s.constraint ∙ assoc (holds p a) _ _ s.c (sym (star_holds j (join j ts) a)));
        puts = λ u.
            rw e
            (ap (λ x. joined j x (each ts j a)) (s.puts u) ∙ joined_comm j _ _ ∙ joined_cond j (each ts j a) s.c (holds u a) s.d);
      }

  site_later : ltb i (live t) ≡ false → SiteIn ts j (both p (star j t)) (i - live t) a → SiteIn (more t ts) j p i a
  unfolding holds each put_in critical_in
  site_later e s =
      record {
        c = starred j (holds t a) && s.c;
        d = joined j (holds t a) s.d;
        constraint = rw e (s.constraint ∙ assoc (holds p a) _ _ s.c (sym (star_holds j t a)));
        puts = λ u. rw e (ap (joined j (holds t a)) (s.puts u) ∙ joined_cond j (holds t a) s.c (holds u a) s.d);
      }

mutual
  unfolding holds put critical_from live live_all

  site : (t p : Tree) (i : ℕ) (a : Assignment) → i < live t → Site t p i a
  site (plain b) p i a h = absurd (omega arith)
  site (leaf e) p i a h = record { c = true; d = true; constraint = and_true (holds p a); puts = λ u. refl }
  site (join j ts) p i a h =
      let s = site_in ts j p i a h in
      record { c = s.c; d = s.d; constraint = s.constraint; puts = s.puts }

  site_in : (ts : Forest) (j : Join) (p : Tree) (i : ℕ) (a : Assignment) → i < live_all ts → SiteIn ts j p i a
  site_in none j p i a h = absurd (omega arith)
  site_in (more t ts) j p i a h =
      split i (live t)
      (λ l e. site_first t ts j p i a e (site t (both p (star j (join j ts))) i a l))
      (λ l e. site_later t ts j p i a e (site_in ts j (both p (star j t)) (i - live t) a (omega arith)))

-- The same of a whole tree
pub record Weighed (t : Tree) (i : ℕ) (a : Assignment) : Type 0 where
  pub c : Bool
  pub d : Bool
  pub constraint : holds (critical t i) a ≡ c
  pub itself : holds t a ≡ cond c (met (end_at t i) a) d
  pub replaced : (b : Bool) → holds (fold (put t i (plain b))) a ≡ cond c b d

pub weigh : (t : Tree) (i : ℕ) (a : Assignment) → i < live t → Weighed t i a
unfolding critical holds
weigh t i a h =
    let s = site t (plain true) i a h in
    record {
      c = s.c;
      d = s.d;
      constraint = s.constraint;
      itself = sym (ap (λ x. holds x a) (put_same t i h)) ∙ s.puts (leaf (end_at t i));
      replaced = λ b. fold_holds (put t i (plain b)) a ∙ s.puts (plain b);
    }

-- With the constraint C, the end l, the tree T and P the tree with true, or false, in the end's place

four : (l c d C T P : Bool) → C ≡ c → T ≡ cond c l d → P ≡ cond c true d → (P ≡ true → T ≡ true) ↔ (C ≡ true → l ≡ true)
four l true d C T P eC eT eP = (λ h _. sym eT ∙ h eP, λ h _. eT ∙ h eC)
four l false d C T P eC eT eP = (λ h k. absurd (false≢true (sym eC ∙ k)), λ h k. eT ∙ (sym eP ∙ k))

five : (l c d C T P : Bool) → C ≡ c → T ≡ cond c l d → P ≡ cond c false d → (T ≡ true → P ≡ true) ↔ (C ≡ true → not l ≡ true)
five true true d C T P eC eT eP = (λ h _. absurd (false≢true (sym eP ∙ h eT)), λ h _. absurd (false≢true (h eC)))
five false true d C T P eC eT eP = (λ h _. refl, λ h k. absurd (false≢true (sym eT ∙ k)))
five l false d C T P eC eT eP = (λ h k. absurd (false≢true (sym eC ∙ k)), λ h k. eP ∙ (sym eT ∙ k))

true_raises : (l c d T P : Bool) → T ≡ cond c l d → P ≡ cond c true d → T ≡ true → P ≡ true
true_raises l true d T P eT eP k = eP
true_raises l false d T P eT eP k = eP ∙ (sym eT ∙ k)

false_lowers : (l c d T P : Bool) → T ≡ cond c l d → P ≡ cond c false d → P ≡ true → T ≡ true
false_lowers l true d T P eT eP k = absurd (false≢true (sym eP ∙ k))
false_lowers l false d T P eT eP k = eT ∙ (sym eP ∙ k)

module _ (t : Tree) (i : ℕ) (h : i < live t) where
  -- "A leaf L is non-constraining if and only if α(L) ⇒ L."
  pub lemma_4 : NonConstraining t i ↔ Implies (critical t i) (leaf (end_at t i))
  unfolding holds
  lemma_4 = (λ k a. (at a).0 (k a), λ k a. (at a).1 (k a))
    where
      at : (a : Assignment) → (holds (fold (put t i (plain true))) a ≡ true → holds t a ≡ true)
          ↔ (holds (critical t i) a ≡ true → met (end_at t i) a ≡ true)
      at a = let w = weigh t i a h in four _ w.c w.d _ _ _ w.constraint w.itself (w.replaced true)

  -- "A leaf L is non-relaxing if and only if α(L) ⇒ ¬L."
  pub lemma_5 : NonRelaxing t i ↔ Implies (critical t i) (negate (leaf (end_at t i)))
  unfolding holds negate
  lemma_5 = (λ k a p. opposite_met _ a ∙ (at a).0 (k a) p, λ k a. (at a).1 (λ q. sym (opposite_met _ a) ∙ k a q))
    where
      at : (a : Assignment) → (holds t a ≡ true → holds (fold (put t i (plain false))) a ≡ true)
          ↔ (holds (critical t i) a ≡ true → not (met (end_at t i) a) ≡ true)
      at a = let w = weigh t i a h in five _ w.c w.d _ _ _ w.constraint w.itself (w.replaced false)

  -- an end replaced by true never makes the tree false, by false never true
  pub true_weaker : Implies t (fold (put t i (plain true)))
  true_weaker a k = let w = weigh t i a h in true_raises _ w.c w.d _ _ w.itself (w.replaced true) k

  pub false_stronger : Implies (fold (put t i (plain false))) t
  false_stronger a k = let w = weigh t i a h in false_lowers _ w.c w.d _ _ w.itself (w.replaced false) k

-- "For an end L of a tree of n ends it speaks of the n - 1 others."

mutual
  unfolding negate negate_all live live_all

  pub negate_live : (t : Tree) → live (negate t) ≡ live t
  negate_live (plain b) = refl
  negate_live (leaf e) = refl
  negate_live (join j ts) = negate_all_live ts

  negate_all_live : (ts : Forest) → live_all (negate_all ts) ≡ live_all ts
  negate_all_live none = refl
  negate_all_live (more t ts) = omega (arith, negate_live t, negate_all_live ts)

star_live : (j : Join) (t : Tree) → live (star j t) ≡ live t
star_live all t = refl
star_live any t = negate_live t

mutual
  unfolding critical_from critical_in live live_all

  critical_from_live : (t p : Tree) (i : ℕ) → i < live t → suc (live (critical_from t p i)) ≡ live p + live t
  critical_from_live (plain b) p i h = absurd (omega arith)
  critical_from_live (leaf e) p i h = omega arith
  critical_from_live (join j ts) p i h = critical_in_live ts j p i h

  critical_in_live : (ts : Forest) (j : Join) (p : Tree) (i : ℕ) → i < live_all ts →
      suc (live (critical_in ts j p i)) ≡ live p + live_all ts
  critical_in_live none j p i h = absurd (omega arith)
  critical_in_live (more t ts) j p i h =
      split i (live t)
      (λ l e. rw e (omega (arith, critical_from_live t (both p (star j (join j ts))) i l, star_live j (join j ts))))
      (λ l e. rw e (omega (arith, critical_in_live ts j (both p (star j t)) (i - live t) (omega arith), star_live j t)))

pub critical_live : (t : Tree) (i : ℕ) → i < live t → suc (live (critical t i)) ≡ live t
unfolding critical live
critical_live t i h = omega (arith, critical_from_live t (plain true) i h)
