-- The cut that is handed from child to child is the replacement that callers think of. No cut, or one past a tree's ends, leaves the
-- tree as it is; so of the children only the one that has the end is changed, as in `put`.
use Prim.Native.Nat.{ℕ, ◌+◌, ◌-◌, ◌≤◌, ◌<◌}
use mathlib.Core.Path.{◌≡◌, refl, ap, ap₂}
use mathlib.Core.Bool.{Bool}
use native.Mathlib.Omega.{arith}
use borrow.Author.Tests.{eq-eqb, ne_eqb, lt-ltb, le-ltb}
use Rattle.std.proofs.Common.{Option, Some, None}
use Rattle.condition.specs.Meaning.{Tree, plain, leaf, join, Forest, none, more}
use Rattle.condition.specs.Folding.{live, live_all}
use Rattle.condition.specs.Critical.{put, put_in}
use Rattle.condition.proofs.Putting.{split}
use Rattle.folding.specs.declared.Cut.{Cut}
use Rattle.folding.specs.Folded.{cut_at, Has}
use Rattle.folding.specs.Parts.{past, cut, cut_all}

-- past a ends and then b
pub past_more : (a b : ℕ) (x : Option Cut) → past b (past a x) ≡ past (a + b) x
past_more a b None = refl
past_more a b (Some c) = split c.end a
    (λ l q. rw (q, lt-ltb c.end (a + b) (omega arith)) refl)
    (λ l q. split c.end (a + b)
    (λ m r. rw (q, r, lt-ltb (c.end - a) b (omega arith)) refl)
    (λ m r. let e : c.end - a - b ≡ c.end - (a + b) = omega arith in rw (q, r, le-ltb (c.end - a) b (omega arith), e) refl))

-- past none
pub past_none : (x : Option Cut) → past 0 x ≡ x
past_none None = refl
past_none (Some c) = let e : c.end - 0 ≡ c.end = omega arith in rw (le-ltb c.end 0 (omega arith), e) refl

mutual
  unfolding cut

  cut_none : (t : Tree) → cut t None ≡ t
  cut_none (plain c) = refl
  cut_none (leaf e) = refl
  cut_none (join j ts) = ap (join j) (cut_all_none ts)

  cut_all_none : (ts : Forest) → cut_all ts None ≡ ts
  cut_all_none none = refl
  cut_all_none (more t ts) = ap₂ more (cut_none t) (cut_all_none ts)

module _ (b : Bool) where
  abbrev at : ℕ → Option Cut
  at i = Some (record { end = i; to = b })

  mutual
    unfolding cut live

    cut_past : (t : Tree) (i : ℕ) → live t ≤ i → cut t (at i) ≡ t
    cut_past (plain c) i h = refl
    cut_past (leaf e) i h = let apart : i ≡ 0 → ⊥ = λ q. omega arith in simp (ne_eqb _ _ apart)
    cut_past (join j ts) i h = ap (join j) (cut_all_past ts i h)

    cut_all_past : (ts : Forest) (i : ℕ) → live_all ts ≤ i → cut_all ts (at i) ≡ ts
    cut_all_past none i h = refl
    cut_all_past (more t ts) i h =
        rw (le-ltb i (live t) (omega arith)) (ap₂ more (cut_past t i (omega arith)) (cut_all_past ts (i - live t) (omega arith)))

  mutual
    unfolding cut live put

    cut_put : (t : Tree) (i : ℕ) → i < live t → cut t (at i) ≡ put t i (plain b)
    cut_put (plain c) i h = refl
    cut_put (leaf e) i h = let first : i ≡ 0 = omega arith in simp (eq-eqb _ _ first)
    cut_put (join j ts) i h = ap (join j) (cut_all_put ts i h)

    cut_all_put : (ts : Forest) (i : ℕ) → i < live_all ts → cut_all ts (at i) ≡ put_in ts i (plain b)
    cut_all_put none i h = refl
    cut_all_put (more t ts) i h = split i (live t)
        (λ l q. rw q (ap₂ more (cut_put t i l) (cut_all_none ts)))
        (λ l q. rw q (ap₂ more (cut_past t i l) (cut_all_put ts (i - live t) (omega arith))))

pub cut_is : (t : Tree) (x : Option Cut) → Has t x → cut t x ≡ cut_at t x
cut_is t None h = cut_none t
cut_is t (Some c) h = cut_put c.to t c.end h
