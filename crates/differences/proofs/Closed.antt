-- A closed table has an assignment: any column, less its entry for number 0. Two of its entries differ by at most the entry between
-- their rows, by the chain through the second row. With the offset all is natural numbers: `Held` reads a bound so.
use Prim.Native.Nat.{ℕ, zero, suc, ◌+◌, ◌*◌, ◌≤◌}
use mathlib.Core.Path.{◌≡◌, refl}
use mathlib.Core.Logic.{◌↔◌}
use mathlib.Core.List.{List}
use mathlib.Core.Bool.{Bool, true}
use native.Mathlib.Omega.{arith}
use lib.IntN.{pos, ◌-ℤ◌}
use Rattle.condition.specs.Limits.{last_number}
use Rattle.condition.specs.Meaning.{Assignment, value, at_most, met}
use Rattle.condition.specs.Satisfying.{InRange}
use Rattle.condition.proofs.Negation.{up, down}
use Rattle.condition.proofs.Small.{minus, size, at_most_lem}
use Rattle.differences.specs.Table.{offset, cell, entry, Meets, Closed, tightest}

-- x - y <= m - offset
abbrev pub Held : Assignment → ℕ → ℕ → ℕ → Type 0
Held a x y m = up (value a x) + down (value a y) + offset ≤ up (value a y) + down (value a x) + m

pub held : (x y m : ℕ) (a : Assignment) → (met (at_most x y (pos m -ℤ pos offset)) a ≡ true) ↔ Held a x y m
held x y m a = (
  (λ h. omega (arith, (at_most_lem x y (pos m -ℤ pos offset) a).0 h, minus m offset)),
  (λ l. (at_most_lem x y (pos m -ℤ pos offset) a).1 (omega (arith, minus m offset))),
)

pub meets_held : {t : List ℕ} {a : Assignment} → Meets t a → (i j : ℕ) → i ≤ last_number → j ≤ last_number → Held a i j (cell t i j)
meets_held {t} {a} m i j hi hj = (held i j (cell t i j) a).0 (m.each i j hi hj)

pub held_meets : {t : List ℕ} {a : Assignment} →
    ((i j : ℕ) → i ≤ last_number → j ≤ last_number → Held a i j (cell t i j)) → Meets t a
held_meets {t} {a} h = record { each = λ i j hi hj. (held i j (cell t i j) a).1 (h i j hi hj) }

-- "number 0 is always 0"
pub zero_value : (a : Assignment) → (up (value a 0) ≡ 0) × (down (value a 0) ≡ 0)
unfolding value
zero_value a = (refl, refl)

module _ {t : List ℕ} (h : Closed t) where
  pub upper : (i j : ℕ) → i ≤ last_number → j ≤ last_number → cell t i j ≤ 2 * offset
  upper i j hi hj = omega (arith, h.chain i 0 j hi (omega arith) hj, h.high i hi, h.low j hj)

  pub meets_range : {a : Assignment} → Meets t a → InRange a
  meets_range {a} m i hi =
      omega (
        arith,
        size (value a i),
        zero_value a,
        meets_held m i 0 hi (omega arith),
        meets_held m 0 i (omega arith) hi,
        h.high i hi,
        h.low i hi,
      )

  -- a is column j, moved so that number 0 is 0
  pub column_meets : (a : Assignment) (j : ℕ) → j ≤ last_number →
      ((i : ℕ) → i ≤ last_number → up (value a i) + cell t 0 j ≡ cell t i j + down (value a i)) → Meets t a
  column_meets a j hj c = held_meets (λ i k hi hk. omega (arith, c i hi, c k hk, h.chain i k j hi hk hj))

  pub tightest_value : (flags : ℕ → Bool) (i : ℕ) → i ≤ last_number → value (tightest flags t) i ≡ entry t i 0
  unfolding value tightest
  tightest_value flags zero hi = rw (h.same 0 (omega arith))
  tightest_value flags (suc i) hi = refl

  pub tightest_meets : (flags : ℕ → Bool) → Meets t (tightest flags t)
  tightest_meets flags =
      column_meets (tightest flags t) 0 (omega arith)
      (λ i hi. rw (tightest_value flags i hi) (omega (arith, minus (cell t i 0) offset, h.same 0 (omega arith))))

  pub tightest_range : (flags : ℕ → Bool) → InRange (tightest flags t)
  tightest_range flags = meets_range (tightest_meets flags)
