-- The first table is closed, since a number is as far from another as both are from 0, and says just that the numbers are in range.
-- It is made by turns: turn n puts the entries of number n beside number 0 and beside itself, and leaves the others.
use Prim.Native.Nat.{ℕ, zero, suc, ◌+◌, ◌*◌, ◌≤◌, ◌<◌, min}
use mathlib.Core.Path.{◌≡◌, refl, sym, ap, ◌∙◌}
use mathlib.Core.List.{List}
use mathlib.Core.Bool.{cond}
use native.Mathlib.Omega.{arith}
use native.Mathlib.Decide.{ℕ_discrete}
use lib.Dec.{eqb}
use lib.ListN.{length, replicate, length-replicate, get_or-replicate}
use borrow.Author.Tests.{eq-eqb, ne_eqb}
use Rattle.condition.specs.Limits.{last_number}
use Rattle.condition.specs.Meaning.{Assignment, value}
use Rattle.condition.specs.Satisfying.{farthest, InRange}
use Rattle.condition.proofs.Negation.{up, down}
use Rattle.condition.proofs.Small.{size}
use Rattle.differences.specs.Table.{numbers, cells, offset, cell, Closed, Starts}
use Rattle.differences.proofs.Closed.{Held, held_meets, meets_range, zero_value}

-- number i lies at most this far from 0, and no number differs from itself
abbrev away : ℕ → ℕ
away i = farthest * min i 1

abbrev first : ℕ → ℕ → ℕ
first i j = cond (eqb i j) offset (offset + away i + away j)

first_same : (i j : ℕ) → i ≡ j → first i j ≡ offset
first_same i j e = simp (eq-eqb i j e)

first_other : (i j : ℕ) → (i ≡ j → ⊥) → first i j ≡ offset + away i + away j
first_other i j ne = simp (ne_eqb i j ne)

first_most : (i j : ℕ) → first i j ≤ offset + away i + away j
first_most i j =
    elim (ℕ_discrete i j) [ yes e ↦ omega (arith, first_same i j e) | no ne ↦ omega (arith, first_other i j ne) ]

first_chain : (i j k : ℕ) → first i k + offset ≤ first i j + first j k
first_chain i j k =
    elim (ℕ_discrete i j) [
      | yes e ↦ omega (arith, ap (λ i. first i k) e, first_same i j e)
      | no ne ↦ elim (ℕ_discrete j k) [
        | yes e ↦ omega (arith, ap (first i) e, first_same j k e)
        | no nf ↦ omega (arith, first_other i j ne, first_other j k nf, first_most i k)
      ]
    ]

in_range_away : (a : Assignment) → InRange a → (i : ℕ) → i ≤ last_number → up (value a i) + down (value a i) ≤ away i
in_range_away a h zero l = omega (arith, zero_value a)
in_range_away a h (suc i) l = omega (arith, h (suc i) l, size (value a (suc i)))

first_held : (a : Assignment) → InRange a → (i j : ℕ) → i ≤ last_number → j ≤ last_number → Held a i j (first i j)
first_held a h i j hi hj =
    elim (ℕ_discrete i j) [
      | yes e ↦ omega (arith, ap (λ i. up (value a i)) e, ap (λ i. down (value a i)) e, first_same i j e)
      | no ne ↦ omega (arith, in_range_away a h i hi, in_range_away a h j hj, first_other i j ne)
    ]

-- the entries of the numbers below n are made
pub record Begun (t : List ℕ) (n : ℕ) : Type 0 where
  pub few : n ≤ numbers
  pub size : length t ≡ cells
  pub same : (i : ℕ) → i < n → cell t i i ≡ offset
  pub row : (j : ℕ) → j < n → 1 ≤ j → cell t 0 j ≡ offset + farthest
  pub column : (i : ℕ) → i < n → 1 ≤ i → cell t i 0 ≡ offset + farthest
  pub rest : (i j : ℕ) → (1 ≤ i) × (i ≤ last_number) → (1 ≤ j) × (j ≤ last_number) → (i ≡ j → ⊥) → cell t i j ≡ offset + 2 * farthest

pub begun_none : Begun (replicate cells (offset + 2 * farthest)) 0
begun_none = record {
  few = omega arith;
  size = length-replicate cells (offset + 2 * farthest);
  same = λ i h. absurd (omega arith);
  row = λ j h. absurd (omega arith);
  column = λ i h. absurd (omega arith);
  rest = λ i j hi hj ne. get_or-replicate cells (i * numbers + j) (offset + 2 * farthest) 0 (omega arith);
}

module _ (t : List ℕ) (n : ℕ) (b : Begun t n) (full : numbers ≤ n) where
  made : (i j : ℕ) → i ≤ last_number → j ≤ last_number → cell t i j ≡ first i j
  made i j hi hj = elim (ℕ_discrete i j) [
    | yes e ↦ ap (cell t i) (sym e) ∙ b.same i (omega arith) ∙ sym (first_same i j e)
    | no ne ↦ apart i j hi hj ne ∙ sym (first_other i j ne)
  ]
    where
      apart : (i j : ℕ) → i ≤ last_number → j ≤ last_number → (i ≡ j → ⊥) → cell t i j ≡ offset + away i + away j
      apart zero zero hi hj ne = absurd (ne refl)
      apart zero (suc j) hi hj ne = b.row (suc j) (omega arith) (omega arith) ∙ omega arith
      apart (suc i) zero hi hj ne = b.column (suc i) (omega arith) (omega arith) ∙ omega arith
      apart (suc i) (suc j) hi hj ne = b.rest (suc i) (suc j) (omega arith) (omega arith) ne ∙ omega arith

  starts_closed : Closed t
  starts_closed = record {
    size = b.size;
    same = λ i hi. made i i hi hi ∙ first_same i i refl;
    chain = λ i j k hi hj hk. omega (arith, made i k hi hk, made i j hi hj, made j k hj hk, first_chain i j k);
    high = λ i hi. omega (arith, made i 0 hi (omega arith), first_most i 0);
    low = λ i hi. omega (arith, made 0 i (omega arith) hi, first_most 0 i);
  }

  pub starts : Starts t
  starts = record {
    closed = starts_closed;
    meets = λ a. (meets_range starts_closed, λ r. held_meets (λ i j hi hj. omega (arith, made i j hi hj, first_held a r i j hi hj)));
  }
