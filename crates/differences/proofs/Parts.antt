-- A cell's place and its row and column, and two parts on end are one.
use Prim.Native.Nat.{ℕ, ◌+◌, ◌*◌, ◌/◌, ◌%◌, ◌≤◌, ◌<◌}
use mathlib.Core.Path.{◌≡◌, refl, ◌∙◌}
use mathlib.Core.List.{List}
use native.Mathlib.Omega.{arith}
use native.Mathlib.Decide.{dec_lt}
use lib.ListN.{get_or}
use Rattle.differences.specs.Table.{numbers}
use Rattle.differences.specs.Rows.{Part}

-- The place of a cell gives its row and its column back, and they give the place

pub row_of : (i j : ℕ) → j < numbers → (i * numbers + j) / numbers ≡ i
row_of i j h = omega arith

pub column_of : (i j : ℕ) → j < numbers → (i * numbers + j) % numbers ≡ j
column_of i j h = omega arith

pub place_of_lem : (k : ℕ) → k / numbers * numbers + k % numbers ≡ k
place_of_lem k = omega arith

pub part_kept : (from to : ℕ) (t : List ℕ) → Part from to (λ k. get_or t k 0) t t
part_kept from to t = record { size = refl; done = λ k l m. refl; before = λ k l. refl; after = λ k l. refl }

module _ {from to : ℕ} {f : ℕ → ℕ} {t t' : List ℕ} (p : Part from to f t t') (h : from ≤ to) where
  pub part_on : {end : ℕ} {g : ℕ → ℕ} {t'' : List ℕ} → Part to end g t' t'' → to ≤ end →
      ((k : ℕ) → to ≤ k → k < end → g k ≡ f k) → Part from end f t t''
  part_on {end} {g} {t''} q l e = record {
    size = q.size ∙ p.size;
    done = λ k m n.
        elim (dec_lt k to) [
          | yes b ↦ q.before k b ∙ p.done k b n
          | no b ↦ q.done k m (omega arith) ∙ e k (omega arith) m
        ];
    before = λ k m. q.before k (omega arith) ∙ p.before k m;
    after = λ k m. q.after k m ∙ p.after k (omega arith);
  }
