-- "the table of tightest differences between all sixteen numbers" (document 01, "Critical constraint and sweep"): what its entries say
-- of an assignment, when they are tightest, and what starting a table and adding a bound to one promise.
use Rattle.std.specs.Prelude.{ℕ, suc, ◌+◌, ◌*◌, ◌≤◌, ◌≡◌, ◌↔◌, List, Bool, true, false, ℤ, pos, nat_abs, ◌-ℤ◌, length, get_or}
use Rattle.condition.specs.Limits.{last_number}
use Rattle.condition.specs.Meaning.{Assignment, value, End, at_most, met}
use Rattle.condition.specs.Satisfying.{farthest, InRange}

-- "all sixteen numbers", and an entry for each two of them, "the 256 distances"
abbrev pub numbers : ℕ
numbers = suc last_number

abbrev pub cells : ℕ
cells = numbers * numbers

-- what is added to an entry, so that none is negative: two numbers in range differ by at most this
abbrev pub offset : ℕ
offset = 2 * farthest

abbrev pub cell : List ℕ → ℕ → ℕ → ℕ
cell t i j = get_or t (i * numbers + j) 0

-- the difference of numbers i and j is at most this
abbrev pub entry : List ℕ → ℕ → ℕ → ℤ
entry t i j = pos (cell t i j) -ℤ pos offset

-- every entry holds
pub record Meets (t : List ℕ) (a : Assignment) : Type 0 where
  pub each : (i j : ℕ) → i ≤ last_number → j ≤ last_number → met (at_most i j (entry t i j)) a ≡ true

-- No two entries in a row are tighter than the one from end to end, so no longer chain is either; and every number is in range,
-- which the entries beside number 0 say
pub record Closed (t : List ℕ) : Type 0 where
  pub size : length t ≡ cells
  pub same : (i : ℕ) → i ≤ last_number → cell t i i ≡ offset
  pub chain : (i j k : ℕ) → i ≤ last_number → j ≤ last_number → k ≤ last_number → cell t i k + offset ≤ cell t i j + cell t j k
  pub high : (i : ℕ) → i ≤ last_number → cell t i 0 ≤ offset + farthest
  pub low : (i : ℕ) → i ≤ last_number → cell t 0 i ≤ offset + farthest

-- The assignment of a closed table: each number as high as its difference from number 0 lets it be. The table says nothing of flags
unfoldable pub tightest : (ℕ → Bool) → List ℕ → Assignment
tightest flags t = record { flag = flags; number = λ i. entry t i 0 }

-- a table that says only that the numbers are in range
pub record Starts (t : List ℕ) : Type 0 where
  pub closed : Closed t
  pub meets : (a : Assignment) → Meets t a ↔ InRange a

-- What adding the end e to t answers, and the table t' that it leaves: with e worked in, or, if no assignment meets both, t itself
pub record Adds (t : List ℕ) (e : End) (ok : Bool) (t' : List ℕ) : Type 0 where
  pub closed : Closed t'
  pub meets : ok ≡ true → (a : Assignment) → Meets t' a ↔ (Meets t a × (met e a ≡ true))
  pub kept : ok ≡ false → t' ≡ t
  pub none : ok ≡ false → (a : Assignment) → Meets t a → met e a ≡ true → ⊥

-- number i of a closed table's assignment
pub record Shown (t : List ℕ) (i : ℕ) (z : ℤ) : Type 0 where
  pub shown : (flags : ℕ → Bool) → z ≡ value (tightest flags t) i
  pub range : nat_abs z ≤ farthest
