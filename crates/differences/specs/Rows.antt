-- What the functions inside ask of and promise each other: cells between two places, lowered or made, the others as they were.
use Rattle.std.specs.Prelude.{ℕ, ◌+◌, ◌-◌, ◌*◌, ◌%◌, ◌≤◌, ◌<◌, min, ◌≡◌, List, length, get_or}
use Rattle.condition.specs.Limits.{last_number}
use Rattle.differences.specs.Table.{numbers, cells, offset, cell, Closed}

-- what working in a bound between numbers x and y asks
pub record Ready (t : List ℕ) (x y : ℕ) : Type 0 where
  pub closed : Closed t
  pub left : x ≤ last_number
  pub right : y ≤ last_number

-- from place `from` up to place `to` the cells are those of f
pub record Part (from to : ℕ) (f : ℕ → ℕ) (t t' : List ℕ) : Type 0 where
  pub size : length t' ≡ length t
  pub done : (k : ℕ) → k < to → from ≤ k → get_or t' k 0 ≡ f k
  pub before : (k : ℕ) → k < from → get_or t' k 0 ≡ get_or t k 0
  pub after : (k : ℕ) → to ≤ k → get_or t' k 0 ≡ get_or t k 0

-- what a row's cell becomes: `left` leads from the row's number to y, and row y goes on from there
abbrev pub lowered : List ℕ → (y left : ℕ) → ℕ → ℕ
lowered t y left k = min (get_or t k 0) (left + cell t y (k % numbers) - 2 * offset)

-- what lowering row i asks: it isn't row y, and the sums stay within these limits
pub record Lowers (t : List ℕ) (i y left : ℕ) : Type 0 where
  pub size : length t ≡ cells
  pub row : i ≤ last_number
  pub other : y ≤ last_number
  pub apart : i ≡ y → ⊥
  pub least : (j : ℕ) → j ≤ last_number → 2 * offset ≤ left + cell t y j
  pub most : (j : ℕ) → j ≤ last_number → left + cell t y j ≤ 6 * offset
