-- The words of the sentence "A set of differences is satisfiable exactly if no closed chain of them sums below zero" (document 01,
-- "Critical constraint and sweep"), for names and bounds without limit and sets of any size.
use Rattle.std.specs.Prelude.{ℕ, ◌≡◌, true, ℤ, pos, neg_ℤ, ◌+ℤ◌, ◌-ℤ◌}
use mathlib.Core.List.{List, [], ◌∷◌, Memᴰ}
use Rattle.std.specs.Int.Signed.{lt_z}
use Rattle.condition.specs.Meaning.{Assignment, End, is, is_not, at_most, above, met}

-- "x - y <= c"
pub record Difference : Type 0 where
  pub left : ℕ
  pub right : ℕ
  pub bound : ℤ

-- the end that says it
abbrev pub end : Difference → End
end d = at_most d.left d.right d.bound

-- every one of a list is P
abbrev pub Each : {A : Type 0} → (A → Type 0) → List A → Type 0
Each P [] = Unit {0}
Each P (a ∷ l) = P a × Each P l

-- "A set of differences is satisfiable": one assignment meets each of them. "number 0 is always 0" in every assignment
abbrev pub SatisfiableAll : List Difference → Type 0
SatisfiableAll ds = (a : Assignment) × Each (λ d. met (end d) a ≡ true) ds

-- "chain of them": one link or more, each of the set, from x to y. The link x - y <= c leads from x to y, and the next begins at y. The
-- chain's sum is that of its links' bounds
pub data Chain (ds : List Difference) : (x y : ℕ) (sum : ℤ) → Type 0 where
  link : {d : Difference} → Memᴰ d ds → Chain ds d.left d.right d.bound
  more : {d : Difference} {y : ℕ} {sum : ℤ} → Memᴰ d ds → Chain ds d.right y sum → Chain ds d.left y (d.bound +ℤ sum)

-- "closed chain of them sums below zero": one that ends at the name where it began
pub record BelowZero (ds : List Difference) : Type 0 where
  pub name : ℕ
  pub sum : ℤ
  pub closed : Chain ds name name sum
  pub below : lt_z sum (pos 0) ≡ true

-- The differences among ends: "x - y <= c" itself, and for its negation "Over whole numbers the negation is y - x <= -c - 1."
unfoldable pub differences : List End → List Difference
differences [] = []
differences (is p ∷ es) = differences es
differences (is_not p ∷ es) = differences es
differences (at_most x y c ∷ es) = record { left = x; right = y; bound = c } ∷ differences es
differences (above x y c ∷ es) = record { left = y; right = x; bound = neg_ℤ c -ℤ pos 1 } ∷ differences es
