-- Which assignments find may show: document 01, "What each call answers", its last paragraph.
use Rattle.std.specs.Prelude.{ℕ, ◌+◌, ◌*◌, ◌≤◌, ◌≡◌, true, nat_abs}
use Rattle.condition.specs.Limits.{last_number, largest_bound}
use Rattle.condition.specs.Meaning.{Assignment, value, Tree, plain, leaf, join, Forest, none, more, holds, EndWithin}

-- "finds a satisfying assignment"
abbrev pub Satisfiable : Tree → Type 0
Satisfiable t = (a : Assignment) × (holds t a ≡ true)

-- "Each number it writes lies from -15,000,015 to 15,000,015": each of the other numbers a bound or its negation apart
abbrev pub farthest : ℕ
farthest = last_number * (largest_bound + 1)

-- "Each number it writes lies from [..] to [..]", number 0 with the rest
abbrev pub InRange : Assignment → Type 0
InRange a = (x : ℕ) → x ≤ last_number → nat_abs (value a x) ≤ farthest

-- every end within the limits, and no more: a connective may have fewer than two children, as one of a question may
unfoldable mutual
  pub Named : Tree → Type 0
  Named (plain b) = Unit {0}
  Named (leaf e) = EndWithin e
  Named (join j ts) = NamedAll ts

  pub NamedAll : Forest → Type 0
  NamedAll none = Unit {0}
  NamedAll (more t ts) = Named t × NamedAll ts
