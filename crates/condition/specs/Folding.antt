-- Folding: document 01, the section of that name.
use Rattle.std.specs.Prelude.{ℕ, ◌+◌, ◌≤◌, Bool, true, false, not}
use Rattle.condition.specs.Meaning.{Join, all, any, unit, Tree, plain, leaf, join, Forest, none, more, count}

-- what is left of a connective's children: one of them decides it; or these
pub data Left : Type 0 where
  decided : Left
  these : Forest → Left

-- a folded child before those left: "An `and` with a false child is false; true children are dropped", "`or` is the mirror"
abbrev pub keep : Tree → Left → Left
keep t decided = decided
keep t (these ts) = these (more t ts)

abbrev pub drop_constant : Join → Bool → Left → Left
drop_constant all true l = l
drop_constant all false l = decided
drop_constant any true l = decided
drop_constant any false l = l

abbrev pub drop : Join → Tree → Left → Left
drop j (plain b) l = drop_constant j b l
drop j (leaf e) l = keep (leaf e) l
drop j (join k us) l = keep (join k us) l

-- "no child left is true; one child left is that child; else the `and` of those left, in order"
abbrev pub close : Join → Left → Tree
close j decided = plain (not (unit j))
close j (these none) = plain (unit j)
close j (these (more t none)) = t
close j (these (more t (more u us))) = join j (more t (more u us))

-- "From the ends upward."
unfoldable mutual
  pub fold : Tree → Tree
  fold (plain b) = plain b
  fold (leaf e) = leaf e
  fold (join j ts) = close j (fold_all ts j)

  pub fold_all : Forest → Join → Left
  fold_all none j = these none
  fold_all (more t ts) j = drop j (fold t) (fold_all ts j)

-- how many ends a tree has, constants aside: "constants count 0 here"
unfoldable mutual
  pub live : Tree → ℕ
  live (plain b) = 0
  live (leaf e) = 1
  live (join j ts) = live_all ts

  pub live_all : Forest → ℕ
  live_all none = 0
  live_all (more t ts) = live t + live_all ts

-- "no child left is true; one child left is that child; else the `and` of those left": so what folding leaves is (000, definition 3)
-- "just true or false", or "mentions neither true nor false", every connective of two or more
unfoldable mutual
  pub Solid : Tree → Type 0
  Solid (plain b) = ⊥
  Solid (leaf e) = Unit {0}
  Solid (join j ts) = (2 ≤ count ts) × SolidAll ts

  pub SolidAll : Forest → Type 0
  SolidAll none = Unit {0}
  SolidAll (more t ts) = Solid t × SolidAll ts

pub data Folded : Tree → Type 0 where
  constant : {b : Bool} → Folded (plain b)
  solid : {t : Tree} → Solid t → Folded t
