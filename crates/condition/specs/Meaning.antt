-- Ends, assignments, meaning: document 01, the section of that name.
use Rattle.std.specs.Prelude.{ℕ, zero, suc, ◌+◌, ◌-◌, ◌/◌, ◌%◌, ◌^◌, ◌≤◌, List, Bool, true, false, not, ◌&&◌, ◌||◌, eqb, ℤ, pos, nat_abs, ◌-ℤ◌, get_or}
use Rattle.std.specs.Int.Signed.{le_z}
use Rattle.condition.specs.Limits.{most_ends, last_boolean, last_number, largest_bound}

-- A value for each name. "number 0 is always 0, the others are any whole numbers without bound": see `value`
pub record Assignment : Type 0 where
  pub flag : ℕ → Bool
  pub number : ℕ → ℤ

unfoldable pub value : Assignment → ℕ → ℤ
value a zero = pos 0
value a (suc x) = a.number (suc x)

-- "Ends: [..] boolean p; not p; "x - y <= c"; its negation." The two constants are `plain`, below
pub data End : Type 0 where
  is is_not : (p : ℕ) → End
  at_most above : (x y : ℕ) → (c : ℤ) → End

unfoldable pub met : End → Assignment → Bool
met (is p) a = a.flag p
met (is_not p) a = not (a.flag p)
met (at_most x y c) a = le_z (value a x -ℤ value a y) c
met (above x y c) a = not (le_z (value a x -ℤ value a y) c)

-- "`and` and `or`": all of the children, any of the children
pub data Join : Type 0 where
  all any : Join

abbrev pub joined : Join → Bool → Bool → Bool
joined all a b = a && b
joined any a b = a || b

-- the join of no child
abbrev pub unit : Join → Bool
unit all = true
unit any = false

mutual
  pub data Tree : Type 0 where
    plain : Bool → Tree
    leaf : End → Tree
    join : Join → Forest → Tree

  pub data Forest : Type 0 where
    none : Forest
    more : Tree → Forest → Forest

-- Whether an assignment makes a tree true. "An `and` is judged through its children, which may be `or`, and the reverse."
unfoldable mutual
  pub holds : Tree → Assignment → Bool
  holds (plain b) a = b
  holds (leaf e) a = met e a
  holds (join j ts) a = each ts j a

  pub each : Forest → Join → Assignment → Bool
  each none j a = unit j
  each (more t ts) j a = joined j (holds t a) (each ts j a)

-- The negation: the other connective, each end its opposite (000, section 2: negation normal form)
abbrev pub other : Join → Join
other all = any
other any = all

unfoldable pub opposite : End → End
opposite (is p) = is_not p
opposite (is_not p) = is p
opposite (at_most x y c) = above x y c
opposite (above x y c) = at_most x y c

unfoldable mutual
  pub negate : Tree → Tree
  negate (plain b) = plain (not b)
  negate (leaf e) = leaf (opposite e)
  negate (join j ts) = join (other j) (negate_all ts)

  pub negate_all : Forest → Forest
  negate_all none = none
  negate_all (more t ts) = more (negate t) (negate_all ts)

-- "A tree has at most 24 ends, constants counted."
unfoldable mutual
  pub ends : Tree → ℕ
  ends (plain b) = 1
  ends (leaf e) = 1
  ends (join j ts) = ends_all ts

  pub ends_all : Forest → ℕ
  ends_all none = 0
  ends_all (more t ts) = ends t + ends_all ts

abbrev pub count : Forest → ℕ
count none = 0
count (more t ts) = suc (count ts)

-- "Booleans are named 0 to 31. Numbers are named 0 to 15", "c runs from -1,000,000 to 1,000,000."
abbrev pub EndWithin : End → Type 0
EndWithin (is p) = p ≤ last_boolean
EndWithin (is_not p) = p ≤ last_boolean
EndWithin (at_most x y c) = (x ≤ last_number) × (y ≤ last_number) × (nat_abs c ≤ largest_bound)
EndWithin (above x y c) = (x ≤ last_number) × (y ≤ last_number) × (nat_abs c ≤ largest_bound)

-- "`and` and `or` take two or more children."
unfoldable mutual
  pub Formed : Tree → Type 0
  Formed (plain b) = Unit {0}
  Formed (leaf e) = EndWithin e
  Formed (join j ts) = (2 ≤ count ts) × FormedAll ts

  pub FormedAll : Forest → Type 0
  FormedAll none = Unit {0}
  FormedAll (more t ts) = Formed t × FormedAll ts

-- A tree within the limits
pub record Within (t : Tree) : Type 0 where
  pub formed : Formed t
  pub few : ends t ≤ most_ends

-- "32 boolean bits (boolean p is the bit of weight 2^p) and 15 signed 32-bit numbers for names 1 to 15, in order"
unfoldable pub given : ℕ → List ℤ → Assignment
given bits numbers = record {
  flag = λ p. eqb (bits / 2 ^ p % 2) 1;
  number = λ x. get_or numbers (x - 1) (pos 0);
}
