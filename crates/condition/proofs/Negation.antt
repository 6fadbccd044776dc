-- The negation of a tree holds exactly where the tree doesn't: by recursion over the tree, an end by its own definition and a
-- connective by De Morgan. That "its negation" is again a difference is said over whole numbers: `difference` reads both as tests
-- of natural numbers.
use Prim.Native.Nat.{ℕ, zero, suc, ◌+◌, ◌≤◌, ◌<◌, suc-le-suc}
use mathlib.Core.Path.{◌≡◌, refl, sym, ap, ap₂, ◌∙◌}
use mathlib.Core.Bool.{Bool, true, false, not, not-not}
use native.Mathlib.Nat.{zero-add, add-zero}
use native.Mathlib.Omega.{arith}
use lib.Dec.{leb, ltb, leb-zero, leb-suc-suc}
use lib.IntN.{ℤ, pos, negsuc, sub_ℕ, neg_ℤ, ◌+ℤ◌, ◌-ℤ◌}
use lib.Signed.{le_z}
use borrow.Table.Steps.{cases}
use borrow.Author.Tests.{ltb-true, ltb-false, leb-true, leb-false, not-true, not-false, le-leb, lt-leb}
use Rattle.condition.specs.Meaning.{Assignment, value, End, is, is_not, at_most, above, met, Join, all, any, joined, unit}
use Rattle.condition.specs.Meaning.{Tree, plain, leaf, join, Forest, none, more, holds, each, ends, ends_all}
use Rattle.condition.specs.Meaning.{other, opposite, negate, negate_all, count, EndWithin, Formed, FormedAll}

pub opposite_met : (e : End) (a : Assignment) → met (opposite e) a ≡ not (met e a)
unfolding met opposite
opposite_met (is p) a = refl
opposite_met (is_not p) a = sym (not-not (a.flag p))
opposite_met (at_most x y c) a = refl
opposite_met (above x y c) a = sym (not-not (le_z (value a x -ℤ value a y) c))

unit_other : (j : Join) → unit (other j) ≡ not (unit j)
unit_other all = refl
unit_other any = refl

joined_other : (j : Join) (x y : Bool) → joined (other j) (not x) (not y) ≡ not (joined j x y)
joined_other all true y = refl
joined_other all false y = refl
joined_other any true y = refl
joined_other any false y = refl

mutual
  unfolding holds each negate negate_all

  pub holds_negate : (t : Tree) (a : Assignment) → holds (negate t) a ≡ not (holds t a)
  holds_negate (plain b) a = refl
  holds_negate (leaf e) a = opposite_met e a
  holds_negate (join j ts) a = each_negate ts j a

  pub each_negate : (ts : Forest) (j : Join) (a : Assignment) → each (negate_all ts) (other j) a ≡ not (each ts j a)
  each_negate none j a = unit_other j
  each_negate (more t ts) j a =
      ap₂ (joined (other j)) (holds_negate t a) (each_negate ts j a) ∙ joined_other j (holds t a) (each ts j a)

opposite_twice : (e : End) → opposite (opposite e) ≡ e
unfolding opposite
opposite_twice (is p) = refl
opposite_twice (is_not p) = refl
opposite_twice (at_most x y c) = refl
opposite_twice (above x y c) = refl

other_twice : (j : Join) → other (other j) ≡ j
other_twice all = refl
other_twice any = refl

mutual
  unfolding negate negate_all

  pub negate_twice : (t : Tree) → negate (negate t) ≡ t
  negate_twice (plain b) = ap plain (not-not b)
  negate_twice (leaf e) = ap leaf (opposite_twice e)
  negate_twice (join j ts) = ap₂ join (other_twice j) (negate_all_twice ts)

  pub negate_all_twice : (ts : Forest) → negate_all (negate_all ts) ≡ ts
  negate_all_twice none = refl
  negate_all_twice (more t ts) = ap₂ more (negate_twice t) (negate_all_twice ts)

mutual
  unfolding negate negate_all ends ends_all

  pub ends_negate : (t : Tree) → ends (negate t) ≡ ends t
  ends_negate (plain b) = refl
  ends_negate (leaf e) = refl
  ends_negate (join j ts) = ends_negate_all ts

  pub ends_negate_all : (ts : Forest) → ends_all (negate_all ts) ≡ ends_all ts
  ends_negate_all none = refl
  ends_negate_all (more t ts) = ap₂ ◌+◌ (ends_negate t) (ends_negate_all ts)

pub opposite_within : (e : End) → EndWithin e → EndWithin (opposite e)
unfolding opposite
opposite_within (is p) w = w
opposite_within (is_not p) w = w
opposite_within (at_most x y c) w = w
opposite_within (above x y c) w = w

negate_all_count : (ts : Forest) → count (negate_all ts) ≡ count ts
unfolding negate_all
negate_all_count none = refl
negate_all_count (more t ts) = ap suc (negate_all_count ts)

mutual
  unfolding negate negate_all Formed FormedAll

  pub negate_formed : (t : Tree) → Formed t → Formed (negate t)
  negate_formed (plain b) w = w
  negate_formed (leaf e) w = opposite_within e w
  negate_formed (join j ts) w = (omega (arith, negate_all_count ts, w.0), negate_all_formed ts w.1)

  pub negate_all_formed : (ts : Forest) → FormedAll ts → FormedAll (negate_all ts)
  negate_all_formed none w = w
  negate_all_formed (more t ts) w = (negate_formed t w.0, negate_all_formed ts w.1)

-- z is up z - down z
abbrev pub up : ℤ → ℕ
up (pos n) = n
up (negsuc n) = 0

abbrev pub down : ℤ → ℕ
down (pos n) = 0
down (negsuc n) = suc n

up_negℤ : (z : ℤ) → up (neg_ℤ z) ≡ down z
up_negℤ (pos zero) = refl
up_negℤ (pos (suc n)) = refl
up_negℤ (negsuc n) = refl

down_negℤ : (z : ℤ) → down (neg_ℤ z) ≡ up z
down_negℤ (pos zero) = refl
down_negℤ (pos (suc n)) = refl
down_negℤ (negsuc n) = refl

subℕ_sides : (m n : ℕ) → up (sub_ℕ m n) + n ≡ m + down (sub_ℕ m n)
subℕ_sides m n =
    cases (ltb m n)
    (λ e. rw e (omega (arith, ltb-true m n e)))
    (λ e. rw e (omega (arith, ltb-false m n e)))

pub +ℤ-sides : (x y : ℤ) → up (x +ℤ y) + (down x + down y) ≡ up x + up y + down (x +ℤ y)
+ℤ-sides (pos a) (pos b) = omega arith
+ℤ-sides (pos a) (negsuc b) = omega (arith, subℕ_sides a (suc b))
+ℤ-sides (negsuc a) (pos b) = omega (arith, subℕ_sides b (suc a))
+ℤ-sides (negsuc a) (negsuc b) = omega arith

le_z_sides : (x y : ℤ) → le_z x y ≡ leb (up x + down y) (up y + down x)
le_z_sides (pos a) (pos b) = simp add-zero
le_z_sides (pos a) (negsuc b) = sym (lt-leb (a + suc b) 0 (omega arith))
le_z_sides (negsuc a) (pos b) = sym (leb-zero (b + suc a))
le_z_sides (negsuc a) (negsuc b) = simp (zero-add, leb-suc-suc)

-- a test, as a test of other numbers that comes out the same
same_test : (b : Bool) (m n : ℕ) → (b ≡ true → m ≤ n) × (b ≡ false → n < m) → b ≡ leb m n
same_test true m n h = sym (le-leb m n (h.0 refl))
same_test false m n h = sym (lt-leb m n (h.1 refl))

not_leb : (m n : ℕ) → not (leb m n) ≡ leb (suc n) m
not_leb m n = same_test (not (leb m n)) (suc n) m (λ e. leb-false m n (not-true _ e), λ e. suc-le-suc (leb-true m n (not-false _ e)))

pub difference : (x y c : ℤ) → le_z (x -ℤ y) c ≡ leb (up x + down y + down c) (up y + down x + up c)
difference x y c =
    le_z_sides (x -ℤ y) c
    ∙ same_test (leb (up (x -ℤ y) + down c) (up c + down (x -ℤ y))) (up x + down y + down c) (up y + down x + up c)
    (omega (arith, leb-true, leb-false, +ℤ-sides x (neg_ℤ y), up_negℤ y, down_negℤ y))

-- "Over whole numbers the negation is y - x <= -c - 1."
not_difference : (x y c : ℤ) → not (le_z (x -ℤ y) c) ≡ le_z (y -ℤ x) (neg_ℤ c -ℤ pos 1)
not_difference x y c =
    let d = neg_ℤ c -ℤ pos 1 in
    rw (difference x y c, difference y x d, not_leb)
    (same_test (leb (suc (up y + down x + up c)) (up x + down y + down c)) (up y + down x + down d) (up x + down y + up d)
    (omega (arith, leb-true, leb-false, +ℤ-sides (neg_ℤ c) (negsuc 0), up_negℤ c, down_negℤ c)))

pub above_is : (x y : ℕ) (c : ℤ) (a : Assignment) → met (above x y c) a ≡ met (at_most y x (neg_ℤ c -ℤ pos 1)) a
unfolding met
above_is x y c a = not_difference (value a x) (value a y) c
