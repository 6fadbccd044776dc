-- The table holds, row by row: the tree that the bytes read as, and its course. An end that stays is shown firm by a few assignments; an
-- end that is cut is shown redundant by an implication, of Booleans or of bounds.
use Prim.Native.Nat.{ℕ, ◌+◌}
use mathlib.Core.Path.{◌≡◌, refl}
use mathlib.Core.List.{List, [], ◌∷◌}
use mathlib.Core.Bool.{Bool, true, false, not, ◌&&◌, ◌||◌, false≢true}
use native.Mathlib.Omega.{arith}
use lib.IntN.{ℤ, pos, negsuc}
use Rattle.condition.specs.Meaning.{Assignment, is, is_not, at_most, above, all, Tree, plain, leaf, join, none, more, holds, given}
use Rattle.condition.specs.Critical.{both, NonConstraining, NonRelaxing}
use Rattle.condition.proofs.Count.{Comes}
use Rattle.demands.specs.Worked.{no_more, ◌then◌, Worked}
use Rattle.demands.specs.Mixed.{either}
use Rattle.demands.proofs.Rows.{none_left, stop_before, stop_between, made_true, made_false, kept, parts}
use Rattle.demands.proofs.Bounds.{looser, itself, not_below_itself, none_between, chain}

-- The trees

abbrev p : Tree
p = leaf (is 0)

abbrev four : Tree
four = either p (leaf (is_not 0))

abbrev x-x<= : ℤ → Tree
x-x<= c = leaf (at_most 1 1 c)

abbrev x<= : ℕ → Tree
x<= c = leaf (at_most 1 0 (pos c))

abbrev seven : Tree
seven = either (x<= 3) (x<= 1)

abbrev eight : Tree
eight = both (x<= 5) (either (x<= 3) (leaf (above 1 0 (pos 5))))

abbrev nine : Tree
nine = both (leaf (above 1 2 (pos 3))) (leaf (above 2 1 (negsuc 3)))

-- x-y<=1, y-z<=1, z-x<=c
abbrev ten : ℤ → Tree
ten c = join all (more (leaf (at_most 1 2 (pos 1))) (more (leaf (at_most 2 3 (pos 1))) (more (leaf (at_most 3 1 c)) none)))

-- The assignments: p false, and true; x on either side of the bounds 3 and 5; and x, y and z

abbrev ps : List Assignment
ps = given 0 [] ∷ given 1 [] ∷ []

abbrev xs : List Assignment
xs = given 0 (pos 3 ∷ []) ∷ given 0 (pos 4 ∷ []) ∷ given 0 (pos 6 ∷ []) ∷ []

abbrev xyz : ℕ → ℕ → ℕ → Assignment
xyz x y z = given 0 (pos x ∷ pos y ∷ pos z ∷ [])

-- What the implications are of Booleans

excluded : (x : Bool) → (x || (not x || false)) ≡ true
excluded true = refl
excluded false = refl

and_more : (x y : Bool) → (y ≡ true → x ≡ true) → y ≡ true → (x && (y && true)) ≡ true
and_more x y f e = rw (f e, e)

or_less : (x y : Bool) → (y ≡ true → x ≡ true) → (x || (y || false)) ≡ true → x ≡ true
or_less true y f e = refl
or_less false true f e = f refl
or_less false false f e = e

and_or_less : (x y : Bool) → (x && ((y || (not x || false)) && true)) ≡ true → (x && (y && true)) ≡ true
and_or_less true true e = refl
and_or_less true false e = e
and_or_less false y e = e

and_two : {X : Type 0} (x y : Bool) → (x ≡ true → y ≡ true → X) → (x && (y && true)) ≡ true → X
and_two true true f e = f refl refl
and_two true false f e = absurd (false≢true e)
and_two false y f e = absurd (false≢true e)

and_three : {X : Type 0} (x y z : Bool) → (x ≡ true → y ≡ true → z ≡ true → X) → (x && (y && (z && true))) ≡ true → X
and_three true y z f e = and_two y z (f refl) e
and_three false y z f e = absurd (false≢true e)

-- The cuts, each end counted from 0

four_cut : NonConstraining four 0
unfolding parts
four_cut a e = excluded (holds p a)

five_cut : NonConstraining (both p p) 0
unfolding parts
five_cut a = and_more (holds p a) (holds p a) (λ e. e)

six_true : NonConstraining (x-x<= (pos 0)) 0
unfolding parts
six_true a e = itself 1 0 a

six_false : NonRelaxing (x-x<= (negsuc 0)) 0
unfolding parts
six_false a e = absurd (not_below_itself 1 0 a e)

seven_cut : NonRelaxing seven 1
unfolding parts
seven_cut a = or_less (holds (x<= 3) a) (holds (x<= 1) a) (looser 1 0 (pos 1) (pos 3) (omega arith) a)

eight_cut : NonRelaxing eight 2
unfolding parts
eight_cut a = and_or_less (holds (x<= 5) a) (holds (x<= 3) a)

pub eight_again : NonConstraining (both (x<= 5) (x<= 3)) 0
unfolding parts
eight_again a = and_more (holds (x<= 5) a) (holds (x<= 3) a) (looser 1 0 (pos 3) (pos 5) (omega arith) a)

-- "6 questions cut the last end, 1 cuts the first", and what then follows
module _ {u : Tree} {n : ℕ} {f : Bool} where
  cut_last : Comes (both (x<= 5) (x<= 3)) n u f → Comes eight (6 + n) u f
  unfolding parts
  cut_last = made_false xs 2 refl eight_cut

  cut_first : Comes (x<= 3) n u f → Comes (both (x<= 5) (x<= 3)) (1 + n) u f
  unfolding parts
  cut_first = made_true [] 0 refl eight_again

nine_cut : NonRelaxing nine 0
unfolding parts
nine_cut a = and_two _ _ (λ m n. absurd (none_between 1 2 a m n))

ten_cut : NonRelaxing (ten (negsuc 2)) 0
unfolding parts
ten_cut a = and_three _ _ _ (λ l m n. absurd (chain 1 2 3 a l m n))

-- The rows, in the table's order

pub worked : Worked
unfolding parts
worked =
    kept _ _ (plain true) refl (none_left [] refl) refl
    then kept _ _ (plain true) refl (none_left [] refl) refl
    then kept _ _ p refl (none_left ps refl) refl
    then kept _ _ p refl (stop_between ps 0 refl) refl
    then kept _ _ (both (plain true) p) refl (none_left ps refl) refl
    then kept _ _ (both (plain true) p) refl (stop_before [] 0 refl) refl
    then kept _ _ four refl (made_true [] 0 refl four_cut (none_left [] refl)) refl
    then kept _ _ (both p p) refl (made_true [] 0 refl five_cut (none_left ps refl)) refl
    then kept _ _ (x-x<= (pos 0)) refl (made_true [] 0 refl six_true (none_left [] refl)) refl
    then kept _ _ (x-x<= (negsuc 0)) refl (made_false ps 0 refl six_false (none_left [] refl)) refl
    then kept _ _ seven refl (made_false xs 1 refl seven_cut (none_left xs refl)) refl
    then kept _ _ eight refl (cut_last (cut_first (none_left xs refl))) refl
    then kept _ _ eight refl (stop_between xs 2 refl) refl
    then kept _ _ eight refl (cut_last (stop_before [] 0 refl)) refl
    then kept _ _ eight refl (cut_last (cut_first (stop_before [] 0 refl))) refl
    then kept _ _ eight refl (cut_last (cut_first (stop_between xs 0 refl))) refl
    then kept _ _ eight refl (cut_last (cut_first (none_left xs refl))) refl
    then kept _ _ nine refl (made_false (xyz 0 0 0 ∷ []) 0 refl nine_cut (none_left [] refl)) refl
    then kept _ _ (ten (negsuc 2)) refl (made_false (xyz 3 0 0 ∷ []) 0 refl ten_cut (none_left [] refl)) refl
    then kept _ _ (ten (negsuc 1)) refl (none_left (xyz 2 1 0 ∷ xyz 2 0 0 ∷ xyz 2 2 0 ∷ xyz 0 0 0 ∷ []) refl) refl
    then no_more
