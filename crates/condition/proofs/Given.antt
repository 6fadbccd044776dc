-- Any assignment can be given as 32 bits and 15 numbers, as far as names within the limits go. The bits are made from the highest down,
-- each time twice those so far and one more; so a bit made stays the bit it was, one place higher. A tree within the limits looks at no
-- other name, so one that is satisfiable holds under bits and numbers that find may show.
use Prim.Native.Nat.{ℕ, zero, suc, ◌+◌, ◌*◌, ◌/◌, ◌%◌, ◌^◌, ◌≤◌, ◌<◌}
use mathlib.Core.Path.{◌≡◌, refl, sym, ap, ◌∙◌}
use mathlib.Core.List.{List, [], ◌∷◌}
use mathlib.Core.Bool.{Bool, true, false, not, cond}
use native.Mathlib.Omega.{arith}
use native.Mathlib.Nat.{pow-succ', div-div-eq-div-mul}
use lib.Dec.{eqb}
use lib.IntN.{ℤ, pos}
use lib.ListN.{length, get_or}
use Rattle.condition.specs.Limits.{last_boolean, last_number}
use Rattle.condition.specs.Meaning.{Assignment, value, End, is, is_not, at_most, above, met, Tree, holds, EndWithin, given}
use Rattle.condition.specs.Satisfying.{Satisfiable, InRange, Named}
use Rattle.condition.proofs.Small.{holds_follows, small}

-- the lowest bit, and those above it
pub lowest : (r d k : ℕ) → k ≡ 0 → d < 2 → (2 * r + d) / 2 ^ k % 2 ≡ d
lowest r d k e h = rw e (omega arith)

pub higher : (r d k : ℕ) → d < 2 → (2 * r + d) / 2 ^ suc k ≡ r / 2 ^ k
higher r d k h =
    let half : (2 * r + d) / 2 ≡ r = omega arith in
    ap (λ x. (2 * r + d) / x) (pow-succ' 2 k) ∙ sym (div-div-eq-div-mul (2 * r + d) 2 (2 ^ k)) ∙ ap (λ x. x / 2 ^ k) half

pub bit_one : (s : Bool) → eqb (cond s 1 0) 1 ≡ s
bit_one true = refl
bit_one false = refl

bit_small : (s : Bool) → cond s 1 0 < 2
bit_small true = omega arith
bit_small false = omega arith

-- f 0 to f (k - 1), the bit of weight 2^p for f p
bits : ℕ → (ℕ → Bool) → ℕ
bits zero f = 0
bits (suc k) f = 2 * bits k (λ p. f (suc p)) + cond (f 0) 1 0

bit_at : (k : ℕ) (f : ℕ → Bool) (p : ℕ) → p < k → eqb (bits k f / 2 ^ p % 2) 1 ≡ f p
unfolding bits
bit_at zero f p h = absurd (omega arith)
bit_at (suc k) f zero h = ap (λ x. eqb x 1) (lowest _ _ 0 refl (bit_small (f 0))) ∙ bit_one (f 0)
bit_at (suc k) f (suc p) h =
    ap (λ x. eqb (x % 2) 1) (higher (bits k (λ q. f (suc q))) _ p (bit_small (f 0))) ∙ bit_at k (λ q. f (suc q)) p (omega arith)

-- f 0 to f (k - 1), in order
listed : ℕ → (ℕ → ℤ) → List ℤ
listed zero f = []
listed (suc k) f = f 0 ∷ listed k (λ x. f (suc x))

listed_length : (k : ℕ) (f : ℕ → ℤ) → length (listed k f) ≡ k
unfolding listed
listed_length zero f = refl
listed_length (suc k) f = ap suc (listed_length k (λ x. f (suc x)))

listed_at : (k : ℕ) (f : ℕ → ℤ) (x : ℕ) → x < k → get_or (listed k f) x (pos 0) ≡ f x
unfolding listed
listed_at zero f x h = absurd (omega arith)
listed_at (suc k) f zero h = refl
listed_at (suc k) f (suc x) h = listed_at k (λ y. f (suc y)) x (omega arith)

-- a, given so
module _ (a : Assignment) where
  bits_of : ℕ
  bits_of = bits (suc last_boolean) a.flag

  numbers_of : List ℤ
  numbers_of = listed last_number (λ x. value a (suc x))

  fifteen : length numbers_of ≡ last_number
  unfolding numbers_of
  fifteen = listed_length last_number (λ x. value a (suc x))

  same_flag : (p : ℕ) → p ≤ last_boolean → (given bits_of numbers_of).flag p ≡ a.flag p
  unfolding given bits_of
  same_flag p h = bit_at (suc last_boolean) a.flag p (omega arith)

  same_value : (x : ℕ) → x ≤ last_number → value (given bits_of numbers_of) x ≡ value a x
  unfolding given value numbers_of
  same_value zero h = refl
  same_value (suc x) h =
      ap (λ k. get_or numbers_of k (pos 0)) (omega arith) ∙ listed_at last_number (λ y. value a (suc y)) x (omega arith)

  same_met : (e : End) → EndWithin e → met e (given bits_of numbers_of) ≡ met e a
  unfolding met
  same_met (is p) w = same_flag p w
  same_met (is_not p) w = ap not (same_flag p w)
  same_met (at_most x y c) w = rw (same_value x w.0, same_value y w.1)
  same_met (above x y c) w = rw (same_value x w.0, same_value y w.1)

  given_holds : (t : Tree) → Named t → holds t a ≡ true → holds t (given bits_of numbers_of) ≡ true
  given_holds = holds_follows a (given bits_of numbers_of) (λ e w m. same_met e w ∙ m)

  given_range : InRange a → InRange (given bits_of numbers_of)
  given_range h x l = rw (same_value x l) (h x l)

-- what find may show of a satisfiable tree
pub record Shown (t : Tree) : Type 0 where
  pub bits : ℕ
  pub numbers : List ℤ
  pub true_there : holds t (given bits numbers) ≡ true
  pub range : InRange (given bits numbers)
  pub long : length numbers ≡ last_number

pub shown : (t : Tree) → Named t → Satisfiable t → Shown t
shown t w s =
    let m = small t w s in
    let a = m.0 in
    record {
      bits = bits_of a;
      numbers = numbers_of a;
      true_there = given_holds a t w m.2;
      range = given_range a m.1;
      long = fifteen a;
    }
