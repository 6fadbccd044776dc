-- `sat` decides satisfiability, for every tree. What it finds is an assignment. Conversely an assignment that satisfies the tree may be
-- squeezed (Small) and then be false and 0 at the names that the tree doesn't have: that one is in the box, and a search of the box
-- comes by it.
use Prim.Native.Nat.{ℕ, zero, suc, ◌+◌, ◌*◌, ◌-◌, ◌≤◌, ◌<◌}
use mathlib.Core.Path.{◌≡◌, refl, sym, ap, fun_ext, ◌∙◌}
use mathlib.Core.Bool.{Bool, true, false, cond, ◌||◌, or-true, false≢true}
use mathlib.Core.Logic.{◌↔◌}
use native.Mathlib.Decide.{ℕ_discrete}
use native.Mathlib.Omega.{arith}
use lib.Dec.{eqb, ltb}
use lib.IntN.{ℤ, pos, negsuc, nat_abs, ◌-ℤ◌}
use borrow.Author.Tests.{eq-eqb, ne_eqb, lt-ltb, le-ltb}
use Rattle.condition.specs.Meaning.{Assignment, value, End, is, is_not, at_most, above, met, Join}
use Rattle.condition.specs.Meaning.{Tree, plain, leaf, join, Forest, none, more, holds, each}
use Rattle.condition.specs.Satisfying.{Satisfiable}
use Rattle.condition.specs.Deciding.{reach_end, reach, reach_all, some_below, with, some, some_numbers, sat}
use Rattle.condition.proofs.Negation.{up, down}
use Rattle.condition.proofs.Small.{minus, EndFits, squeezed, squeezed_range, end_kept, joined_follows}

-- The search

or_cases : {X : Type 0} (x y : Bool) → (x || y) ≡ true → (x ≡ true → X) → (y ≡ true → X) → X
or_cases true y e f g = f refl
or_cases false y e f g = g e

below_found : (n : ℕ) (p : ℕ → Bool) → some_below n p ≡ true → (i : ℕ) × (p i ≡ true)
unfolding some_below
below_found zero p e = absurd (false≢true e)
below_found (suc n) p e = or_cases (p n) (some_below n p) e (λ h. (n, h)) (λ h. below_found n p h)

below_finds : (n : ℕ) (p : ℕ → Bool) (i : ℕ) → i < n → p i ≡ true → some_below n p ≡ true
unfolding some_below
below_finds zero p i l h = absurd (omega arith)
below_finds (suc n) p i l h =
    elim (ℕ_discrete i n) [
      | yes e ↦ rw (sym (ap p e) ∙ h)
      | no ne ↦ rw (below_finds n p i (omega arith) h) (or-true (p n))
    ]

module _ {X : Type 0} (size : ℕ) (value : ℕ → X) where
  some_found : (n : ℕ) (f : ℕ → X) (p : (ℕ → X) → Bool) → some size value n f p ≡ true → (g : ℕ → X) × (p g ≡ true)
  unfolding some
  some_found zero f p e = (f, e)
  some_found (suc n) f p e =
      let w = below_found size (λ i. some size value n (with f n (value i)) p) e in
      some_found n (with f n (value w.0)) p w.1

  -- g has values of the box in its first n places, and is f in the others
  record Boxed (n : ℕ) (f g : ℕ → X) : Type 0 where
    inside : (m : ℕ) → m < n → (i : ℕ) × (i < size) × (g m ≡ value i)
    beyond : (m : ℕ) → n ≤ m → g m ≡ f m

  boxed_with : (n : ℕ) (f g : ℕ → X) (x : X) → g n ≡ x → Boxed (suc n) f g → Boxed n (with f n x) g
  boxed_with n f g x e b =
      record {
        inside = λ m h. b.inside m (omega arith);
        beyond = λ m h.
            elim (ℕ_discrete m n) [
              | yes q ↦ rw (eq-eqb m n q) (ap g q ∙ e)
              | no nq ↦ rw (ne_eqb m n nq) (b.beyond m (omega arith))
            ];
      }

  some_finds : (n : ℕ) (f : ℕ → X) (p : (ℕ → X) → Bool) (g : ℕ → X) → Boxed n f g → p g ≡ true →
      some size value n f p ≡ true
  unfolding some
  some_finds zero f p g b h = sym (ap p (fun_ext (λ m. b.beyond m (omega arith)))) ∙ h
  some_finds (suc n) f p g b h =
      let w = b.inside n (omega arith) in
      below_finds size (λ i. some size value n (with f n (value i)) p) w.0 w.1
      (some_finds n (with f n (value w.0)) p g (boxed_with n f g (value w.0) w.2 b) h)

-- Values of the box

same_sides : (x y : ℤ) → up x ≡ up y → down x ≡ down y → x ≡ y
same_sides (pos m) (pos n) u d = ap pos u
same_sides (pos m) (negsuc n) u d = absurd (omega arith)
same_sides (negsuc m) (pos n) u d = absurd (omega arith)
same_sides (negsuc m) (negsuc n) u d = ap negsuc (omega arith)

number_boxed : (z : ℤ) (w : ℕ) → nat_abs z ≤ w → (i : ℕ) × (i < suc (w + w)) × (z ≡ pos i -ℤ pos w)
number_boxed (pos n) w h =
    (w + n, omega arith, same_sides (pos n) (pos (w + n) -ℤ pos w) (omega (arith, minus (w + n) w)) (omega (arith, minus (w + n) w)))
number_boxed (negsuc n) w h = (
  w - suc n,
  omega arith,
  same_sides (negsuc n) (pos (w - suc n) -ℤ pos w) (omega (arith, minus (w - suc n) w)) (omega (arith, minus (w - suc n) w)),
)

flag_boxed : (x : Bool) → (i : ℕ) × (i < 2) × (x ≡ eqb i 1)
flag_boxed true = (1, omega arith, refl)
flag_boxed false = (0, omega arith, refl)

-- A satisfying assignment in the box

module _ (k : ℕ) (a : Assignment) where
  pressed : Assignment
  pressed = squeezed k k a

  clipped : Assignment
  clipped = record { flag = λ p. cond (ltb p k) (pressed.flag p) false; number = λ x. cond (ltb x k) (value pressed x) (pos 0) }

  clipped_value : (x : ℕ) → x < k → value clipped x ≡ value pressed x
  unfolding clipped value
  clipped_value zero h = refl
  clipped_value (suc x) h = rw (lt-ltb (suc x) k h)

  clipped_met : (e : End) → reach_end e ≤ k → met e clipped ≡ met e pressed
  unfolding clipped met
  clipped_met (is p) h = rw (lt-ltb p k (omega arith))
  clipped_met (is_not p) h = rw (lt-ltb p k (omega arith))
  clipped_met (at_most x y c) h = rw (clipped_value x (omega arith), clipped_value y (omega arith))
  clipped_met (above x y c) h = rw (clipped_value x (omega arith), clipped_value y (omega arith))

  reach_fits : (e : End) → reach_end e ≤ k → EndFits k k e
  reach_fits (is p) h = tt
  reach_fits (is_not p) h = tt
  reach_fits (at_most x y c) h = (omega arith, omega arith, omega arith)
  reach_fits (above x y c) h = (omega arith, omega arith, omega arith)

  clipped_meets : (e : End) → reach_end e ≤ k → met e a ≡ true → met e clipped ≡ true
  unfolding pressed
  clipped_meets e h m = clipped_met e h ∙ end_kept k k a e (reach_fits e h) m

  mutual
    unfolding holds each reach reach_all

    clipped_holds : (t : Tree) → reach t ≤ k → holds t a ≡ true → holds t clipped ≡ true
    clipped_holds (plain b) h e = e
    clipped_holds (leaf d) h e = clipped_meets d h e
    clipped_holds (join j ts) h e = clipped_each ts j h e

    clipped_each : (ts : Forest) (j : Join) → reach_all ts ≤ k → each ts j a ≡ true → each ts j clipped ≡ true
    clipped_each none j h e = e
    clipped_each (more t ts) j h e =
        joined_follows j (holds t a) (each ts j a) (holds t clipped) (each ts j clipped)
        (λ q. clipped_holds t (omega arith) q) (λ q. clipped_each ts j (omega arith) q) e

  flags_boxed : Boxed 2 (λ i. eqb i 1) k (λ p. false) clipped.flag
  unfolding clipped
  flags_boxed =
      record {
        inside = λ m h. rw (lt-ltb m k h) (flag_boxed (pressed.flag m));
        beyond = λ m h. rw (le-ltb m k h);
      }

  numbers_boxed : Boxed (suc (k * k + k * k)) (λ i. pos i -ℤ pos (k * k)) k (λ x. pos 0) clipped.number
  unfolding clipped pressed
  numbers_boxed =
      record {
        inside = λ m h. rw (lt-ltb m k h) (number_boxed (value pressed m) (k * k) (squeezed_range k k a m (omega arith)));
        beyond = λ m h. rw (le-ltb m k h);
      }

pub sat_is : (t : Tree) → (sat t ≡ true) ↔ Satisfiable t
unfolding sat
sat_is t = (found, finds)
  where
    k : ℕ
    k = reach t

    numbers : (ℕ → Bool) → (ℕ → ℤ) → Bool
    numbers f g = holds t (record { flag = f; number = g })

    flags : (ℕ → Bool) → Bool
    flags f = some_numbers k (k * k) (numbers f)

    found : sat t ≡ true → Satisfiable t
    found e =
        let f = some_found 2 _ k _ flags e in
        let g = some_found (suc (k * k + k * k)) _ k _ (numbers f.0) f.1 in
        (record { flag = f.0; number = g.0 }, g.1)

    finds : Satisfiable t → sat t ≡ true
    finds s =
        let a = clipped k s.0 in
        let true_there = clipped_holds k s.0 t (omega arith) s.1 in
        some_finds _ _ k _ flags a.flag (flags_boxed k s.0)
        (some_finds _ _ k _ (numbers a.flag) a.number (numbers_boxed k s.0) true_there)

-- another decision comes to the same
pub sat_same : (b : Bool) (t : Tree) → (b ≡ true) ↔ Satisfiable t → b ≡ sat t
sat_same b t h = alike b (sat t) (λ e. (sat_is t).1 (h.0 e)) (λ e. h.1 ((sat_is t).0 e))
  where
    alike : (x y : Bool) → (x ≡ true → y ≡ true) → (y ≡ true → x ≡ true) → x ≡ y
    alike true y f g = sym (f refl)
    alike false true f g = g refl
    alike false false f g = refl
