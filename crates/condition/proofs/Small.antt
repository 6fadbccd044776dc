-- What ends an assignment meets, an assignment in range meets too. Lay the numbers on a line and send each to how many points below
-- it are covered, where a point is covered if it lies less than `reach` above some number. That keeps the order, pulls nothing apart
-- and keeps every distance up to `reach`, which is as far as a bound or its negation pushes; and it leaves all within `farthest`. It
-- goes for numbers 0 to any `last` and for any `reach`; the limits of document 01 come in at `Squeezed`.
use Prim.Native.Nat.{ℕ, zero, suc, ◌+◌, ◌-◌, ◌*◌, ◌≤◌, ◌<◌, min}
use mathlib.Core.Path.{◌≡◌, refl, sym, ap, ◌∙◌}
use mathlib.Core.Logic.{◌↔◌}
use mathlib.Core.Bool.{Bool, true, false, true≢false}
use native.Mathlib.Nat.{add-zero, add-suc}
use native.Mathlib.Decide.{ℕ_discrete}
use native.Mathlib.Omega.{arith}
use lib.Dec.{ltb}
use lib.IntN.{ℤ, pos, negsuc, nat_abs, neg_ℤ, ◌-ℤ◌}
use borrow.Table.Steps.{cases}
use borrow.Author.Tests.{ltb-true, ltb-false, leb-true, le-leb}
use Rattle.condition.specs.Limits.{last_number, largest_bound}
use Rattle.condition.specs.Meaning.{Assignment, value, End, is, is_not, at_most, above, met, Join, all, any, joined}
use Rattle.condition.specs.Meaning.{Tree, plain, leaf, join, Forest, none, more, holds, each, EndWithin, Formed, FormedAll}
use Rattle.condition.specs.Satisfying.{Satisfiable, InRange, Named, NamedAll}
use Rattle.condition.proofs.Negation.{up, down, difference, above_is}

-- What `up` and `down` make of a difference, of -c - 1, of a size and of a bound

pub minus : (m n : ℕ) → (up (pos m -ℤ pos n) ≡ m - n) × (down (pos m -ℤ pos n) ≡ n - m)
minus m zero = omega arith
minus m (suc n) =
    cases (ltb m (suc n))
    (λ e. rw e (omega (arith, ltb-true m (suc n) e)))
    (λ e. rw e (omega (arith, ltb-false m (suc n) e)))

pub negated : (c : ℤ) → (up (neg_ℤ c -ℤ pos 1) ≡ down c - (up c + 1)) × (down (neg_ℤ c -ℤ pos 1) ≡ up c + 1 - down c)
negated (pos zero) = omega arith
negated (pos (suc n)) = omega arith
negated (negsuc n) = omega (arith, minus (suc n) 1)

pub size : (z : ℤ) → (nat_abs z ≡ up z + down z) × (min (up z) (down z) ≡ 0)
size (pos n) = omega arith
size (negsuc n) = omega arith

pub at_most_lem : (x y : ℕ) (c : ℤ) (a : Assignment) → (met (at_most x y c) a ≡ true) ↔
    (up (value a x) + down (value a y) + down c ≤ up (value a y) + down (value a x) + up c)
unfolding met
at_most_lem x y c a =
    let e = difference (value a x) (value a y) c in
    ((λ m. leb-true _ _ (sym e ∙ m)), λ l. e ∙ le-leb _ _ l)

-- f 0 + .. + f (n - 1)
sum : ℕ → (ℕ → ℕ) → ℕ
sum zero f = 0
sum (suc n) f = sum n f + f n

sum_mono : (n : ℕ) (f g : ℕ → ℕ) → ((j : ℕ) → f j ≤ g j) → sum n f ≤ sum n g
unfolding sum
sum_mono zero f g h = omega arith
sum_mono (suc n) f g h = omega (arith, sum_mono n f g h, h n)

-- the sums lie at least as far apart as the terms at any one place
sum_gap : (n : ℕ) (f g : ℕ → ℕ) → ((j : ℕ) → f j ≤ g j) → (i : ℕ) → i < n → sum n f + g i ≤ sum n g + f i
unfolding sum
sum_gap zero f g h i l = omega arith
sum_gap (suc n) f g h i l =
    elim (ℕ_discrete i n) [
      | yes e ↦ omega (arith, ap f e, ap g e, sum_mono n f g h)
      | no ne ↦ omega (arith, sum_gap n f g h i (omega arith), h n)
    ]

sum_same : (n b : ℕ) → sum n (λ j. b) ≡ n * b
unfolding sum
sum_same zero b = omega arith
sum_same (suc n) b = omega (arith, sum_same n b)

-- an end that speaks of the numbers up to `last` and pushes less than `reach`
abbrev pub EndFits : (last reach : ℕ) → End → Type 0
EndFits last reach (is p) = Unit {0}
EndFits last reach (is_not p) = Unit {0}
EndFits last reach (at_most x y c) = (x ≤ last) × (y ≤ last) × (nat_abs c < reach)
EndFits last reach (above x y c) = (x ≤ last) × (y ≤ last) × (nat_abs c < reach)

module _ (last reach : ℕ) (at : ℕ → ℕ) where
  -- the points below v that lie within reach above a number, counted once for each number that they are above
  spread : ℕ → ℕ
  spread v = sum (suc last) (λ j. min (v - at j) reach)

  -- the same points counted once
  squeeze : ℕ → ℕ
  squeeze zero = 0
  squeeze (suc v) = squeeze v + min 1 (spread (suc v) - spread v)

  spread_mono : (v : ℕ) → spread v ≤ spread (suc v)
  unfolding spread
  spread_mono v = sum_mono (suc last) _ _ (λ j. omega arith)

  -- a covered point counts
  spread_more : (v j : ℕ) → j ≤ last → at j ≤ v → v < at j + reach → spread v < spread (suc v)
  unfolding spread
  spread_more v j h lo hi =
      omega (arith, sum_gap (suc last) (λ j. min (v - at j) reach) (λ j. min (suc v - at j) reach) (λ j. omega arith) j (omega arith))

  squeeze_spread : (v : ℕ) → squeeze v ≤ spread v
  unfolding squeeze
  squeeze_spread zero = omega arith
  squeeze_spread (suc v) = omega (arith, squeeze_spread v, spread_mono v)

  -- no point is counted for the number itself, so at most last times reach
  squeeze_most : (i : ℕ) → i ≤ last → squeeze (at i) ≤ last * reach
  unfolding spread
  squeeze_most i h =
      omega (
        arith,
        squeeze_spread (at i),
        sum_gap (suc last) (λ j. min (at i - at j) reach) (λ j. reach) (λ j. omega arith) i (omega arith),
        sum_same (suc last) reach,
      )

  squeeze_add : (v d : ℕ) → (squeeze v ≤ squeeze (v + d)) × (squeeze (v + d) ≤ squeeze v + d)
  unfolding squeeze
  squeeze_add v zero = omega (arith, ap squeeze (add-zero v))
  squeeze_add v (suc d) = omega (arith, ap squeeze (add-suc v d), squeeze_add v d)

  squeeze_mono : (v w : ℕ) → v ≤ w → squeeze v ≤ squeeze w
  squeeze_mono v w h = let e : v + (w - v) ≡ w = omega arith in omega (arith, squeeze_add v (w - v), ap squeeze e)

  squeeze_full : (i : ℕ) → i ≤ last → (d : ℕ) → d ≤ reach → squeeze (at i + d) ≡ squeeze (at i) + d
  unfolding squeeze
  squeeze_full i h zero l = omega (arith, ap squeeze (add-zero (at i)))
  squeeze_full i h (suc d) l =
      omega (
        arith,
        ap squeeze (add-suc (at i) d),
        squeeze_full i h d (omega arith),
        spread_more (at i + d) i h (omega arith) (omega arith),
      )

module _ (last reach : ℕ) (a : Assignment) where
  -- the numbers on a line that starts at 0
  raised : ℕ → ℕ
  raised i = up (value a i) + sum (suc last) (λ j. down (value a j)) - down (value a i)

  raised_is : (i : ℕ) → i ≤ last → raised i + down (value a i) ≡ up (value a i) + sum (suc last) (λ j. down (value a j))
  unfolding raised
  raised_is i h =
      omega (
        arith,
        sum_gap (suc last) (λ j. 0) (λ j. down (value a j)) (λ j. omega arith) i (omega arith),
        sum_same (suc last) 0,
      )

  place : ℕ → ℕ
  place i = squeeze last reach raised (raised i)

  pub squeezed : Assignment
  squeezed = record { flag = a.flag; number = λ i. pos (place i) -ℤ pos (place 0) }

  squeezed_value : (i : ℕ) → (up (value squeezed i) ≡ place i - place 0) × (down (value squeezed i) ≡ place 0 - place i)
  unfolding squeezed value
  squeezed_value zero = omega arith
  squeezed_value (suc i) = minus (place (suc i)) (place 0)

  place_most : (i : ℕ) → i ≤ last → place i ≤ last * reach
  unfolding place
  place_most = squeeze_most last reach raised

  pub squeezed_range : (i : ℕ) → i ≤ last → nat_abs (value squeezed i) ≤ last * reach
  squeezed_range i h =
      omega (arith, size (value squeezed i), squeezed_value i, place_most i h, place_most 0 (omega arith))

  place_bound : (x y : ℕ) (c : ℤ) → x ≤ last → y ≤ last → down c ≤ reach → raised x + down c ≤ raised y + up c →
      place x + down c ≤ place y + up c
  unfolding place
  place_bound x y (pos n) hx hy l m =
      omega (arith, squeeze_mono last reach raised (raised x) (raised y + n) (omega arith), squeeze_add last reach raised (raised y) n)
  place_bound x y (negsuc n) hx hy l m =
      omega (
        arith,
        squeeze_full last reach raised x hx (suc n) l,
        squeeze_mono last reach raised (raised x + suc n) (raised y) (omega arith),
      )

  bound_kept : (x y : ℕ) (c : ℤ) → x ≤ last → y ≤ last → down c ≤ reach → met (at_most x y c) a ≡ true →
      met (at_most x y c) squeezed ≡ true
  bound_kept x y c hx hy l m =
      (at_most_lem x y c squeezed).1
      (omega (
        arith,
        (at_most_lem x y c a).0 m,
        place_bound x y c hx hy l (omega (arith, (at_most_lem x y c a).0 m, raised_is x hx, raised_is y hy)),
        squeezed_value x,
        squeezed_value y,
      ))

  pub end_kept : (e : End) → EndFits last reach e → met e a ≡ true → met e squeezed ≡ true
  unfolding met squeezed
  end_kept (is p) w m = m
  end_kept (is_not p) w m = m
  end_kept (at_most x y c) w m = bound_kept x y c w.0 w.1 (omega (arith, size c)) m
  end_kept (above x y c) w m =
      above_is x y c squeezed
      ∙ bound_kept y x (neg_ℤ c -ℤ pos 1) w.1 w.0 (omega (arith, negated c, size c)) (sym (above_is x y c a) ∙ m)

-- b is in range, has the flags of a, and meets each end that a meets
pub record Squeezed (a b : Assignment) : Type 0 where
  pub range : InRange b
  pub flags : (p : ℕ) → b.flag p ≡ a.flag p
  pub meets : (e : End) → EndWithin e → met e a ≡ true → met e b ≡ true

-- as far as a bound pushes: x - y <= c down to c = -largest_bound - 1, the negation of the largest
within_fits : (e : End) → EndWithin e → EndFits last_number (largest_bound + 1) e
within_fits (is p) w = tt
within_fits (is_not p) w = tt
within_fits (at_most x y c) w = (w.0, w.1, omega (arith, w.2))
within_fits (above x y c) w = (w.0, w.1, omega (arith, w.2))

pub squeeze_any : (a : Assignment) → (b : Assignment) × Squeezed a b
unfolding squeezed
squeeze_any a = (
  squeezed last_number (largest_bound + 1) a,
  record {
    range = squeezed_range last_number (largest_bound + 1) a;
    flags = λ p. refl;
    meets = λ e w. end_kept last_number (largest_bound + 1) a e (within_fits e w);
  },
)

-- A tree stays true where its ends do

pub joined_follows : (j : Join) (p q p' q' : Bool) → (p ≡ true → p' ≡ true) → (q ≡ true → q' ≡ true) → joined j p q ≡ true →
    joined j p' q' ≡ true
joined_follows all true true p' q' hp hq e = rw (hp refl, hq refl)
joined_follows all true false p' q' hp hq e = absurd (true≢false (sym e))
joined_follows all false q p' q' hp hq e = absurd (true≢false (sym e))
joined_follows any true q p' q' hp hq e = rw (hp refl)
joined_follows any false q true q' hp hq e = refl
joined_follows any false q false q' hp hq e = hq e

module _ (a b : Assignment) (follows : (e : End) → EndWithin e → met e a ≡ true → met e b ≡ true) where
  mutual
    unfolding holds each Named

    pub holds_follows : (t : Tree) → Named t → holds t a ≡ true → holds t b ≡ true
    holds_follows (plain p) w h = h
    holds_follows (leaf e) w h = follows e w h
    holds_follows (join j ts) w h = each_follows ts j w h

    pub each_follows : (ts : Forest) (j : Join) → NamedAll ts → each ts j a ≡ true → each ts j b ≡ true
    each_follows none j w h = h
    each_follows (more t ts) j w h =
        joined_follows j (holds t a) (each ts j a) (holds t b) (each ts j b)
        (λ e. holds_follows t w.0 e) (λ e. each_follows ts j w.1 e) h

mutual
  unfolding Formed Named

  pub formed_named : (t : Tree) → Formed t → Named t
  formed_named (plain b) w = tt
  formed_named (leaf e) w = w
  formed_named (join j ts) w = formed_named_all ts w.1

  pub formed_named_all : (ts : Forest) → FormedAll ts → NamedAll ts
  formed_named_all none w = tt
  formed_named_all (more t ts) w = (formed_named t w.0, formed_named_all ts w.1)

pub small : (t : Tree) → Named t → Satisfiable t → (b : Assignment) × InRange b × (holds t b ≡ true)
small t w s =
    let q = squeeze_any s.0 in
    (q.0, q.1.range, holds_follows s.0 q.0 q.1.meets t w s.1)
