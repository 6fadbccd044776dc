-- What folding keeps: the meaning, the limits, and the number of ends or less; and that it leaves nothing to fold. Each law goes up from
-- the ends as `fold` does: what a child adds to those left, by `drop`'s cases, and what `close` makes of them, by its own.
use Prim.Native.Nat.{ℕ, ◌+◌, ◌≤◌, max}
use mathlib.Core.Path.{◌≡◌, refl, sym, ap, ap₂, ◌∙◌}
use mathlib.Core.Bool.{Bool, true, false, not}
use native.Mathlib.Omega.{arith}
use Rattle.condition.specs.Limits.{most_ends}
use Rattle.condition.specs.Meaning.{Assignment, Join, all, any, unit, joined, Tree, plain, leaf, join, Forest, none, more}
use Rattle.condition.specs.Meaning.{holds, each, ends, ends_all, count, Formed, FormedAll, Within}
use Rattle.condition.specs.Folding.{Left, decided, these, keep, drop_constant, drop, close, fold, fold_all, live, live_all}
use Rattle.condition.specs.Folding.{Solid, SolidAll, Folded, constant, solid}

-- What is left after a child: nothing new, or the child as well
module _ (Q : Left → Type 0) where
  drop_constant_lem : (j : Join) (b : Bool) (l : Left) → Q decided → Q l → Q (drop_constant j b l)
  drop_constant_lem all true l d q = q
  drop_constant_lem all false l d q = d
  drop_constant_lem any true l d q = d
  drop_constant_lem any false l d q = q

  drop_any : (j : Join) (t : Tree) (l : Left) → Q decided → Q l → Q (keep t l) → Q (drop j t l)
  drop_any j (plain b) l d q k = drop_constant_lem j b l d q
  drop_any j (leaf e) l d q k = k
  drop_any j (join i us) l d q k = k

-- Meaning

abbrev held_left : Left → Join → Assignment → Bool
held_left decided j a = not (unit j)
held_left (these ts) j a = each ts j a

joined_decided : (j : Join) (x : Bool) → joined j x (not (unit j)) ≡ not (unit j)
joined_decided all true = refl
joined_decided all false = refl
joined_decided any true = refl
joined_decided any false = refl

joined_unit : (j : Join) (x : Bool) → joined j x (unit j) ≡ x
joined_unit all true = refl
joined_unit all false = refl
joined_unit any true = refl
joined_unit any false = refl

keep_held : (j : Join) (t : Tree) (l : Left) (a : Assignment) → held_left (keep t l) j a ≡ joined j (holds t a) (held_left l j a)
unfolding each
keep_held j t decided a = sym (joined_decided j (holds t a))
keep_held j t (these ts) a = refl

constant_held : (j : Join) (b : Bool) (l : Left) (a : Assignment) → held_left (drop_constant j b l) j a ≡ joined j b (held_left l j a)
constant_held all true l a = refl
constant_held all false l a = refl
constant_held any true l a = refl
constant_held any false l a = refl

drop_held : (j : Join) (t : Tree) (l : Left) (a : Assignment) → held_left (drop j t l) j a ≡ joined j (holds t a) (held_left l j a)
unfolding holds
drop_held j (plain b) l a = constant_held j b l a
drop_held j (leaf e) l a = keep_held j (leaf e) l a
drop_held j (join i us) l a = keep_held j (join i us) l a

close_held : (j : Join) (l : Left) (a : Assignment) → holds (close j l) a ≡ held_left l j a
unfolding holds each
close_held j decided a = refl
close_held j (these none) a = refl
close_held j (these (more t none)) a = sym (joined_unit j (holds t a))
close_held j (these (more t (more u us))) a = refl

mutual
  unfolding holds each fold fold_all

  pub fold_holds : (t : Tree) (a : Assignment) → holds (fold t) a ≡ holds t a
  fold_holds (plain b) a = refl
  fold_holds (leaf e) a = refl
  fold_holds (join j ts) a = close_held j (fold_all ts j) a ∙ fold_all_holds ts j a

  fold_all_holds : (ts : Forest) (j : Join) (a : Assignment) → held_left (fold_all ts j) j a ≡ each ts j a
  fold_all_holds none j a = refl
  fold_all_holds (more t ts) j a =
      drop_held j (fold t) (fold_all ts j) a ∙ ap₂ (joined j) (fold_holds t a) (fold_all_holds ts j a)

-- Shape

abbrev SolidLeft : Left → Type 0
SolidLeft decided = Unit {0}
SolidLeft (these ts) = SolidAll ts

keep_solid : (t : Tree) (l : Left) → Solid t → SolidLeft l → SolidLeft (keep t l)
unfolding SolidAll
keep_solid t decided h k = tt
keep_solid t (these ts) h k = (h, k)

drop_solid : (j : Join) (t : Tree) (l : Left) → Folded t → SolidLeft l → SolidLeft (drop j t l)
drop_solid j (plain b) l h k = drop_constant_lem SolidLeft j b l tt k
drop_solid j (leaf e) l (solid h) k = keep_solid (leaf e) l h k
drop_solid j (join i us) l (solid h) k = keep_solid (join i us) l h k

close_folded : (j : Join) (l : Left) → SolidLeft l → Folded (close j l)
unfolding Solid SolidAll
close_folded j decided k = constant
close_folded j (these none) k = constant
close_folded j (these (more t none)) k = solid k.0
close_folded j (these (more t (more u us))) k = solid {t = join j (more t (more u us))} (omega arith, k)

mutual
  unfolding fold fold_all Solid SolidAll

  pub fold_folded : (t : Tree) → Folded (fold t)
  fold_folded (plain b) = constant
  fold_folded (leaf e) = solid {t = leaf e} tt
  fold_folded (join j ts) = close_folded j (fold_all ts j) (fold_all_solid ts j)

  fold_all_solid : (ts : Forest) (j : Join) → SolidLeft (fold_all ts j)
  fold_all_solid none j = tt
  fold_all_solid (more t ts) j = drop_solid j (fold t) (fold_all ts j) (fold_folded t) (fold_all_solid ts j)

-- A folded tree stays

drop_keeps : (j : Join) (t : Tree) (l : Left) → Solid t → drop j t l ≡ keep t l
unfolding Solid
drop_keeps j (plain b) l h = absurd h
drop_keeps j (leaf e) l h = refl
drop_keeps j (join i us) l h = refl

close_keeps : (j : Join) (ts : Forest) → 2 ≤ count ts → close j (these ts) ≡ join j ts
close_keeps j none h = absurd (omega arith)
close_keeps j (more t none) h = absurd (omega arith)
close_keeps j (more t (more u us)) h = refl

mutual
  unfolding fold fold_all Solid SolidAll

  solid_stays : (t : Tree) → Solid t → fold t ≡ t
  solid_stays (plain b) h = refl
  solid_stays (leaf e) h = refl
  solid_stays (join j ts) h = ap (close j) (solid_all_stays ts j h.1) ∙ close_keeps j ts h.0

  solid_all_stays : (ts : Forest) (j : Join) → SolidAll ts → fold_all ts j ≡ these ts
  solid_all_stays none j h = refl
  solid_all_stays (more t ts) j h =
      ap₂ (drop j) (solid_stays t h.0) (solid_all_stays ts j h.1) ∙ drop_keeps j t (these ts) h.0

pub folded_stays : (t : Tree) → Folded t → fold t ≡ t
unfolding fold
folded_stays t constant = refl
folded_stays t (solid h) = solid_stays t h

pub fold_twice : (t : Tree) → fold (fold t) ≡ fold t
fold_twice t = folded_stays (fold t) (fold_folded t)

-- Ends, constants aside

abbrev live_left : Left → ℕ
live_left decided = 0
live_left (these ts) = live_all ts

keep_live : (t : Tree) (l : Left) → live_left (keep t l) ≤ live t + live_left l
unfolding live_all
keep_live t decided = omega arith
keep_live t (these ts) = omega arith

drop_live : (j : Join) (t : Tree) (l : Left) → live_left (drop j t l) ≤ live t + live_left l
drop_live j t l = drop_any (λ m. live_left m ≤ live t + live_left l) j t l (omega arith) (omega arith) (keep_live t l)

close_live : (j : Join) (l : Left) → live (close j l) ≤ live_left l
unfolding live live_all
close_live j decided = omega arith
close_live j (these none) = omega arith
close_live j (these (more t none)) = omega arith
close_live j (these (more t (more u us))) = omega arith

mutual
  unfolding fold fold_all live live_all

  pub fold_live : (t : Tree) → live (fold t) ≤ live t
  fold_live (plain b) = omega arith
  fold_live (leaf e) = omega arith
  fold_live (join j ts) = omega (arith, close_live j (fold_all ts j), fold_all_live ts j)

  fold_all_live : (ts : Forest) (j : Join) → live_left (fold_all ts j) ≤ live_all ts
  fold_all_live none j = omega arith
  fold_all_live (more t ts) j = omega (arith, drop_live j (fold t) (fold_all ts j), fold_live t, fold_all_live ts j)

-- The limits

abbrev FormedLeft : Left → Type 0
FormedLeft decided = Unit {0}
FormedLeft (these ts) = FormedAll ts

keep_formed : (t : Tree) (l : Left) → Formed t → FormedLeft l → FormedLeft (keep t l)
unfolding FormedAll
keep_formed t decided w k = tt
keep_formed t (these ts) w k = (w, k)

close_formed : (j : Join) (l : Left) → FormedLeft l → Formed (close j l)
unfolding Formed FormedAll
close_formed j decided k = tt
close_formed j (these none) k = tt
close_formed j (these (more t none)) k = k.0
close_formed j (these (more t (more u us))) k = (omega arith, k)

mutual
  unfolding fold fold_all Formed FormedAll

  pub fold_formed : (t : Tree) → Formed t → Formed (fold t)
  fold_formed (plain b) w = w
  fold_formed (leaf e) w = w
  fold_formed (join j ts) w = close_formed j (fold_all ts j) (fold_all_formed ts j w.1)

  fold_all_formed : (ts : Forest) (j : Join) → FormedAll ts → FormedLeft (fold_all ts j)
  fold_all_formed none j w = tt
  fold_all_formed (more t ts) j w =
      let rest = fold_all_formed ts j w.1 in
      drop_any FormedLeft j (fold t) (fold_all ts j) tt rest (keep_formed (fold t) (fold_all ts j) (fold_formed t w.0) rest)

abbrev ends_left : Left → ℕ
ends_left decided = 0
ends_left (these ts) = ends_all ts

keep_ends : (t : Tree) (l : Left) → ends_left (keep t l) ≤ ends t + ends_left l
unfolding ends_all
keep_ends t decided = omega arith
keep_ends t (these ts) = omega arith

drop_ends : (j : Join) (t : Tree) (l : Left) → ends_left (drop j t l) ≤ ends t + ends_left l
drop_ends j t l = drop_any (λ m. ends_left m ≤ ends t + ends_left l) j t l (omega arith) (omega arith) (keep_ends t l)

-- a constant may stand for no child, and counts as one end
close_ends : (j : Join) (l : Left) → ends (close j l) ≤ max 1 (ends_left l)
unfolding ends ends_all
close_ends j decided = omega arith
close_ends j (these none) = omega arith
close_ends j (these (more t none)) = omega arith
close_ends j (these (more t (more u us))) = omega arith

mutual
  unfolding ends ends_all Formed FormedAll

  pub some_end : (t : Tree) → Formed t → 1 ≤ ends t
  some_end (plain b) w = omega arith
  some_end (leaf e) w = omega arith
  some_end (join j ts) w = omega (arith, some_ends ts w.1)

  some_ends : (ts : Forest) → FormedAll ts → count ts ≤ ends_all ts
  some_ends none w = omega arith
  some_ends (more t ts) w = omega (arith, some_end t w.0, some_ends ts w.1)

mutual
  unfolding fold fold_all ends ends_all Formed FormedAll

  pub fold_ends : (t : Tree) → Formed t → ends (fold t) ≤ ends t
  fold_ends (plain b) w = omega arith
  fold_ends (leaf e) w = omega arith
  fold_ends (join j ts) w = omega (arith, close_ends j (fold_all ts j), fold_all_ends ts j w.1, some_ends ts w.1)

  fold_all_ends : (ts : Forest) (j : Join) → FormedAll ts → ends_left (fold_all ts j) ≤ ends_all ts
  fold_all_ends none j w = omega arith
  fold_all_ends (more t ts) j w =
      omega (arith, drop_ends j (fold t) (fold_all ts j), fold_ends t w.0, fold_all_ends ts j w.1)

-- a formed tree of at most m ends; within the limits m is 24
pub record Inside (m : ℕ) (t : Tree) : Type 0 where
  pub formed : Formed t
  pub few : ends t ≤ m

pub fold_inside : (m : ℕ) (t : Tree) → Inside m t → Inside m (fold t)
fold_inside m t w = record { formed = fold_formed t w.formed; few = omega (arith, fold_ends t w.formed, w.few) }

pub fold_within : (t : Tree) → Within t → Within (fold t)
fold_within t w =
    let h = fold_inside most_ends t (record { formed = w.formed; few = w.few }) in
    record { formed = h.formed; few = h.few }
