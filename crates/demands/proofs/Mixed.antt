-- Lemma 1 of document 000 fails for this tree. Its ends are firm by eight assignments. That the replaced tree means the same: where
-- x <= 0, x <= 3 too, and both say "not p, or y <= 1 and x > -3"; where x > 0, x > -3 too, and both say "y <= 1, or not p and x <= 3".
use Prim.Native.Nat.{ℕ}
use mathlib.Core.Path.{◌≡◌, refl}
use mathlib.Core.List.{List, [], ◌∷◌}
use mathlib.Core.Bool.{Bool, true, false, not, ◌&&◌, ◌||◌, false≢true}
use native.Mathlib.Omega.{arith}
use lib.IntN.{ℤ, pos, negsuc}
use Rattle.condition.specs.Meaning.{Assignment, at_most, met, holds, given}
use Rattle.demands.specs.Mixed.{original, replaced, Mixed}
use Rattle.demands.proofs.Rows.{firm_below_lem, none_left, kept, parts}
use Rattle.demands.proofs.Bounds.{looser}

-- p, x and y
abbrev pxy : ℕ → ℤ → ℕ → Assignment
pxy p x y = given p (x ∷ pos y ∷ [])

abbrev eight : List Assignment
eight =
    pxy 1 (negsuc 2) 0
    ∷ pxy 1 (pos 0) 0
    ∷ pxy 1 (pos 1) 0
    ∷ pxy 1 (pos 0) 2
    ∷ pxy 1 (pos 1) 2
    ∷ pxy 0 (pos 0) 2
    ∷ pxy 0 (pos 1) 2
    ∷ pxy 0 (pos 4) 2
    ∷ []

-- As Booleans: low is x <= 0, below x <= 3, deep x <= -3, y is y <= 1, f is p. What stays: not p and x <= 3; y <= 1 and x > -3
abbrev first : (f below : Bool) → Bool
first f below = not f && (below && true)

abbrev second : (y deep : Bool) → Bool
second y deep = y && (not deep && true)

agree : (low below deep y f : Bool) → (low ≡ true → below ≡ true) → (deep ≡ true → low ≡ true) →
    ((true && ((false || (first f below || false)) && true)) || ((true && ((false || (second y deep || false)) && true)) || false))
    ≡ ((not low && ((y || (first f below || false)) && true)) || ((low && ((not f || (second y deep || false)) && true)) || false))
agree true true deep y true h k = refl
agree true true deep y false h k = refl
agree true false deep y f h k = absurd (false≢true (h refl))
agree false below true y f h k = absurd (false≢true (k refl))
agree false below false false f h k = refl
agree false below false true true h k = refl
agree false true false true false h k = refl
agree false false false true false h k = refl

same : (a : Assignment) → holds replaced a ≡ holds original a
unfolding parts
same a =
    let x_at_most : ℤ → Bool = λ c. met (at_most 1 0 c) a in
    agree (x_at_most (pos 0)) (x_at_most (pos 3)) (x_at_most (negsuc 2)) (met (at_most 2 0 (pos 1)) a) (a.flag 0)
    (looser 1 0 (pos 0) (pos 3) (omega arith) a)
    (looser 1 0 (negsuc 2) (pos 0) (omega arith) a)

pub mixed : Mixed
unfolding parts
mixed =
    record {
      reads_as = refl;
      finished = kept _ _ original refl (none_left eight refl) refl;
      simplified = firm_below_lem original eight 8 refl;
      shorter = refl;
      same = same;
    }
