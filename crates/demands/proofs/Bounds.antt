-- What one bound says of another, over all whole numbers: each is read as an order of natural numbers (`at_most_lem`).
use Prim.Native.Nat.{ℕ, ◌+◌, ◌≤◌}
use mathlib.Core.Path.{◌≡◌, sym, ◌∙◌}
use mathlib.Core.Bool.{true}
use native.Mathlib.Omega.{arith}
use lib.IntN.{ℤ, pos, negsuc}
use Rattle.condition.specs.Meaning.{Assignment, at_most, above, met}
use Rattle.condition.proofs.Negation.{up, down, above_is}
use Rattle.condition.proofs.Small.{at_most_lem}

-- x - y <= c gives x - y <= d, where c <= d
pub looser : (x y : ℕ) (c d : ℤ) → up c + down d ≤ up d + down c → (a : Assignment) →
    met (at_most x y c) a ≡ true → met (at_most x y d) a ≡ true
looser x y c d h a m = (at_most_lem x y d a).1 (omega (arith, (at_most_lem x y c a).0 m))

-- "x - x <= c is true exactly if c >= 0": for c = n, and not for c = -n - 1
pub itself : (x n : ℕ) (a : Assignment) → met (at_most x x (pos n)) a ≡ true
itself x n a = (at_most_lem x x (pos n) a).1 (omega arith)

pub not_below_itself : (x n : ℕ) (a : Assignment) → met (at_most x x (negsuc n)) a ≡ true → ⊥
not_below_itself x n a m = omega (arith, (at_most_lem x x (negsuc n) a).0 m)

-- not both x - y > 3 and x - y < 4
pub none_between : (x y : ℕ) (a : Assignment) → met (above x y (pos 3)) a ≡ true → met (above y x (negsuc 3)) a ≡ true → ⊥
none_between x y a m n =
    let k = (at_most_lem y x (negsuc 3) a).0 (sym (above_is x y (pos 3) a) ∙ m) in
    let l = (at_most_lem x y (pos 3) a).0 (sym (above_is y x (negsuc 3) a) ∙ n) in
    omega arith

-- "closed chain": x - y <= 1, y - z <= 1 and z - x <= -3 sum below zero
pub chain : (x y z : ℕ) (a : Assignment) → met (at_most x y (pos 1)) a ≡ true → met (at_most y z (pos 1)) a ≡ true →
    met (at_most z x (negsuc 2)) a ≡ true → ⊥
chain x y z a l m n = omega (arith, (at_most_lem x y (pos 1) a).0 l, (at_most_lem y z (pos 1) a).0 m, (at_most_lem z x (negsuc 2) a).0 n)
