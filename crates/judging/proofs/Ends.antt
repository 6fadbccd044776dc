-- An end under the assignment that flags and numbers give. A bit past the last is 0, as the flags are below the power that would
-- divide them; name 0 is 0, and any other name is found one place lower; a negated end is the negation of the end.
use Rattle.std.proofs.Common.{ℕ, zero, suc, ◌-◌, ◌/◌, ◌^◌, ◌<◌, ◌≡◌, List, Bool, true, false, not, cond, refl, get_or, arith, ℤ, pos}
use Rattle.std.proofs.Math.Nat.{lt_of_lt_of_le, div-eq_of_lt}
use Rattle.std.proofs.Math.Pow.{pow_mono}
use Rattle.condition.specs.Meaning.{Assignment, value, is, at_most, met, given}
use Rattle.nodes.specs.Laid.{shifted, flag_end, bound_end}

-- boolean p past the last
pub no_bit : (flags p : ℕ) → flags < 2 ^ 32 → 31 < p → flags / 2 ^ p ≡ 0
no_bit flags p f h = div-eq_of_lt (lt_of_lt_of_le f (pow_mono {i = 32} {j = p} (omega arith)))

-- number x
pub number_zero : (a : Assignment) (x : ℕ) → x ≡ 0 → value a x ≡ pos 0
unfolding value
number_zero a zero e = refl
number_zero a (suc x) e = absurd (omega arith)

pub number_placed : (flags : ℕ) (numbers : List ℤ) (x : ℕ) → (x ≡ 0 → ⊥) → value (given flags numbers) x ≡ get_or numbers (x - 1) (pos 0)
unfolding value given
number_placed flags numbers zero e = absurd (e refl)
number_placed flags numbers (suc x) e = refl

-- the negation of an end
pub flag_turned : (a : Assignment) (so : Bool) (p : ℕ) → cond so (met (is p) a) (not (met (is p) a)) ≡ met (flag_end so p) a
unfolding met
flag_turned a true p = refl
flag_turned a false p = refl

pub bound_turned : (a : Assignment) (so : Bool) (x y w : ℕ)
    → cond so (met (at_most x y (shifted w)) a) (not (met (at_most x y (shifted w)) a)) ≡ met (bound_end so x y w) a
unfolding met
bound_turned a true x y w = refl
bound_turned a false x y w = refl
