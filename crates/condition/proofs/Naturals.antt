-- A number that is not 0 is a successor: what code has as n and n - 1 is what a definition has as suc n and n.
use Prim.Native.Nat.{ℕ, zero, suc, ◌-◌}
use mathlib.Core.Path.{◌≡◌, refl}
use native.Mathlib.Omega.{arith}

pub less : (n : ℕ) → suc n - 1 ≡ n
less n = omega arith

pub positive : (P : ℕ → Type 0) (n : ℕ) → (n ≡ 0 → ⊥) → P (suc (n - 1)) → P n
positive P zero h p = absurd (h refl)
positive P (suc n) h p = rw (less n) at p
