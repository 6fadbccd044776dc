-- The bits that are shown are made from the highest down, each time twice those so far and one more (condition's Given).
use Prim.Native.Nat.{ℕ, suc, ◌+◌, ◌-◌, ◌*◌, ◌/◌, ◌%◌, ◌^◌, ◌≤◌, ◌<◌}
use mathlib.Core.Path.{◌≡◌, refl, sym, ap, ◌∙◌}
use mathlib.Core.List.{List}
use mathlib.Core.Bool.{Bool, true, false}
use native.Mathlib.Omega.{arith}
use native.Mathlib.Nat.{pow-succ'}
use native.Mathlib.Decide.{ℕ_discrete}
use lib.Dec.{eqb}
use lib.ListN.{get_or}
use mir.Val.{bool_byte}
use Rattle.std.specs.Prelude.{Option, None}
use Rattle.std.specs.Option.{unwrap_or}
use Rattle.condition.specs.Limits.{last_boolean}
use Rattle.condition.proofs.Given.{lowest, higher}

abbrev pub said : List (Option Bool) → ℕ → Bool
said b q = unwrap_or (get_or b q None) false

-- those of booleans p and above are made
pub record Made (b : List (Option Bool)) (r p : ℕ) : Type 0 where
  pub few : p ≤ 32
  pub small : r < 2 ^ (32 - p)
  pub each : (q : ℕ) → p ≤ q → q ≤ last_boolean → eqb (r / 2 ^ (q - p) % 2) 1 ≡ said b q

pub made_more : (b : List (Option Bool)) (r p : ℕ) (v : Bool) → Made b r p → 0 < p → v ≡ said b (p - 1) →
    Made b (2 * r + bool_byte v) (p - 1)
made_more b r p v m h e = record {
  few = omega (arith, m.few);
  small = rw (ap (λ k. 2 ^ k) longer ∙ pow-succ' 2 (32 - p)) (omega (arith, m.small, two v));
  each = λ q l hq. elim (ℕ_discrete q (p - 1)) [
    | yes same ↦ ap (λ x. eqb x 1) (lowest r (bool_byte v) (q - (p - 1)) (omega arith) (two v)) ∙ bit v ∙ e ∙ ap (said b) (sym same)
    | no ne ↦ ap (λ k. eqb ((2 * r + bool_byte v) / 2 ^ k % 2) 1) (further q l ne)
        ∙ ap (λ x. eqb (x % 2) 1) (higher r (bool_byte v) (q - p) (two v)) ∙ m.each q (omega arith) hq
  ];
}
  where
    two : (v : Bool) → bool_byte v < 2
    two true = omega arith
    two false = omega arith

    bit : (v : Bool) → eqb (bool_byte v) 1 ≡ v
    bit true = refl
    bit false = refl

    longer : 32 - (p - 1) ≡ suc (32 - p)
    longer = omega (arith, m.few)

    further : (q : ℕ) → p - 1 ≤ q → (q ≡ p - 1 → ⊥) → q - (p - 1) ≡ suc (q - p)
    further q l ne = omega arith
