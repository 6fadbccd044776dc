-- A bound as it is written and as a node keeps it: 1,000,000 + w / 2 for an even w, 999,999 - w / 2 for an odd one.
use Prim.Native.Nat.{ℕ, ◌+◌, ◌-◌, ◌*◌, ◌/◌, ◌%◌, suc, ◌≤◌, ◌<◌}
use mathlib.Core.Path.{◌≡◌, ap}
use native.Mathlib.Omega.{arith}
use lib.IntN.{pos, negsuc}
use borrow.Author.Tests.{lt-ltb, le-ltb, eq-eqb, ne_eqb}
use Rattle.condition.specs.Limits.{largest_bound}
use Rattle.condition.specs.Reading.{bound_of}
use Rattle.nodes.specs.Laid.{shifted}

pub even : (w : ℕ) → w % 2 ≡ 0 → shifted (largest_bound + w / 2) ≡ bound_of w
even w h =
    let l : largest_bound ≤ largest_bound + w / 2 = omega arith in
    simp (le-ltb _ _ l, eq-eqb _ _ h) (ap pos (omega arith))

-- the distance below 1,000,000, less one
below : (w : ℕ) → w % 2 < 2 → (w % 2 ≡ 0 → ⊥) → w ≤ 2 * largest_bound → largest_bound - suc (largest_bound - 1 - w / 2) ≡ w / 2
below w m h r = omega arith

pub odd : (w : ℕ) → (w % 2 ≡ 0 → ⊥) → w ≤ 2 * largest_bound → shifted (largest_bound - 1 - w / 2) ≡ bound_of w
odd w h r = simp (lt-ltb (largest_bound - 1 - w / 2) largest_bound (omega arith), ne_eqb _ _ h) (ap negsuc (below w (omega arith) h r))
