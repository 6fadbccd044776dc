-- What the loop of `settling::Settled::numbers` keeps: the numbers before i are written.
use Prim.Native.Nat.{ℕ, suc, ◌<◌}
use mathlib.Core.Path.{◌≡◌}
use mathlib.Core.Bool.{Bool}
use lib.IntN.{pos}
use lib.ListN.{length, get_or}
use Rattle.condition.specs.Limits.{last_number}
use Rattle.condition.specs.Meaning.{value}
use Rattle.differences.specs.Distances.{distances}
use Rattle.differences.specs.Table.{tightest}
use Rattle.settling.proofs.settled.Settled.numbers.Given as goal

abbrev pub invariant-loop-i : goal.invariant-loop-i
invariant-loop-i l = (length l.number-items ≡ last_number)
    × ((x : ℕ) → x < l.i → (f : ℕ → Bool) → get_or l.number-items x (pos 0) ≡ value (tightest f (distances l.self.table)) (suc x))
