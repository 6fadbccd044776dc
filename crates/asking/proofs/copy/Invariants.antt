-- What the loop of `asking::copy` keeps: the nodes passed are copied.
use Prim.Native.Nat.{ℕ, ◌<◌}
use mathlib.Core.Path.{◌≡◌}
use Rattle.nodes.specs.Memory.{node_at}
use Rattle.asking.proofs.copy.Given as goal

abbrev pub invariant-loop-k : goal.invariant-loop-k
invariant-loop-k l = (x : ℕ) → x < l.k → node_at l.out x ≡ node_at l.ns x
