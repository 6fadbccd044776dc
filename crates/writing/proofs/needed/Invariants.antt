-- What the loop of `writing::needed` keeps: the sum is that of the nodes passed, at most twelve bytes each.
use Rattle.std.proofs.Common.{◌≤◌, ◌*◌, ◌≡◌}
use Rattle.condition.specs.Limits.{groups}
use Rattle.nodes.specs.Memory.{node_at}
use Rattle.writing.proofs.Total.{total}
use Rattle.writing.proofs.needed.Given as goal

abbrev pub invariant-loop-i : goal.invariant-loop-i
invariant-loop-i l = (l.sum ≤ 4 * groups * l.i) × (l.sum ≡ total (node_at l.ns) 0 l.i)
