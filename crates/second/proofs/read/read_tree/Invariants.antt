-- `second::read::read_tree` is safe and ends: each node asks for at most one end more. The measure is how much room is left.
use Rattle.std.proofs.Common.{◌+◌, ◌-◌, ◌≤◌}
use Rattle.second.specs.declared.read.TheConstants.{MOST_NODES}
use Rattle.second.proofs.read.read_tree.Given as goal

abbrev pub invariant-loop-owed : goal.invariant-loop-owed
invariant-loop-owed l = (l.owed ≤ l.size + 1) × (l.size ≤ MOST_NODES)

abbrev pub decreases-loop-owed : goal.decreases-loop-owed
decreases-loop-owed l = MOST_NODES - l.size
