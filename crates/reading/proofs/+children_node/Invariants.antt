-- What falls in the calls of `reading::node` and `reading::children`; Answers.antt says the argument.
use Prim.Native.Nat.{◌+◌, ◌-◌, ◌*◌}
use lib.ListN.{length}
use Rattle.reading.proofs.Ways.{SoFar}
use Rattle.reading.proofs.+children_node.Given as goal

abbrev pub decreases-children : goal.decreases-children
decreases-children l = 2 * (length l.s.now - l.done.cursor.at) + 1

abbrev pub decreases-node : goal.decreases-node
decreases-node l = 2 * (length l.s.now - l.done.cursor.at)

abbrev pub invariant-children-loop-owed : goal.invariant-children-loop-owed
invariant-children-loop-owed l = SoFar l.initial.ns l.ns l.s l.k l.fn.done l.done l.owed
