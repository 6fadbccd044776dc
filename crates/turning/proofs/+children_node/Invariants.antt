-- What the loop of `turning::children` keeps, and what falls in the calls of `turning::node` and `turning::children`: the nodes that are left.
use Rattle.std.proofs.Common.{◌+◌, ◌*◌}
use Rattle.nodes.specs.Memory.{node_at}
use Rattle.judging.specs.Assigned.{assignment_of}
use Rattle.turning.proofs.Walk.{Walked}
use Rattle.turning.proofs.+children_node.Given as goal

abbrev pub decreases-children : goal.decreases-children
decreases-children l = 2 * l.left + 1

abbrev pub decreases-node : goal.decreases-node
decreases-node l = 2 * l.left

abbrev pub invariant-children-loop : goal.invariant-children-loop
invariant-children-loop l =
    Walked (node_at l.ns) l.left l.all l.k (assignment_of l.a) (node_at l.younger) l.unspent l.counter l.value l.ends l.marks
