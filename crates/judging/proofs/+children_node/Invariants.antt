-- What falls in the calls of `judging::node` and `judging::children`; Answers.antt says the argument.
use Prim.Native.Nat.{◌+◌, ◌*◌}
use Rattle.judging.proofs.+children_node.Given as goal

abbrev pub decreases-children : goal.decreases-children
decreases-children l = 2 * l.left + 1

abbrev pub decreases-node : goal.decreases-node
decreases-node l = 2 * l.left
