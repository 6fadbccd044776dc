-- What falls in the calls of `writing::node` and `writing::children`; Answers.antt says the argument.
use Prim.Native.Nat.{◌+◌, ◌*◌}
use Rattle.writing.proofs.+children_node.Given as goal

abbrev pub decreases-children : goal.decreases-children
decreases-children l = 2 * l.left + 1

abbrev pub decreases-node : goal.decreases-node
decreases-node l = 2 * l.left
