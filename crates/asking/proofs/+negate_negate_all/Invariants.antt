-- What the loop of `asking::negate_all` keeps, and what falls; Answers.antt says the argument.
use Prim.Native.Nat.{◌+◌, ◌-◌, ◌*◌}
use lib.ListN.{length}
use Rattle.nodes.specs.Memory.{node_at}
use Rattle.asking.proofs.Negating.{Negated}
use Rattle.asking.proofs.+negate_negate_all.Given as goal

abbrev pub decreases-negate : goal.decreases-negate
decreases-negate l = 2 * l.depth

abbrev pub decreases-negate_all : goal.decreases-negate_all
decreases-negate_all l = 2 * l.depth + 1

abbrev pub invariant-negate_all-loop-k : goal.invariant-negate_all-loop-k
invariant-negate_all-loop-k l = Negated (node_at l.ns) (length l.initial.out) l.depth l.k (node_at l.out)

abbrev pub decreases-negate_all-loop-k : goal.decreases-negate_all-loop-k
decreases-negate_all-loop-k l = length l.initial.out - l.k
