-- What the loop of `keeping::recall` keeps.
use Rattle.nodes.specs.Memory.{node_at}
use Rattle.keeping.specs.Kept.{Learns}
use Rattle.keeping.proofs.recall.Given as goal

abbrev pub invariant-loop-k : goal.invariant-loop-k
invariant-loop-k l = Learns (node_at l.ns) l.initial.known l.known
