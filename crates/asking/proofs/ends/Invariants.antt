-- What the loop of `asking::ends` keeps: the ends of the nodes passed are counted.
use mathlib.Core.Path.{◌≡◌}
use Rattle.nodes.specs.Memory.{node_at}
use Rattle.asking.specs.Asked.{ends_from}
use Rattle.asking.proofs.ends.Given as goal

abbrev pub invariant-loop-k : goal.invariant-loop-k
invariant-loop-k l = l.e ≡ ends_from (node_at l.ns) 0 l.k
