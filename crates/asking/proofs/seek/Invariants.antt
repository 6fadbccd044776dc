-- What the loop of `asking::seek` keeps, and what falls; Answers.antt says the argument.
use Prim.Native.Nat.{◌-◌}
use Rattle.nodes.specs.Memory.{node_at}
use Rattle.asking.proofs.Seeking.{Seeking}
use Rattle.asking.proofs.seek.Given as goal

abbrev pub invariant-loop-at : goal.invariant-loop-at
invariant-loop-at l = Seeking (node_at l.ns) l.n l.m l.at l.end

abbrev pub decreases-loop-at : goal.decreases-loop-at
decreases-loop-at l = l.n - l.at
