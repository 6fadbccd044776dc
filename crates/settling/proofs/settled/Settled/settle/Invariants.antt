-- What the loop of `settling::Settled::settle` keeps, and what falls; Answers.antt says the argument.
use Prim.Native.Nat.{◌-◌}
use Rattle.nodes.specs.Memory.{node_at}
use Rattle.settling.proofs.Taking as taking
use Rattle.settling.proofs.settled.Settled.settle.Given as goal

abbrev pub invariant-loop-i : goal.invariant-loop-i
invariant-loop-i l = taking.Progress (node_at l.ns) l.from l.to l.initial.self l.i l.self

abbrev pub decreases-loop-i : goal.decreases-loop-i
decreases-loop-i l = l.to - l.i
