-- What the loop of `sweeping::sweep` keeps, and what falls; Answers.antt says the argument.
use Prim.Native.Nat.{◌-◌}
use Rattle.nodes.specs.Memory.{node_at}
use Rattle.sweeping.proofs.Stages.{Goes}
use Rattle.sweeping.proofs.sweep.Given as goal

abbrev pub invariant-loop-swept : goal.invariant-loop-swept
invariant-loop-swept l =
    Goes (node_at l.ns) l.ration l.swept.tree l.end l.kept.known l.q l.swept.asked

abbrev pub decreases-loop-swept : goal.decreases-loop-swept
decreases-loop-swept l =
    l.ration - l.swept.asked
