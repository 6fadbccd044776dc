-- What the loop of `differences::work_in` keeps; Answers.antt says the argument.
use Rattle.differences.proofs.Rows.{LoweredTo}
use Rattle.differences.proofs.work_in.Given as goal

abbrev pub invariant-loop-i : goal.invariant-loop-i
invariant-loop-i l = LoweredTo l.i l.initial.t l.x l.y l.c l.t
