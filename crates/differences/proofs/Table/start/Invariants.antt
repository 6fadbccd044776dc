-- What the loop of `differences::Table::start` keeps; Answers.antt says the argument.
use Rattle.differences.proofs.Starts.{Begun}
use Rattle.differences.proofs.Table.start.Given as goal

abbrev pub invariant-loop-i : goal.invariant-loop-i
invariant-loop-i l = Begun l.t l.i
