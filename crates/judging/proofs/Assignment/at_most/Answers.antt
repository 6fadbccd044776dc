-- `judging::Assignment::at_most` meets its contract: the difference of two numbers of 32 bits fits an i64.
use Rattle.std.proofs.Common.{arith}
use Rattle.std.proofs.lemmas.Int.{ints}
use Rattle.condition.specs.Meaning.{met}
use Rattle.judging.proofs.Assignment.at_most.Goals as goal

pub returns : goal.returns
unfolding met
returns c = grind (arith, ints)
