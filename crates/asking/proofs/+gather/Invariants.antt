-- What falls in the calls of `asking::gather`; Answers.antt says the argument.
use Rattle.asking.proofs.+gather.Given as goal

abbrev pub decreases-gather : goal.decreases-gather
decreases-gather l = l.depth
