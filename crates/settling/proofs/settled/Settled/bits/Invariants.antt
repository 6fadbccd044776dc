-- What the loop of `settling::Settled::bits` keeps; Answers.antt says the argument.
use Rattle.settling.proofs.Showing as showing
use Rattle.settling.proofs.settled.Settled.bits.Given as goal

abbrev pub invariant-loop-p : goal.invariant-loop-p
invariant-loop-p l = showing.Made l.self.flags l.r l.p
