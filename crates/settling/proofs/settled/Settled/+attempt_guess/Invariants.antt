-- What falls in the calls of `settling::Settled::guess` and `attempt`, and what the loop of `guess` keeps; Answers.antt says the argument.
use Prim.Native.Nat.{◌+◌, ◌-◌, ◌*◌}
use Rattle.nodes.specs.Memory.{node_at}
use Rattle.settling.proofs.Guessing as guessing
use Rattle.settling.proofs.settled.Settled.+attempt_guess.Given as goal

abbrev pub decreases-attempt : goal.decreases-attempt
decreases-attempt l = 2 * l.left + 1

abbrev pub decreases-guess : goal.decreases-guess
decreases-guess l = 2 * l.left

abbrev pub invariant-guess-loop : goal.invariant-guess-loop
invariant-guess-loop l = guessing.Left (node_at l.ns) l.self l.left l.spare l.from (l.end - l.counter)
