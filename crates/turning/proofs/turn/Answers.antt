-- `turning::turn` meets its contract: the walk begins at node 0 and at the first mark.
use Rattle.std.proofs.Common.{arith}
use Rattle.turning.proofs.Walk as walk
use Rattle.turning.proofs.turn.Goals as goal

pub returns-then-min-n : goal.returns-then-min-n
returns-then-min-n c = walk.no_room c.size_at-n.ensures.0 (λ few room. omega (arith, c.min.ensures))

pub returns : goal.returns
returns c = walk.told c.size_at-n.ensures.0 (omega (arith, c.min.ensures)) c.node.auto.marks c.node.ensures
