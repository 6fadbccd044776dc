-- `writing::put_each` meets its contract: a turn is a law of Room.antt.
use Rattle.std.proofs.Common.{refl}
use Rattle.writing.proofs.Room.{one_more}
use Rattle.writing.proofs.put_each.Goals as goal

pub loop-n-preserved : goal.loop-n-preserved
loop-n-preserved c =
    one_more c.args.numbers.now _ _ c.loop-n-test.true refl c.loop-n.auto.out refl c.loop-n.invariant c.put-at.ensures
