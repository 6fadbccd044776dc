-- `settling::Settled::bits` meets its contract: from the highest boolean down (Showing.antt).
use Rattle.settling.proofs.Showing as showing
use Rattle.settling.proofs.settled.Settled.bits.Goals as goal

pub loop-p-preserved : goal.loop-p-preserved
loop-p-preserved c =
    rw c.from.ensures (showing.made_more _ _ _ _ c.loop-p.invariant c.loop-p-test.true c.unwrap_or.ensures)
