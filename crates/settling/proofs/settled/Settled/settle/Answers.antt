-- `settling::Settled::settle` meets its contract: each turn takes a node (Taking.antt), and the nodes left fall.
use Rattle.settling.proofs.Taking as taking
use Rattle.settling.proofs.settled.Settled.settle.Goals as goal

pub returns-in_default : goal.returns-in_default
returns-in_default c = taking.settle_stops _ _ _ _ _ _ c.loop-i.invariant c.loop-i-test.true _ c.in_default.ensures

pub loop-i-preserved : goal.loop-i-preserved
loop-i-preserved c = taking.progress_more _ _ _ _ _ _ c.loop-i.invariant c.loop-i-test.true _ _ c.in-Some.ensures
