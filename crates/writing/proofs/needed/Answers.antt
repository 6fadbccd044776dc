-- `writing::needed` meets its contract: the loop's laws stand in Total.antt.
use Rattle.std.proofs.Common.{arith}
use Rattle.writing.proofs.Total.{one_more, none_yet, all_counted}
use Rattle.writing.proofs.needed.Goals as goal

pub loop-i-init : goal.loop-i-init
loop-i-init c = (omega arith, none_yet _)

pub loop-i-preserved : goal.loop-i-preserved
loop-i-preserved c =
    (omega arith, one_more _ _ _ c.loop-i.invariant.1 c.node_at.ensures c.own_length-sum.ensures.0)

pub returns : goal.returns
returns c =
    all_counted _ _ c.loop-i.invariant.1 c.loop-i.auto.i-end c.loop-i-test.false c.min-i-end.ensures c.size_at.ensures.0
