-- `differences::Table::start` meets its contract: each turn makes the entries of one number (Starts.antt).
use Rattle.differences.proofs.Starts.{begun_none, starts}
use Rattle.differences.proofs.Table.start.Goals as goal

pub loop-i-init : goal.loop-i-init
loop-i-init c = begun_none

pub returns : goal.returns
returns c = starts _ _ c.loop-i.invariant c.loop-i-test.false
