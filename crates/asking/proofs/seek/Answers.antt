-- `asking::seek` meets its contract: the trees passed have the ends before the one sought (Seeking.antt).
use Rattle.asking.proofs.Seeking.{seek_none, seek_over, seek_beyond, seek_found, seek_on}
use Rattle.asking.proofs.seek.Goals as goal

pub loop-at-init : goal.loop-at-init
loop-at-init c = seek_none

pub returns-then-n-at : goal.returns-then-n-at
returns-then-n-at c = seek_beyond c.size_at-s.ensures.0 c.loop-at.invariant c.loop-at-test.true c.if-n-at.true

pub returns-then-end-e : goal.returns-then-end-e
returns-then-end-e c =
    seek_found c.size_at-s.ensures.0 c.loop-at.invariant c.loop-at-test.true _ c.rest.ensures c.if-n-at.false c.ends-e.ensures
    c.if-end-e.true c.size_at-s.ensures.1

pub loop-at-preserved : goal.loop-at-preserved
loop-at-preserved c =
    seek_on c.size_at-s.ensures.0 c.loop-at.invariant c.loop-at-test.true _ c.rest.ensures c.if-n-at.false c.ends-e.ensures c.if-end-e.false

pub returns : goal.returns
returns c = seek_over c.loop-at-test.false c.loop-at.invariant
