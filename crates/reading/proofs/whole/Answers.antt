-- `reading::whole` meets its contract: the root is read from byte 0 into node 0, and then the bytes must end.
use Rattle.std.proofs.lemmas.Result.{err_from_is_err_and}
use Rattle.reading.proofs.Ways as ways
use Rattle.reading.proofs.whole.Goals as goal

pub returns-in_err-whole : goal.returns-in_err-whole
returns-in_err-whole c =
    let p = err_from_is_err_and c.from_residual.result c.from_residual.ensures.1 in rw (p.1, p.2) (ways.whole_stops _ _ _ _ c.in_err-whole.ensures)

pub returns-then-at-s : goal.returns-then-at-s
returns-then-at-s c = ways.whole_after _ _ _ _ c.in_ok-whole.ensures c.if-at-s.true

pub returns : goal.returns
returns c = ways.whole_read _ _ _ _ c.in_ok-whole.ensures c.if-at-s.false
