-- `travelring::judge` meets its contract: numbers of another length, a refusal of the reading, or the value of the tree read.
use Rattle.travelring.proofs.Ways as ways
use Rattle.travelring.proofs.judge.Goals as goal

pub returns-then-numbers-ne-ASSIGNED : goal.returns-then-numbers-ne-ASSIGNED
returns-then-numbers-ne-ASSIGNED c = ways.judge_unfit _ _ _ c.if-numbers-ne-ASSIGNED.true

pub returns-in_err-answer : goal.returns-in_err-answer
returns-in_err-answer c =
    rw (ways.passed _ _ c.from_residual.ensures)
    (ways.judge_refuses _ _ _ c.if-numbers-ne-ASSIGNED.false _ _ c.read-answer.ensures _ c.in_err-answer.was)

pub returns : goal.returns
returns c = ways.judge_values _ _ _ c.if-numbers-ne-ASSIGNED.false _ _ c.read-answer.ensures _ _ c.in_ok-answer.was c.judge.ensures
