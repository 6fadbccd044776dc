-- `travelring::find` meets its contract: numbers of another length, a refusal of the reading, or what the search answers of the tree.
use native.Mathlib.Omega.{arith}
use Rattle.travelring.proofs.Ways as ways
use Rattle.travelring.proofs.find.Goals as goal

pub returns-in_err-answer : goal.returns-in_err-answer
returns-in_err-answer c =
    rw (ways.passed _ _ c.from_residual.ensures)
    (ways.find_refuses _ _ c.if-numbers-ne-ASSIGNED.false _ _ c.read-answer.ensures _ c.in_err-answer.was)

pub returns-in_default : goal.returns-in_default
returns-in_default c =
    ways.find_shows_none _ _ c.if-numbers-ne-ASSIGNED.false _ _ c.read-answer.ensures (λ i. (c.type_inv.tree i).fits) _ c.in_ok-answer.was
    c.in_default.ensures

pub returns : goal.returns
returns c =
    rw c.copy_from_slice.ensures.after
    (ways.find_shows _ _ c.if-numbers-ne-ASSIGNED.false _ _ c.read-answer.ensures (λ i. (c.type_inv.tree i).fits) _ c.in_ok-answer.was
    _ c.in-Some.ensures (omega arith))
