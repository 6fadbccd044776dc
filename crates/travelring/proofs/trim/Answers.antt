-- `travelring::trim` meets its contract: a refusal of the reading, a result longer than the output, or the sweep's end.
use mathlib.Core.Path.{refl}
use Rattle.travelring.proofs.Ways.{passed}
use Rattle.travelring.proofs.Trims as ways
use Rattle.travelring.proofs.trim.Goals as goal

pub returns-in_err-answer : goal.returns-in_err-answer
returns-in_err-answer c = rw (passed _ _ c.from_residual.ensures) (ways.trim_refuses _ _ _ _ _ c.read-answer.ensures _ c.in_err-answer.was)

pub returns-then-room-bytes : goal.returns-then-room-bytes
returns-then-room-bytes c =
    ways.trim_long _ _ _ _ _ c.read-answer.ensures (λ i. (c.type_inv.tree i).fits) _ c.in_ok-answer.was
    _ _ _ c.sweep-swept.ensures _ _ c.write-bytes.ensures c.if-room-bytes.true

pub returns : goal.returns
returns c =
    ways.trim_ends _ _ _ _ _ c.read-answer.ensures (λ i. (c.type_inv.tree i).fits) _ c.in_ok-answer.was
    _ _ _ c.sweep-swept.ensures _ _ c.write-bytes.ensures c.if-room-bytes.false _ c.live-ends.ensures
    _ refl refl refl refl
