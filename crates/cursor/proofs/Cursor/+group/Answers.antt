-- `Cursor::group` meets its contract: each way out is an equation of `number_from` (Groups.antt); the groups left fall.
use mathlib.Core.Path.{sym}
use native.Mathlib.Omega.{arith}
use Rattle.cursor.proofs.Groups as ways
use Rattle.cursor.proofs.Cursor.+group.Goals as goal

pub overflow_mul-result : goal.overflow_mul-result
overflow_mul-result t c =
    let h = ways.small_fits _ _ (omega (arith, c.requires)) c.in_ok-n.ensures.1 in omega arith

pub overflow_add-result : goal.overflow_add-result
overflow_add-result t c =
    let h = ways.small_fits _ _ (omega (arith, c.requires)) c.in_ok-n.ensures.1 in omega (arith, c.type_inv.s c.args.self.at)

pub returns : goal.returns
returns t c = (
  ways.last_group _ _ _ _ c.if-left-eq0.false _ c.if-s-at.false c.from-b.ensures c.if-b-ge-GROUP_SIZE.false (sym c.if-padded.ensures),
  ways.small_last _ _ c.if-left-eq0.false c.if-b-ge-GROUP_SIZE.false,
)
