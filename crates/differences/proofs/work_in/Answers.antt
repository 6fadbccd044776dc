-- `differences::work_in` meets its contract. The loop's invariant: the rows before i are lowered, all others are as they were.
use native.Mathlib.Omega.{arith}
use Rattle.differences.proofs.Lowered.{refuses, nothing_new, adds}
use Rattle.differences.proofs.Rows.{lowers, row_lowered, row_left, rows_added}
use Rattle.differences.proofs.work_in.Goals as goal
use Rattle.differences.proofs.work_in.Goals.{then-left-t, else-left-t}

pub returns-then-t-y : goal.returns-then-t-y
returns-then-t-y c =
    refuses c.requires.0 c.args.c (omega arith)

pub returns-then-t-x : goal.returns-then-t-x
returns-then-t-x c =
    adds c.requires.0 c.args.c (omega arith) (nothing_new c.requires.0 c.args.c (omega arith))

pub lower_row-requires : goal.lower_row-requires
lower_row-requires c =
    lowers c.loop-i.invariant (omega arith) (omega arith)

pub loop-i-preserved : goal.loop-i-preserved
loop-i-preserved c =
    elim c.if-left-t.branch [
      | then-left-t w ↦ rw w.t-is (row_lowered c.loop-i.invariant (omega arith) w.lower_row.ensures)
      | else-left-t w ↦ rw w.t-is (row_left c.loop-i.invariant (omega arith) (omega arith))
    ]

pub returns : goal.returns
returns c = rows_added c.loop-i.invariant (omega arith)
