-- What the loop of `differences::lower_row` keeps: the row is lowered up to column j, and row y, which is another, is as it was.
use Prim.Native.Nat.{◌+◌, ◌*◌, ◌≤◌}
use Rattle.differences.specs.Table.{numbers}
use Rattle.differences.specs.Rows.{Part, lowered}
use Rattle.differences.proofs.lower_row.Given as goal

abbrev pub invariant-loop-j : goal.invariant-loop-j
invariant-loop-j l = (l.j ≤ numbers) × Part (l.i * numbers) (l.i * numbers + l.j) (lowered l.initial.t l.y l.left) l.initial.t l.t
