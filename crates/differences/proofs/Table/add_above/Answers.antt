-- `differences::Table::add_above` meets its contract: the negation is the bound the other way round, less one.
use Prim.Native.Nat.{◌+◌, ◌-◌}
use native.Mathlib.Omega.{arith}
use Rattle.condition.specs.Limits.{largest_bound}
use Rattle.differences.specs.Table.{offset}
use Rattle.differences.proofs.Bounds.{adds_negated}
use Rattle.differences.proofs.Table.add_above.Goals as goal

pub returns : goal.returns
returns c =
    adds_negated _ _ (offset + largest_bound - 1 - c.args.c) offset c.args.c largest_bound c.work_in.ensures (omega (arith, c.requires.1))
