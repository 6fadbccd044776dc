-- `differences::Table::number` meets its contract: neither number leaves its type, so the machine's are the whole numbers.
use native.Mathlib.Nat.{add-zero}
use native.Mathlib.Omega.{arith}
use Rattle.std.proofs.lemmas.Int.{ints}
use Rattle.differences.proofs.Shown.{shown}
use Rattle.differences.proofs.Table.number.Goals as goal

pub returns : goal.returns
returns c =
    let closed = c.args.self.now.closed in
    let high = closed.high c.args.i c.requires in
    shown closed _ c.requires _ (omega (arith, ints, rw add-zero at high))
