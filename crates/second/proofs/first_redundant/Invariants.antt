-- `second::first_redundant` is safe: no more ends than nodes passed.
use Rattle.std.proofs.Common.{◌≤◌}
use Rattle.second.proofs.first_redundant.Given as goal

abbrev pub invariant-loop-i : goal.invariant-loop-i
invariant-loop-i l = l.end ≤ l.i
