-- `second::trial::Trial::part_at` meets its contract and ends: the second part begins past the first, and each begins past the join, so the
-- measure, how much room is left, falls at both calls.
use Rattle.std.proofs.Common.{◌-◌}
use Rattle.second.specs.declared.trial.TheConstants.{BOTH}
use Rattle.second.proofs.trial.Trial.+part_at.Given as goal

abbrev pub decreases-part_at : goal.decreases-part_at
decreases-part_at l = BOTH - l.i
