-- `second::trial::Trial::some` is safe and ends: the measure is `left`, which is not 0 at either call and one less there.
use Rattle.second.proofs.trial.Trial.+some.Given as goal

abbrev pub decreases-some : goal.decreases-some
decreases-some l = l.left
