-- What falls in the calls of `writing::put`.
use Rattle.writing.proofs.+put.Given as goal

abbrev pub decreases-put : goal.decreases-put
decreases-put l = l.groups
