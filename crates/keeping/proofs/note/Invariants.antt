-- What the loop of `keeping::note` keeps.
use Rattle.keeping.specs.Kept.{Notes}
use Rattle.keeping.proofs.note.Given as goal

abbrev pub invariant-loop-end : goal.invariant-loop-end
invariant-loop-end l = Notes l.marks l.initial.known l.known
