-- `keeping::learn` meets its contract: the marks of the walk, noted (Knowing.antt).
use mathlib.Core.Path.{refl}
use Rattle.keeping.proofs.Knowing.{learned}
use Rattle.keeping.proofs.learn.Goals as goal

pub returns : goal.returns
returns c =
    learned refl c.turn-ends.ensures c.note.ensures
