-- `answering::answer` meets its contract: what was asked and what was found give the definition's answer (Right.antt).
use mathlib.Core.Path.{refl}
use Rattle.answering.proofs.Right.{answers}
use Rattle.answering.proofs.answer.Goals as goal

pub returns : goal.returns
returns c =
    answers _ _ _ _ _ _ _ refl c.ask.ensures c.find.ensures
