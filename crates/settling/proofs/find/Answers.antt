-- `settling::find` meets its contract: the whole tree is settled, then guessed at (Guessing.antt).
use native.Mathlib.Omega.{arith}
use Rattle.settling.proofs.Guessing as guessing
use Rattle.settling.proofs.find.Goals as goal

pub returns-then-n-gt-QUESTION_ROOM : goal.returns-then-n-gt-QUESTION_ROOM
returns-then-n-gt-QUESTION_ROOM c = guessing.find_none _ (λ few. omega arith)

pub returns-then-not-settle : goal.returns-then-not-settle
returns-then-not-settle c =
    guessing.find_stopped _ _ c.nothing-known.ensures _ c.size_at-n.ensures.0 _ (rw c.if-not-settle.true at c.settle.ensures)

pub returns : goal.returns
returns c =
    guessing.find_guessed _ _ c.nothing-known.ensures _ c.size_at-n.ensures.0 _ (rw c.if-not-settle.false at c.settle.ensures)
    _ _ (omega arith) c.guess.ensures
