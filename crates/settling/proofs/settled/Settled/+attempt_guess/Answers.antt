-- `settling::Settled::guess` and `attempt` meet their contracts: each way out is one of Guessing.antt.
use mathlib.Core.Path.{refl}
use native.Mathlib.Omega.{arith}
use Rattle.settling.proofs.Guessing as guessing
use Rattle.settling.proofs.settled.Settled.+attempt_guess.Goals as goal

pub attempt-returns : goal.attempt-returns
attempt-returns t c =
    guessing.attempt_guessed _ _ _ _ _ _ refl refl refl refl _ (rw c.if-not-settle.false at c.settle.ensures) _ c.guess.ensures

pub guess-returns-then-self-eq0 : goal.guess-returns-then-self-eq0
guess-returns-then-self-eq0 t c =
    guessing.guess_done _ _ _ c.if-self-eq0.true (omega arith) _ _ c.bits.ensures c.numbers.ensures

pub guess-loop-init : goal.guess-loop-init
guess-loop-init t c = guessing.guess_begun _ _ _ c.if-self-eq0.false _ _ (omega arith) c.from-top.ensures (omega arith)

pub guess-returns-then-to-gt-QUESTION_ROOM : goal.guess-returns-then-to-gt-QUESTION_ROOM
guess-returns-then-to-gt-QUESTION_ROOM t c =
    guessing.guess_far _ _ _ _ _ _ c.loop.invariant (λ e. omega arith) _ c.size_at.ensures.0 c.if-to-gt-QUESTION_ROOM.true

pub guess-returns-then-spare-lt-GUESS : goal.guess-returns-then-spare-lt-GUESS
guess-returns-then-spare-lt-GUESS t c =
    guessing.guess_late _ _ _ _ _ _ c.loop.invariant c.if-spare-lt-GUESS.true

pub guess-returns-in-Some : goal.guess-returns-in-Some
guess-returns-in-Some t c =
    guessing.guess_found _ _ _ _ _ _ c.loop.invariant (λ e. omega arith) _ c.size_at.ensures.0 _ c.in-Some.ensures

pub guess-loop-preserved : goal.guess-loop-preserved
guess-loop-preserved t c =
    guessing.guess_next _ _ _ _ _ _ c.loop.invariant (λ e. omega arith) _ c.size_at.ensures.0 c.if-to-gt-QUESTION_ROOM.false _ (omega arith)
    c.in_default.ensures

pub guess-returns : goal.guess-returns
guess-returns t c = guessing.guess_over _ _ _ _ _ _ c.loop.invariant (omega arith)
