-- `sweeping::sweep` meets its contract: each turn of the loop is a step of the definition's machine (Stages.antt).
use mathlib.Core.Path.{refl}
use mathlib.Core.Logic.{inl, inr}
use native.Mathlib.Omega.{arith}
use Rattle.sweeping.proofs.Stages.{begins, goes_on, cuts, ended}
use Rattle.sweeping.proofs.sweep.Goals as goal
use Rattle.sweeping.proofs.sweep.Goals.{then-loop-swept-test+else-q-end, else-loop-swept-test}

pub loop-swept-init : goal.loop-swept-init
loop-swept-init c =
    begins c.live-end.ensures refl c.none-kept.ensures (omega arith) c.fold-end.ensures

pub loop-swept-preserved-then-yes : goal.loop-swept-preserved-then-yes
loop-swept-preserved-then-yes c =
    cuts c.live-end-then-yes.ensures refl c.another_tree.ensures c.loop-swept.invariant c.loop-swept-test.true c.if-q-end.true
    c.answer-yes.ensures c.if-yes.true (omega arith) c.fold.ensures

pub loop-swept-preserved : goal.loop-swept-preserved
loop-swept-preserved c =
    goes_on c.loop-swept.invariant c.loop-swept-test.true c.if-q-end.true c.answer-yes.ensures c.if-yes.false

pub returns : goal.returns
returns c =
    elim c.loop-swept-test.branch [
      | then-loop-swept-test+else-q-end w ↦ ended c.loop-swept.invariant (inr w.if-q-end.false)
      | else-loop-swept-test w ↦ ended c.loop-swept.invariant (inl w.loop-swept-test.false)
    ]
