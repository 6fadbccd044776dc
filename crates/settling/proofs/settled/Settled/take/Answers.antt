-- `settling::Settled::take` meets its contract: each kind of node is one of Taking.antt.
use mathlib.Core.Path.{sym, ap, ◌∙◌}
use Rattle.nodes.specs.declared.Node.TheVariants.{Join}
use Rattle.settling.proofs.Taking as taking
use Rattle.settling.proofs.settled.Settled.take.Goals as goal

pub returns-in-Plain : goal.returns-in-Plain
returns-in-Plain c = taking.take_plain _ _ _ _ _ (sym c.node_at.ensures ∙ c.in-Plain.is) c.then_some.ensures

pub returns-in-Flag : goal.returns-in-Flag
returns-in-Flag c =
    taking.take_flag _ _ _ _ _ _ _ _ (sym c.node_at.ensures ∙ c.in-Flag.is) c.mark.ensures c.then_some-in-Flag.ensures

pub returns-in-Bound : goal.returns-in-Bound
returns-in-Bound c =
    taking.take_bound _ _ _ _ _ _ _ _ _ _ (sym c.node_at.ensures ∙ c.in-Bound.is) c.bound.ensures c.then_some-in-Bound.ensures

pub returns-in-Join-true-default-default : goal.returns-in-Join-true-default-default
returns-in-Join-true-default-default c =
    let j = c.in-Join-true-default-default in
    taking.take_and _ _ _ _ _ (sym c.node_at.ensures ∙ j.is ∙ ap (λ b. Join b j.field-1 j.field-2) j.field-0-test)

pub returns-in-Join-false-default-default : goal.returns-in-Join-false-default-default
returns-in-Join-false-default-default c =
    let j = c.in-Join-false-default-default in
    taking.take_or _ _ _ _ _ _ _ _ (sym c.node_at.ensures ∙ j.is ∙ ap (λ b. Join b j.field-1 j.below) j.field-0-test) c.wait.ensures
    c.then_some-in-Join-false-default-default.ensures
