-- `asking::gather` meets its contract; the connectives that may still nest fall. Each way out is a law of Gathering.antt.
use Prim.Native.Nat.{◌-◌}
use mathlib.Core.Path.{◌≡◌, refl, sym, ap, ◌∙◌}
use native.Mathlib.Omega.{arith}
use lib.ListN.{length, take, length-take, length-drop, length-append}
use Rattle.nodes.proofs.Memory.{put_here}
use Rattle.asking.specs.Asked.{turned}
use Rattle.asking.proofs.Gathering as ways
use Rattle.asking.proofs.+gather.Goals as goal

pub returns-in_err-c-in-Join : goal.returns-in_err-c-in-Join
returns-in_err-c-in-Join t c =
    ways.nothing _ _ _ _ _ _ c.from_residual.ensures
    (ways.not_among _ _ _ _ _ _ _ (sym c.node_at.ensures ∙ c.in-Join.is) _ c.rest-below.ensures _ refl c.in_err-c-in-Join.ensures)

pub returns-in_err-trees-in-Join : goal.returns-in_err-trees-in-Join
returns-in_err-trees-in-Join t c =
    ways.nothing _ _ _ _ _ _ c.from_residual-in_err-trees-in-Join.ensures
    (ways.no_child _ _ _ _ _ _ _ (sym c.node_at.ensures ∙ c.in-Join.is) _ c.rest-below.ensures c.in_err-trees-in-Join.ensures)

pub returns-in_err-deep-in-Join : goal.returns-in_err-deep-in-Join
returns-in_err-deep-in-Join t c =
    ways.nothing _ _ _ _ _ _ c.from_residual-in_err-deep-in-Join.ensures
    (ways.too_deep _ _ _ _ _ _ _ (sym c.node_at.ensures ∙ c.in-Join.is) _ c.rest-below.ensures c.in_err-deep-in-Join.ensures)

pub returns-then-others-trees : goal.returns-then-others-trees
returns-then-others-trees t c =
    ways.too_many _ _ _ _ _ _ _ (sym c.node_at.ensures ∙ c.in-Join.is) _ c.rest-below.ensures _ c.in_ok-c-in-Join.ensures _ (λ x. refl)
    (omega (arith, c.in_ok-trees-in-Join.ensures.1))

pub returns-in_err-r-in-Join : goal.returns-in_err-r-in-Join
returns-in_err-r-in-Join t c =
    let others = length c.args.out.now - 1 - c.in_ok-c-in-Join.c.size in
    let first : length (take others c.args.out.now) ≡ others = simp length-take (omega arith) in
    ways.nothing _ _ _ _ _ _ c.from_residual-in_err-r-in-Join.ensures
    (ways.not_below _ _ _ _ _ _ _ (sym c.node_at.ensures ∙ c.in-Join.is) _ c.rest-below.ensures _ c.in_ok-c-in-Join.ensures _ c.rest.ensures _ _
    (simp (length-take, length-drop, length-append) (omega (arith, c.in_ok-c-in-Join.ensures.high))) c.in_ok-deep-in-Join.ensures.1
    c.in_err-r-in-Join.ensures)

pub returns-in-Plain : goal.returns-in-Plain
returns-in-Plain t c = ways.constant _ _ _ _ _ (sym c.node_at.ensures ∙ c.in-Plain.is)

pub returns-in_ok-r-in-Join : goal.returns-in_ok-r-in-Join
returns-in_ok-r-in-Join t c =
    let others = length c.args.out.now - 1 - c.in_ok-c-in-Join.c.size in
    let first : length (take others c.args.out.now) ≡ others = simp length-take (omega arith) in
    ways.connective_lent _ _ _ _ _ _ (sym c.node_at.ensures ∙ c.in-Join.is) _ c.rest-below.ensures _ c.args.out.now c.in_ok-c-in-Join.ensures
    _ c.rest.ensures _ c.siblings.new.out c.gather.new.out _ _ _ _ _ _ c.requires c.in_ok-trees-in-Join.ensures c.in_ok-deep-in-Join.ensures
    c.if-others-trees.false c.siblings.ensures c.in_ok-r-in-Join.ensures first
    (simp (length-take, length-drop, length-append) (omega (arith, c.in_ok-c-in-Join.ensures.high))) (omega arith) (omega arith)

pub returns-in_default : goal.returns-in_default
returns-in_default t c =
    ways.an_end_put _ _ _ _ _ _ _ (sym c.node_at.ensures) c.in_default.not-Plain c.in_default.not-Join c.requires
    (put_here c.args.out.now 0 _ c.requires ∙ c.turn.ensures ∙ ap (turned c.args.opposite) c.node_at.ensures)
