-- `folding::node` and `folding::children` meet their contracts, a cycle of calls in which the nodes left fall: `node` spends one,
-- `children` at least one a child. Each way out is a law of Walk.antt.
use Prim.Native.Nat.{◌<◌}
use mathlib.Core.Path.{sym, ◌∙◌}
use native.Mathlib.Omega.{arith}
use borrow.Author.Rules.{rules}
use lib.ListN.{length, length-take, length-drop}
use Rattle.std.proofs.Common.{inl, inr}
use Rattle.std.proofs.lemmas.List.{places}
use Rattle.nodes.specs.declared.Node.{Node}
use Rattle.folding.proofs.Walk as walk
use Rattle.folding.proofs.+children_node.Goals as goal

pub children-returns-then-k-eq0 : goal.children-returns-then-k-eq0
children-returns-then-k-eq0 t c =
    walk.none_folded _ _ _ _ _ _ c.size_at-s.result c.size_at-s.ensures.0
    (λ z. elim c.then-k-eq0.either [ inl none ↦ absurd (z none) | inr long ↦ long.1 ])

pub node-returns-in-Plain : goal.node-returns-in-Plain
node-returns-in-Plain t c =
    walk.plain_folded _ _ _ _ _ _ (sym c.node_at.ensures ∙ c.in-Plain.is) c.requires.0 c.put_constant.ensures

pub node-returns-in-Join : goal.node-returns-in-Join
node-returns-in-Join t c =
    walk.join_folded _ _ _ _ _ _ _ _ _ _ _ _ _ (sym c.node_at.ensures ∙ c.in-Join.is) c.rest.ensures c.requires.0 c.children-kept.ensures
    (λ z lt. search (rules, places)) c.shut.ensures

pub node-returns-in_default : goal.node-returns-in_default
node-returns-in_default t c =
    walk.an_end_folded _ _ _ _ _ _ _ (sym c.node_at.ensures) c.in_default.not-Plain c.in_default.not-Join c.requires.0 c.end.ensures

pub children-returns-in_err-others-in-None : goal.children-returns-in_err-others-in-None
children-returns-in_err-others-in-None t c =
    rw c.from_residual.ensures
    (walk.others_decide _ _ _ _ _ c.if-k-eq0.false _ c.size_at-s.ensures.0 c.if-left-s.false c.size_at-s.ensures.1 _ _ _ c.node-first.ensures
    _ c.rest-younger.ensures _ _ _ c.children.ensures _ c.in_err-others-in-None.was)

pub children-returns-in_err-others-in-Some : goal.children-returns-in_err-others-in-Some
children-returns-in_err-others-in-Some t c =
    rw c.from_residual-in_err-others-in-Some.ensures
    (walk.others_decide _ _ _ _ _ c.if-k-eq0.false _ c.size_at-s.ensures.0 c.if-left-s.false c.size_at-s.ensures.1 _ _ _ c.node-first.ensures
    _ c.rest-younger.ensures _ _ _ c.children-in-Some.ensures _ c.in_err-others-in-Some.was)

pub children-returns-in_ok-others-in-None : goal.children-returns-in_ok-others-in-None
children-returns-in_ok-others-in-None t c =
    walk.child_kept _ _ _ _ _ c.if-k-eq0.false _ c.size_at-s.ensures.0 c.if-left-s.false c.size_at-s.ensures.1 _ _ _ c.node-first.ensures
    _ c.rest-younger.ensures _ _ _ c.children.ensures _ _ c.in_ok-others-in-None.was c.in-None.is
    (λ v lt. search (rules, places)) (λ v lt.
    let long : v < length c.children.new.out =
    omega (arith, c.in_ok-others-in-None.ensures.small, length-take {A = Node}, length-drop {A = Node}) in
    search (rules, places))

pub children-returns-then-b-all : goal.children-returns-then-b-all
children-returns-then-b-all t c =
    walk.child_dropped _ _ _ _ _ c.if-k-eq0.false _ c.size_at-s.ensures.0 c.if-left-s.false c.size_at-s.ensures.1 _ _ _ c.node-first.ensures
    _ c.rest-younger.ensures _ _ _ c.in_ok-others-in-Some.ensures _ c.in-Some.is c.if-b-all.true

pub children-returns-else-b-all : goal.children-returns-else-b-all
children-returns-else-b-all t c =
    walk.child_decides _ _ _ _ _ c.if-k-eq0.false _ c.size_at-s.ensures.0 c.if-left-s.false c.size_at-s.ensures.1 _ _ _ c.node-first.ensures
    _ c.rest-younger.ensures _ _ _ c.children-in-Some.ensures _ _ c.in-Some.is c.if-b-all.false
