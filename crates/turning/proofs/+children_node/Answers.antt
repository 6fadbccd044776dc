-- `turning::node` and `turning::children` meet their contracts, a cycle of calls in which the nodes left fall: `node` spends one,
-- `children` at least one a child. Each way out is a law of Walk.antt.
use Rattle.turning.proofs.Walk as walk
use Rattle.std.proofs.Common.{◌∙◌, arith}
use Rattle.std.proofs.lemmas.List.{length-take-le}
use Rattle.turning.proofs.+children_node.Goals as goal

pub children-loop-init : goal.children-loop-init
children-loop-init t c = walk.walked_none

pub children-returns-then-unspent-s : goal.children-returns-then-unspent-s
children-returns-then-unspent-s t c = walk.too_long c.loop.invariant c.loop-test.true c.size_at-s.ensures.0 c.if-unspent-s.true

pub children-loop-preserved : goal.children-loop-preserved
children-loop-preserved t c = let s = c.split_at_mut-elder.ensures in
    walk.walked_one c.loop.invariant c.loop-test.true c.size_at-s.ensures.0 _ _ _ _ c.if-unspent-s.false c.node-next.ensures c.rest-younger.ensures
    s.by_index.0 (c.clear.auto.marks ∙ s.front_len) (c.clear-in-loop.auto.marks ∙ length-take-le _ _ (omega (arith, c.node-next.ensures.few)))
    c.turned.ensures c.clear.ensures c.turned-in-loop.ensures c.clear-in-loop.ensures c.both-value.ensures

pub children-returns : goal.children-returns
children-returns t c = walk.all_walked c.loop.invariant c.loop-test.false

pub node-returns-then-left-eq0 : goal.node-returns-then-left-eq0
node-returns-then-left-eq0 t c = walk.nothing_left c.if-left-eq0.true

pub node-returns-in-Plain : goal.node-returns-in-Plain
node-returns-in-Plain t c = walk.plain_turned c.node_at.ensures c.in-Plain.is

pub node-returns-in-Flag : goal.node-returns-in-Flag
node-returns-in-Flag t c =
    walk.flag_marked c.node_at.ensures c.in-Flag.is c.flag.ensures c.turned.ensures c.if-left-eq0.false c.end.ensures

pub node-returns-in-Bound : goal.node-returns-in-Bound
node-returns-in-Bound t c =
    walk.bound_marked c.node_at.ensures c.in-Bound.is c.at_most.ensures c.turned-in-Bound.ensures c.if-left-eq0.false c.end-in-Bound.ensures

pub node-returns-in-Join : goal.node-returns-in-Join
node-returns-in-Join t c = walk.join_turned c.node_at.ensures c.in-Join.is c.rest.ensures c.children.ensures
