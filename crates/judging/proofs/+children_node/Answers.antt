-- `judging::node` and `judging::children` meet their contracts, a cycle of calls in which the nodes left fall: `node` spends one,
-- `children` at least one a child. Each way out is a law of Walk.antt.
use Rattle.judging.proofs.Walk as walk
use Rattle.judging.proofs.+children_node.Goals as goal

pub children-returns-then-k-eq0 : goal.children-returns-then-k-eq0
children-returns-then-k-eq0 t c = walk.none_judged c.if-k-eq0.true

pub children-returns-then-left-s : goal.children-returns-then-left-s
children-returns-then-left-s t c =
    walk.too_long c.if-k-eq0.false c.size_at-s.ensures.0 c.if-left-s.true

pub children-returns : goal.children-returns
children-returns t c =
    walk.more_judged c.if-k-eq0.false c.size_at-s.ensures.0 c.if-left-s.false c.node-v.ensures c.rest.ensures c.children-u.ensures c.both.ensures

pub node-returns-then-left-eq0 : goal.node-returns-then-left-eq0
node-returns-then-left-eq0 t c = walk.nothing_left c.if-left-eq0.true

pub node-returns-in-Plain : goal.node-returns-in-Plain
node-returns-in-Plain t c =
    walk.plain_judged c.node_at.ensures c.in-Plain.is

pub node-returns-in-Flag : goal.node-returns-in-Flag
node-returns-in-Flag t c =
    walk.flag_judged c.node_at.ensures c.in-Flag.is c.flag.ensures c.turned.ensures

pub node-returns-in-Bound : goal.node-returns-in-Bound
node-returns-in-Bound t c =
    walk.bound_judged c.node_at.ensures c.in-Bound.is c.at_most.ensures c.turned-in-Bound.ensures

pub node-returns-in-Join : goal.node-returns-in-Join
node-returns-in-Join t c =
    walk.join_judged c.node_at.ensures c.in-Join.is c.rest.ensures c.children.ensures
