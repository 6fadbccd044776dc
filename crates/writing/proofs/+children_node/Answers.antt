-- `writing::node` and `writing::children` meet their contracts, a cycle of calls in which the nodes left fall: `node` spends one, `children`
-- at least one a child. Each way out is a law of Walk.antt.
use mathlib.Core.Path.{refl}
use Rattle.writing.proofs.Walk as walk
use Rattle.writing.proofs.+children_node.Goals as goal

pub children-returns-then-k-eq0 : goal.children-returns-then-k-eq0
children-returns-then-k-eq0 t c = walk.none_put c.if-k-eq0.true

pub children-returns-then-left-s : goal.children-returns-then-left-s
children-returns-then-left-s t c =
    walk.too_long c.if-k-eq0.false c.size_at-s.ensures.0 c.if-left-s.true

pub children-returns : goal.children-returns
children-returns t c =
    walk.more_put c.if-k-eq0.false c.size_at-s.ensures.0 _ _ _ _ _ _ _ c.rest.ensures c.if-left-s.false c.node-a.auto.out
    refl c.node-a.ensures c.children-b.ensures

pub node-returns-then-left-eq0 : goal.node-returns-then-left-eq0
node-returns-then-left-eq0 t c = walk.nothing_left c.if-left-eq0.true

pub node-returns : goal.node-returns
node-returns t c =
    walk.node_put _ _ _ _ _ _ _ _ _ _ _ c.node_at.ensures c.count_at.ensures c.rest.ensures c.put_own-a.auto.out refl
    c.put_own-a.ensures c.children-b.ensures
