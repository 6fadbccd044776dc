-- `reading::node` and `reading::children` meet their contracts: each way out is one of Ways.antt. The bytes left fall: a node is read
-- past its tag before its children, and each child is read before its younger siblings.
use mathlib.Core.Path.{sym}
use native.Mathlib.Omega.{arith}
use Rattle.std.proofs.lemmas.Result.{err_from_is_err_and}
use Rattle.reading.proofs.Equations as eq
use Rattle.reading.proofs.Ways as ways
use Rattle.reading.proofs.+children_node.Goals as goal

pub children-returns-in_err-child : goal.children-returns-in_err-child
children-returns-in_err-child t c =
    let p = err_from_is_err_and c.from_residual.result c.from_residual.ensures.1 in
    rw (p.1, p.2) (ways.stops_there _ _ _ _ _ _ _ c.loop-owed.invariant c.loop-owed-test.true _ _ c.in_err-child.ensures)

pub children-loop-owed-preserved : goal.children-loop-owed-preserved
children-loop-owed-preserved t c =
    ways.another _ _ _ _ _ _ _ c.loop-owed.invariant c.loop-owed-test.true _ _ c.in_ok-child.ensures c.node.auto.ns

pub children-returns : goal.children-returns
children-returns t c = ways.over _ _ _ _ _ _ _ c.loop-owed.invariant (omega arith)

pub node-returns-in_default : goal.node-returns-in_default
node-returns-in_default t c =
    ways.node_stops _ _ _ _ _ _ _ c.unwrap_err.ensures c.tag-tag.ensures (λ kids. eq.tag_stop kids _ _ _ _ _)

pub node-returns-in-0 : goal.node-returns-in-0
node-returns-in-0 t c =
    ways.node_plain _ _ _ _ c.requires _ _ c.in-Ok.ensures (omega arith) c.put_end.ensures.0 _ c.put_end.ensures.1

pub node-returns-in_default-count : goal.node-returns-in_default-count
node-returns-in_default-count t c =
    ways.node_stops _ _ _ _ _ _ _ c.unwrap_err-in_default-count.ensures c.count-count.ensures
    (λ kids. eq.count_stop kids _ _ _ _ _ _ (sym c.in-Ok.ensures) (omega arith) (omega arith) _ _)

pub node-returns-then-done-k : goal.node-returns-then-done-k
node-returns-then-done-k t c =
    ways.node_crowd _ _ _ _ c.requires _ _ c.in-Ok.ensures (omega arith) (omega arith) _ _ c.in-Ok-count.ensures c.if-done-k.true

pub node-returns-in_err-kids-in-2 : goal.node-returns-in_err-kids-in-2
node-returns-in_err-kids-in-2 t c =
    let p = err_from_is_err_and c.from_residual.result c.from_residual.ensures.1 in
    rw (p.1, p.2) (ways.node_kids_stop _ _ _ _ c.requires _ _ c.in-Ok.ensures (omega arith) (omega arith) _ _ c.in-Ok-count.ensures
    (omega (arith, c.if-done-k.false, c.requires)) _ _ c.in_err-kids-in-2.ensures)

pub node-returns-in-4 : goal.node-returns-in-4
node-returns-in-4 t c = ways.node_end _ _ _ _ c.requires _ _ c.in-Ok.ensures (omega arith) _ c.boolean.ensures

pub node-returns-in_default-g : goal.node-returns-in_default-g
node-returns-in_default-g t c = ways.node_end _ _ _ _ c.requires _ _ c.in-Ok.ensures (omega arith) _ c.difference.ensures

pub node-returns-in_ok-kids-in-2 : goal.node-returns-in_ok-kids-in-2
node-returns-in_ok-kids-in-2 t c =
    ways.node_join _ _ _ _ c.requires _ _ c.in-Ok.ensures (omega arith) (omega arith) _ _ c.in-Ok-count.ensures
    (omega (arith, c.if-done-k.false, c.requires)) _ _ c.in_ok-kids-in-2.ensures (omega (arith, c.requires, c.children.auto))
    c.put_node.ensures
