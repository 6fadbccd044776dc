-- `asking::negate` and `asking::negate_all` meet their contracts, a cycle of calls in which the connectives that may still nest fall. Each
-- way out is a law of Negating.antt.
use mathlib.Core.Path.{ap, ◌∙◌}
use native.Mathlib.Omega.{arith}
use lib.ListN.{length, length-set, length-take, length-drop}
use Rattle.nodes.specs.declared.Node.{Node}
use Rattle.nodes.specs.Memory.{opposed}
use Rattle.asking.proofs.Negating as ways
use Rattle.asking.proofs.+negate_negate_all.Goals as goal

pub negate-returns-then-depth-gt0 : goal.negate-returns-then-depth-gt0
negate-returns-then-depth-gt0 t c =
    ways.negate_below c.args.ns.now c.args.depth c.args.out.now c.requires _ (c.opposed.ensures ∙ ap opposed c.node_at.ensures) _
    c.negate_all.new.out _ c.rest.ensures c.if-depth-gt0.true c.negate_all.ensures
    (simp (length-take, length-drop, length-set) (omega arith)) (omega (arith, length-set {A = Node}))

pub negate-returns-else-depth-gt0 : goal.negate-returns-else-depth-gt0
negate-returns-else-depth-gt0 t c =
    ways.negate_one c.args.ns.now c.args.depth c.args.out.now c.requires _ (c.opposed.ensures ∙ ap opposed c.node_at.ensures) c.if-depth-gt0.false

pub negate_all-returns-then-out-k : goal.negate_all-returns-then-out-k
negate_all-returns-then-out-k t c =
    ways.negated_beyond {size = length c.args.out.now} (omega arith) (omega arith) c.size_at-s.ensures.0 c.loop-k.invariant

pub negate_all-loop-k-preserved : goal.negate_all-loop-k-preserved
negate_all-loop-k-preserved t c =
    ways.negate_more c.args.ns.now _ _ _ _ _ c.loop-k.out c.negate.new.out _ _ c.rest.ensures (omega arith)
    (omega arith) (omega arith) c.size_at-s.ensures.0 c.negate.ensures
    (simp (length-take, length-drop) (omega arith)) (omega arith) c.loop-k.invariant
