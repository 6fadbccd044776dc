-- `asking::ends` meets its contract: one node more is one end more, or none (EndsCounted.antt).
use mathlib.Core.Path.{refl}
use native.Mathlib.Omega.{arith}
use Rattle.asking.specs.Asked.{ends_from}
use Rattle.asking.proofs.EndsCounted.{one_more, no_wrap}
use Rattle.asking.proofs.ends.Goals as goal

pub loop-k-init : goal.loop-k-init
unfolding ends_from
loop-k-init c = refl

pub overflow_add-e : goal.overflow_add-e
overflow_add-e c = omega (arith, no_wrap _ _ _ c.is_end.ensures c.from-e.ensures _ c.loop-k.k _ c.loop-k.invariant)

pub loop-k-preserved : goal.loop-k-preserved
loop-k-preserved c = one_more _ _ _ c.is_end.ensures c.from-e.ensures _ _ _ c.node_at.ensures c.loop-k.invariant
