-- `folding::fold` meets its contract: the walk begins at node 0, with the tree's nodes left, and the cut it hands on is the replacement.
use native.Mathlib.Omega.{arith}
use Rattle.std.proofs.Common.{inl, inr}
use Rattle.folding.proofs.Walk.{refused, whole_folded}
use Rattle.folding.proofs.fold.Goals as goal

pub returns-then-n-gt-TREE_ROOM : goal.returns-then-n-gt-TREE_ROOM
returns-then-n-gt-TREE_ROOM c =
    refused _ c.size_at-n.result c.size_at-n.ensures.0 _ _
    (λ h. elim c.then-n-gt-TREE_ROOM.either [ inl large ↦ absurd (omega arith) | inr short ↦ short.1 ])

pub returns : goal.returns
returns c = whole_folded _ _ c.size_at-n.ensures.0 _ c.args.out.now _ _ _ (omega arith) (omega arith) c.node.ensures
