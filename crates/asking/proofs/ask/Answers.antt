-- `asking::ask` meets its contract: what `gather` gathers stands after the node of the `and` (Gathering.antt).
use native.Mathlib.Omega.{arith}
use borrow.Author.Rules.{rules}
use lib.ListN.{length-take, length-drop}
use Rattle.std.proofs.Common.{inl, inr}
use Rattle.std.proofs.lemmas.List.{places}
use Rattle.asking.proofs.Gathering as ways
use Rattle.asking.proofs.ask.Goals as goal

pub returns-then-n-ge-QUESTION_ROOM : goal.returns-then-n-ge-QUESTION_ROOM
returns-then-n-ge-QUESTION_ROOM c =
    ways.refused _ c.size_at-n.result _ _ _ c.size_at-n.ensures.0
    (λ h. elim c.then-n-ge-QUESTION_ROOM.either [ inl large ↦ absurd (omega arith) | inr short ↦ short.1 ])

pub returns-in_default : goal.returns-in_default
returns-in_default c =
    ways.no_end _ _ _ _ _ c.size_at-n.ensures.0 _ (simp (length-take, length-drop) (omega arith)) c.if-n-ge-QUESTION_ROOM.false c.if-out-n.false _
    (search (rules, places)) c.in_default.ensures

pub returns : goal.returns
returns c =
    ways.asks _ _ _ _ c.args.out.now c.size_at-n.ensures.0 _ (simp (length-take, length-drop) (omega arith)) c.if-n-ge-QUESTION_ROOM.false c.if-out-n.false _ (omega arith)
    c.gather.new.out _ _ (omega arith) c.in-Some.ensures c.put_node.ensures
