-- The question written has the sweep's question's meaning, so the search's verdict on the one is the definition's decision on the other.
use Prim.Native.Nat.{ℕ, ◌<◌}
use mathlib.Core.Path.{◌≡◌, refl, sym, ap, ◌∙◌}
use mathlib.Core.List.{List}
use mathlib.Core.Bool.{Bool, true, false, not, not-not, false≢true}
use mathlib.Core.Logic.{◌↔◌}
use native.Mathlib.Omega.{arith}
use lib.ListN.{length}
use Rattle.std.specs.Prelude.{Option, Some, None}
use Rattle.condition.specs.Limits.{question_room}
use Rattle.condition.specs.Meaning.{Assignment, Tree, leaf, holds, negate, given}
use Rattle.condition.specs.Satisfying.{Satisfiable}
use Rattle.condition.specs.Folding.{live}
use Rattle.condition.specs.Critical.{end_at, both, critical}
use Rattle.condition.specs.Deciding.{sat}
use Rattle.condition.specs.Sweep.{stage, claim, question, answer}
use Rattle.condition.proofs.Negation.{negate_twice}
use Rattle.condition.proofs.Depth.{not_deeper}
use Rattle.condition.proofs.Deciding.{sat_same}
use Rattle.nodes.specs.declared.Node.{Node}
use Rattle.nodes.specs.Memory.{node_at}
use Rattle.asking.specs.Asked.{asked, question as written, Asks}
use Rattle.asking.proofs.Means.{question_holds, question_named}
use Rattle.settling.specs.declared.Found.{Found}
use Rattle.settling.specs.Settled.{Right, Finds}
use Rattle.answering.specs.Answered.{yes, Answers}

-- the end that is asked about is the negation of what is claimed
asked_is : (second : Bool) (t : Tree) (i : ℕ) → leaf (asked (not second) (end_at t i)) ≡ negate (claim second (leaf (end_at t i)))
unfolding negate
asked_is false t i = refl
asked_is true t i = sym (negate_twice (leaf (end_at t i)))

same : (t : Tree) (i : ℕ) (second : Bool) (a : Assignment) → i < live t →
    holds (written t i (not second)) a ≡ holds (question (stage t i second)) a
unfolding question
same t i second a h =
    question_holds t i (not second) a h ∙ ap (λ u. holds (both (critical t i) u) a) (asked_is second t i)

decides : (u : Tree) (v : Option Found) → Right u v → (not (yes v) ≡ true) ↔ Satisfiable u
decides u (Some f) h = ((λ e. (given f.flags f.numbers, h.0)), λ s. refl)
decides u None h = ((λ e. absurd (false≢true e)), λ s. absurd (h s))

answered : (t : Tree) (i : ℕ) (second : Bool) (v : Option Found) → i < live t →
    Right (written t i (not second)) v → yes v ≡ answer sat (stage t i second)
unfolding answer
answered t i second v h right =
    let d = decides (written t i (not second)) v right in
    sym (not-not (yes v)) ∙ ap not (sat_same (not (yes v)) (question (stage t i second)) (
      (λ e. let s = d.0 e in (s.0, sym (same t i second s.0 h) ∙ s.1)),
      λ s. d.1 (s.0, same t i second s.0 h ∙ s.1),
    ))

pub answers : (n : ℕ → Node) (at : ℕ) (second : Bool) (o o' : List Node) (r : ℕ) (v : Option Found) →
    length o ≡ question_room → Asks n at (not second) o r o' → Finds (node_at o') v → Answers n at second v
answers n at second o o' r v wide asks finds = record {
  right = λ t laid near within end.
      let a = asks.right t laid near (omega arith) end (not_deeper t within) in
      let right = finds.right (written t at (not second)) a.0 (omega (arith, a.1, asks.few))
      (question_named t at (not second) within.formed) in
      answered t at second v end right;
}
