-- An assignment under which turning an end turns the root makes the end's critical constraint true. So, as the end is true or false there,
-- it satisfies question two or question one, and the answer to that is no. What was known stays known, as the tree is the same.
use Prim.Native.Nat.{ℕ, ◌/◌, ◌%◌}
use mathlib.Core.Path.{◌≡◌, refl, sym, ap, ap₂, ◌∙◌}
use mathlib.Core.Logic.{inl, inr}
use mathlib.Core.List.{List}
use Rattle.std.specs.Prelude.{Option, Some, None}
use mathlib.Core.Bool.{Bool, true, false, not, cond}
use native.Mathlib.Omega.{arith}
use lib.Dec.{eqb}
use lib.ListN.{length, take}
use lib.Seq.{get_or-take}
use Rattle.condition.specs.Limits.{question_room}
use Rattle.condition.specs.Meaning.{Assignment, End, met, joined, all, Tree, leaf, holds, negate}
use Rattle.condition.specs.Critical.{end_at, critical}
use Rattle.condition.specs.Deciding.{sat}
use Rattle.condition.specs.Sweep.{stage, claim, question, answer}
use Rattle.condition.proofs.Negation.{holds_negate}
use Rattle.condition.proofs.Deciding.{sat_is}
use Rattle.nodes.specs.declared.Node.{Node}
use Rattle.turning.specs.Turned.{tells, Tells}
use Rattle.keeping.specs.Kept.{Notes, Learns}

-- ---- what is told is right

sides : (c m b : Bool) → cond c (Some m) None ≡ Some b → (c ≡ true) × (m ≡ b)
sides true m b e = (refl, cc)
sides false m b e = cc

-- what is not claimed of the end holds where the end is on that side
denied : (b : Bool) (e : End) (a : Assignment) → met e a ≡ b → holds (negate (claim b (leaf e))) a ≡ true
unfolding holds
denied false e a h = holds_negate (leaf e) a ∙ ap not h
denied true e a h = holds_negate (negate (leaf e)) a ∙ ap not (holds_negate (leaf e) a ∙ ap not h)

told_no : (t : Tree) (i : ℕ) (a : Assignment) (b : Bool) → tells t i a ≡ Some b → answer sat (stage t i b) ≡ false
unfolding tells answer question holds
told_no t i a b e =
    let h = sides (holds (critical t i) a) (met (end_at t i) a) b e in
    let met_by : holds (question (stage t i b)) a ≡ true =
    ap₂ (λ x y. joined all x (joined all y true)) h.0 (denied b (end_at t i) a h.1) in
    ap not ((sat_is (question (stage t i b))).1 (a, met_by))

-- ---- the questions that marks answer

pub learned : {n : ℕ → Node} {a : Assignment} {m marks : List (Option Bool)} {known known' : List Bool} {ends : ℕ} → length m ≡ question_room →
    Tells n a m ends marks → Notes (take ends marks) known known' → Learns n known known'
learned {a = a} {marks = marks} {ends = ends} wide t n =
    record {
      right = λ u laid near k.
          let told = t.right u laid (omega arith) (omega arith) in
          record {
            no = λ q h one.
                elim (n.from q one) [
                  | inl p ↦ k.no q h p
                  | inr p ↦ told_no u (q / 2) a (eqb (q % 2) 1)
                      (sym (told.1 (q / 2) (omega arith)) ∙ sym (get_or-take ends marks (q / 2) None (omega arith)) ∙ p)
                ];
          };
    }
