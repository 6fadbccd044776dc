-- No choice is left: any two outcomes that a contract allows for one input coincide, find's choice of assignment aside. Each result is
-- read back off its number, place and value, so what a contract fixes fixes the enum; and a tree that has a satisfying assignment
-- cannot also have none.
use Prim.Native.Nat.{ℕ}
use mathlib.Core.Path.{◌≡◌, refl, sym, ap, ap₂, ◌∙◌}
use mathlib.Core.List.{List}
use mathlib.Core.Bool.{Bool, true, false, cond}
use native.Mathlib.Decide.{ℕ_discrete}
use lib.Dec.{eqb}
use lib.IntN.{ℤ}
use lib.ListN.{length}
use borrow.Author.Tests.{ne_eqb}
use Rattle.condition.specs.Answers as answers
use Rattle.condition.specs.Limits.{last_number}
use Rattle.condition.specs.Meaning.{Tree, given}
use Rattle.condition.specs.Reading.{Read, tree, refusal, read}
use Rattle.condition.proofs.Answers.{apart}
use Rattle.cursor.proofs.Refusals.{refusal_of, back}
use Rattle.std.specs.Prelude.{Result, Ok, Err}
use Rattle.travelring.specs.declared.Judgement.{Judgement}
use Rattle.travelring.specs.declared.JudgeRefusal.{JudgeRefusal}
use Rattle.travelring.specs.declared.JudgeRefusal.TheVariants as judge_refusal
use Rattle.travelring.specs.Judging.{judged, told}
use Rattle.travelring.specs.declared.Finding.{Finding}
use Rattle.travelring.specs.declared.FindRefusal.TheVariants as find_refusal
use Rattle.travelring.specs.declared.FindRefusal.{FindRefusal}
use Rattle.travelring.specs.Finding.{told_found, Refuses, FindsTree, FindsRead, Finds}
use Rattle.travelring.specs.declared.Trimming.{Trimming}
use Rattle.travelring.specs.declared.Trimmed.{Trimmed}
use Rattle.travelring.specs.declared.TrimRefusal.{TrimRefusal}
use Rattle.travelring.specs.declared.TrimRefusal.TheVariants as trim_refusal
use Rattle.travelring.specs.Trimming.{told_trimmed, length_told, Trims}

-- ---- judge

judged_of : Judgement → Result Bool JudgeRefusal
judged_of j =
    cond (eqb j.answer answers.finished) (Ok j.value)
    (cond (eqb j.answer answers.unfit) (Err judge_refusal.Unfit) (Err (judge_refusal.Bytes (refusal_of j.answer j.place))))

judged_back : (r : Result Bool JudgeRefusal) → judged_of (told r) ≡ r
unfolding judged_of
judged_back (Ok b) = refl
judged_back (Err (judge_refusal.Bytes why)) =
    let h = back why in
    simp (ne_eqb _ answers.finished (apart h.of _ refl), ne_eqb _ answers.unfit (apart h.of _ refl))
    (ap (λ x. Err (judge_refusal.Bytes x)) h.same)
judged_back (Err judge_refusal.Unfit) = refl

-- judge's outcome is one
pub judge_once : (s : List ℕ) (flags : ℕ) (numbers : List ℤ) (r r' : Result Bool JudgeRefusal) →
    told r ≡ judged s flags numbers → told r' ≡ judged s flags numbers → r ≡ r'
judge_once s flags numbers r r' e e' = sym (judged_back r) ∙ ap judged_of (e ∙ sym e') ∙ judged_back r'

-- ---- find

found_of : Finding → Result ℕ FindRefusal
found_of f =
    cond (eqb f.answer answers.finished) (Ok f.flags)
    (cond (eqb f.answer answers.nothing) (Err find_refusal.Nothing)
    (cond (eqb f.answer answers.unfit) (Err find_refusal.Unfit) (Err (find_refusal.Bytes (refusal_of f.answer f.place)))))

found_back : (r : Result ℕ FindRefusal) → found_of (told_found r) ≡ r
unfolding found_of
found_back (Ok bits) = refl
found_back (Err (find_refusal.Bytes why)) =
    let h = back why in
    simp (
      ne_eqb _ answers.finished (apart h.of _ refl),
      ne_eqb _ answers.nothing (apart h.of _ refl),
      ne_eqb _ answers.unfit (apart h.of _ refl),
    )
    (ap (λ x. Err (find_refusal.Bytes x)) h.same)
found_back (Err find_refusal.Unfit) = refl
found_back (Err find_refusal.Nothing) = refl

-- the same answer and place; and, unless an assignment was found, the same bits and the same numbers
pub record Alike (r : Result ℕ FindRefusal) (numbers : List ℤ) (r' : Result ℕ FindRefusal) (numbers' : List ℤ) : Type 0 where
  pub answer : (told_found r).answer ≡ (told_found r').answer
  pub place : (told_found r).place ≡ (told_found r').place
  pub rest : ((told_found r).answer ≡ answers.finished → ⊥) → (r ≡ r') × (numbers ≡ numbers')

refuses_alike : (n p : ℕ) (numbers : List ℤ) (r : Result ℕ FindRefusal) (numbers₁ : List ℤ) (r' : Result ℕ FindRefusal) (numbers₂ : List ℤ) →
    Refuses n p numbers r numbers₁ → Refuses n p numbers r' numbers₂ → Alike r numbers₁ r' numbers₂
refuses_alike n p numbers r numbers₁ r' numbers₂ h h' =
    let e = h.told ∙ sym h'.told in
    record {
      answer = ap (λ f. f.answer) e;
      place = ap (λ f. f.place) e;
      rest = λ z. (sym (found_back r) ∙ ap found_of e ∙ found_back r', h.kept ∙ sym h'.kept);
    }

tree_alike : (t : Tree) (numbers : List ℤ) (r : Result ℕ FindRefusal) (numbers₁ : List ℤ) (r' : Result ℕ FindRefusal) (numbers₂ : List ℤ) →
    FindsTree t numbers r numbers₁ → FindsTree t numbers r' numbers₂ → Alike r numbers₁ r' numbers₂
tree_alike t numbers (Ok bits) numbers₁ (Ok bits') numbers₂ h h' =
    record { answer = refl; place = refl; rest = λ z. absurd (z refl) }
tree_alike t numbers (Ok bits) numbers₁ (Err find_refusal.Nothing) numbers₂ h h' = absurd (h'.0 (given bits numbers₁, h.0))
tree_alike t numbers (Ok bits) numbers₁ (Err (find_refusal.Bytes why)) numbers₂ h h' = absurd h'
tree_alike t numbers (Ok bits) numbers₁ (Err find_refusal.Unfit) numbers₂ h h' = absurd h'
tree_alike t numbers (Err find_refusal.Nothing) numbers₁ (Ok bits) numbers₂ h h' = absurd (h.0 (given bits numbers₂, h'.0))
tree_alike t numbers (Err find_refusal.Nothing) numbers₁ (Err find_refusal.Nothing) numbers₂ h h' =
    record { answer = refl; place = refl; rest = λ z. (refl, h.1 ∙ sym h'.1) }
tree_alike t numbers (Err find_refusal.Nothing) numbers₁ (Err (find_refusal.Bytes why)) numbers₂ h h' = absurd h'
tree_alike t numbers (Err find_refusal.Nothing) numbers₁ (Err find_refusal.Unfit) numbers₂ h h' = absurd h'
tree_alike t numbers (Err (find_refusal.Bytes why)) numbers₁ r' numbers₂ h h' = absurd h
tree_alike t numbers (Err find_refusal.Unfit) numbers₁ r' numbers₂ h h' = absurd h

read_alike : (x : Read) (numbers : List ℤ) (r : Result ℕ FindRefusal) (numbers₁ : List ℤ) (r' : Result ℕ FindRefusal) (numbers₂ : List ℤ) →
    FindsRead x numbers r numbers₁ → FindsRead x numbers r' numbers₂ → Alike r numbers₁ r' numbers₂
read_alike (tree t) = tree_alike t
read_alike (refusal n p) = refuses_alike n p

-- find's outcome is one, the assignment shown aside
pub find_once : (s : List ℕ) (numbers : List ℤ) (r : Result ℕ FindRefusal) (numbers₁ : List ℤ) (r' : Result ℕ FindRefusal) (numbers₂ : List ℤ) →
    Finds s numbers r numbers₁ → Finds s numbers r' numbers₂ → Alike r numbers₁ r' numbers₂
find_once s numbers r numbers₁ r' numbers₂ h h' =
    elim (ℕ_discrete (length numbers) last_number) [
      | yes e ↦ read_alike (read s) numbers r numbers₁ r' numbers₂ (h.fit e) (h'.fit e)
      | no ne ↦ refuses_alike answers.unfit 0 numbers r numbers₁ r' numbers₂ (h.unfit ne) (h'.unfit ne)
    ]

-- ---- trim

trimmed_of : Trimming → ℕ → Result Trimmed TrimRefusal
trimmed_of t bytes =
    cond (eqb t.answer answers.finished)
    (Ok record { finished = true; questions = t.questions; ends = t.ends; bytes = bytes })
    (cond (eqb t.answer answers.stopped)
    (Ok record { finished = false; questions = t.questions; ends = t.ends; bytes = bytes })
    (cond (eqb t.answer answers.long) (Err (trim_refusal.Long t.place)) (Err (trim_refusal.Bytes (refusal_of t.answer t.place)))))

trimmed_back : (r : Result Trimmed TrimRefusal) → trimmed_of (told_trimmed r) (length_told r) ≡ r
unfolding trimmed_of
trimmed_back (Ok t) = ended_back t t.finished refl
  where
    ended_back : (t : Trimmed) (b : Bool) → t.finished ≡ b → trimmed_of (told_trimmed (Ok t)) (length_told (Ok t)) ≡ Ok t
    ended_back t true e = simp e (ap (λ x. Ok record { finished = x; questions = t.questions; ends = t.ends; bytes = t.bytes }) (sym e))
    ended_back t false e = simp e (ap (λ x. Ok record { finished = x; questions = t.questions; ends = t.ends; bytes = t.bytes }) (sym e))
trimmed_back (Err (trim_refusal.Bytes why)) =
    let h = back why in
    simp (
      ne_eqb _ answers.finished (apart h.of _ refl),
      ne_eqb _ answers.stopped (apart h.of _ refl),
      ne_eqb _ answers.long (apart h.of _ refl),
    )
    (ap (λ x. Err (trim_refusal.Bytes x)) h.same)
trimmed_back (Err (trim_refusal.Long needed)) = refl

-- trim's outcome is one, the lent output with it
pub trim_once : (s : List ℕ) (ration : ℕ) (out : List ℕ) (r : Result Trimmed TrimRefusal) (out₁ : List ℕ) (r' : Result Trimmed TrimRefusal) (out₂ : List ℕ) →
    Trims s ration out r out₁ → Trims s ration out r' out₂ → (r ≡ r') × (out₁ ≡ out₂)
trim_once s ration out r out₁ r' out₂ h h' = (
  sym (trimmed_back r) ∙ ap₂ trimmed_of (h.told ∙ sym h'.told) (h.long ∙ sym h'.long) ∙ trimmed_back r',
  h.lent ∙ sym h'.lent,
)
