-- No choice is left across the C boundary either: any two outcomes that a contract allows for one input coincide, find's choice of
-- assignment aside. What is reported is fixed by what the call answers, and that is one.
use Prim.Native.Nat.{ℕ}
use mathlib.Core.Path.{◌≡◌, refl, sym, ap, ◌∙◌}
use mathlib.Core.List.{List, [], ◌∷◌}
use native.Mathlib.Omega.{arith}
use lib.IntN.{ℤ}
use lib.ListN.{get_or, set}
use lib.Seq.{get_or-set_other}
use Rattle.condition.proofs.Answers.{apart}
use Rattle.cursor.proofs.Refusals.{back}
use Rattle.std.specs.Prelude.{Result, Ok, Err}
use Rattle.travelring.specs.declared.FindRefusal.TheVariants.{Bytes, Unfit, Nothing}
use Rattle.travelring.specs.Judging.{judged}
use Rattle.travelring.specs.declared.FindRefusal.{FindRefusal}
use Rattle.travelring.specs.Finding.{told_found}
use Rattle.travelring.proofs.Once.{find_once}
use Rattle.boundary.specs.Reports.{Reports, ReportsJudged, ReportsFound, ReportsTrimmed}

reports_once : (answer place value r r' : ℕ) (report report₁ report₂ : List ℕ) →
    Reports answer place value r report report₁ → Reports answer place value r' report report₂ → (r ≡ r') × (report₁ ≡ report₂)
reports_once answer place value r r' report report₁ report₂ h h' = (h.answered ∙ sym h'.answered, h.written ∙ sym h'.written)

pub judge_once_in_c : (s : List ℕ) (flags : ℕ) (numbers : List ℤ) (r r' : ℕ) (report report₁ report₂ : List ℕ) →
    ReportsJudged (judged s flags numbers) r report report₁ → ReportsJudged (judged s flags numbers) r' report report₂ →
    (r ≡ r') × (report₁ ≡ report₂)
judge_once_in_c s flags numbers = reports_once _ _ _

pub trim_once_in_c : (s : List ℕ) (ration : ℕ) (out out₁ out₂ : List ℕ) (r r' : ℕ) (report report₁ report₂ : List ℕ) →
    ReportsTrimmed s ration out out₁ r report report₁ → ReportsTrimmed s ration out out₂ r' report report₂ →
    (r ≡ r') × (report₁ ≡ report₂) × (out₁ ≡ out₂)
trim_once_in_c s ration out out₁ out₂ r r' report report₁ report₂ h h' =
    (h.answered ∙ sym h'.answered, h.written ∙ sym h'.written, h.lent ∙ sym h'.lent)

-- find's, the assignment shown aside: the same answer and the same place, the report's first number, which is 0 with answer 0
pub record AlikeInC (r : ℕ) (report : List ℕ) (numbers : List ℤ) (r' : ℕ) (report' : List ℕ) (numbers' : List ℤ) : Type 0 where
  pub answer : r ≡ r'
  pub place : get_or report 0 0 ≡ get_or report' 0 0
  pub found : r ≡ 0 → get_or report 0 0 ≡ 0
  pub rest : (r ≡ 0 → ⊥) → (report ≡ report') × (numbers ≡ numbers')

-- the bits don't touch the place; and a place of 0 reads as 0, in a report with no room for it too
reported_place : (report : List ℕ) (place value : ℕ) → get_or (set (set report 0 place) 1 value) 0 0 ≡ get_or (set report 0 place) 0 0
reported_place report place value = get_or-set_other (set report 0 place) 1 0 value 0 (omega arith)

place_none : (report : List ℕ) → get_or (set report 0 0) 0 0 ≡ 0
place_none [] = refl
place_none (x ∷ report) = refl

found_place : (r : Result ℕ FindRefusal) → (told_found r).answer ≡ 0 → (told_found r).place ≡ 0
found_place (Ok bits) e = refl
found_place (Err (Bytes why)) e = absurd (apart (back why).of 0 refl e)
found_place (Err Unfit) e = refl
found_place (Err Nothing) e = refl

pub find_once_in_c : (s : List ℕ) (numbers numbers₁ numbers₂ : List ℤ) (r r' : ℕ) (report report₁ report₂ : List ℕ) →
    ReportsFound s numbers numbers₁ r report report₁ → ReportsFound s numbers numbers₂ r' report report₂ →
    AlikeInC r report₁ numbers₁ r' report₂ numbers₂
find_once_in_c s numbers numbers₁ numbers₂ r r' report report₁ report₂ h h' =
    let alike = find_once s numbers h.found numbers₁ h'.found numbers₂ h.finds h'.finds in
    let w = h.reports in
    let w' = h'.reports in
    let at : (l : List ℕ) → ℕ = λ l. get_or l 0 0 in
    let first = ap at w.written ∙ reported_place report _ _ in
    let second = ap at w'.written ∙ reported_place report _ _ in
    record {
      answer = w.answered ∙ alike.answer ∙ sym w'.answered;
      place = first ∙ ap (λ p. at (set report 0 p)) alike.place ∙ sym second;
      found = λ z.
          first ∙ ap (λ p. at (set report 0 p)) (found_place h.found (sym w.answered ∙ z)) ∙ place_none report;
      rest = λ z.
          let rest = alike.rest (λ e. z (w.answered ∙ e)) in
          (w.written ∙ ap (λ f. set (set report 0 (told_found f).place) 1 (told_found f).flags) rest.0 ∙ sym w'.written, rest.1);
    }
