-- What the calls of the C boundary return and write: document 01's number, and in every answer a report of the place and
-- what comes with the answer.
use Rattle.std.specs.Prelude.{ℕ, ◌≡◌, List, cond, ℤ, length, set, Result}
use Rattle.travelring.specs.declared.Judgement.{Judgement}
use Rattle.travelring.specs.declared.Finding.{Finding}
use Rattle.travelring.specs.declared.FindRefusal.{FindRefusal}
use Rattle.travelring.specs.Finding.{told_found, Finds}
use Rattle.travelring.specs.Trimming.{Outcome, outcome, onto}

-- the number returned, and a report of two numbers that holds the place and what comes with the answer
pub record Reports (answer place value : ℕ) (r : ℕ) (report report' : List ℕ) : Type 0 where
  pub answered : r ≡ answer
  pub written : report' ≡ set (set report 0 place) 1 value

-- judge: the value is 1 or 0
abbrev pub ReportsJudged : Judgement → ℕ → List ℕ → List ℕ → Type 0
ReportsJudged j = Reports j.answer j.place (cond j.value 1 0)

-- find: the value is the boolean bits
abbrev pub ReportsFinding : Finding → ℕ → List ℕ → List ℕ → Type 0
ReportsFinding f = Reports f.answer f.place f.flags

pub record ReportsFound (s : List ℕ) (numbers numbers' : List ℤ) (r : ℕ) (report report' : List ℕ) : Type 0 where
  pub found : Result ℕ FindRefusal
  pub finds : Finds s numbers found numbers'
  pub reports : ReportsFinding (told_found found) r report report'

-- trim: place, questions, ends and bytes written; and the output
abbrev pub report_of : Outcome → List ℕ → List ℕ
report_of o report =
    set (set (set (set report 0 o.said.place) 1 o.said.questions) 2 o.said.ends) 3 (length o.written)

pub record ReportsOutcome (o : Outcome) (out out' : List ℕ) (r : ℕ) (report report' : List ℕ) : Type 0 where
  pub answered : r ≡ o.said.answer
  pub written : report' ≡ report_of o report
  pub lent : out' ≡ onto o.written out

abbrev pub ReportsTrimmed : List ℕ → ℕ → List ℕ → List ℕ → ℕ → List ℕ → List ℕ → Type 0
ReportsTrimmed s ration out out' = ReportsOutcome (outcome s ration (length out)) out out'
