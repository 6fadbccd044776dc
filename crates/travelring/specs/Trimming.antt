-- What trim answers for every input: document 01, "What each call answers".
use Rattle.std.specs.Prelude.{ℕ, ◌≡◌, List, [], ◌++◌, cond, ltb, length, drop, Result, Ok, Err}
use Rattle.condition.specs.Answers as answers
use Rattle.condition.specs.Bytes.{bytes}
use Rattle.condition.specs.Reading.{Read, tree, refusal, read}
use Rattle.condition.specs.Folding.{live}
use Rattle.condition.specs.Sweep.{Answer, trimmed}
use Rattle.cursor.specs.Said.{answer_of, place_of}
use Rattle.travelring.specs.declared.Trimming.{Trimming}
use Rattle.travelring.specs.declared.Trimmed.{Trimmed}
use Rattle.travelring.specs.declared.TrimRefusal.{TrimRefusal}
use Rattle.travelring.specs.declared.TrimRefusal.TheVariants.{Bytes, Long}

-- "Trim also returns the questions asked and the ends of the result (constants count 0 here)."
abbrev pub trimming : ℕ → ℕ → ℕ → ℕ → Trimming
trimming answer place questions ends = record { answer = answer; place = place; questions = questions; ends = ends }

-- what trim says, and the bytes it writes from the output's start
pub record Outcome : Type 0 where
  pub said : Trimming
  pub written : List ℕ

-- "Every answer of it but 0 and 10, later refusals too, returns 0 for both." "All other answers write nothing to any buffer."
abbrev pub refuses : ℕ → ℕ → Outcome
refuses n p = record { said = trimming n p 0 0; written = [] }

-- 0: "finished"; 10: "ration used up before the sweep ended"; both at place 0
abbrev pub ended : Answer → Outcome
ended a = record {
  said = trimming (cond a.finished answers.finished answers.stopped) 0 a.asked (live a.tree);
  written = bytes a.tree;
}

-- 9: "result, a stopped one too, longer than the output buffer", at the "bytes needed"; "then 12 or 9; then 10 or 0"
abbrev pub fitted : ℕ → Answer → Outcome
fitted room a = let needed = length (bytes a.tree) in cond (ltb room needed) (refuses answers.long needed) (ended a)

abbrev pub outcome_read : Read → (ration room : ℕ) → Outcome
outcome_read (tree t) ration room = fitted room (trimmed t ration)
outcome_read (refusal n p) ration room = refuses n p

-- trim of the bytes s under a ration, with so much room in the output
unfoldable pub outcome : List ℕ → (ration room : ℕ) → Outcome
outcome s ration room = outcome_read (read s) ration room

-- what the cases of trim's result say
abbrev pub told_trimmed : Result Trimmed TrimRefusal → Trimming
told_trimmed (Ok t) = trimming (cond t.finished answers.finished answers.stopped) 0 t.questions t.ends
told_trimmed (Err (Bytes why)) = trimming (answer_of why) (place_of why) 0 0
told_trimmed (Err (Long needed)) = trimming answers.long needed 0 0

-- and how many bytes they say were written, which 01 does not name
abbrev pub length_told : Result Trimmed TrimRefusal → ℕ
length_told (Ok t) = t.bytes
length_told (Err why) = 0

-- the contract: the numbers, how many bytes are written, and the output, where "bytes beyond it stay"
abbrev pub onto : List ℕ → List ℕ → List ℕ
onto w out = w ++ drop (length w) out

pub record Trims (s : List ℕ) (ration : ℕ) (out : List ℕ) (r : Result Trimmed TrimRefusal) (out' : List ℕ) : Type 0 where
  pub told : told_trimmed r ≡ (outcome s ration (length out)).said
  pub long : length_told r ≡ length (outcome s ration (length out)).written
  pub lent : out' ≡ onto (outcome s ration (length out)).written out
