-- What judge answers for every input: document 01, "What each call answers".
use Rattle.std.specs.Prelude.{ℕ, List, Bool, false, cond, eqb, ℤ, length, Result, Ok, Err}
use Rattle.condition.specs.Answers as answers
use Rattle.condition.specs.Limits.{last_number}
use Rattle.condition.specs.Meaning.{Assignment, holds, given}
use Rattle.condition.specs.Reading.{Read, tree, refusal, read}
use Rattle.cursor.specs.Said.{answer_of, place_of}
use Rattle.travelring.specs.declared.Judgement.{Judgement}
use Rattle.travelring.specs.declared.JudgeRefusal.{JudgeRefusal}
use Rattle.travelring.specs.declared.JudgeRefusal.TheVariants.{Bytes, Unfit}

-- "its answer 0 carries true or false, its refusals carry false"
abbrev pub judgement : ℕ → ℕ → Bool → Judgement
judgement answer place value = record { answer = answer; place = place; value = value }

-- 0: "judged", at place 0; or as reading answers
abbrev pub judged_tree : Read → Assignment → Judgement
judged_tree (tree t) a = judgement answers.finished 0 (holds t a)
judged_tree (refusal n p) a = judgement n p false

-- 11: "assignment buffer isn't 15 numbers", at place 0; "11 comes first; then 1 to 8"
unfoldable pub judged : List ℕ → ℕ → List ℤ → Judgement
judged s flags numbers =
    cond (eqb (length numbers) last_number) (judged_tree (read s) (given flags numbers))
    (judgement answers.unfit 0 false)

-- what the cases of judge's result say
abbrev pub told : Result Bool JudgeRefusal → Judgement
told (Ok b) = judgement answers.finished 0 b
told (Err (Bytes why)) = judgement (answer_of why) (place_of why) false
told (Err Unfit) = judgement answers.unfit 0 false
