-- What find answers for every input: document 01, "What each call answers". Which satisfying assignment it shows is free.
use Rattle.std.specs.Prelude.{ℕ, ◌≡◌, List, true, ℤ, length, Result, Ok, Err}
use Rattle.condition.specs.Answers as answers
use Rattle.condition.specs.Limits.{last_number}
use Rattle.condition.specs.Meaning.{Tree, holds, given}
use Rattle.condition.specs.Reading.{Read, tree, refusal, read}
use Rattle.condition.specs.Satisfying.{Satisfiable, InRange}
use Rattle.cursor.specs.Said.{answer_of, place_of}
use Rattle.travelring.specs.declared.Finding.{Finding}
use Rattle.travelring.specs.declared.FindRefusal.{FindRefusal}
use Rattle.travelring.specs.declared.FindRefusal.TheVariants.{Bytes, Unfit, Nothing}

-- "returns 32 boolean bits (0 in a refusal)"
abbrev pub finding : ℕ → ℕ → ℕ → Finding
finding answer place flags = record { answer = answer; place = place; flags = flags }

-- what the cases of find's result say. 12: "no satisfying assignment (find)", at place 0
abbrev pub told_found : Result ℕ FindRefusal → Finding
told_found (Ok bits) = finding answers.finished 0 bits
told_found (Err (Bytes why)) = finding (answer_of why) (place_of why) 0
told_found (Err Unfit) = finding answers.unfit 0 0
told_found (Err Nothing) = finding answers.nothing 0 0

-- a refusal: "All other answers write nothing to any buffer."
pub record Refuses (answer place : ℕ) (numbers : List ℤ) (r : Result ℕ FindRefusal) (numbers' : List ℤ) : Type 0 where
  pub told : told_found r ≡ finding answer place 0
  pub kept : numbers' ≡ numbers

-- a tree: 0 with an assignment that satisfies it, "Each number it writes lies from -15,000,015 to 15,000,015", "Find's answer 0 fills its
-- 15 numbers."; or 12, and none does
abbrev pub FindsTree : Tree → List ℤ → Result ℕ FindRefusal → List ℤ → Type 0
FindsTree t numbers (Ok bits) numbers' =
    (holds t (given bits numbers') ≡ true) × InRange (given bits numbers') × (length numbers' ≡ last_number)
FindsTree t numbers (Err Nothing) numbers' = (Satisfiable t → ⊥) × (numbers' ≡ numbers)
FindsTree t numbers (Err (Bytes why)) numbers' = ⊥
FindsTree t numbers (Err Unfit) numbers' = ⊥

abbrev pub FindsRead : Read → List ℤ → Result ℕ FindRefusal → List ℤ → Type 0
FindsRead (tree t) = FindsTree t
FindsRead (refusal n p) = Refuses n p

-- "11 comes first; then 1 to 8, [..]; then 12"
pub record Finds (s : List ℕ) (numbers : List ℤ) (r : Result ℕ FindRefusal) (numbers' : List ℤ) : Type 0 where
  pub unfit : (length numbers ≡ last_number → ⊥) → Refuses answers.unfit 0 numbers r numbers'
  pub fit : length numbers ≡ last_number → FindsRead (read s) numbers r numbers'
