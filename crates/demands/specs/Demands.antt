-- The user's demands (document 00, item 4), said of every outcome that the public calls' contracts allow, for every input. Each clause
-- stands under the demand's own words; nothing is assumed.
use Rattle.std.specs.Prelude.{ℕ, ◌+◌, ◌*◌, ◌≤◌, ◌<◌, min, ◌≡◌, List, ◌↔◌, Bool, true, false, cond, ℤ, length, Result}
use Rattle.condition.specs.Limits.{last_number}
use Rattle.condition.specs.Answers.{OfReading}
use Rattle.condition.specs.Meaning.{Assignment, Tree, plain, leaf, holds, negate, ends, given}
use Rattle.condition.specs.Bytes.{Octets, bytes}
use Rattle.condition.specs.Reading.{tree, refusal, read}
use Rattle.condition.specs.Satisfying.{Satisfiable, InRange}
use Rattle.condition.specs.Folding.{fold, live}
use Rattle.condition.specs.Critical.{end_at, critical, Implies, NonConstraining, NonRelaxing}
use Rattle.condition.specs.Sweep.{trimmed, needs}
use Rattle.condition.specs.Counting.{Sweeps}
use Rattle.travelring.specs.declared.JudgeRefusal.{JudgeRefusal}
use Rattle.travelring.specs.declared.FindRefusal.{FindRefusal}
use Rattle.travelring.specs.declared.Trimmed.{Trimmed}
use Rattle.travelring.specs.declared.TrimRefusal.{TrimRefusal}
use Rattle.travelring.specs.declared.Trimming.{Trimming}
use Rattle.travelring.specs.Judging.{told, judged}
use Rattle.travelring.specs.Finding.{told_found, Finds}
use Rattle.travelring.specs.Trimming.{told_trimmed, onto, Trims}

-- ---- a call that the contract allows: what went in, what came out, and what the lent memory held

pub record TrimCall : Type 0 where
  pub input : List ℕ
  pub octets : Octets input
  pub ration : ℕ
  pub before : List ℕ
  pub answer : Result Trimmed TrimRefusal
  pub after : List ℕ
  pub allowed : Trims input ration before answer after

pub record JudgeCall : Type 0 where
  pub input : List ℕ
  pub flags : ℕ
  pub numbers : List ℤ
  pub answer : Result Bool JudgeRefusal
  pub allowed : told answer ≡ judged input flags numbers

pub record FindCall : Type 0 where
  pub input : List ℕ
  pub before : List ℤ
  pub answer : Result ℕ FindRefusal
  pub after : List ℤ
  pub allowed : Finds input before answer after

-- its four numbers
abbrev pub said : TrimCall → Trimming
said c = told_trimmed c.answer

abbrev pub four : ℕ → ℕ → ℕ → ℕ → Trimming
four answer place questions ends = record { answer = answer; place = place; questions = questions; ends = ends }

-- what is written of a tree t that was read
abbrev pub result : TrimCall → Tree → Tree
result c t = (trimmed t c.ration).tree

-- "room enough for what is written"
abbrev pub Room : TrimCall → Tree → Type 0
Room c t = length (bytes (result c t)) ≤ length c.before

-- ---- demand 1

-- "the first that applies" of document 01's table: 11 comes first, then what reading answers; then 12 or 9; then 10 or 0
pub record TrimTable (c : TrimCall) : Type 0 where
  -- 1 to 8. "A refused call leaves the lent buffers holding what they held, and returns the stated place and numbers."
  pub refuses : (n p : ℕ) → read c.input ≡ refusal n p → (said c ≡ four n p 0 0) × (c.after ≡ c.before)
  -- 9
  pub long : (t : Tree) → read c.input ≡ tree t → length c.before < length (bytes (result c t)) →
      (said c ≡ four 9 (length (bytes (result c t))) 0 0) × (c.after ≡ c.before)
  -- 10 and 0
  pub ends : (t : Tree) → read c.input ≡ tree t → Room c t →
      (said c ≡ four (cond (trimmed t c.ration).finished 0 10) 0 (trimmed t c.ration).asked (live (result c t))) ×
      (c.after ≡ onto (bytes (result c t)) c.before)

pub record JudgeTable (c : JudgeCall) : Type 0 where
  -- 11
  pub unfit : (length c.numbers ≡ last_number → ⊥) → told c.answer ≡ record { answer = 11; place = 0; value = false }
  -- 1 to 8
  pub refuses : length c.numbers ≡ last_number → (n p : ℕ) → read c.input ≡ refusal n p →
      told c.answer ≡ record { answer = n; place = p; value = false }
  -- 0
  pub judges : length c.numbers ≡ last_number → (t : Tree) → read c.input ≡ tree t →
      told c.answer ≡ record { answer = 0; place = 0; value = holds t (given c.flags c.numbers) }

pub record FindTable (c : FindCall) : Type 0 where
  -- 11
  pub unfit : (length c.before ≡ last_number → ⊥) →
      (told_found c.answer ≡ record { answer = 11; place = 0; flags = 0 }) × (c.after ≡ c.before)
  -- 1 to 8
  pub refuses : length c.before ≡ last_number → (n p : ℕ) → read c.input ≡ refusal n p →
      (told_found c.answer ≡ record { answer = n; place = p; flags = 0 }) × (c.after ≡ c.before)
  -- 12
  pub none : length c.before ≡ last_number → (t : Tree) → read c.input ≡ tree t → (Satisfiable t → ⊥) →
      (told_found c.answer ≡ record { answer = 12; place = 0; flags = 0 }) × (c.after ≡ c.before)
  -- 0: the assignment shown satisfies the tree, and its numbers are in range and 15
  pub finds : length c.before ≡ last_number → (t : Tree) → read c.input ≡ tree t → Satisfiable t →
      let a = given (told_found c.answer).flags c.after in
      ((told_found c.answer).answer ≡ 0) × ((told_found c.answer).place ≡ 0) × (holds t a ≡ true) × InRange a ×
      (length c.after ≡ last_number)

pub record Demand1 : Type 0 where
  -- "Every byte string, ration and buffer length gets an answer": the three contracts can be met
  pub trim_answers : (s : List ℕ) (ration : ℕ) (before : List ℕ) → (r : Result Trimmed TrimRefusal) × (after : List ℕ) × Trims s ration before r after
  pub judge_answers : (s : List ℕ) (flags : ℕ) (numbers : List ℤ) → (r : Result Bool JudgeRefusal) × (told r ≡ judged s flags numbers)
  pub find_answers : (s : List ℕ) → Octets s → (before : List ℤ) → (r : Result ℕ FindRefusal) × (after : List ℤ) × Finds s before r after
  -- reading has a tree, or refuses with 1 to 8
  pub reads : (s : List ℕ) (n p : ℕ) → read s ≡ refusal n p → OfReading n
  -- "from the table in document 01, the first that applies"
  pub trim_table : (c : TrimCall) → TrimTable c
  pub judge_table : (c : JudgeCall) → JudgeTable c
  pub find_table : (c : FindCall) → FindTable c

-- ---- demand 2

-- answer 0; and answer 0 or 10, which write a tree
abbrev pub Finished : TrimCall → Type 0
Finished c = (said c).answer ≡ 0

pub data Writes (c : TrimCall) : Type 0 where
  finished : Finished c → Writes c
  stopped : (said c).answer ≡ 10 → Writes c

pub record Written (c : TrimCall) : Type 0 where
  -- the tree read, and "the written tree", which stands at the output's start and reads back
  pub t : Tree
  pub u : Tree
  pub was_read : read c.input ≡ tree t
  pub stands : c.after ≡ onto (bytes u) c.before
  pub reads_back : read (bytes u) ≡ tree u
  -- "is true under exactly the assignments that make the tree read true"
  pub means : (a : Assignment) → holds u a ≡ holds t a
  -- "has no more ends": constants aside, and constants counted
  pub fewer : live u ≤ live t
  pub fewer_counted : ends u ≤ ends t
  -- "and when finished has no end, a plain true or false aside, that is non-constraining or non-relaxing as the paper defines these"
  pub firm : Finished c → (i : ℕ) → i < live u → (NonConstraining u i → ⊥) × (NonRelaxing u i → ⊥)
  -- "It is the tree the stated sweep reaches."
  pub swept : u ≡ (trimmed t c.ration).tree
  -- "Finished, it is plain false exactly if no assignment satisfies it and plain true exactly if all do."
  pub plain_false : Finished c → (u ≡ plain false) ↔ (Satisfiable u → ⊥)
  pub plain_true : Finished c → (u ≡ plain true) ↔ ((a : Assignment) → holds u a ≡ true)

pub record Demand2 : Type 0 where
  pub written : (c : TrimCall) → Writes c → Written c

-- ---- demand 3

pub record Demand3 : Type 0 where
  -- "Questions settled on the critical constraint agree with the paper's definition of redundancy."
  pub one : (t : Tree) (i : ℕ) → i < live t → Implies (critical t i) (leaf (end_at t i)) ↔ NonConstraining t i
  pub two : (t : Tree) (i : ℕ) → i < live t → Implies (critical t i) (negate (leaf (end_at t i))) ↔ NonRelaxing t i
  -- "The sweep needs a number of questions fixed by the tree, at most n(n+1)." 01: "sweep by sweep, 2j - 1 or 2j where end j is cut, 2k
  -- for the last sweep over k ends"
  pub most : (t : Tree) → needs t ≤ live (fold t) * (live (fold t) + 1)
  pub counted : (t : Tree) → Sweeps (fold t) (needs t) (trimmed t (needs t)).tree
  pub fixed : (t u : Tree) (n : ℕ) → Sweeps (fold t) n u → n ≡ needs t
  -- "The call reports that number or the ration, whichever is less"
  pub reports : (c : TrimCall) (t : Tree) → read c.input ≡ tree t → Room c t → (said c).questions ≡ min (needs t) c.ration
  -- "and is finished exactly if the ration covers it."
  pub covers : (c : TrimCall) (t : Tree) → read c.input ≡ tree t → Room c t → Finished c ↔ (needs t ≤ c.ration)
  -- "A larger ration never changes a finished tree."
  pub stays : (c c' : TrimCall) → c'.input ≡ c.input → c'.before ≡ c.before → c.ration ≤ c'.ration → Finished c →
      (said c' ≡ said c) × (c'.after ≡ c.after)
