-- Questions by number, and those that are known to be answered no. Nothing here says which are known: that is a matter of speed.
use Rattle.std.specs.Prelude.{ℕ, ◌*◌, ◌/◌, ◌%◌, ◌<◌, ◌≡◌, ◌⊎◌, List, Bool, true, false, Option, Some, None, eqb, get_or}
use Rattle.condition.specs.Limits.{question_room}
use Rattle.condition.specs.Meaning.{Tree, Within}
use Rattle.condition.specs.Folding.{live}
use Rattle.condition.specs.Deciding.{sat}
use Rattle.condition.specs.Sweep.{Stage, stage, answer}
use Rattle.nodes.specs.declared.Node.{Node}
use Rattle.nodes.specs.Laid.{nodes, Laid}

-- "The sweep takes ends from left to right, question one before two": question q in this order, counted from 0
abbrev pub numbered : Tree → ℕ → Stage
numbered t q = stage t (q / 2) (eqb (q % 2) 1)

-- a question that is known is answered no
pub record Known (t : Tree) (known : List Bool) : Type 0 where
  pub no : (q : ℕ) → q < 2 * live t → get_or known q false ≡ true → answer sat (numbered t q) ≡ false

-- ---- what the code promises

-- there is room for so many assignments, and of so many questions it is known whether they are answered no: two about each end, of which a tree has
-- no more than nodes
abbrev pub kept : ℕ
kept = 32

abbrev pub questions : ℕ
questions = 2 * question_room

-- a question is known that was known, or that the mark of its end answers
pub record Notes (marks : List (Option Bool)) (known known' : List Bool) : Type 0 where
  pub from : (q : ℕ) → get_or known' q false ≡ true → (get_or known q false ≡ true) ⊎ (get_or marks (q / 2) None ≡ Some (eqb (q % 2) 1))

pub record Learns (n : ℕ → Node) (known known' : List Bool) : Type 0 where
  pub right : (t : Tree) → Laid t n 0 → nodes t < question_room → Known t known → Known t known'

pub record Replies (n : ℕ → Node) (q : ℕ) (known : List Bool) (yes : Bool) (known' : List Bool) : Type 0 where
  pub right : (t : Tree) → Laid t n 0 → nodes t < question_room → Within t → q < 2 * live t → Known t known →
      (yes ≡ answer sat (numbered t q)) × Known t known'
