-- The answer to a question about a tree in memory is the one of the sweep's definition.
use Rattle.std.specs.Prelude.{ℕ, ◌<◌, ◌≡◌, Bool, true, false, Option, Some, None}
use Rattle.condition.specs.Limits.{question_room}
use Rattle.condition.specs.Meaning.{Tree, Within}
use Rattle.condition.specs.Folding.{live}
use Rattle.condition.specs.Deciding.{sat}
use Rattle.condition.specs.Sweep.{stage, answer}
use Rattle.nodes.specs.declared.Node.{Node}
use Rattle.nodes.specs.Laid.{nodes, Laid}
use Rattle.settling.specs.declared.Found.{Found}

-- nothing found is a yes
abbrev pub yes : Option Found → Bool
yes (Some found) = false
yes None = true

pub record Answers (n : ℕ → Node) (at : ℕ) (second : Bool) (r : Option Found) : Type 0 where
  pub right : (t : Tree) → Laid t n 0 → nodes t < question_room → Within t → at < live t →
      yes r ≡ answer sat (stage t at second)
