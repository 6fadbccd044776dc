-- The sweep's code reaches the tree of the sweep's definition, with its count of questions.
use Rattle.std.specs.Prelude.{ℕ, ◌≤◌, ◌≡◌, List, Bool}
use Rattle.condition.specs.Limits.{tree_room}
use Rattle.condition.specs.Meaning.{Tree, Within}
use Rattle.condition.specs.Sweep.{Answer, trimmed}
use Rattle.nodes.specs.declared.Node.{Node}
use Rattle.nodes.specs.Memory.{node_at}
use Rattle.nodes.specs.Laid.{nodes, Laid}

pub record Says (a : Answer) (tree : List Node) (asked : ℕ) (finished : Bool) : Type 0 where
  pub laid : Laid a.tree (node_at tree) 0
  pub count : asked ≡ a.asked
  pub over : finished ≡ a.finished

pub record Sweeps (n : ℕ → Node) (ration : ℕ) (tree : List Node) (asked : ℕ) (finished : Bool) : Type 0 where
  pub right : (t : Tree) → Laid t n 0 → nodes t ≤ tree_room → Within t → Says (trimmed t ration) tree asked finished
