-- Folding over nodes: the tree laid from node 0 on, one end of it cut or none, and folded.
use Rattle.std.specs.Prelude.{ℕ, ◌≤◌, ◌<◌, ◌≡◌, List, length, Option, Some, None}
use Rattle.condition.specs.Limits.{tree_room}
use Rattle.condition.specs.Meaning.{Tree, plain}
use Rattle.condition.specs.Folding.{fold, live}
use Rattle.condition.specs.Critical.{put}
use Rattle.nodes.specs.declared.Node.{Node}
use Rattle.nodes.specs.Memory.{node_at, size_of}
use Rattle.nodes.specs.Laid.{Laid, nodes}
use Rattle.folding.specs.declared.Cut.{Cut}

-- 000, definition 4: the end replaced by a constant. Ends are counted from 0, constants aside
abbrev pub cut_at : Tree → Option Cut → Tree
cut_at t None = t
cut_at t (Some c) = put t c.end (plain c.to)

-- no cut, or one of an end that the tree has
abbrev pub Has : Tree → Option Cut → Type 0
Has t None = Unit {0}
Has t (Some c) = c.end < live t

-- what was written, o', is the folded tree in r nodes, where there is such an end
pub record Folded (n : ℕ → Node) (cut : Option Cut) (o o' : List Node) (r : ℕ) : Type 0 where
  pub small : r ≤ size_of (n 0)
  pub few : r ≤ tree_room
  pub kept : length o < tree_room → o' ≡ o
  pub is : (t : Tree) → Laid t n 0 → nodes t ≤ tree_room → tree_room ≤ length o → Has t cut →
      Laid (fold (cut_at t cut)) (node_at o') 0 × (r ≡ nodes (fold (cut_at t cut)))
