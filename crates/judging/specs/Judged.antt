-- What the two functions of the walk answer: "An `and` is judged through its children, which may be `or`, and the reverse."
use Rattle.std.specs.Prelude.{ℕ, ◌≤◌, ◌≡◌, Bool}
use Rattle.condition.specs.Meaning.{Assignment, Join, Tree, Forest, count, holds, each}
use Rattle.nodes.specs.declared.Node.{Node}
use Rattle.nodes.specs.Laid.{nodes, nodes_all, Laid, LaidAll}

-- r is whether a makes true the tree that stands from node 0 on, if that has at most `left` nodes
pub record Judged (n : ℕ → Node) (left : ℕ) (a : Assignment) (r : Bool) : Type 0 where
  pub tree : (t : Tree) → Laid t n 0 → nodes t ≤ left → r ≡ holds t a

-- r is the `and`, or the `or`, of the k trees that stand from node 0 on, if those have at most `left` nodes together
pub record JudgedAll (n : ℕ → Node) (left : ℕ) (j : Join) (k : ℕ) (a : Assignment) (r : Bool) : Type 0 where
  pub trees : (ts : Forest) → LaidAll ts n 0 → count ts ≡ k → nodes_all ts ≤ left → r ≡ each ts j a
