-- What writing leaves in the output: "write the tree in order from the output's start, each child into the room after its elder sibling;
-- bytes beyond it stay."
use Rattle.std.specs.Prelude.{ℕ, ◌≤◌, ◌<◌, ◌≡◌, List, ◌++◌, length, drop}
use Rattle.condition.specs.Limits.{tree_room}
use Rattle.condition.specs.Meaning.{Tree, Forest, count}
use Rattle.condition.specs.Bytes.{number, join_tag, plain_tag, end_bytes, bytes, bytes_all}
use Rattle.nodes.specs.declared.Node.{Node}
use Rattle.nodes.specs.declared.Node.TheVariants.{Plain, Flag, Bound, Join}
use Rattle.nodes.specs.Laid.{join_of, flag_end, bound_end, nodes, nodes_all, Laid, LaidAll}

-- the bytes of a node without its children
unfoldable pub own : Node → List ℕ
own (Plain b) = number (plain_tag b)
own (Join b k s) = number (join_tag (join_of b)) ++ number k
own (Flag so p) = end_bytes (flag_end so p)
own (Bound so x y w) = end_bytes (bound_end so x y w)

-- r is the length of s, and s now stands at the start of what was `before`, the rest as it was; said only where s fits
pub record Stands (before after s : List ℕ) (r : ℕ) : Type 0 where
  pub long : length s ≤ length before → r ≡ length s
  pub here : length s ≤ length before → after ≡ s ++ drop (length s) before

pub record Put (before after s : List ℕ) (r : ℕ) : Type 0 where
  pub room : r ≤ length before
  pub stands : Stands before after s r

-- the tree that stands from node 0 on, if that has at most `left` nodes
pub record PutTree (n : ℕ → Node) (left : ℕ) (before after : List ℕ) (r : ℕ) : Type 0 where
  pub room : r ≤ length before
  pub tree : (t : Tree) → Laid t n 0 → nodes t ≤ left → Stands before after (bytes t) r

-- the k trees that stand from node 0 on, if those have at most `left` nodes together
pub record PutAll (n : ℕ → Node) (left k : ℕ) (before after : List ℕ) (r : ℕ) : Type 0 where
  pub room : r ≤ length before
  pub trees : (ts : Forest) → LaidAll ts n 0 → count ts ≡ k → nodes_all ts ≤ left → Stands before after (bytes_all ts) r

-- the answer of `needed`: the length of the tree that stands from node 0 on.
pub record Needed (n : ℕ → Node) (r : ℕ) : Type 0 where
  pub tree : (t : Tree) → Laid t n 0 → nodes t ≤ tree_room → r ≡ length (bytes t)

-- the answer and the output of `write`, for one tree: written whole or not at all
pub record Wrote (t : Tree) (before after : List ℕ) (r : ℕ) : Type 0 where
  pub long : r ≡ length (bytes t)
  pub here : r ≤ length before → after ≡ bytes t ++ drop r before
  pub full : length before < r → after ≡ before

-- and for the tree that stands from node 0 on
pub record Written (n : ℕ → Node) (before after : List ℕ) (r : ℕ) : Type 0 where
  pub tree : (t : Tree) → Laid t n 0 → nodes t ≤ tree_room → Wrote t before after r
