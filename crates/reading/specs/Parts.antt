-- What a part of the reading shows of what document 01 has read there, and what the whole reading leaves.
use Rattle.std.specs.Prelude.{ℕ, ◌+◌, ◌*◌, ◌≤◌, ◌<◌, ◌≡◌, List, length, Result, Ok, Err, IfOk}
use Rattle.condition.specs.Limits.{most_ends, tree_room}
use Rattle.condition.specs.Meaning.{leaf, ends, ends_all}
use Rattle.condition.specs.Reading.{Reading, got, refused, then, read_end, read_tree, read_all, Read, tree, refusal}
use Rattle.cursor.specs.declared.Cursor.{Cursor}
use Rattle.cursor.specs.declared.Refusal.{Refusal}
use Rattle.cursor.specs.Said.{answer_of, place_of, from}
use Rattle.nodes.specs.declared.Node.{Node}
use Rattle.nodes.specs.Memory.{node_at}
use Rattle.nodes.specs.Laid.{Laid, LaidAll, nodes, nodes_all}
use Rattle.reading.specs.declared.Part.{Part}

-- an end more, which stands before c
abbrev pub after : Part → Cursor → Part
after done c = record { free = done.free + 1; cursor = c; ends = done.ends + 1 }

-- of a tree or of children, by how they are laid, their nodes and their ends
module _ {A : Type 0} (laid : A → (ℕ → Node) → ℕ → Type 0) (size many : A → ℕ) (s : List ℕ) (ns : List Node) (i others : ℕ) where
  -- x stands in the nodes from i up to the next free one, has the ends that came to `others`, and the bytes l at `at` are those from
  -- the cursor on
  pub record Stands (p : Part) (x : A) (l : List ℕ) (at : ℕ) : Type 0 where
    pub stands : laid x (node_at ns) i
    pub next : p.free ≡ i + size x
    pub counted : p.ends ≡ others + many x
    pub rest : l ≡ from s p.cursor.at
    pub place : at ≡ p.cursor.at

  abbrev pub Shows : Result Part Refusal → Reading A → Type 0
  Shows (Ok p) (got x l at) = Stands p x l at
  Shows (Ok p) (refused a q) = ⊥
  Shows (Err why) (got x l at) = ⊥
  Shows (Err why) (refused a q) = (a ≡ answer_of why) × (q ≡ place_of why)

-- k trees were read from `at` and node i on, with `others` ends beside them: their sizes, and that nodes before i are as they were
pub record Went (k : ℕ) (ns₀ ns : List Node) (len at others i : ℕ) (p : Part) : Type 0 where
  pub on : at + k ≤ p.cursor.at
  pub inside : p.cursor.at ≤ len
  pub fits : p.free + k + 2 * others ≤ i + 2 * p.ends
  pub some : i + k ≤ p.free
  pub most : p.ends ≤ most_ends
  pub least : others + k ≤ p.ends
  pub kept : (x : ℕ) → x < i → node_at ns x ≡ node_at ns₀ x

-- where a node, or k children, may be read: inside the bytes, and with room for all that may come
pub record May (k : ℕ) (s : List ℕ) (done : Part) (room : ℕ) : Type 0 where
  pub inside : done.cursor.at ≤ length s
  pub few : done.ends + k ≤ most_ends
  pub before : done.free + 1 ≤ 2 * done.ends + k
  pub wide : tree_room ≤ room

-- what was read from where the reading stood: an end by its tag g, a node, k children
pub record EndRight (ns₀ ns : List Node) (s : List ℕ) (g : ℕ) (done : Part) (r : Result Part Refusal) : Type 0 where
  pub is : Shows Laid nodes ends s ns done.free done.ends r
      (then (read_end g (from s done.cursor.at) done.cursor.at) (λ e l at'. got (leaf e) l at'))
  pub goes : IfOk r (Went 1 ns₀ ns (length s) done.cursor.at done.ends done.free)

pub record NodeRight (ns₀ ns : List Node) (s : List ℕ) (done : Part) (r : Result Part Refusal) : Type 0 where
  pub is : (d : ℕ) → most_ends ≤ d + done.ends + 1 →
      Shows Laid nodes ends s ns done.free done.ends r (read_tree d (from s done.cursor.at) done.cursor.at done.ends)
  pub goes : IfOk r (Went 1 ns₀ ns (length s) done.cursor.at done.ends done.free)

pub record ChildrenRight (ns₀ ns : List Node) (s : List ℕ) (k : ℕ) (done : Part) (r : Result Part Refusal) : Type 0 where
  pub is : (d : ℕ) → most_ends ≤ d + done.ends + k →
      Shows LaidAll nodes_all ends_all s ns done.free done.ends r (read_all (read_tree d) k (from s done.cursor.at) done.cursor.at done.ends)
  pub goes : IfOk r (Went k ns₀ ns (length s) done.cursor.at done.ends done.free)

-- the whole: the tree read stands from node 0 on, and has room; or the refusal with document 01's number and place
abbrev pub Holds : List Node → Result Unit Refusal → Read → Type 0
Holds ns (Ok _) (tree t) = Laid t (node_at ns) 0 × (nodes t ≤ tree_room)
Holds ns (Ok _) (refusal a p) = ⊥
Holds ns (Err why) (tree t) = ⊥
Holds ns (Err why) (refusal a p) = (a ≡ answer_of why) × (p ≡ place_of why)
