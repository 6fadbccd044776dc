-- The question about an end as the sweep's code writes it: one `and` of the starred siblings on the path and the end or its opposite.
-- proofs/Means.antt proves that it means what document 01 asks: the critical constraint, and the end or its opposite.
use Rattle.std.specs.Prelude.{ℕ, zero, suc, ◌+◌, ◌-◌, ◌≤◌, ◌<◌, ◌≡◌, List, Bool, true, false, cond, ltb, length, Option, Some, None}
use Rattle.condition.specs.Meaning.{End, opposite, Join, all, any, Tree, plain, leaf, join, Forest, none, more, count, negate_all}
use Rattle.condition.specs.Limits.{deepest, question_room}
use Rattle.condition.specs.Depth.{deep, deep_all}
use Rattle.condition.specs.Folding.{live, live_all}
use Rattle.condition.specs.Critical.{star}
use Rattle.nodes.specs.declared.Node.{Node}
use Rattle.nodes.specs.declared.Node.TheVariants as node
use Rattle.nodes.specs.Memory.{node_at, opposed, size_of}
use Rattle.nodes.specs.Laid.{join_of, nodes, nodes_all, Laid, LaidAll}
use Rattle.asking.specs.declared.Place.{Place}
use Rattle.asking.specs.declared.Wrote.{Wrote}

-- ---- node by node

-- a node, or (true) the same node of the negation
abbrev pub turned : Bool → Node → Node
turned true k = opposed k
turned false k = k

abbrev pub is_end : Node → Bool
is_end (node.Plain b) = false
is_end (node.Join a k s) = false
is_end (node.Flag so p) = true
is_end (node.Bound so x y w) = true

unfoldable pub ends_from : (ℕ → Node) → ℕ → ℕ → ℕ
ends_from n i zero = 0
ends_from n i (suc k) = ends_from n i k + cond (is_end (n (i + k))) 1 0

-- ---- tree by tree

abbrev pub asked : Bool → End → End
asked opp e = cond opp (opposite e) e

-- the siblings of a child, each starred
abbrev pub star_all : Join → Forest → Forest
star_all all ts = ts
star_all any ts = negate_all ts

abbrev pub onto : Forest → Forest → Forest
onto none us = us
onto (more t ts) us = more t (onto ts us)

unfoldable mutual
  pub gathered : Tree → ℕ → Bool → Forest
  gathered (plain b) m opp = none
  gathered (leaf e) m opp = more (leaf (asked opp e)) none
  gathered (join j ts) m opp = gathered_in ts j m opp

  pub gathered_in : Forest → Join → ℕ → Bool → Forest
  gathered_in none j m opp = none
  gathered_in (more t ts) j m opp =
      cond (ltb m (live t)) (onto (star_all j ts) (gathered t m opp)) (more (star j t) (gathered_in ts j (m - live t) opp))

abbrev pub question : Tree → ℕ → Bool → Tree
question t m opp = join all (gathered t m opp)

-- ---- what the code promises: of the nodes n, and of those it leaves in the output, m; a tree, or trees, stand from node 0 on

-- the nodes of a tree that has `size` nodes, and nests `depth` deep at most, are opposed; and those of trees
pub record Negates (n : ℕ → Node) (size depth : ℕ) (m : ℕ → Node) : Type 0 where
  pub right : (t : Tree) → Laid t n 0 → nodes t ≡ size → deep t ≤ depth → (x : ℕ) → x < size → m x ≡ opposed (n x)

pub record NegatesAll (n : ℕ → Node) (size depth : ℕ) (m : ℕ → Node) : Type 0 where
  pub right : (ts : Forest) → LaidAll ts n 0 → nodes_all ts ≡ size → deep_all ts ≤ depth → (x : ℕ) → x < size → m x ≡ opposed (n x)

-- the trees stand in the output, starred
pub record Stars (n : ℕ → Node) (size : ℕ) (a : Bool) (depth : ℕ) (m : ℕ → Node) : Type 0 where
  pub right : (ts : Forest) → LaidAll ts n 0 → nodes_all ts ≡ size → deep_all ts ≤ depth → LaidAll (star_all (join_of a) ts) m 0

-- of the trees ts, one stands at the place c, and the end there is end m of them all
pub record Among (ts : Forest) (m : ℕ) (c : Place) : Type 0 where
  pub elder : Forest
  pub t : Tree
  pub younger : Forest
  pub parts : ts ≡ onto elder (more t younger)
  pub before : nodes_all elder ≡ c.at
  pub here : nodes t ≡ c.size
  pub ended : live_all elder + c.end ≡ m
  pub inside : c.end < live t

pub record Sought (n : ℕ → Node) (last m : ℕ) (c : Place) : Type 0 where
  pub some : 1 ≤ c.size
  pub high : c.at + c.size ≤ last
  pub right : (ts : Forest) → LaidAll ts n 0 → nodes_all ts ≡ last → Among ts m c

-- such a place; or none, where the trees in the first `last` nodes have no end m
abbrev pub Seeks : (ℕ → Node) → ℕ → ℕ → Option Place → Type 0
Seeks n last m None = (ts : Forest) → LaidAll ts n 0 → nodes_all ts ≡ last → live_all ts ≤ m
Seeks n last m (Some c) = Sought n last m c

-- the siblings of the tree at c stand in the output, starred, in `size` nodes
pub record Siblings (n : ℕ → Node) (c : Place) (size : ℕ) (a : Bool) (depth : ℕ) (o : ℕ → Node) : Type 0 where
  pub right : (ts : Forest) (m : ℕ) → LaidAll ts n 0 → nodes_all ts ≡ size + c.size → deep_all ts ≤ depth → (p : Among ts m c) →
      LaidAll (star_all (join_of a) (onto p.elder p.younger)) o 0

-- the trees us stand in the output
pub record Stand (us : Forest) (o : ℕ → Node) (w : Wrote) : Type 0 where
  pub laid : LaidAll us o 0
  pub sized : w.size ≡ nodes_all us
  pub counted : w.trees ≡ count us

pub record Gathers (n : ℕ → Node) (size m depth : ℕ) (opp : Bool) (o : ℕ → Node) (w : Wrote) : Type 0 where
  pub small : w.size ≤ size
  pub few : w.trees ≤ size
  pub right : (t : Tree) → Laid t n 0 → nodes t ≡ size → deep t ≤ depth → Stand (gathered t m opp) o w

-- what is asked of the tree in the first `size` nodes; or nothing, where it has no end m
abbrev pub MayGather : (ℕ → Node) → ℕ → ℕ → ℕ → Bool → (ℕ → Node) → Option Wrote → Type 0
MayGather n size m depth opp o None = (t : Tree) → Laid t n 0 → nodes t ≡ size → deep t ≤ depth → live t ≤ m
MayGather n size m depth opp o (Some w) = Gathers n size m depth opp o w

pub record Asks (n : ℕ → Node) (m : ℕ) (opp : Bool) (o : List Node) (r : ℕ) (o' : List Node) : Type 0 where
  pub small : r ≤ size_of (n 0) + 1
  pub few : r ≤ question_room
  pub long : length o' ≡ length o
  pub kept : length o ≤ size_of (n 0) → o' ≡ o
  pub right : (t : Tree) → Laid t n 0 → nodes t < question_room → nodes t < length o → m < live t → deep t ≤ deepest →
      Laid (question t m opp) (node_at o') 0 × (r ≡ nodes (question t m opp))

pub record Lives (n : ℕ → Node) (r : ℕ) : Type 0 where
  pub few : r ≤ question_room
  pub right : (t : Tree) → Laid t n 0 → nodes t ≤ question_room → r ≡ live t
