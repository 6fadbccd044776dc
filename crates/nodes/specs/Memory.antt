-- A condition's nodes in memory, each told by its place.
use Rattle.std.specs.Prelude.{ℕ, ◌+◌, List, false, not, get_or}
use Rattle.nodes.specs.declared.Node.{Node}
use Rattle.nodes.specs.declared.Node.TheVariants.{Plain, Flag, Bound, Join}

-- the node at i of a slice; past its end plain false
abbrev pub node_at : List Node → ℕ → Node
node_at l i = get_or l i (Plain false)

-- the same node of the negation: "its negation" of an end, `and` for `or`, true for false
abbrev pub opposed : Node → Node
opposed (Plain b) = Plain (not b)
opposed (Join all k s) = Join (not all) k s
opposed (Flag so p) = Flag (not so) p
opposed (Bound so x y w) = Bound (not so) x y w

-- the nodes of the tree that begins with a node
abbrev pub size_of : Node → ℕ
size_of (Plain b) = 1
size_of (Join all k s) = s + 1
size_of (Flag so p) = 1
size_of (Bound so x y w) = 1

-- the children of a connective; an end has none
abbrev pub count_of : Node → ℕ
count_of (Plain b) = 0
count_of (Join all k s) = k
count_of (Flag so p) = 0
count_of (Bound so x y w) = 0
