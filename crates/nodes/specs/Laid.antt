-- A tree laid out in prefix order from node i on: a connective's node holds its child count and the nodes below it.
use Rattle.std.specs.Prelude.{ℕ, ◌+◌, ◌≡◌, Bool, true, false, cond, ℤ, pos, ◌-ℤ◌}
use Rattle.condition.specs.Limits.{largest_bound}
use Rattle.condition.specs.Meaning.{End, is, is_not, at_most, above, Join, all, any, Tree, plain, leaf, join, Forest, none, more, count}
use Rattle.nodes.specs.declared.Node.{Node}
use Rattle.nodes.specs.declared.Node.TheVariants as node

-- a bound c is kept as c + 1,000,000
abbrev pub shifted : ℕ → ℤ
shifted w = pos w -ℤ pos largest_bound

abbrev pub join_of : Bool → Join
join_of b = cond b all any

abbrev pub is_all : Join → Bool
is_all all = true
is_all any = false

-- the end of a node that is one
abbrev pub flag_end : Bool → ℕ → End
flag_end so p = cond so (is p) (is_not p)

abbrev pub bound_end : Bool → ℕ → ℕ → ℕ → End
bound_end so x y w = cond so (at_most x y (shifted w)) (above x y (shifted w))

abbrev pub EndIs : End → Node → Type 0
EndIs e (node.Plain b) = ⊥
EndIs e (node.Flag so p) = e ≡ flag_end so p
EndIs e (node.Bound so x y w) = e ≡ bound_end so x y w
EndIs e (node.Join j k s) = ⊥

unfoldable mutual
  pub nodes : Tree → ℕ
  nodes (plain b) = 1
  nodes (leaf e) = 1
  nodes (join j ts) = nodes_all ts + 1

  pub nodes_all : Forest → ℕ
  nodes_all none = 0
  nodes_all (more t ts) = nodes t + nodes_all ts

-- `Laid t n i`: t stands from node i on, where n gives the nodes
unfoldable mutual
  pub Laid : Tree → (ℕ → Node) → ℕ → Type 0
  Laid (plain b) n i = n i ≡ node.Plain b
  Laid (leaf e) n i = EndIs e (n i)
  Laid (join j ts) n i = (n i ≡ node.Join (is_all j) (count ts) (nodes_all ts)) × LaidAll ts n (i + 1)

  pub LaidAll : Forest → (ℕ → Node) → ℕ → Type 0
  LaidAll none n i = Unit {0}
  LaidAll (more t ts) n i = Laid t n i × LaidAll ts n (i + nodes t)
