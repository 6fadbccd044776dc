-- What is put is found, other nodes stay, and a node opposed twice is itself.
use Prim.Native.Nat.{ℕ, ◌<◌}
use mathlib.Core.Path.{◌≡◌, ap}
use mathlib.Core.List.{List}
use mathlib.Core.Bool.{false, not-not}
use lib.ListN.{length, set}
use lib.Seq.{get_or-set_same, get_or-set_other}
use Rattle.nodes.specs.declared.Node.{Node}
use Rattle.nodes.specs.declared.Node.TheVariants.{Plain, Flag, Bound, Join}
use Rattle.nodes.specs.Memory.{node_at, opposed}

pub opposed_twice : (k : Node) → opposed (opposed k) ≡ k
opposed_twice (Plain b) = ap Plain (not-not b)
opposed_twice (Join all k s) = ap (λ x. Join x k s) (not-not all)
opposed_twice (Flag so p) = ap (λ x. Flag x p) (not-not so)
opposed_twice (Bound so x y w) = ap (λ v. Bound v x y w) (not-not so)

pub put_here : (l : List Node) (i : ℕ) (k : Node) → i < length l → node_at (set l i k) i ≡ k
put_here l i k h = get_or-set_same l i k (Plain false) h

pub put_other : (l : List Node) (i j : ℕ) (k : Node) → (j ≡ i → ⊥) → node_at (set l i k) j ≡ node_at l j
put_other l i j k h = get_or-set_other l i j k (Plain false) h
