-- How long a tree's bytes are: the sum over its nodes of each node's own, by recursion over the tree. Sums over neighbouring nodes add up.
use Prim.Native.Nat.{ℕ, zero, suc, ◌+◌, ◌≤◌, min}
use mathlib.Core.Path.{◌≡◌, refl, ap, ◌∙◌}
use native.Mathlib.Omega.{arith}
use lib.ListN.{length, length-append}
use Rattle.condition.specs.Meaning.{Tree, plain, leaf, join, Forest, none, more}
use Rattle.condition.specs.Bytes.{bytes, bytes_all}
use Rattle.nodes.specs.declared.Node.{Node}
use Rattle.condition.specs.Limits.{tree_room}
use Rattle.nodes.specs.Memory.{size_of}
use Rattle.nodes.proofs.Laws.{sized}
use Rattle.nodes.specs.Laid.{nodes, nodes_all, Laid, LaidAll}
use Rattle.writing.specs.Written.{own, Needed}
use Rattle.writing.proofs.Walk.{opened}

-- the own bytes of the k nodes from i on, counted
unfoldable pub total : (ℕ → Node) → ℕ → ℕ → ℕ
total n i zero = 0
total n i (suc k) = total n i k + length (own (n (i + k)))

-- the same sum, its arguments written in another way
same_total : (n : ℕ → Node) (i k j : ℕ) → k ≡ j → total n i k ≡ total n i j
same_total n i k j e = ap (total n i) e

same_own : (n : ℕ → Node) (x i j : ℕ) → i ≡ j → x + length (own (n i)) ≡ x + length (own (n j))
same_own n x i j e = ap (λ k. x + length (own (n k))) e

pub total_more : (n : ℕ → Node) (k : ℕ) → total n 0 (k + 1) ≡ total n 0 k + length (own (n k))
unfolding total
total_more n k = same_total n 0 (k + 1) (suc k) (omega arith) ∙ same_own n (total n 0 k) (0 + k) k (omega arith)

total_add : (n : ℕ → Node) (i k j : ℕ) → total n i (k + j) ≡ total n i k + total n (i + k) j
unfolding total
total_add n i k zero = same_total n i (k + 0) k (omega arith) ∙ omega arith
total_add n i k (suc j) =
    let e = same_total n i (k + suc j) (suc (k + j)) (omega arith) in
    let f = same_own n (total n i (k + j)) (i + (k + j)) (i + k + j) (omega arith) in
    omega (arith, e, f, total_add n i k j)

-- one node and what is below it
total_first : (n : ℕ → Node) (i k : ℕ) → total n i (k + 1) ≡ length (own (n i)) + total n (i + 1) k
unfolding total
total_first n i k =
    let e = same_total n i (k + 1) (1 + k) (omega arith) in
    let f = same_own n 0 (i + 0) i (omega arith) in
    omega (arith, e, f, total_add n i 1 k)

module _ (t : Tree) (n : ℕ → Node) (i : ℕ) (l : Laid t n i) where
  abbrev below : Forest
  below = (opened t n i l).ts

  total_opened : total n (i + 1) (nodes_all below) ≡ length (bytes_all below) → total n i (nodes t) ≡ length (bytes t)
  total_opened h =
      let p = opened t n i l in
      let e = same_total n i (nodes t) (nodes_all below + 1) p.size in
      omega (arith, e, total_first n i (nodes_all below), ap length p.bytes_are, length-append (own (n i)) (bytes_all below))

mutual
  unfolding Laid nodes bytes opened total

  pub total_tree : (t : Tree) (n : ℕ → Node) (i : ℕ) → Laid t n i → total n i (nodes t) ≡ length (bytes t)
  total_tree (plain b) n i l = total_opened (plain b) n i l refl
  total_tree (leaf e) n i l = total_opened (leaf e) n i l refl
  total_tree (join j ts) n i l = total_opened (join j ts) n i l (total_trees ts n (i + 1) l.1)

  total_trees : (ts : Forest) (n : ℕ → Node) (i : ℕ) → LaidAll ts n i → total n i (nodes_all ts) ≡ length (bytes_all ts)
  total_trees none n i l = refl
  total_trees (more t ts) n i l =
      omega (
        arith,
        total_add n i (nodes t) (nodes_all ts),
        total_tree t n i l.0,
        total_trees ts n (i + nodes t) l.1,
        length-append (bytes t) (bytes_all ts),
      )

-- ---- the loop of `needed`: a turn, and the end

pub one_more : (n : ℕ → Node) (i sum : ℕ) {r : ℕ} {m : Node} → sum ≡ total n 0 i → m ≡ n i → r ≡ length (own m) →
    sum + r ≡ total n 0 (i + 1)
one_more n i sum e here own_is = omega (arith, e, own_is, ap (λ m. length (own m)) here, total_more n i)

pub none_yet : (n : ℕ → Node) → 0 ≡ total n 0 0
unfolding total
none_yet n = refl

pub all_counted : (n : ℕ → Node) (i : ℕ) {end s sum : ℕ} → sum ≡ total n 0 i → i ≤ end → end ≤ i → end ≡ min s tree_room → s ≡ size_of (n 0) →
    Needed n sum
all_counted n i {s = s} e low high cut size =
    record {
      tree = λ t l few.
          let whole : s ≡ nodes t = size ∙ sized t n 0 l in
          e ∙ ap (total n 0) (omega arith) ∙ total_tree t n 0 l;
    }
