-- How many ends nodes have: no more than there are nodes, and the nodes of a tree have its ends.
use Prim.Native.Nat.{ℕ, zero, suc, ◌+◌, ◌≤◌, ◌<◌}
use mathlib.Core.Path.{◌≡◌, refl, ap, ap₂, ◌∙◌}
use mathlib.Core.Bool.{Bool, true, false, cond}
use native.Mathlib.Omega.{arith}
use mir.Val.{bool_byte}
use native.Mathlib.Numerals.{add-one}
use Rattle.condition.specs.Limits.{question_room}
use Rattle.condition.specs.Meaning.{End, Tree, plain, leaf, join, Forest, none, more}
use Rattle.condition.specs.Folding.{live, live_all}
use Rattle.nodes.specs.declared.Node.{Node}
use Rattle.nodes.specs.declared.Node.TheVariants as node
use Rattle.nodes.specs.Memory.{size_of}
use Rattle.nodes.specs.Laid.{EndIs, nodes, nodes_all, Laid, LaidAll}
use Rattle.nodes.proofs.Laws.{sized}
use Rattle.asking.specs.Asked.{is_end, ends_from, Lives}

cond_small : (b : Bool) → cond b 1 0 ≤ 1
cond_small true = omega arith
cond_small false = omega arith

pub few_ends : (n : ℕ → Node) (i k : ℕ) → ends_from n i k ≤ k
unfolding ends_from
few_ends n i zero = omega arith
few_ends n i (suc k) = omega (arith, few_ends n i k, cond_small (is_end (n (i + k))))

as_number : (b : Bool) → bool_byte b ≡ cond b 1 0
as_number true = refl
as_number false = refl

-- one node more: w is the node, b says if it is an end, and d is b as a number
module _ (w : Node) (b : Bool) (d : ℕ) (same : b ≡ is_end w) (is : d ≡ bool_byte b) where
  pub one_more : (n : ℕ → Node) (k e : ℕ) → w ≡ n k → e ≡ ends_from n 0 k → e + d ≡ ends_from n 0 (k + 1)
  unfolding ends_from
  one_more n k e here h =
      let at : n (0 + k) ≡ n k = ap n (omega arith) in
      rw (add-one, at, ← here, ← same, is, as_number b, h) refl

  pub no_wrap : (n : ℕ → Node) (k e : ℕ) → e ≡ ends_from n 0 k → e + d ≤ k + 1
  no_wrap n k e h = omega (arith, few_ends n 0 k, as_number b, cond_small b)

-- ---- the nodes of a tree have its ends

ends_add : (n : ℕ → Node) (i x y : ℕ) → ends_from n i (x + y) ≡ ends_from n i x + ends_from n (i + x) y
unfolding ends_from
ends_add n i x zero = let z : x + zero ≡ x = omega arith in rw z (omega arith)
ends_add n i x (suc y) =
    let z : x + suc y ≡ suc (x + y) = omega arith in
    let v : i + (x + y) ≡ i + x + y = omega arith in
    let before = ends_add n i x y in
    rw (z, v) (omega arith)

no_node : (n : ℕ → Node) (i : ℕ) → ends_from n i 0 ≡ 0
unfolding ends_from
no_node n i = refl

one_node : (n : ℕ → Node) (i : ℕ) → ends_from n i 1 ≡ cond (is_end (n i)) 1 0
unfolding ends_from
one_node n i = let z : i + 0 ≡ i = omega arith in rw z (omega arith)

an_end : (e : End) (k : Node) → EndIs e k → is_end k ≡ true
an_end e (node.Plain b) h = absurd h
an_end e (node.Join a k s) h = absurd h
an_end e (node.Flag so p) h = refl
an_end e (node.Bound so x y w) h = refl

mutual
  unfolding Laid nodes live

  pub ends_are : (t : Tree) (n : ℕ → Node) (i : ℕ) → Laid t n i → ends_from n i (nodes t) ≡ live t
  ends_are (plain b) n i l = one_node n i ∙ ap (λ k. cond (is_end k) 1 0) l
  ends_are (leaf e) n i l = one_node n i ∙ ap (λ b. cond b 1 0) (an_end e (n i) l)
  ends_are (join j ts) n i l =
      let z : nodes_all ts + 1 ≡ 1 + nodes_all ts = omega arith in
      let below = ends_in ts n (i + 1) l.1 in
      let own : ends_from n i 1 ≡ 0 = one_node n i ∙ ap (λ k. cond (is_end k) 1 0) l.0 in
      rw z (ends_add n i 1 (nodes_all ts) ∙ omega arith)

  ends_in : (ts : Forest) (n : ℕ → Node) (i : ℕ) → LaidAll ts n i → ends_from n i (nodes_all ts) ≡ live_all ts
  ends_in none n i l = no_node n i
  ends_in (more t ts) n i l =
      ends_add n i (nodes t) (nodes_all ts) ∙ ap₂ ◌+◌ (ends_are t n i l.0) (ends_in ts n (i + nodes t) l.1)

-- ---- `live`

module _ (n : ℕ → Node) (size r : ℕ) (is : size ≡ size_of (n 0)) where
  pub lives : size ≤ question_room → r ≡ ends_from n 0 size → Lives n r
  lives h e = record {
    few = omega (arith, few_ends n 0 size);
    right = λ t l few. e ∙ ap (ends_from n 0) (is ∙ sized t n 0 l) ∙ ends_are t n 0 l;
  }

  pub too_large : question_room < size → Lives n 0
  too_large h = record { few = omega arith; right = λ t l few. let s = sized t n 0 l in absurd (omega arith) }
