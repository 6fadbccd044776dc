-- What each way out of the cycle of `negate` and `negate_all` shows. A tree's first node is opposed and then the trees below it are, one
-- after the other: those behind are done, those ahead are laid from where the loop stands.
use Prim.Native.Nat.{ℕ, zero, suc, ◌+◌, ◌-◌, ◌≤◌, ◌<◌}
use mathlib.Core.Path.{◌≡◌, sym, subst, ap, ◌∙◌}
use mathlib.Core.List.{List}
use native.Mathlib.Omega.{arith}
use lib.ListN.{length, set, length-set}
use borrow.Rule.Slice.PartMut.{put_mid}
use Rattle.condition.specs.Meaning.{Tree, plain, leaf, join, Forest, none, more}
use Rattle.condition.specs.Depth.{deep, deep_all}
use Rattle.nodes.specs.declared.Node.{Node}
use Rattle.nodes.specs.Memory.{node_at, size_of, opposed}
use Rattle.nodes.specs.Laid.{nodes, nodes_all, Laid, LaidAll}
use Rattle.nodes.proofs.Memory.{put_here}
use Rattle.nodes.proofs.Laws.{sized, rest_laid, rest_laid_all}
use Rattle.condition.proofs.Putting.{split}
use Rattle.asking.specs.Asked.{Negates, NegatesAll}
use Rattle.asking.proofs.Parts.{before_part, in_part}

-- ---- `negate`

module _ (n : ℕ → Node) (size depth : ℕ) (o : ℕ → Node) (top : o 0 ≡ opposed (n 0)) where
  first : (x : ℕ) → x < 1 → o x ≡ opposed (n x)
  first x lt = let z : x ≡ 0 = omega arith in rw z top

  -- no connective may nest: the tree is one node
  pub negates_one : depth ≤ 0 → Negates n size depth o
  unfolding nodes deep
  negates_one z = record { right = one }
    where
      one : (t : Tree) → Laid t n 0 → nodes t ≡ size → deep t ≤ depth → (x : ℕ) → x < size → o x ≡ opposed (n x)
      one (plain b) l e d x lt = first x (omega arith)
      one (leaf b) l e d x lt = first x (omega arith)
      one (join j ts) l e d x lt = absurd (omega arith)

  -- the first node, and the trees below it, which go to the rest of the output
  pub negates_below : (m o₂ : ℕ → Node) → ((x : ℕ) → m x ≡ n (1 + x)) → 0 < depth → ((x : ℕ) → x < size - 1 → o (1 + x) ≡ o₂ x) →
      NegatesAll m (size - 1) (depth - 1) o₂ → Negates n size depth o
  unfolding nodes deep Laid
  negates_below m o₂ rest some after g = record { right = below }
    where
      below : (t : Tree) → Laid t n 0 → nodes t ≡ size → deep t ≤ depth → (x : ℕ) → x < size → o x ≡ opposed (n x)
      below (plain b) l e d x lt = first x (omega arith)
      below (leaf b) l e d x lt = first x (omega arith)
      below (join j ts) l e d zero lt = first 0 (omega arith)
      below (join j ts) l e d (suc x) lt =
          let laid = rest_laid_all n m 1 rest ts (subst (LaidAll ts n) (omega arith) l.1) in
          ap o (omega arith) ∙ after x (omega arith) ∙ g.right ts laid (omega arith) (omega arith) x (omega arith) ∙
          ap opposed (rest x) ∙ ap (λ y. opposed (n y)) (omega arith)

module _ (s : List Node) (depth : ℕ) (out : List Node) (room : 1 ≤ length out) (k : Node) (is : k ≡ opposed (node_at s 0)) where
  put_top : node_at (set out 0 k) 0 ≡ opposed (node_at s 0)
  put_top = put_here out 0 k (omega arith) ∙ is

  pub negate_one : depth ≤ 0 → Negates (node_at s) (length out) depth (node_at (set out 0 k))
  negate_one z = negates_one (node_at s) (length out) depth _ put_top z

  pub negate_below : (s₂ o₂ : List Node) (d : ℕ) → ((x : ℕ) → node_at s₂ x ≡ node_at s (1 + x)) → 0 < depth →
      NegatesAll (node_at s₂) d (depth - 1) (node_at o₂) → d ≡ length out - 1 → length o₂ ≡ length out - 1 →
      Negates (node_at s) (length out) depth (node_at (put_mid 1 (length (set out 0 k) - 1) (set out 0 k) o₂))
  negate_below s₂ o₂ d rest some g whole long =
      let xs = set out 0 k in
      let same = length-set out 0 k in
      let fits : 1 ≤ length xs = omega arith in
      negates_below (node_at s) (length out) depth _ (before_part 1 (length xs - 1) xs o₂ fits 0 (omega arith) ∙ put_top) (node_at s₂)
      (node_at o₂) rest some (λ x lt. in_part 1 (length xs - 1) xs o₂ fits x (omega arith))
      (subst (λ z. NegatesAll (node_at s₂) z (depth - 1) (node_at o₂)) whole g)

-- ---- `negate_all`

-- k nodes are done, and the trees ahead are laid from there
pub record Going (n : ℕ → Node) (size depth k : ℕ) (o : ℕ → Node) : Type 0 where
  pub ahead : Forest
  pub laid : LaidAll ahead n k
  pub rest : k + nodes_all ahead ≡ size
  pub shallow : deep_all ahead ≤ depth
  pub done : (x : ℕ) → x < k → o x ≡ opposed (n x)

pub record Negated (n : ℕ → Node) (size depth k : ℕ) (o : ℕ → Node) : Type 0 where
  pub upto : k ≤ size
  pub going : (ts : Forest) → LaidAll ts n 0 → nodes_all ts ≡ size → deep_all ts ≤ depth → Going n size depth k o

module _ {n : ℕ → Node} {size depth : ℕ} where
  pub negated_none : (o : ℕ → Node) → Negated n size depth 0 o
  negated_none o = record {
    upto = omega arith;
    going = λ ts l e d. record { ahead = ts; laid = l; rest = omega arith; shallow = d; done = λ x lt. absurd (omega arith) };
  }

  pub negated_all : {k : ℕ} {o : ℕ → Node} → size ≤ k → Negated n size depth k o → NegatesAll n size depth o
  negated_all h w = record { right = λ ts l e d x lt. (w.going ts l e d).done x (omega arith) }

  -- a tree with more nodes than there are left is none of these
  pub negated_beyond : {k s : ℕ} {o : ℕ → Node} → k < size → size - k < s → s ≡ size_of (n k) → Negated n size depth k o →
      NegatesAll n size depth o
  unfolding nodes Laid
  negated_beyond {k} {s} lt far sz w = record { right = λ ts l e d x h. let g = w.going ts l e d in never g.ahead g.laid g.rest }
    where
      never : {A : Type 0} (us : Forest) → LaidAll us n k → k + nodes_all us ≡ size → A
      never none l e = absurd (omega arith)
      never (more t us) l e = absurd (omega (arith, sized t n k l.0))

  pub negated_more : {k s : ℕ} {m o o₂ o' : ℕ → Node} → ((x : ℕ) → m x ≡ n (k + x)) → k < size → s ≤ size - k → s ≡ size_of (n k) →
      ((x : ℕ) → x < k → o' x ≡ o x) → ((x : ℕ) → x < s → o' (k + x) ≡ o₂ x) →
      Negates m s depth o₂ → Negated n size depth k o → Negated n size depth (k + s) o'
  unfolding nodes Laid deep
  negated_more {k} {s} {m} {o} {o₂} {o'} from lt fit sz before after g w = record {
    upto = omega arith;
    going = λ ts l e d. let h = w.going ts l e d in on h.ahead h.laid h.rest h.shallow h.done;
  }
    where
      on : (us : Forest) → LaidAll us n k → k + nodes_all us ≡ size → deep_all us ≤ depth →
          ((x : ℕ) → x < k → o x ≡ opposed (n x)) → Going n size depth (k + s) o'
      on none l e d f = absurd (omega arith)
      on (more t us) l e d f =
          let same : s ≡ nodes t = sz ∙ sized t n k l.0 in
          record {
            ahead = us;
            laid = subst (LaidAll us n) (omega arith) l.1;
            rest = omega arith;
            shallow = omega arith;
            done = λ x h. split x k
                (λ low _. before x low ∙ f x low)
                (λ high _. ap o' (omega arith) ∙ after (x - k) (omega arith) ∙
                g.right t (rest_laid n m k from t l.0) (sym same) (omega arith) (x - k) (omega arith) ∙ ap opposed (from (x - k)) ∙
                ap (λ y. opposed (n y)) (omega arith));
          }

-- the same of slices: a tree's negation goes to its part of the output
module _ (s s₂ : List Node) (size depth k one : ℕ) (o o₂ : List Node) where
  pub negate_more : (part d : ℕ) → ((x : ℕ) → node_at s₂ x ≡ node_at s (k + x)) → size ≤ length o → k < size → one ≤ size - k →
      one ≡ size_of (node_at s k) → Negates (node_at s₂) d depth (node_at o₂) → d ≡ one → length o₂ ≡ one →
      Negated (node_at s) size depth k (node_at o) → Negated (node_at s) size depth (k + one) (node_at (put_mid k part o o₂))
  negate_more part d from room lt fit is g whole long w =
      negated_more from lt fit is
      (λ x h. before_part k part o o₂ (omega arith) x h)
      (λ x h. in_part k part o o₂ (omega arith) x (omega arith)) (subst (λ z. Negates (node_at s₂) z depth (node_at o₂)) whole g) w
