-- The walk, one law a way out. A tree's bytes are its first node's own and then its children's, where an end has no children, so a node is
-- written the same way whatever its kind; where nothing is left, or a child is longer than what is left, no tree is laid that fits.
use Prim.Native.Nat.{ℕ, ◌+◌, ◌-◌, ◌≤◌, ◌<◌}
use mathlib.Core.Path.{◌≡◌, refl, sym, subst, ap, ◌∙◌}
use mathlib.Core.List.{List, [], ◌++◌, append_assoc, append-nil}
use native.Mathlib.Omega.{arith}
use lib.ListN.{length}
use borrow.Rule.Slice.PartMut.{mid_of, put_mid}
use Rattle.condition.specs.Meaning.{End, Tree, plain, leaf, join, Forest, none, count}
use Rattle.condition.specs.Bytes.{number, join_tag, end_bytes, bytes, bytes_all}
use Rattle.nodes.specs.declared.Node.{Node}
use Rattle.nodes.specs.declared.Node.TheVariants as node
use Rattle.nodes.specs.Memory.{size_of, count_of}
use Rattle.nodes.specs.Laid.{EndIs, nodes, nodes_all, Laid, LaidAll}
use Rattle.nodes.proofs.Laws.{join_of_is_all, some_node, sized, at_none, at_more, rest_laid_all}
use Rattle.writing.specs.Written.{own, Put, PutTree, PutAll, Wrote}
use Rattle.writing.proofs.Room.{nothing, joined, within}

-- ---- a tree as its first node and the trees below it

pub record Opened (t : Tree) (n : ℕ → Node) (i : ℕ) : Type 0 where
  pub ts : Forest
  pub many : count ts ≡ count_of (n i)
  pub size : nodes t ≡ nodes_all ts + 1
  pub laid : LaidAll ts n (i + 1)
  pub bytes_are : bytes t ≡ own (n i) ++ bytes_all ts

pub end_own : (e : End) (m : Node) → EndIs e m → (0 ≡ count_of m) × (end_bytes e ≡ own m)
unfolding own
end_own e (node.Plain b) h = absurd h
end_own e (node.Flag so p) h = (refl, ap end_bytes h)
end_own e (node.Bound so x y w) h = (refl, ap end_bytes h)
end_own e (node.Join b k s) h = absurd h

unfoldable pub opened : (t : Tree) (n : ℕ → Node) (i : ℕ) → Laid t n i → Opened t n i
unfolding Laid nodes bytes own
opened (plain b) n i l =
    record {
      ts = none;
      many = sym (ap count_of l);
      size = omega arith;
      laid = tt;
      bytes_are = sym (append-nil _) ∙ ap (λ m. own m ++ []) (sym l);
    }
opened (leaf e) n i l =
    let h = end_own e (n i) l in
    record { ts = none; many = h.0; size = omega arith; laid = tt; bytes_are = sym (append-nil _) ∙ ap (λ m. m ++ []) h.1 }
opened (join j ts) n i l =
    record {
      ts = ts;
      many = sym (ap count_of l.0);
      size = refl;
      laid = l.1;
      bytes_are =
          sym (append_assoc (number (join_tag j)) (number (count ts)) (bytes_all ts))
          ∙ ap (λ x. (number (join_tag x) ++ number (count ts)) ++ bytes_all ts) (sym (join_of_is_all j))
          ∙ ap (λ m. own m ++ bytes_all ts) (sym l.0);
    }

-- ---- the ways out of `node`

pub nothing_left : {n : ℕ → Node} {left : ℕ} {o : List ℕ} → left ≡ 0 → PutTree n left o o 0
nothing_left z = record { room = omega arith; tree = λ t l h. absurd (omega (arith, some_node t)) }

-- the nodes m are those after the first
pub node_put : (n m : ℕ → Node) (left : ℕ) (top : Node) (k : ℕ) (o o₁ o₂ : List ℕ) (a part b : ℕ)
    → top ≡ n 0 → k ≡ count_of (n 0) → ((x : ℕ) → m x ≡ n (1 + x)) → length o₁ ≡ length o → part ≡ length o₁ - a
    → Put o o₁ (own top) a → PutAll m (left - 1) k (mid_of a part o₁) o₂ b → PutTree n left o (put_mid a part o₁ o₂) (a + b)
node_put n m left top k o o₁ o₂ a part b here counted after same whole first below =
    record {
      room = within o o₁ a part b same whole first.room below.room;
      tree = λ t l h.
          let p = opened t n 0 l in
          let size = p.size in
          let laid = rest_laid_all n m 1 after p.ts (subst (LaidAll p.ts n) (omega arith) p.laid) in
          let kids = below.trees p.ts laid (p.many ∙ sym counted) (omega arith) in
          rw (p.bytes_are, ← here) (joined o o₁ o₂ (own top) (bytes_all p.ts) a part b same whole first.stands kids);
    }

-- ---- the ways out of `children`

pub none_put : {n : ℕ → Node} {left k : ℕ} {o : List ℕ} → k ≡ 0 → PutAll n left k o o 0
unfolding bytes_all
none_put {k = k} {o = o} z = record { room = omega arith; trees = λ ts l e h. rw (at_none ts k e z) (nothing o) }

module _ {n : ℕ → Node} {left k s : ℕ} (some : k ≡ 0 → ⊥) (first : s ≡ size_of (n 0)) where
  pub too_long : {o : List ℕ} → left < s → PutAll n left k o o 0
  too_long long =
      record {
        room = omega arith;
        trees = λ ts l e h.
            let f = at_more ts n 0 k e some l in
            absurd (omega (arith, sized f.t n 0 f.laid));
      }

  -- the nodes m are those after the first child
  pub more_put : (m : ℕ → Node) (o o₁ o₂ : List ℕ) (a part b : ℕ) → ((x : ℕ) → m x ≡ n (s + x)) → s ≤ left → length o₁ ≡ length o
      → part ≡ length o₁ - a → PutTree n s o o₁ a → PutAll m (left - s) (k - 1) (mid_of a part o₁) o₂ b
      → PutAll n left k o (put_mid a part o₁ o₂) (a + b)
  unfolding bytes_all
  more_put m o o₁ o₂ a part b after fits same whole child others =
      record {
        room = within o o₁ a part b same whole child.room others.room;
        trees = λ ts l e h.
            let f = at_more ts n 0 k e some l in
            let size : s ≡ nodes f.t = first ∙ sized f.t n 0 f.laid in
            let laid = rest_laid_all n m s after f.us (subst (LaidAll f.us n) (omega arith) f.others) in
            let elder = child.tree f.t f.laid (omega arith) in
            let younger = others.trees f.us laid f.many (omega arith) in
            rw f.forest (joined o o₁ o₂ (bytes f.t) (bytes_all f.us) a part b same whole elder younger);
      }

-- ---- the ways out of `write`

pub written_not : {t : Tree} {o : List ℕ} {r : ℕ} → r ≡ length (bytes t) → length o < r → Wrote t o o r
written_not e h = record { long = e; here = λ f. absurd (omega arith); full = λ f. refl }

pub written_here : {n : ℕ → Node} {left k r : ℕ} {t : Tree} {o o' : List ℕ}
    → PutTree n left o o' r → Laid t n 0 → nodes t ≤ left → k ≡ length (bytes t) → k ≤ length o → Wrote t o o' r
written_here {t = t} {o = o} p l few q fits =
    let s = p.tree t l few in
    let long = s.long (omega arith) in
    record { long = long; here = λ f. rw long (s.here (omega arith)); full = λ f. absurd (omega arith) }
