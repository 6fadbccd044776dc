-- The laws of `Laid` that walks over nodes use: what the node at i says of the tree laid there (one law a kind of node), the
-- children one by one, the one law that moves a layout with its nodes, and that the nodes fix the tree.
use Prim.Native.Nat.{ℕ, ◌+◌, ◌-◌, ◌*◌, ◌≤◌, ◌<◌}
use mathlib.Core.Path.{◌≡◌, refl, sym, subst, ap, ap₂, ◌∙◌}
use mathlib.Core.Bool.{Bool, true, false}
use native.Mathlib.Omega.{arith}
use Rattle.condition.specs.Meaning.{End, Join, all, any, Tree, plain, leaf, join, Forest, none, more, count, ends, ends_all, Formed, FormedAll}
use Rattle.nodes.specs.declared.Node.{Node}
use Rattle.nodes.specs.declared.Node.TheVariants as node
use Rattle.nodes.specs.Memory.{size_of, count_of}
use Rattle.nodes.specs.Laid.{join_of, is_all, flag_end, bound_end, EndIs, nodes, nodes_all, Laid, LaidAll}

pub is_all_join_of : (b : Bool) → is_all (join_of b) ≡ b
is_all_join_of true = refl
is_all_join_of false = refl

pub join_of_is_all : (j : Join) → join_of (is_all j) ≡ j
join_of_is_all all = refl
join_of_is_all any = refl

pub some_node : (t : Tree) → 1 ≤ nodes t
unfolding nodes
some_node (plain b) = omega arith
some_node (leaf e) = omega arith
some_node (join j ts) = omega arith

-- ---- the node at i and the tree laid from i on

pub tell : {k k' : Node} → k ≡ k' → (e : End) → EndIs e k → EndIs e k'
tell p e h = rw p at h

-- two nodes of different kinds
differ : {A : Type 0} (n : ℕ → Node) (i : ℕ) {k k' : Node} → n i ≡ k → n i ≡ k' → (k ≡ k' → ◌≡◌ {A = ℕ} 0 1) → A
differ n i p q h = let z = h (sym p ∙ q) in absurd (omega arith)

pub sized : (t : Tree) (n : ℕ → Node) (i : ℕ) → Laid t n i → size_of (n i) ≡ nodes t
unfolding nodes Laid
sized (plain b) n i l = ap size_of l
sized (leaf e) n i l = end (n i) l
  where
    end : (k : Node) → EndIs e k → size_of k ≡ 1
    end (node.Plain b) h = absurd h
    end (node.Flag b p) h = refl
    end (node.Bound b x y w) h = refl
    end (node.Join j k s) h = absurd h
sized (join j ts) n i l = ap size_of l.0

module _ (n : ℕ → Node) (i : ℕ) where
  pub at_plain : (t : Tree) (b : Bool) → n i ≡ node.Plain b → Laid t n i → t ≡ plain b
  unfolding Laid
  at_plain (plain c) b q l = cc
  at_plain (leaf e) b q l = absurd (tell q e l)
  at_plain (join j ts) b q l = differ n i q l.0 (λ x. cc)

  pub at_flag : (t : Tree) (b : Bool) (p : ℕ) → n i ≡ node.Flag b p → Laid t n i → t ≡ leaf (flag_end b p)
  unfolding Laid
  at_flag (plain c) b p q l = differ n i q l (λ x. cc)
  at_flag (leaf e) b p q l = ap leaf (tell q e l)
  at_flag (join j ts) b p q l = differ n i q l.0 (λ x. cc)

  pub at_bound : (t : Tree) (b : Bool) (x y w : ℕ) → n i ≡ node.Bound b x y w → Laid t n i → t ≡ leaf (bound_end b x y w)
  unfolding Laid
  at_bound (plain c) b x y w q l = differ n i q l (λ x. cc)
  at_bound (leaf e) b x y w q l = ap leaf (tell q e l)
  at_bound (join j ts) b x y w q l = differ n i q l.0 (λ x. cc)

-- a connective's node: the tree is a join, its children laid after the node
pub record Joined (t : Tree) (n : ℕ → Node) (i : ℕ) (b : Bool) (k s : ℕ) : Type 0 where
  pub ts : Forest
  pub tree : t ≡ join (join_of b) ts
  pub many : count ts ≡ k
  pub below : nodes_all ts ≡ s
  pub laid : LaidAll ts n (i + 1)

pub at_join : (n : ℕ → Node) (i : ℕ) (t : Tree) (b : Bool) (k s : ℕ) → n i ≡ node.Join b k s → Laid t n i → Joined t n i b k s
unfolding Laid
at_join n i (plain c) b k s q l = differ n i q l (λ x. cc)
at_join n i (leaf e) b k s q l = absurd (tell q e l)
at_join n i (join j ts) b k s q l =
    let h = l.0 in
    let same : is_all j ≡ b = cc in
    record { ts = ts; tree = ap (λ x. join x ts) (sym (join_of_is_all j) ∙ ap join_of same); many = cc; below = cc; laid = l.1 }

-- a join's node gives its child count, and the children are laid after it
pub counted : (n : ℕ → Node) (i : ℕ) (ts : Forest) (j : Join) → Laid (join j ts) n i → (count_of (n i) ≡ count ts) × LaidAll ts n (i + 1)
unfolding Laid
counted n i ts j l = (ap count_of l.0, l.1)

-- the children: none, or a first one and the others
pub at_none : (ts : Forest) (k : ℕ) → count ts ≡ k → k ≡ 0 → ts ≡ none
at_none none k e z = refl
at_none (more t ts) k e z = absurd (omega arith)

pub record First (ts : Forest) (n : ℕ → Node) (i k : ℕ) : Type 0 where
  pub t : Tree
  pub us : Forest
  pub forest : ts ≡ more t us
  pub many : count us ≡ k - 1
  pub total : nodes_all ts ≡ nodes t + nodes_all us
  pub laid : Laid t n i
  pub others : LaidAll us n (i + nodes t)

pub at_more : (ts : Forest) (n : ℕ → Node) (i k : ℕ) → count ts ≡ k → (k ≡ 0 → ⊥) → LaidAll ts n i → First ts n i k
unfolding Laid nodes
at_more none n i k e z l = absurd (z (sym e))
at_more (more t us) n i k e z l =
    record { t = t; us = us; forest = refl; many = omega arith; total = refl; laid = l.0; others = l.1 }

-- ---- a layout is moved with its nodes

here : (t : Tree) (n m : ℕ → Node) (i j : ℕ) → ((k : ℕ) → k < nodes t → m (j + k) ≡ n (i + k)) → m j ≡ n i
here t n m i j h = ap m (omega arith) ∙ h 0 (omega (arith, some_node t)) ∙ ap n (omega arith)

mutual
  unfolding Laid nodes

  pub move : (t : Tree) (n m : ℕ → Node) (i j : ℕ) → ((k : ℕ) → k < nodes t → m (j + k) ≡ n (i + k)) → Laid t n i → Laid t m j
  move (plain b) n m i j h l = here (plain b) n m i j h ∙ l
  move (leaf e) n m i j h l = tell (sym (here (leaf e) n m i j h)) e l
  move (join g ts) n m i j h l = (
    here (join g ts) n m i j h ∙ l.0,
    move_all ts n m (i + 1) (j + 1) (λ k lt. ap m (omega arith) ∙ h (k + 1) (omega arith) ∙ ap n (omega arith)) l.1,
  )

  pub move_all : (ts : Forest) (n m : ℕ → Node) (i j : ℕ) → ((k : ℕ) → k < nodes_all ts → m (j + k) ≡ n (i + k)) → LaidAll ts n i →
      LaidAll ts m j
  move_all none n m i j h l = tt
  move_all (more t ts) n m i j h l = (
    move t n m i j (λ k lt. h k (omega arith)) l.0,
    move_all ts n m (i + nodes t) (j + nodes t) (λ k lt. ap m (omega arith) ∙ h (nodes t + k) (omega arith) ∙ ap n (omega arith)) l.1,
  )

-- what is laid from node i on is laid from the first of the rest on
module _ (n m : ℕ → Node) (i : ℕ) (h : (x : ℕ) → m x ≡ n (i + x)) where
  from : (k : ℕ) → m (0 + k) ≡ n (i + k)
  from k = ap m (omega arith) ∙ h k

  pub rest_laid : (t : Tree) → Laid t n i → Laid t m 0
  rest_laid t l = move t n m i 0 (λ k lt. from k) l

  pub rest_laid_all : (ts : Forest) → LaidAll ts n i → LaidAll ts m 0
  rest_laid_all ts l = move_all ts n m i 0 (λ k lt. from k) l

-- ---- the nodes fix the tree

end_once : (e : End) (u : Tree) (n : ℕ → Node) (i : ℕ) (k : Node) → n i ≡ k → EndIs e k → Laid u n i → leaf e ≡ u
end_once e u n i (node.Plain b) q h l = absurd h
end_once e u n i (node.Flag b p) q h l = ap leaf h ∙ sym (at_flag n i u b p q l)
end_once e u n i (node.Bound b x y w) q h l = ap leaf h ∙ sym (at_bound n i u b x y w q l)
end_once e u n i (node.Join j k s) q h l = absurd h

mutual
  unfolding Laid nodes

  pub laid_once : (t u : Tree) (n : ℕ → Node) (i : ℕ) → Laid t n i → Laid u n i → t ≡ u
  laid_once (plain b) u n i l m = sym (at_plain n i u b l m)
  laid_once (leaf e) u n i l m = end_once e u n i (n i) refl l m
  laid_once (join j ts) u n i l m =
      let p = at_join n i u (is_all j) (count ts) (nodes_all ts) l.0 m in
      ap₂ join (sym (join_of_is_all j)) (laid_all_once ts p.ts n (i + 1) (sym p.many) l.1 p.laid) ∙ sym p.tree

  laid_all_once : (ts us : Forest) (n : ℕ → Node) (i : ℕ) → count ts ≡ count us → LaidAll ts n i → LaidAll us n i → ts ≡ us
  laid_all_once none us n i e l m = sym (at_none us (count us) refl (sym e))
  laid_all_once (more t ts) us n i e l m =
      let p = at_more us n i (count us) refl (λ z. omega arith) m in
      let h = laid_once t p.t n i l.0 p.laid in
      let w : nodes p.t ≡ nodes t = ap nodes (sym h) in
      let y = p.many in
      ap₂ more h (laid_all_once ts p.us n (i + nodes t) (omega arith) l.1 (subst (λ x. LaidAll p.us n (i + x)) w p.others))
      ∙ sym p.forest

-- ---- a tree has fewer than twice as many nodes as ends

mutual
  unfolding nodes ends Formed

  pub nodes_few : (t : Tree) → Formed t → nodes t + 1 ≤ 2 * ends t
  nodes_few (plain b) f = omega arith
  nodes_few (leaf e) f = omega arith
  nodes_few (join j ts) f = omega (arith, nodes_few_all ts f.1, f.0)

  nodes_few_all : (ts : Forest) → FormedAll ts → nodes_all ts + count ts ≤ 2 * ends_all ts
  nodes_few_all none f = omega arith
  nodes_few_all (more t ts) f = omega (arith, nodes_few t f.0, nodes_few_all ts f.1)
