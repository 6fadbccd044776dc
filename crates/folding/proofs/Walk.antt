-- The walk, one law a way out. What the first node says of the tree laid there gives the folded tree from what the calls below wrote;
-- where a child is longer than what is left, no tree is laid that fits. A kept child stands before the others.
use Prim.Native.Nat.{ℕ, ◌+◌, ◌-◌, ◌≤◌, ◌<◌}
use mathlib.Core.Path.{◌≡◌, refl, sym, subst, ap, ◌∙◌}
use mathlib.Core.List.{List}
use mathlib.Core.Bool.{Bool, true, false, beq}
use native.Mathlib.Omega.{arith}
use lib.ListN.{length}
use Rattle.std.proofs.Common.{Option, Some, None}
use Rattle.condition.specs.Limits.{tree_room}
use Rattle.condition.specs.Meaning.{End, Join, all, any, Tree, plain, leaf, join, Forest, none, more, count}
use Rattle.condition.specs.Folding.{Left, decided, these, keep, drop, fold, fold_all, live, live_all}
use Rattle.nodes.specs.declared.Node.{Node}
use Rattle.nodes.specs.declared.Node.TheVariants as node
use Rattle.nodes.specs.Memory.{node_at, size_of}
use Rattle.nodes.specs.Laid.{join_of, flag_end, bound_end, EndIs, nodes, nodes_all, Laid, LaidAll}
use Rattle.nodes.proofs.Laws.{sized, at_plain, at_flag, at_bound, at_join, at_more, move, move_all, rest_laid_all}
use Rattle.folding.specs.declared.Cut.{Cut}
use Rattle.folding.specs.declared.Kid.{Kid}
use Rattle.folding.specs.declared.Kids.{Kids}
use Rattle.folding.specs.Folded.{Folded}
use Rattle.folding.specs.Parts.{past, first_cut, end_or, cut, cut_all, constant_of, KidIs, Leaves, size_left, count_left}
use Rattle.folding.specs.Parts.{EndRight, ShutRight, NodeRight, ChildrenRight}
use Rattle.folding.proofs.Cuts.{past_none, past_more, cut_is}

-- ---- a tree

module _ (n : ℕ → Node) (left : ℕ) (x : Option Cut) where
  pub plain_folded : (o : ℕ → Node) (v : Bool) (r : Kid) → n 0 ≡ node.Plain v → 1 ≤ left → KidIs o (plain v) r → NodeRight n left x x o r
  unfolding fold cut live nodes
  plain_folded o v r e some k = record {
    small = omega (arith, k.sized);
    is = λ t l h. rw (at_plain n 0 t v e l) (k, sym (past_none x));
  }

  end_stays : (e : End) → fold (cut (leaf e) x) ≡ end_or e (first_cut x)
  unfolding fold cut
  end_stays e = by (first_cut x)
    where
      by : (z : Option Bool) → fold (end_or e z) ≡ end_or e z
      by None = refl
      by (Some b) = refl

  end_folded : (y : Option Cut) (o : ℕ → Node) (r : Kid) (k : Node) (e : End) → EndIs e k → ((t : Tree) → Laid t n 0 → t ≡ leaf e) → 1 ≤ left →
      EndRight k x y o r → NodeRight n left x y o r
  unfolding live
  end_folded y o r k e h only some E = record {
    small = omega (arith, E.small);
    is = λ t l w. rw (only t l, end_stays e) (E.is e h, E.goes);
  }

  -- the node, which is neither a constant nor a connective
  pub an_end_folded : (y : Option Cut) (o : ℕ → Node) (r : Kid) (k : Node) → n 0 ≡ k → ((b : Bool) → k ≡ node.Plain b → ⊥) →
      ((a : Bool) (z s : ℕ) → k ≡ node.Join a z s → ⊥) → 1 ≤ left → EndRight k x y o r → NodeRight n left x y o r
  an_end_folded y o r (node.Plain b) q c j some E = absurd (c b refl)
  an_end_folded y o r (node.Join a z s) q c j some E = absurd (j a z s refl)
  an_end_folded y o r (node.Flag so p) q c j some E = end_folded y o r _ (flag_end so p) refl (λ t l. at_flag n 0 t so p q l) some E
  an_end_folded y o r (node.Bound so u v w) q c j some E =
      end_folded y o r _ (bound_end so u v w) refl (λ t l. at_bound n 0 t so u v w q l) some E

  -- the children stand after the first node, those that are left after the first node of the output
  pub join_folded : (m : ℕ → Node) (y : Option Cut) (every : Bool) (k s : ℕ) (o₀ o₁ o : ℕ → Node) (kept : Option Kids) (r : Kid) →
      n 0 ≡ node.Join every k s → ((z : ℕ) → m z ≡ n (1 + z)) → 1 ≤ left →
      ChildrenRight m (left - 1) every k x y o₀ kept → ((z : ℕ) → z < left - 1 → o₁ (1 + z) ≡ o₀ z) → ShutRight every kept o₁ o r →
      NodeRight n left x y o r
  unfolding fold cut live nodes
  join_folded m y every k s o₀ o₁ o kept r e from some K up S = record {
    small = omega (arith, S.small, K.small);
    is = λ t l h.
        let p = at_join n 0 t every k s e l in
        let size : nodes t ≡ nodes_all p.ts + 1 = ap nodes p.tree in
        let laid = rest_laid_all n m 1 from p.ts (subst (LaidAll p.ts n) (omega arith) p.laid) in
        let found = K.is p.ts laid p.many (omega arith) in
        let rest : Left = fold_all (cut_all p.ts x) (join_of every) in
        rw p.tree (S.is rest (shifted rest kept K.small found.0), found.1);
  }
    where
      shifted : (l : Left) (kids : Option Kids) → size_left kids ≤ left - 1 → Leaves l o₀ 0 kids → Leaves l o₁ 1 kids
      shifted decided None w h = tt
      shifted decided (Some q) w h = absurd h
      shifted (these us) None w h = absurd h
      shifted (these us) (Some q) w h =
          let size = h.sized in
          record {
            laid = move_all us o₀ o₁ 0 1 (λ z lt. up z (omega arith) ∙ ap o₀ (omega arith)) h.laid;
            sized = h.sized;
            counted = h.counted;
            headed = h.headed;
          }

-- ---- what a folded child does to the children that are left

kept_child : (g : Join) (u : Tree) (l : Left) → constant_of u ≡ None → drop g u l ≡ keep u l
kept_child g (plain b) l q = cc
kept_child g (leaf e) l q = refl
kept_child g (join h us) l q = refl

plain_child : (u : Tree) (b : Bool) → constant_of u ≡ Some b → u ≡ plain b
plain_child (plain c) b q = cc
plain_child (leaf e) b q = cc
plain_child (join g us) b q = cc

-- "An `and` with a false child is false; true children are dropped", "`or` is the mirror"
dropped : (every b : Bool) (l : Left) → beq b every ≡ true → drop (join_of every) (plain b) l ≡ l
dropped true true l q = refl
dropped true false l q = cc
dropped false true l q = cc
dropped false false l q = refl

decides : (every b : Bool) (l : Left) → beq b every ≡ false → drop (join_of every) (plain b) l ≡ decided
decides true true l q = cc
decides true false l q = refl
decides false true l q = refl
decides false false l q = cc

still_decided : (g : Join) (u : Tree) → drop g u decided ≡ decided
still_decided all (plain true) = refl
still_decided all (plain false) = refl
still_decided any (plain true) = refl
still_decided any (plain false) = refl
still_decided g (leaf e) = refl
still_decided g (join h us) = refl

-- ---- the k trees from node 0 on: none, or s is the size of the first

module _ (n : ℕ → Node) (left : ℕ) (every : Bool) (k : ℕ) (x : Option Cut) where
  pub none_folded : (o : ℕ → Node) (s : ℕ) → s ≡ size_of (n 0) → (¬ (k ≡ 0) → left < s) →
      ChildrenRight n left every k x x o (Some (record { count = 0; size = 0 }))
  unfolding fold cut live Laid nodes
  none_folded o s first h = record { small = omega arith; few = omega arith; is = by }
    where
      by : (ts : Forest) → LaidAll ts n 0 → count ts ≡ k → nodes_all ts ≤ left →
          Leaves (fold_all (cut_all ts x) (join_of every)) o 0 (Some (record { count = 0; size = 0 })) × (x ≡ past (live_all ts) x)
      by none l e w = (record { laid = tt; sized = refl; counted = refl; headed = tt }, sym (past_none x))
      by (more t ts) l e w = let size = sized t n 0 l.0 in absurd (omega (arith, h (λ z. omega arith)))

  -- the first child is folded, then the others, which stand in the nodes m
  module _ (some : ¬ (k ≡ 0)) (s : ℕ) (first : s ≡ size_of (n 0)) (fits : s ≤ left) (one : 1 ≤ s)
      (y : Option Cut) (o₁ : ℕ → Node) (r₁ : Kid) (F : NodeRight n s x y o₁ r₁)
      (m : ℕ → Node) (from : (v : ℕ) → m v ≡ n (s + v))
      (z : Option Cut) (o₂ : ℕ → Node) (r₂ : Option Kids) (R : ChildrenRight m (left - s) every (k - 1) y z o₂ r₂) where
    record Both (ts : Forest) : Type 0 where
      u : Tree
      l : Left
      folds : fold_all (cut_all ts x) (join_of every) ≡ drop (join_of every) u l
      child : KidIs o₁ u r₁
      others : Leaves l o₂ 0 r₂
      goes : z ≡ past (live_all ts) x

    found : (ts : Forest) → LaidAll ts n 0 → count ts ≡ k → nodes_all ts ≤ left → Both ts
    unfolding fold cut live
    found ts l e h =
        let f = at_more ts n 0 k e some l in
        let total = f.total in
        let size : s ≡ nodes f.t = first ∙ sized f.t n 0 f.laid in
        let a = F.is f.t f.laid (omega arith) in
        let laid = rest_laid_all n m s from f.us (subst (LaidAll f.us n) (omega arith) f.others) in
        let b = R.is f.us laid f.many (omega arith) in
        let lives : live_all ts ≡ live f.t + live_all f.us = ap live_all f.forest in
        record {
          u = fold (cut f.t x);
          l = fold_all (cut_all f.us y) (join_of every);
          folds = ap (λ q. fold_all (cut_all q x) (join_of every)) f.forest
              ∙ ap (λ q. drop (join_of every) (fold (cut f.t x)) (fold_all (cut_all f.us q) (join_of every))) (sym a.1);
          child = a.0;
          others = b.0;
          goes = b.1 ∙ ap (past (live_all f.us)) a.1 ∙ past_more (live f.t) (live_all f.us) x ∙ ap (λ q. past q x) (sym lives);
        }

    -- one of the others decides
    pub others_decide : (o : ℕ → Node) → r₂ ≡ None → ChildrenRight n left every k x z o None
    others_decide o none_left = record {
      small = omega arith;
      few = omega arith;
      is = λ ts l e h. let a = found ts l e h in (by a.u a.l a.folds (subst (Leaves a.l o₂ 0) none_left a.others), a.goes);
    }
      where
        by : (u : Tree) (l : Left) {g : Left} → g ≡ drop (join_of every) u l → Leaves l o₂ 0 None → Leaves g o 0 None
        by u decided q h = rw (q, still_decided (join_of every) u) tt
        by u (these us) q h = absurd h

    pub child_decides : (o : ℕ → Node) (b : Bool) → r₁.constant ≡ Some b → beq b every ≡ false → ChildrenRight n left every k x z o None
    child_decides o b q apart = record {
      small = omega arith;
      few = omega arith;
      is = λ ts l e h.
          let a = found ts l e h in
          (rw (a.folds, plain_child a.u b (sym a.child.sorted ∙ q), decides every b a.l apart) tt, a.goes);
    }

    -- a constant is written over by the others
    pub child_dropped : (b : Bool) → r₁.constant ≡ Some b → beq b every ≡ true → ChildrenRight n left every k x z o₂ r₂
    child_dropped b q same = record {
      small = omega (arith, R.small);
      few = omega (arith, R.few);
      is = λ ts l e h.
          let a = found ts l e h in
          (rw (a.folds, plain_child a.u b (sym a.child.sorted ∙ q), dropped every b a.l same) a.others, a.goes);
    }

    -- the child stands as it was written, and the others after it
    pub child_kept : (o : ℕ → Node) (c : Kids) → r₂ ≡ Some c → r₁.constant ≡ None → ((v : ℕ) → v < r₁.size → o v ≡ o₁ v) →
        ((v : ℕ) → v < c.size → o (r₁.size + v) ≡ o₂ v) →
        ChildrenRight n left every k x z o (Some (record { count = c.count + 1; size = r₁.size + c.size }))
    unfolding Laid nodes
    child_kept o c is q before after = record {
      small = omega (arith, F.small, R.small, ap size_left is);
      few = omega (arith, R.few, ap count_left is);
      is = λ ts l e h.
          let a = found ts l e h in (
            rw (a.folds, kept_child (join_of every) a.u a.l (sym a.child.sorted ∙ q)) (by a.u a.l a.child (subst (Leaves a.l o₂ 0) is a.others)),
            a.goes,
          );
    }
      where
        by : (u : Tree) (l : Left) → KidIs o₁ u r₁ → Leaves l o₂ 0 (Some c) →
            Leaves (keep u l) o 0 (Some (record { count = c.count + 1; size = r₁.size + c.size }))
        by u decided a h = absurd h
        by u (these us) a h =
            let size = a.sized in
            let rest = h.sized in
            record {
              laid = (
                move u o₁ o 0 0 (λ v lt. ap o (omega arith) ∙ before v (omega arith) ∙ ap o₁ (omega arith)) a.laid,
                move_all us o₂ o 0 (0 + nodes u) (λ v lt. ap o (omega arith) ∙ after v (omega arith) ∙ ap o₂ (omega arith)) h.laid,
              );
              sized = omega arith;
              counted = omega (arith, h.counted);
              headed = sym a.sorted ∙ q;
            }

-- ---- the whole

module _ (n : ℕ → Node) (size : ℕ) (is : size ≡ size_of (n 0)) (x : Option Cut) (o : List Node) where
  pub refused : (size ≤ tree_room → length o < tree_room) → Folded n x o o 0
  refused h = record {
    small = omega arith;
    few = omega arith;
    kept = λ short. refl;
    is = λ t l fits wide end. let s = sized t n 0 l in absurd (omega arith);
  }

  pub whole_folded : (y : Option Cut) (o' : List Node) (r : Kid) → size ≤ tree_room → tree_room ≤ length o → NodeRight n size x y (node_at o') r →
      Folded n x o o' r.size
  whole_folded y o' r fits wide N = record {
    small = omega (arith, N.small);
    few = omega (arith, N.small);
    kept = λ short. absurd (omega arith);
    is = λ t l h room end.
        let k = (N.is t l (omega (arith, sized t n 0 l))).0 in
        rw (← cut_is t x end) (k.laid, k.sized);
  }
