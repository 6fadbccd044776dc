-- The nodes of a negation are those of the tree, opposed: negation turns each node and moves none. So trees whose nodes were copied stand
-- in the copy as they are, and trees whose nodes were copied opposed stand there negated.
use Prim.Native.Nat.{ℕ, suc, ◌+◌, ◌<◌}
use mathlib.Core.Path.{◌≡◌, refl, ap, ap₂, ◌∙◌}
use mathlib.Core.Bool.{Bool, true, false, not, cond}
use native.Mathlib.Omega.{arith}
use Rattle.condition.specs.Meaning.{End, opposite, Join, all, any, other, Tree, plain, leaf, join, Forest, none, more, count, negate, negate_all}
use Rattle.nodes.specs.declared.Node.{Node}
use Rattle.nodes.specs.declared.Node.TheVariants as node
use Rattle.nodes.specs.Memory.{opposed}
use Rattle.nodes.specs.Laid.{is_all, flag_end, bound_end, EndIs, nodes, nodes_all, Laid, LaidAll}
use Rattle.nodes.proofs.Laws.{move_all}
use Rattle.asking.specs.Asked.{turned, star_all, NegatesAll, Stars}

-- ---- the nodes of a negation

opposite_flag : (so : Bool) (p : ℕ) → opposite (flag_end so p) ≡ flag_end (not so) p
unfolding opposite
opposite_flag true p = refl
opposite_flag false p = refl

opposite_bound : (so : Bool) (x y w : ℕ) → opposite (bound_end so x y w) ≡ bound_end (not so) x y w
unfolding opposite
opposite_bound true x y w = refl
opposite_bound false x y w = refl

opposed_end : (e : End) (k : Node) → EndIs e k → EndIs (opposite e) (opposed k)
opposed_end e (node.Plain b) h = h
opposed_end e (node.Flag so p) h = ap opposite h ∙ opposite_flag so p
opposed_end e (node.Bound so x y w) h = ap opposite h ∙ opposite_bound so x y w
opposed_end e (node.Join a k s) h = h

pub turned_end : (opp : Bool) (e : End) (k : Node) → EndIs e k → EndIs (cond opp (opposite e) e) (turned opp k)
turned_end true e k h = opposed_end e k h
turned_end false e k h = h

not_all : (j : Join) → not (is_all j) ≡ is_all (other j)
not_all all = refl
not_all any = refl

negate_count : (ts : Forest) → count (negate_all ts) ≡ count ts
unfolding negate
negate_count none = refl
negate_count (more t ts) = ap suc (negate_count ts)

mutual
  unfolding negate nodes

  negate_nodes : (t : Tree) → nodes (negate t) ≡ nodes t
  negate_nodes (plain b) = refl
  negate_nodes (leaf e) = refl
  negate_nodes (join j ts) = ap (λ x. x + 1) (negate_nodes_all ts)

  negate_nodes_all : (ts : Forest) → nodes_all (negate_all ts) ≡ nodes_all ts
  negate_nodes_all none = refl
  negate_nodes_all (more t ts) = ap₂ ◌+◌ (negate_nodes t) (negate_nodes_all ts)

mutual
  unfolding negate Laid

  negate_laid : (t : Tree) (n : ℕ → Node) (i : ℕ) → Laid t n i → Laid (negate t) (λ x. opposed (n x)) i
  negate_laid (plain b) n i l = ap opposed l
  negate_laid (leaf e) n i l = opposed_end e (n i) l
  negate_laid (join j ts) n i l =
      (rw (← not_all j, negate_count ts, negate_nodes_all ts) (ap opposed l.0), negate_laid_all ts n (i + 1) l.1)

  negate_laid_all : (ts : Forest) (n : ℕ → Node) (i : ℕ) → LaidAll ts n i → LaidAll (negate_all ts) (λ x. opposed (n x)) i
  negate_laid_all none n i l = tt
  negate_laid_all (more t ts) n i l = (negate_laid t n i l.0, rw (negate_nodes t) (negate_laid_all ts n (i + nodes t) l.1))

pub star_nodes : (j : Join) (ts : Forest) → nodes_all (star_all j ts) ≡ nodes_all ts
star_nodes all ts = refl
star_nodes any ts = negate_nodes_all ts

pub star_count : (j : Join) (ts : Forest) → count (star_all j ts) ≡ count ts
star_count all ts = refl
star_count any ts = negate_count ts

-- ---- `star`

module _ (n : ℕ → Node) (size : ℕ) (a : Bool) (depth : ℕ) (o : ℕ → Node) where
  -- below an `and`: the nodes were copied
  pub stars_copied : a ≡ true → ((x : ℕ) → x < size → o x ≡ n x) → Stars n size a depth o
  stars_copied and c = rw and (record { right = λ ts l e d. move_all ts n o 0 0 (λ x lt. at x (c x (omega arith))) l })
    where
      at : (x : ℕ) → o x ≡ n x → o (0 + x) ≡ n (0 + x)
      at x h = ap o (omega arith) ∙ h ∙ ap n (omega arith)

  -- below an `or`: they were opposed
  pub stars_negated : a ≡ false → NegatesAll n size depth o → Stars n size a depth o
  stars_negated or g = rw or (record {
    right = λ ts l e d.
        move_all (negate_all ts) (λ x. opposed (n x)) o 0 0
        (λ x lt. at x (g.right ts l e d x (omega (arith, negate_nodes_all ts))))
        (negate_laid_all ts n 0 l);
  })
    where
      at : (x : ℕ) → o x ≡ opposed (n x) → o (0 + x) ≡ opposed (n (0 + x))
      at x h = ap o (omega arith) ∙ h ∙ ap (λ y. opposed (n y)) (omega arith)
