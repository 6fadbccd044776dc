-- Trees after trees: what `onto` does to their nodes, ends and depth, where they are laid, and what the question gathers of them. The end
-- that is asked about lies in one tree; all the others are starred, the elder before the younger.
use Prim.Native.Nat.{ℕ, ◌+◌, ◌-◌, ◌≤◌, ◌<◌, max}
use mathlib.Core.Path.{◌≡◌, refl, sym, ap, ◌∙◌}
use mathlib.Core.Bool.{Bool}
use native.Mathlib.Omega.{arith}
use borrow.Author.Tests.{lt-ltb, le-ltb}
use Rattle.condition.specs.Meaning.{Join, all, any, Tree, Forest, none, more, count, negate_all}
use Rattle.condition.specs.Depth.{deep, deep_all}
use Rattle.condition.specs.Folding.{live, live_all}
use Rattle.condition.specs.Critical.{star}
use Rattle.nodes.specs.declared.Node.{Node}
use Rattle.nodes.specs.Laid.{nodes, nodes_all, Laid, LaidAll}
use Rattle.nodes.proofs.Laws.{some_node}
use Rattle.asking.specs.Asked.{star_all, onto, gathered, gathered_in}

pub onto_again : (ts us vs : Forest) → onto (onto ts us) vs ≡ onto ts (onto us vs)
onto_again none us vs = refl
onto_again (more t ts) us vs = ap (more t) (onto_again ts us vs)

pub onto_nodes : (ts us : Forest) → nodes_all (onto ts us) ≡ nodes_all ts + nodes_all us
unfolding nodes
onto_nodes none us = omega arith
onto_nodes (more t ts) us = let rest = onto_nodes ts us in omega arith

pub onto_count : (ts us : Forest) → count (onto ts us) ≡ count ts + count us
onto_count none us = omega arith
onto_count (more t ts) us = let rest = onto_count ts us in omega arith

pub onto_live : (ts us : Forest) → live_all (onto ts us) ≡ live_all ts + live_all us
unfolding live
onto_live none us = omega arith
onto_live (more t ts) us = let rest = onto_live ts us in omega arith

pub onto_deep : (ts us : Forest) → deep_all (onto ts us) ≡ max (deep_all ts) (deep_all us)
unfolding deep
onto_deep none us = omega arith
onto_deep (more t ts) us = let rest = onto_deep ts us in omega arith

pub onto_laid : (ts us : Forest) (n : ℕ → Node) (i : ℕ) → LaidAll ts n i → LaidAll us n (i + nodes_all ts) → LaidAll (onto ts us) n i
unfolding Laid nodes
onto_laid none us n i l k = let z : i + 0 ≡ i = omega arith in rw z at k
onto_laid (more t ts) us n i l k =
    let z : i + (nodes t + nodes_all ts) ≡ i + nodes t + nodes_all ts = omega arith in
    (l.0, onto_laid ts us n (i + nodes t) l.1 (rw z at k))

pub laid_onto : (ts us : Forest) (n : ℕ → Node) (i : ℕ) → LaidAll (onto ts us) n i → LaidAll ts n i × LaidAll us n (i + nodes_all ts)
unfolding Laid nodes
laid_onto none us n i l = let z : i + 0 ≡ i = omega arith in (tt, rw z l)
laid_onto (more t ts) us n i l =
    let z : i + (nodes t + nodes_all ts) ≡ i + nodes t + nodes_all ts = omega arith in
    let rest = laid_onto ts us n (i + nodes t) l.1 in
    ((l.0, rest.0), rw z rest.1)

pub count_nodes : (ts : Forest) → count ts ≤ nodes_all ts
unfolding nodes
count_nodes none = omega arith
count_nodes (more t ts) = omega (arith, some_node t, count_nodes ts)

-- ---- starred

star_more : (j : Join) (t : Tree) (ts : Forest) → star_all j (more t ts) ≡ more (star j t) (star_all j ts)
unfolding negate_all
star_more all t ts = refl
star_more any t ts = refl

star_none : (j : Join) → star_all j none ≡ none
unfolding negate_all
star_none all = refl
star_none any = refl

pub star_onto : (j : Join) (ts us : Forest) → star_all j (onto ts us) ≡ onto (star_all j ts) (star_all j us)
star_onto j none us = ap (λ vs. onto vs (star_all j us)) (sym (star_none j))
star_onto j (more t ts) us =
    star_more j t (onto ts us) ∙ ap (more (star j t)) (star_onto j ts us) ∙ ap (λ vs. onto vs (star_all j us)) (sym (star_more j t ts))

-- ---- gathered

module _ (j : Join) (opp : Bool) (t : Tree) (younger : Forest) (end : ℕ) (inside : end < live t) where
  -- end `end` of t is end m of the trees of which t is one
  pub gathered_among : (elder : Forest) (m : ℕ) → live_all elder + end ≡ m →
      gathered_in (onto elder (more t younger)) j m opp ≡ onto (star_all j (onto elder younger)) (gathered t end opp)
  unfolding gathered live
  gathered_among none m e =
      let same : m ≡ end = omega arith in
      rw (same, lt-ltb _ _ inside)
  gathered_among (more u us) m e =
      rw (le-ltb m (live u) (omega arith), star_more j u (onto us younger))
      (ap (more (star j u)) (gathered_among us (m - live u) (omega arith)))
