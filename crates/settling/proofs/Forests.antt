-- Children before others: opening an `and` puts its children where it stood, and nothing else changes.
use Prim.Native.Nat.{ℕ, ◌+◌, ◌≤◌}
use mathlib.Core.Path.{◌≡◌, refl, sym, subst, ap, ◌∙◌}
use mathlib.Core.Bool.{◌&&◌}
use native.Mathlib.Omega.{arith}
use Rattle.std.proofs.Math.Bool.{and_assoc}
use Rattle.condition.specs.Meaning.{Assignment, all, Tree, Forest, none, more, each, holds}
use Rattle.condition.specs.Satisfying.{Named, NamedAll}
use Rattle.nodes.specs.declared.Node.{Node}
use Rattle.nodes.specs.Laid.{nodes, nodes_all, Laid, LaidAll}
use Rattle.nodes.proofs.Laws.{some_node}

pub append : Forest → Forest → Forest
append none us = us
append (more t ts) us = more t (append ts us)

module _ (us : Forest) where
  pub append_nodes : (ts : Forest) → nodes_all (append ts us) ≡ nodes_all ts + nodes_all us
  unfolding append nodes
  append_nodes none = omega arith
  append_nodes (more t ts) = omega (arith, append_nodes ts)

  pub append_laid : (ts : Forest) (n : ℕ → Node) (i : ℕ) → LaidAll ts n i → LaidAll us n (i + nodes_all ts) → LaidAll (append ts us) n i
  unfolding append Laid nodes
  append_laid none n i l m = subst (LaidAll us n) (omega arith) m
  append_laid (more t ts) n i l m = (l.0, append_laid ts n (i + nodes t) l.1 (subst (LaidAll us n) (omega arith) m))

  pub append_named : (ts : Forest) → NamedAll ts → NamedAll us → NamedAll (append ts us)
  unfolding append Named
  append_named none f g = g
  append_named (more t ts) f g = (f.0, append_named ts f.1 g)

pub append_each : (ts us : Forest) (a : Assignment) → each (append ts us) all a ≡ (each ts all a && each us all a)
unfolding append holds
append_each none us a = refl
append_each (more t ts) us a = ap (λ x. holds t a && x) (append_each ts us a) ∙ sym (and_assoc (holds t a) (each ts all a) (each us all a))

-- trees that have a node: a first one, and the others
pub record First (us : Forest) : Type 0 where
  pub u : Tree
  pub rest : Forest
  pub same : us ≡ more u rest

pub first : (us : Forest) → 1 ≤ nodes_all us → First us
unfolding nodes
first none h = absurd (omega arith)
first (more u rest) h = record { u = u; rest = rest; same = refl }

pub nothing_left : (us : Forest) → nodes_all us ≡ 0 → us ≡ none
unfolding nodes
nothing_left none h = refl
nothing_left (more u rest) h = absurd (omega (arith, some_node u))
