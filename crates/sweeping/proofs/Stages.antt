-- The loop follows the definition's machine: after `asked` questions the nodes hold the tree of the stage that the machine has reached.
-- A turn is one step of the machine; it stops where the machine is over, or the ration is used up. What is known of the questions is known
-- of the present tree, and after a cut nothing is.
use Prim.Native.Nat.{ℕ, ◌+◌, ◌*◌, ◌/◌, ◌%◌, ◌≤◌, ◌<◌}
use mathlib.Core.Path.{◌≡◌, refl, sym, ap, ◌∙◌}
use mathlib.Core.Logic.{◌⊎◌, inl, inr}
use mathlib.Core.List.{List}
use mathlib.Core.Bool.{Bool, true, false, not}
use native.Mathlib.Omega.{arith}
use native.Mathlib.Numerals.{add-one}
use lib.Dec.{eqb, leb}
use lib.ListN.{length, get_or, replicate}
use Rattle.std.specs.Prelude.{Some, None}
use Rattle.std.proofs.lemmas.Grind.{common_steps}
use Rattle.std.proofs.lemmas.Bool.Decides.{nat_tests}
use borrow.Author.Tests.{le-leb, lt-leb}
use Rattle.condition.specs.Limits.{tree_room}
use Rattle.condition.specs.Meaning.{Tree, plain, Within}
use Rattle.condition.specs.Folding.{fold, live}
use Rattle.condition.specs.Critical.{put}
use Rattle.condition.specs.Deciding.{sat}
use Rattle.condition.specs.Sweep.{Stage, start, over, on, run, answer, next, sweep, trimmed}
use Rattle.condition.proofs.Folding.{fold_within}
use Rattle.condition.proofs.Putting.{cut_within}
use Rattle.condition.proofs.Run.{Reached, advance, stopped}
use Rattle.nodes.specs.declared.Node.{Node}
use Rattle.nodes.specs.Memory.{node_at}
use Rattle.nodes.specs.Laid.{nodes, Laid}
use Rattle.nodes.proofs.Laws.{sized}
use Rattle.asking.specs.Asked.{Lives}
use Rattle.keeping.specs.Kept.{questions, numbered, Known, Replies}
use Rattle.folding.specs.Folded.{Folded}
use Rattle.sweeping.specs.Swept.{Sweeps}

-- the machine that began with t is, after `asked` steps, at question q of the tree that the nodes hold
pub record At (t : Tree) (tree : List Node) (end : ℕ) (known : List Bool) (q asked : ℕ) : Type 0 where
  pub present : Tree
  pub reached : Reached over (next sat) asked (start (fold t)) (numbered present q)
  pub laid : Laid present (node_at tree) 0
  pub few : nodes present ≤ tree_room
  pub limits : Within present
  pub ends : end ≡ 2 * live present
  pub knows : Known present known

pub record Goes (n : ℕ → Node) (ration : ℕ) (tree : List Node) (end : ℕ) (known : List Bool) (q asked : ℕ) : Type 0 where
  pub near : end ≤ questions
  pub within : asked ≤ ration
  pub stands : (t : Tree) → Laid t n 0 → nodes t ≤ tree_room → Within t → At t tree end known q asked

-- ---- questions by number

first_is : (q : ℕ) → eqb (q % 2) 0 ≡ not (eqb (q % 2) 1)
first_is q = grind (arith, nat_tests)

-- a no: the next question
on_is : (u : Tree) (q : ℕ) → on u (q / 2) (eqb (q % 2) 1) ≡ numbered u (q + 1)
on_is u q = grind (arith, nat_tests)

-- ---- the start, and after a cut: nothing is known

blank : (k q : ℕ) → get_or (replicate k false) q false ≡ false
blank k q = grind (arith, common_steps)

nothing : (t : Tree) (k : ℕ) → Known t (replicate k false)
nothing t k = record { no = λ q h one. let e = blank k q in cc }

-- ---- one step of the machine

module _ {n : ℕ → Node} {ration : ℕ} {tree : List Node} {end : ℕ} {known : List Bool} {q asked : ℕ}
    (goes : Goes n ration tree end known q asked) (less : asked < ration) (more : q < end) {v : Bool}
    {known' : List Bool} (replies : Replies (node_at tree) q known v known') where
  right : {t : Tree} (a : At t tree end known q asked) → (v ≡ answer sat (numbered a.present q)) × Known a.present known'
  right a = replies.right a.present a.laid (omega (arith, a.few)) a.limits (omega (arith, a.ends)) a.knows

  stepped : {t : Tree} (a : At t tree end known q asked) {s : Stage} → next sat (numbered a.present q) ≡ s →
      Reached over (next sat) (asked + 1) (start (fold t)) s
  stepped {t} a e = rw (add-one, ← e)
      (advance over (next sat) asked (start (fold t)) (numbered a.present q) a.reached
      (lt-leb (live a.present) (q / 2) (omega (arith, a.ends))))

  -- a no
  pub goes_on : v ≡ false → Goes n ration tree end known' (q + 1) (asked + 1)
  unfolding next
  goes_on e = record {
    near = goes.near;
    within = omega arith;
    stands = λ t l few limits.
        let a = goes.stands t l few limits in
        let so : answer sat (numbered a.present q) ≡ false = sym (right a).0 ∙ e in
        let go : next sat (numbered a.present q) ≡ on a.present (q / 2) (eqb (q % 2) 1) = simp so in
        record {
          present = a.present;
          reached = stepped a (go ∙ on_is a.present q);
          laid = a.laid;
          few = a.few;
          limits = a.limits;
          ends = a.ends;
          knows = (right a).1;
        };
  }

-- a tree just folded, at its first question
module _ {tree : List Node} {r end : ℕ} {known : List Bool} (lives : Lives (node_at tree) r) (twice : end ≡ 2 * r)
    (unknown : known ≡ replicate questions false) where
  anew : {t : Tree} (u : Tree) (asked : ℕ) → Reached over (next sat) asked (start (fold t)) (start u) → Laid u (node_at tree) 0 →
      nodes u ≤ tree_room → Within u → At t tree end known 0 asked
  anew u asked reached laid few limits = record {
    present = u;
    reached = reached;
    laid = laid;
    few = few;
    limits = limits;
    ends = twice ∙ ap (λ x. 2 * x) (lives.right u laid (omega arith));
    knows = rw unknown (nothing u questions);
  }

  pub begins : {n : ℕ → Node} {ration size : ℕ} {o : List Node} → tree_room ≤ length o → Folded n None o tree size →
      Goes n ration tree end known 0 0
  unfolding run
  begins {n} wide f = record {
    near = omega (arith, lives.few);
    within = omega arith;
    stands = λ t l few limits.
        let g = f.is t l few wide tt in
        anew (fold t) 0 refl g.0 (omega (arith, f.small, sized t n 0 l, g.1)) (fold_within t limits);
  }

  -- a yes
  pub cuts : {n : ℕ → Node} {ration size : ℕ} {o old : List Node} {end₀ : ℕ} {known₀ known₁ : List Bool} {q asked : ℕ} →
      Goes n ration old end₀ known₀ q asked → asked < ration → q < end₀ →
      {v : Bool} → Replies (node_at old) q known₀ v known₁ → v ≡ true → tree_room ≤ length o →
      Folded (node_at old) (Some (record { end = q / 2; to = eqb (q % 2) 0 })) o tree size → Goes n ration tree end known 0 (asked + 1)
  unfolding next
  cuts {size = size} {old = old} {q = q} {asked = asked} goes less more replies e wide f = record {
    near = omega (arith, lives.few);
    within = omega arith;
    stands = λ t l few limits.
        let a = goes.stands t l few limits in
        let u = put a.present (q / 2) (plain (not (eqb (q % 2) 1))) in
        let so : answer sat (numbered a.present q) ≡ true = sym (right goes less more replies a).0 ∙ e in
        let go : next sat (numbered a.present q) ≡ start (fold u) = simp so in
        let g = f.is a.present a.laid a.few wide (omega (arith, a.ends)) in
        let g' : Laid (fold u) (node_at tree) 0 × (size ≡ nodes (fold u)) = rw (first_is q) at g in
        anew (fold u) (asked + 1) (stepped goes less more replies a go) g'.0
        (omega (arith, f.small, a.few, sized a.present (node_at old) 0 a.laid, g'.1))
        (cut_within a.present (q / 2) (not (eqb (q % 2) 1)) a.limits);
  }

-- ---- the end: no question is left, or the ration is used up

module _ {n : ℕ → Node} {ration : ℕ} {tree : List Node} {end : ℕ} {known : List Bool} {q asked : ℕ}
    (goes : Goes n ration tree end known q asked) where
  over_is : {t : Tree} (a : At t tree end known q asked) → leb end q ≡ over (numbered a.present q)
  over_is a = grind (arith, nat_tests, a.ends)

  ran : (ration ≤ asked) ⊎ (end ≤ q) → {t : Tree} (a : At t tree end known q asked) →
      run over (next sat) ration (start (fold t)) ≡ record { asked = asked; last = numbered a.present q }
  ran (inl h) {t} a =
      let all_asked : ration ≡ asked = omega (arith, goes.within) in
      rw all_asked a.reached
  ran (inr h) {t} a =
      stopped over (next sat) asked ration (start (fold t)) (numbered a.present q) a.reached
      (le-leb (live a.present) (q / 2) (omega (arith, a.ends))) goes.within

  pub ended : (ration ≤ asked) ⊎ (end ≤ q) → Sweeps n ration tree asked (leb end q)
  unfolding trimmed sweep
  ended h = record {
    right = λ t l few limits.
        let a = goes.stands t l few limits in
        rw (ran h a) (record { laid = a.laid; count = refl; over = over_is a });
  }
