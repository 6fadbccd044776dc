-- What the sweep keeps, given that satisfiability is decided rightly. By lemmas 4 and 5 a yes cuts an end without changing the meaning,
-- and a no leaves an end that isn't redundant; `Sound` says so of every stage, so that at the end no end is redundant. A folded tree
-- without redundant ends that has one value under every assignment has no end at all.
use Prim.Native.Nat.{ℕ, ◌≤◌, ◌<◌}
use mathlib.Core.Path.{◌≡◌, refl, sym, subst, ◌∙◌}
use mathlib.Core.Bool.{Bool, true, false, not, ◌&&◌, true≢false, false≢true}
use mathlib.Core.Logic.{◌↔◌}
use native.Mathlib.Omega.{arith}
use lib.IntN.{pos}
use borrow.Author.Tests.{leb-true}
use Rattle.condition.specs.Meaning.{Assignment, Tree, plain, leaf, join, Forest, none, more, holds, each, negate, count}
use Rattle.condition.specs.Satisfying.{Satisfiable}
use Rattle.condition.specs.Folding.{fold, live, live_all, Solid, SolidAll, Folded, constant, solid}
use Rattle.condition.specs.Critical.{end_at, put, both, critical, Implies, NonConstraining, NonRelaxing, Firm}
use Rattle.condition.specs.Sweep.{Stage, stage, start, over, cut, on, question, answer, next, sweep}
use Rattle.condition.proofs.Negation.{holds_negate}
use Rattle.condition.proofs.Folding.{fold_holds, fold_folded}
use Rattle.condition.proofs.Putting.{split, cut_live}
use Rattle.condition.proofs.Critical.{lemma_4, lemma_5, true_weaker, false_stronger}
use Rattle.condition.proofs.Run.{keeps}
use Rattle.condition.proofs.Ration.{Done, each_next}

-- of t₀ the sweep has come to s: the ends before are firm, and question one of this end, if behind, was a no
pub record Sound (t₀ : Tree) (s : Stage) : Type 0 where
  pub means : (a : Assignment) → holds s.tree a ≡ holds t₀ a
  pub fewer : live s.tree ≤ live (fold t₀)
  pub folded : Folded s.tree
  pub firm : (i : ℕ) → i < s.at → Firm s.tree i
  pub first : s.second ≡ true → ¬ NonConstraining s.tree s.at

sound_start : (t : Tree) → Sound t (start (fold t))
sound_start t =
    record {
      means = fold_holds t;
      fewer = omega arith;
      folded = fold_folded t;
      firm = λ i h. absurd (omega arith);
      first = λ e. absurd (false≢true e);
    }

-- two trees that imply one another mean the same
agree : (x y : Bool) → (x ≡ true → y ≡ true) → (y ≡ true → x ≡ true) → x ≡ y
agree true y f g = sym (f refl)
agree false true f g = g refl
agree false false f g = refl

-- "c and not l", of Booleans
no_model : (c l n : Bool) → n ≡ not l → c ≡ true → ((c && (n && true)) ≡ true → ⊥) → l ≡ true
no_model true true n e p f = refl
no_model true false n e p f = absurd (f (rw e))
no_model false l n e p f = absurd (false≢true p)

a_model : (c l n : Bool) → n ≡ not l → (c && (n && true)) ≡ true → (c ≡ true → l ≡ true) → ⊥
a_model true true n e p f = false≢true (rw e at p)
a_model true false n e p f = false≢true (f refl)
a_model false l n e p f = false≢true p

not_not : (b : Bool) → not b ≡ true → b ≡ true → ⊥
not_not true e p = false≢true e
not_not false e p = false≢true p

yes_if : (b : Bool) → (b ≡ true → ⊥) → not b ≡ true
yes_if true f = absurd (f refl)
yes_if false f = refl

module _ (decide : Tree → Bool) (right : (t : Tree) → (decide t ≡ true) ↔ Satisfiable t) where
  pub implied_is : (c l : Tree) → (not (decide (both c (negate l))) ≡ true) ↔ Implies c l
  unfolding holds each
  implied_is c l = (
    λ e a p. no_model (holds c a) (holds l a) _ (holds_negate l a) p (λ m. not_not _ e ((right (both c (negate l))).1 (a, m))),
    λ f. yes_if _ (λ e.
        let w = (right (both c (negate l))).0 e in
        a_model (holds c w.0) (holds l w.0) _ (holds_negate l w.0) w.1 (f w.0)),
  )

  -- question one, question two
  pub one_is : (t : Tree) (i : ℕ) → i < live t → (answer decide (stage t i false) ≡ true) ↔ NonConstraining t i
  unfolding answer question
  one_is t i h =
      let q = implied_is (critical t i) (leaf (end_at t i)) in
      (λ e. (lemma_4 t i h).1 (q.0 e), λ n. q.1 ((lemma_4 t i h).0 n))

  pub two_is : (t : Tree) (i : ℕ) → i < live t → (answer decide (stage t i true) ≡ true) ↔ NonRelaxing t i
  unfolding answer question
  two_is t i h =
      let q = implied_is (critical t i) (negate (leaf (end_at t i))) in
      (λ e. (lemma_5 t i h).1 (q.0 e), λ n. q.1 ((lemma_5 t i h).0 n))

  cut_means : (t : Tree) (i : ℕ) (q : Bool) → i < live t → answer decide (stage t i q) ≡ true → (a : Assignment) →
      holds (fold (put t i (plain (not q)))) a ≡ holds t a
  cut_means t i false h e a = agree _ _ ((one_is t i h).0 e a) (true_weaker t i h a)
  cut_means t i true h e a = agree _ _ (false_stronger t i h a) ((two_is t i h).0 e a)

  module _ (t₀ : Tree) where
    sound_cut : (s : Stage) → s.at < live s.tree → answer decide s ≡ true → Sound t₀ s → Sound t₀ (cut s)
    sound_cut s h e k =
        record {
          means = λ a. cut_means s.tree s.at s.second h e a ∙ k.means a;
          fewer = omega (arith, k.fewer, cut_live s.tree s.at (not s.second) h);
          folded = fold_folded _;
          firm = λ i h. absurd (omega arith);
          first = λ e. absurd (false≢true e);
        }

    sound_on : (t : Tree) (i : ℕ) (q : Bool) → i < live t → answer decide (stage t i q) ≡ false → Sound t₀ (stage t i q) →
        Sound t₀ (on t i q)
    sound_on t i false h e k =
        record {
          means = k.means;
          fewer = k.fewer;
          folded = k.folded;
          firm = k.firm;
          first = λ _ n. true≢false (sym ((one_is t i h).1 n) ∙ e);
        }
    sound_on t i true h e k =
        let both_no : Firm t i = (k.first refl, λ n. true≢false (sym ((two_is t i h).1 n) ∙ e)) in
        record {
          means = k.means;
          fewer = k.fewer;
          folded = k.folded;
          firm = λ m l. split m i (λ l' _. k.firm m l') (λ l' _. subst (Firm t) (omega arith) both_no);
          first = λ e. absurd (false≢true e);
        }

    pub sound_sweep : (r : ℕ) → Sound t₀ (sweep decide t₀ r).last
    unfolding sweep
    sound_sweep r =
        keeps over (next decide) (Sound t₀)
        (λ s o k. each_next decide (Sound t₀) s o
        (λ h e. sound_cut s h e k)
        (λ h e. sound_on s.tree s.at s.second h e k))
        r (start (fold t₀)) (sound_start t₀)

    pub sweep_firm : (r : ℕ) → Done decide t₀ r → (i : ℕ) → i < live (sweep decide t₀ r).last.tree →
        Firm (sweep decide t₀ r).last.tree i
    sweep_firm r f i h =
        let l = (sweep decide t₀ r).last in
        (sound_sweep r).firm i (omega (arith, leb-true (live l.tree) l.at f))

-- A folded tree with no redundant end, of one value under every assignment, is a constant

mutual
  unfolding Solid SolidAll live live_all

  solid_live : (t : Tree) → Solid t → 0 < live t
  solid_live (plain b) h = absurd h
  solid_live (leaf e) h = omega arith
  solid_live (join j ts) h = solid_all_live ts h.0 h.1

  solid_all_live : (ts : Forest) → 2 ≤ count ts → SolidAll ts → 0 < live_all ts
  solid_all_live none h k = absurd (omega arith)
  solid_all_live (more t ts) h k = omega (arith, solid_live t k.0)

origin : Assignment
origin = record { flag = λ p. false; number = λ x. pos 0 }

pub firm_false : (t : Tree) → Folded t → ((i : ℕ) → i < live t → Firm t i) → ¬ Satisfiable t → t ≡ plain false
unfolding holds
firm_false t (constant {b = true}) k n = absurd (n (origin, refl))
firm_false t (constant {b = false}) k n = refl
firm_false t (solid h) k n = absurd ((k 0 (solid_live t h)).1 (λ a p. absurd (n (a, p))))

pub firm_true : (t : Tree) → Folded t → ((i : ℕ) → i < live t → Firm t i) → ((a : Assignment) → holds t a ≡ true) → t ≡ plain true
unfolding holds
firm_true t (constant {b = true}) k v = refl
firm_true t (constant {b = false}) k v = absurd (false≢true (v origin))
firm_true t (solid h) k v = absurd ((k 0 (solid_live t h)).0 (λ a p. v a))
