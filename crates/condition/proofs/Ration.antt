-- The sweep and its ration, whatever decides satisfiability. n(n+1), for a tree of n ends, less the questions asked of this sweep falls
-- with each question: a cut leaves a tree of fewer ends and begins anew, and 2n questions are no more than n(n+1). So the bound suffices,
-- and Run gives the rest.
use Prim.Native.Nat.{ℕ, zero, suc, ◌+◌, ◌*◌, ◌-◌, ◌≤◌, ◌<◌, min}
use mathlib.Core.Path.{◌≡◌}
use mathlib.Core.Bool.{Bool, true, false, not}
use mathlib.Core.Logic.{◌↔◌}
use native.Mathlib.Nat.{mul-le-mul}
use native.Mathlib.Omega.{arith}
use borrow.Table.Steps.{cases}
use borrow.Author.Tests.{leb-false}
use Rattle.condition.specs.Meaning.{Tree}
use Rattle.condition.specs.Folding.{fold, live}
use Rattle.condition.specs.Sweep.{Stage, stage, start, over, cut, on, answer, next, sweep, enough_for}
use Rattle.condition.proofs.Folding.{Inside, fold_inside}
use Rattle.condition.proofs.Putting.{cut_live, cut_inside}
use Rattle.condition.proofs.Run.{keeps, enough, reports, finishes, larger, asked_le}

-- questions asked of this sweep
behind : ℕ → Bool → ℕ
behind i false = i + i
behind i true = suc (i + i)

measure : Stage → ℕ
measure s = live s.tree * (live s.tree + 1) - behind s.at s.second

room : (i k : ℕ) → i < k → suc (suc (i + i)) ≤ k * (k + 1)
room i zero h = absurd (omega arith)
room i (suc k) h = omega arith

square_falls : (i k m : ℕ) → i < k → m < k → m * (m + 1) + suc (suc (i + i)) ≤ k * (k + 1)
square_falls i zero m h l = absurd (omega arith)
square_falls i (suc k) m h l =
    let p : m ≤ k = omega arith in
    let q : m + 1 ≤ k + 1 = omega arith in
    omega (arith, mul-le-mul p q)

on_falls : (t : Tree) (i : ℕ) (q : Bool) → i < live t → measure (on t i q) < measure (stage t i q)
unfolding measure behind
on_falls t i false h = omega (arith, room i (live t) h)
on_falls t i true h = omega (arith, room i (live t) h)

cut_falls : (t : Tree) (i : ℕ) (q : Bool) → i < live t → measure (cut (stage t i q)) < measure (stage t i q)
unfolding measure behind
cut_falls t i false h = omega (arith, square_falls i (live t) _ h (cut_live t i true h))
cut_falls t i true h = omega (arith, square_falls i (live t) _ h (cut_live t i false h))

module _ (decide : Tree → Bool) where
  abbrev pub Done : Tree → ℕ → Type 0
  Done t r = over (sweep decide t r).last ≡ true

  -- one question: what holds of a cut and of going on
  pub each_next : (P : Stage → Type 0) (s : Stage) → over s ≡ false →
      (s.at < live s.tree → answer decide s ≡ true → P (cut s)) →
      (s.at < live s.tree → answer decide s ≡ false → P (on s.tree s.at s.second)) → P (next decide s)
  unfolding next
  each_next P s o f g = cases (answer decide s) (λ e. rw e (f (leb-false _ _ o) e)) (λ e. rw e (g (leb-false _ _ o) e))

  falls : (s : Stage) → over s ≡ false → measure (next decide s) < measure s
  falls s o =
      each_next (λ u. measure u < measure s) s o
      (λ h e. cut_falls s.tree s.at s.second h)
      (λ h e. on_falls s.tree s.at s.second h)

  module _ (t : Tree) where
    abbrev pub most : ℕ
    most = (sweep decide t (enough_for t)).asked

    pub bound_done : Done t (enough_for t)
    unfolding sweep measure behind
    bound_done = enough over (next decide) measure falls (enough_for t) (start (fold t)) (omega arith)

    pub most_le : most ≤ enough_for t
    unfolding sweep
    most_le = asked_le over (next decide) (enough_for t) (start (fold t))

    pub asked_min : (r : ℕ) → (sweep decide t r).asked ≡ min most r
    unfolding sweep
    asked_min r = reports over (next decide) (enough_for t) r (start (fold t)) bound_done

    pub done_if : (r : ℕ) → Done t r ↔ (most ≤ r)
    unfolding sweep
    done_if r = finishes over (next decide) (enough_for t) r (start (fold t)) bound_done

    pub done_stays : (r q : ℕ) → Done t r → r ≤ q → sweep decide t q ≡ sweep decide t r
    unfolding sweep
    done_stays r q = larger over (next decide) r q (start (fold t))

    pub sweep_inside : (m r : ℕ) → Inside m t → Inside m (sweep decide t r).last.tree
    unfolding sweep
    sweep_inside m r w = keeps over (next decide) (λ s. Inside m s.tree) step r (start (fold t)) (fold_inside m t w)
      where
        goes_on : (u : Tree) (i : ℕ) (q : Bool) → Inside m u → Inside m (on u i q).tree
        goes_on u i false k = k
        goes_on u i true k = k

        step : (s : Stage) → over s ≡ false → Inside m s.tree → Inside m (next decide s).tree
        step s o k =
            each_next (λ u. Inside m u.tree) s o
            (λ h e. cut_inside m s.tree s.at (not s.second) k)
            (λ h e. goes_on s.tree s.at s.second k)
