-- The laws of `trimmed` and `needs`, document 01's promises about the sweep: Ration and Sweep with `sat`, which decides rightly (Deciding).
use Prim.Native.Nat.{ℕ, ◌+◌, ◌*◌, ◌≤◌, ◌<◌, min}
use mathlib.Core.Path.{◌≡◌, sym, ap, ◌∙◌}
use mathlib.Core.Bool.{true, false, true≢false}
use mathlib.Core.Logic.{◌↔◌}
use native.Mathlib.Omega.{arith}
use Rattle.condition.specs.Limits.{most_ends}
use Rattle.condition.specs.Meaning.{Assignment, Tree, plain, holds, ends, Formed, Within}
use Rattle.condition.specs.Satisfying.{Satisfiable}
use Rattle.condition.specs.Folding.{fold, live, Folded}
use Rattle.condition.specs.Critical.{Firm}
use Rattle.condition.specs.Deciding.{sat}
use Rattle.condition.specs.Sweep.{reported, trimmed, needs}
use Rattle.condition.proofs.Folding.{fold_live}
use Rattle.condition.proofs.Ration.{most_le, asked_min, done_if, done_stays, sweep_inside}
use Rattle.condition.proofs.Sweep.{sound_sweep, sweep_firm, firm_false, firm_true}
use Rattle.condition.proofs.Deciding.{sat_is}

module _ (t : Tree) where
  pub needs_most : needs t ≤ live (fold t) * (live (fold t) + 1)
  unfolding needs trimmed
  needs_most = most_le sat t

  pub asked_is : (r : ℕ) → (trimmed t r).asked ≡ min (needs t) r
  unfolding needs trimmed
  asked_is = asked_min sat t

  pub finished_is : (r : ℕ) → ((trimmed t r).finished ≡ true) ↔ (needs t ≤ r)
  unfolding needs trimmed
  finished_is = done_if sat t

  pub finished_stays : (r q : ℕ) → (trimmed t r).finished ≡ true → r ≤ q → trimmed t q ≡ trimmed t r
  unfolding trimmed
  finished_stays r q f h = ap reported (done_stays sat t r q f h)

  pub trimmed_means : (r : ℕ) (a : Assignment) → holds (trimmed t r).tree a ≡ holds t a
  unfolding trimmed
  trimmed_means r = (sound_sweep sat sat_is t r).means

  pub trimmed_fewer : (r : ℕ) → live (trimmed t r).tree ≤ live t
  unfolding trimmed
  trimmed_fewer r = omega (arith, (sound_sweep sat sat_is t r).fewer, fold_live t)

  pub trimmed_folded : (r : ℕ) → Folded (trimmed t r).tree
  unfolding trimmed
  trimmed_folded r = (sound_sweep sat sat_is t r).folded

  pub trimmed_within : (r : ℕ) → Within t → Within (trimmed t r).tree
  unfolding trimmed
  trimmed_within r w =
      let h = sweep_inside sat t most_ends r (record { formed = w.formed; few = w.few }) in
      record { formed = h.formed; few = h.few }

  -- constants counted too
  pub trimmed_ends : (r : ℕ) → Formed t → ends (trimmed t r).tree ≤ ends t
  unfolding trimmed
  trimmed_ends r f = (sweep_inside sat t (ends t) r (record { formed = f; few = omega arith })).few

  pub trimmed_firm : (r : ℕ) → (trimmed t r).finished ≡ true → (i : ℕ) → i < live (trimmed t r).tree → Firm (trimmed t r).tree i
  unfolding trimmed
  trimmed_firm = sweep_firm sat sat_is t

  pub trimmed_false : (r : ℕ) → (trimmed t r).finished ≡ true → ((trimmed t r).tree ≡ plain false) ↔ (¬ Satisfiable t)
  unfolding holds
  trimmed_false r f = (
    λ e w. true≢false (sym w.1 ∙ (sym (trimmed_means r w.0) ∙ ap (λ u. holds u w.0) e)),
    λ n. firm_false _ (trimmed_folded r) (trimmed_firm r f) (λ w. n (w.0, sym (trimmed_means r w.0) ∙ w.1)),
  )

  pub trimmed_true : (r : ℕ) → (trimmed t r).finished ≡ true → ((trimmed t r).tree ≡ plain true) ↔ ((a : Assignment) → holds t a ≡ true)
  unfolding holds
  trimmed_true r f = (
    λ e a. sym (trimmed_means r a) ∙ ap (λ u. holds u a) e,
    λ v. firm_true _ (trimmed_folded r) (trimmed_firm r f) (λ a. trimmed_means r a ∙ v a),
  )
