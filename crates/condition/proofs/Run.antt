-- A machine run under a ration, whatever it does: that a run once over doesn't change, that a ration too small is used up, and what a
-- falling measure gives. Each is by recursion over the ration, as `run` is.
use Prim.Native.Nat.{ℕ, zero, suc, ◌+◌, ◌≤◌, ◌<◌, min}
use mathlib.Core.Path.{◌≡◌, refl, sym, ap, ◌∙◌}
use mathlib.Core.Bool.{Bool, true, false, false≢true}
use mathlib.Core.Logic.{◌↔◌}
use native.Mathlib.Nat.{zero-add}
use native.Mathlib.Decide.{dec_le}
use native.Mathlib.Omega.{arith}
use borrow.Table.Steps.{cases}
use Rattle.condition.specs.Sweep.{Ran, none_asked, one_more, run}

module _ {S : Type 0} (over : S → Bool) (next : S → S) where
  abbrev pub Finished : ℕ → S → Type 0
  Finished r s = over (run over next r s).last ≡ true

  -- s has become l after k steps, with none over before
  abbrev pub Reached : ℕ → S → S → Type 0
  Reached k s l = run over next k s ≡ record { asked = k; last = l }

  run_over : (r : ℕ) (s : S) → over s ≡ true → run over next r s ≡ none_asked s
  unfolding run
  run_over zero s e = refl
  run_over (suc r) s e = rw e

  run_on : (r : ℕ) (s : S) → over s ≡ false → run over next (suc r) s ≡ one_more (run over next r (next s))
  unfolding run
  run_on r s e = rw e

  pub asked_le : (r : ℕ) (s : S) → (run over next r s).asked ≤ r
  unfolding run
  asked_le zero s = omega arith
  asked_le (suc r) s = cases (over s) (λ e. rw e (omega arith)) (λ e. rw e (omega (arith, asked_le r (next s))))

  -- once finished, another ration that covers what was asked gives the same
  pub settled : (r q : ℕ) (s : S) → Finished r s → (run over next r s).asked ≤ q → run over next q s ≡ run over next r s
  unfolding run
  settled zero q s f h = run_over q s f
  settled (suc r) zero s f h =
      cases (over s)
      (λ e. run_over zero s e ∙ sym (run_over (suc r) s e))
      (λ e. let k : suc (run over next r (next s)).asked ≤ 0 = rw e at h in absurd (omega arith))
  settled (suc r) (suc q) s f h =
      cases (over s)
      (λ e. run_over (suc q) s e ∙ sym (run_over (suc r) s e))
      (λ e. let k : suc (run over next r (next s)).asked ≤ suc q = rw e at h in
      let g : Finished r (next s) = rw e at f in
      run_on q s e ∙ (ap one_more (settled r q (next s) g (omega arith)) ∙ sym (run_on r s e)))

  -- a ration below what another asks is used up, and does not finish
  pub short : (r q : ℕ) (s : S) → q < (run over next r s).asked →
      (over (run over next q s).last ≡ false) × ((run over next q s).asked ≡ q)
  unfolding run
  short zero q s h = absurd (omega arith)
  short (suc r) zero s h =
      cases (over s)
      (λ e. let k : 0 < 0 = rw e at h in absurd (omega arith))
      (λ e. (e, refl))
  short (suc r) (suc q) s h =
      cases (over s)
      (λ e. let k : suc q < 0 = rw e at h in absurd (omega arith))
      (λ e. let k : suc q < suc (run over next r (next s)).asked = rw e at h in
      let i = short r q (next s) (omega arith) in
      rw e (i.0, ap suc i.1))

  pub keeps : (P : S → Type 0) → ((s : S) → over s ≡ false → P s → P (next s)) → (r : ℕ) (s : S) → P s → P (run over next r s).last
  unfolding run
  keeps P f zero s p = p
  keeps P f (suc r) s p = cases (over s) (λ e. rw e p) (λ e. rw e (keeps P f r (next s) (f s e p)))

  -- a measure that falls with each step is a ration that suffices
  pub enough : (measure : S → ℕ) → ((s : S) → over s ≡ false → measure (next s) < measure s) →
      (r : ℕ) (s : S) → measure s ≤ r → Finished r s
  unfolding run
  enough m falls zero s h = cases (over s) (λ e. e) (λ e. absurd (omega (arith, falls s e)))
  enough m falls (suc r) s h =
      cases (over s) (λ e. rw e e) (λ e. rw e (enough m falls r (next s) (omega (arith, falls s e))))

  -- b is a ration that suffices; what it asks is what the work needs
  pub reports : (b r : ℕ) (s : S) → Finished b s → (run over next r s).asked ≡ min (run over next b s).asked r
  reports b r s f =
      elim (dec_le (run over next b s).asked r) [
        | yes h ↦ omega (arith, ap (λ (w : Ran S). w.asked) (settled b r s f h))
        | no h ↦ omega (arith, (short b r s (omega arith)).1)
      ]

  pub finishes : (b r : ℕ) (s : S) → Finished b s → Finished r s ↔ ((run over next b s).asked ≤ r)
  finishes b r s f = (λ g. must g, λ h. rw (settled b r s f h) f)
    where
      must : Finished r s → (run over next b s).asked ≤ r
      must g =
          elim (dec_le (run over next b s).asked r) [
            | yes h ↦ h
            | no h ↦ absurd (false≢true (sym (short b r s (omega arith)).0 ∙ g))
          ]

  pub larger : (r q : ℕ) (s : S) → Finished r s → r ≤ q → run over next q s ≡ run over next r s
  larger r q s f h = settled r q s f (omega (arith, asked_le r s))

  -- For a loop: one step more, or over, or k steps and then what a ration r does from there

  ran_path : (r : Ran S) (k : ℕ) (l : S) → r.asked ≡ k → r.last ≡ l → r ≡ record { asked = k; last = l }
  ran_path r k l p q = λ i. record { asked = p i; last = q i }

  -- the first of k + 1 steps
  first_step : (k : ℕ) (s l : S) → Reached (suc k) s l → (over s ≡ false) × Reached k (next s) l
  first_step k s l e =
      cases (over s)
      (λ f. let z : 0 ≡ suc k = ap (λ (w : Ran S). w.asked) (sym (run_over (suc k) s f) ∙ e) in absurd (omega arith))
      (λ f. let g : one_more (run over next k (next s)) ≡ record { asked = suc k; last = l } = sym (run_on k s f) ∙ e in
      let a : suc (run over next k (next s)).asked ≡ suc k = ap (λ (w : Ran S). w.asked) g in
      (f, ran_path (run over next k (next s)) k l (omega arith) (ap (λ (w : Ran S). w.last) g)))

  pub advance : (k : ℕ) (s l : S) → Reached k s l → over l ≡ false → Reached (suc k) s (next l)
  unfolding run
  advance zero s l e o =
      let p : s ≡ l = ap (λ (w : Ran S). w.last) e in
      run_on zero s (ap over p ∙ o) ∙ ap (λ x. record { asked = 1; last = next x }) p
  advance (suc k) s l e o =
      let f = first_step k s l e in
      run_on (suc k) s f.0 ∙ ap one_more (advance k (next s) l f.1 o)

  pub stopped : (k r : ℕ) (s l : S) → Reached k s l → over l ≡ true → k ≤ r → run over next r s ≡ record { asked = k; last = l }
  stopped k r s l e o h = larger k r s (ap (λ (w : Ran S). over w.last) e ∙ o) h ∙ e

  pub ahead : (k r : ℕ) (s l : S) → Reached k s l →
      run over next (k + r) s ≡ record { asked = k + (run over next r l).asked; last = (run over next r l).last }
  unfolding run
  ahead zero r s l e =
      let p : s ≡ l = ap (λ (w : Ran S). w.last) e in
      rw p (ran_path (run over next (0 + r) l) (0 + (run over next r l).asked) (run over next r l).last (simp zero-add) (rw zero-add))
  ahead (suc k) r s l e =
      let f = first_step k s l e in
      let m : suc k + r ≡ suc (k + r) = omega arith in
      ap (λ n. run over next n s) m
      ∙ (run_on (k + r) s f.0 ∙ (ap one_more (ahead k r (next s) l f.1) ∙ ran_path _ _ _ (omega arith) refl))
