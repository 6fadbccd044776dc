-- "A set of differences is satisfiable exactly if no closed chain of them sums below zero", as the table finds it out: ends are added
-- one after another to the first table. If none is refused, the tightest assignment meets them all, so no closed chain of theirs sums
-- below zero. If one is, no assignment does, in range or not, since from one that did there would be one in range: so by Chains.antt
-- there is such a chain of it and those before.
use Prim.Native.Nat.{ℕ}
use mathlib.Core.Path.{◌≡◌, refl, sym, ◌∙◌}
use mathlib.Core.Logic.{◌↔◌, ⊎_elim}
use mathlib.Core.List.{List, [], ◌∷◌}
use mathlib.Core.Bool.{Bool, true, false, true≢false}
use Rattle.condition.specs.Meaning.{Assignment, End, is, is_not, at_most, above, met, EndWithin}
use Rattle.condition.specs.Satisfying.{InRange}
use Rattle.condition.proofs.Negation.{above_is}
use Rattle.condition.proofs.Small.{squeeze_any}
use Rattle.differences.specs.Table.{Meets, Closed, tightest, Starts, Adds}
use Rattle.differences.specs.Chains.{end, Each, BelowZero, differences}
use Rattle.differences.proofs.Closed.{tightest_meets}
use Rattle.differences.proofs.Chains.{chain_or_assignment, chains}

-- t is left by adding the ends es, the last first
pub data Added : List End → List ℕ → Type 0 where
  started : {t : List ℕ} → Starts t → Added [] t
  added : {es : List End} {t t' : List ℕ} {e : End} → Added es t → Adds t e true t' → Added (e ∷ es) t'

added_closed : {es : List End} {t : List ℕ} → Added es t → Closed t
added_closed (started s) = s.closed
added_closed (added d h) = h.closed

pub added_meets : {es : List End} {t : List ℕ} → Added es t → (a : Assignment) → Meets t a ↔ (InRange a × Each (λ e. met e a ≡ true) es)
added_meets (started s) a = ((λ m. ((s.meets a).0 m, tt)), λ h. (s.meets a).1 h.0)
added_meets (added d h) a = (
  (λ m. let p = (h.meets refl a).0 m in let q = (added_meets d a).0 p.0 in (q.0, (p.1, q.1))),
  (λ q. (h.meets refl a).1 ((added_meets d a).1 (q.0, q.1.1), q.1.0)),
)

pub added_satisfiable : {es : List End} {t : List ℕ} → Added es t → (flags : ℕ → Bool) → Each (λ e. met e (tightest flags t) ≡ true) es
added_satisfiable {es} {t} d flags = ((added_meets d (tightest flags t)).0 (tightest_meets (added_closed d) flags)).1

squeezed_each : (a b : Assignment) → ((e : End) → EndWithin e → met e a ≡ true → met e b ≡ true) → (es : List End) →
    Each EndWithin es → Each (λ e. met e a ≡ true) es → Each (λ e. met e b ≡ true) es
squeezed_each a b f [] w h = tt
squeezed_each a b f (e ∷ es) w h = (f e w.0 h.0, squeezed_each a b f es w.1 h.1)

pub refused_unsatisfiable : {es : List End} {t t' : List ℕ} {e : End} → Added es t → Adds t e false t' → Each EndWithin (e ∷ es) →
    (a : Assignment) → Each (λ e. met e a ≡ true) (e ∷ es) → ⊥
refused_unsatisfiable {es} {e = e} d h w a m =
    let b = squeeze_any a in
    let n = squeezed_each a b.0 b.1.meets (e ∷ es) w m in
    h.none refl b.0 ((added_meets d b.0).1 (b.1.range, n.1)) n.0

-- A table says nothing of a boolean, so an end that is added or refused is a difference
no_flag : {t t' : List ℕ} {e : End} (ok : Bool) → Closed t → Adds t e ok t' → (f g : ℕ → Bool) →
    ((t : List ℕ) → met e (tightest f t) ≡ true) → ((t : List ℕ) → met e (tightest g t) ≡ false) → ⊥
no_flag {t' = t'} true c h f g p q = true≢false (sym ((h.meets refl (tightest g t')).0 (tightest_meets h.closed g)).1 ∙ q t')
no_flag {t = t} false c h f g p q = h.none refl (tightest f t) (tightest_meets c f) (p t)

first_met : {t t' : List ℕ} {ok : Bool} (e : End) → Closed t → Adds t e ok t' → (es : List End) (a : Assignment) →
    Each (λ d. met (end d) a ≡ true) (differences (e ∷ es)) ↔ ((met e a ≡ true) × Each (λ d. met (end d) a ≡ true) (differences es))
unfolding met tightest differences
first_met {ok = ok} (is p) k h es a = absurd (no_flag ok k h (λ q. true) (λ q. false) (λ t. refl) (λ t. refl))
first_met {ok = ok} (is_not p) k h es a = absurd (no_flag ok k h (λ q. false) (λ q. true) (λ t. refl) (λ t. refl))
first_met (at_most x y c) k h es a = ((λ m. m), λ m. m)
first_met (above x y c) k h es a = ((λ m. (above_is x y c a ∙ m.0, m.1)), λ m. (sym (above_is x y c a) ∙ m.0, m.1))

differences_met : {es : List End} {t : List ℕ} → Added es t → (a : Assignment) →
    Each (λ d. met (end d) a ≡ true) (differences es) ↔ Each (λ e. met e a ≡ true) es
unfolding differences
differences_met (started s) a = ((λ m. tt), λ m. tt)
differences_met (added {es = es} {e = e} d h) a =
    let f = first_met e (added_closed d) h es a in
    let r = differences_met d a in (
      (λ m. let n = f.0 m in (n.0, r.0 n.1)),
      (λ m. f.1 (m.0, r.1 m.1)),
    )

pub added_no_chain : {es : List End} {t : List ℕ} → Added es t → BelowZero (differences es) → ⊥
added_no_chain {es} {t} d =
    let a = tightest (λ p. false) t in
    (chains (differences es)).0 (a, (differences_met d a).1 (added_satisfiable d (λ p. false)))

pub refused_chain : {es : List End} {t t' : List ℕ} {e : End} → Added es t → Adds t e false t' → Each EndWithin (e ∷ es) →
    BelowZero (differences (e ∷ es))
refused_chain {es} {e = e} d h w =
    ⊎_elim
    (λ s.
    let m = (first_met e (added_closed d) h es s.0).0 s.1 in
    absurd (refused_unsatisfiable d h w s.0 (m.0, (differences_met d s.0).0 m.1)))
    (λ b. b)
    (chain_or_assignment (differences (e ∷ es)))
