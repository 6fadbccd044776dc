-- A negated bound, kept with one offset, is again a bound, kept with another, the other way round: adding the one is adding the other,
-- since the same assignments meet both.
use Prim.Native.Nat.{ℕ, ◌+◌}
use mathlib.Core.Path.{◌≡◌, sym, ◌∙◌}
use mathlib.Core.Logic.{◌↔◌}
use mathlib.Core.List.{List}
use mathlib.Core.Bool.{Bool, true}
use native.Mathlib.Omega.{arith}
use lib.IntN.{pos, neg_ℤ, ◌-ℤ◌}
use Rattle.condition.specs.Meaning.{Assignment, End, at_most, above, met}
use Rattle.condition.proofs.Negation.{above_is}
use Rattle.condition.proofs.Small.{minus, negated, at_most_lem}
use Rattle.differences.specs.Table.{Adds}

adds_as : {t t' : List ℕ} {e e' : End} {ok : Bool} → ((a : Assignment) → (met e a ≡ true) ↔ (met e' a ≡ true)) → Adds t e ok t' →
    Adds t e' ok t'
adds_as s h = record {
  closed = h.closed;
  meets = λ k a. (
    (λ m. let p = (h.meets k a).0 m in (p.0, (s a).0 p.1)),
    (λ m. (h.meets k a).1 (m.0, (s a).1 m.1)),
  );
  kept = h.kept;
  none = λ k a m l. h.none k a m ((s a).1 l);
}

module _ (x y m n c d : ℕ) (a : Assignment) where
  negated_bound : m + c + 1 ≡ n + d → (met (at_most y x (pos m -ℤ pos n)) a ≡ true) ↔ (met (above x y (pos c -ℤ pos d)) a ≡ true)
  negated_bound e =
      let z = pos c -ℤ pos d in
      let kept = at_most_lem y x (pos m -ℤ pos n) a in
      let turned = at_most_lem y x (neg_ℤ z -ℤ pos 1) a in (
        (λ h. above_is x y z a ∙ turned.1 (omega (arith, kept.0 h, minus m n, minus c d, negated z))),
        (λ h. kept.1 (omega (arith, turned.0 (sym (above_is x y z a) ∙ h), minus m n, minus c d, negated z))),
      )

module _ {t t' : List ℕ} {ok : Bool} (x y m n c d : ℕ) where
  pub adds_negated : Adds t (at_most y x (pos m -ℤ pos n)) ok t' → m + c + 1 ≡ n + d → Adds t (above x y (pos c -ℤ pos d)) ok t'
  adds_negated h e = adds_as (λ a. negated_bound x y m n c d a e) h
