-- The contracts leave no choice. A column of a closed table is an assignment for which that column's entries hold with nothing to
-- spare, so closed tables that the same assignments meet have the same entries; and a bound can't be both added and refused, since
-- the table with it has an assignment.
use Prim.Native.Nat.{ℕ, zero, suc, ◌+◌, ◌/◌, ◌%◌, ◌≤◌}
use mathlib.Core.Path.{◌≡◌, refl, sym, ◌∙◌}
use mathlib.Core.Logic.{◌↔◌}
use mathlib.Core.List.{List}
use mathlib.Core.Bool.{Bool, true, false}
use native.Mathlib.Omega.{arith}
use native.Mathlib.Nat.{le_antisymm}
use lib.IntN.{ℤ, pos, ◌-ℤ◌}
use lib.Seq.{ext_get_or}
use Rattle.condition.specs.Limits.{last_number}
use Rattle.condition.specs.Meaning.{Assignment, value, End}
use Rattle.condition.proofs.Negation.{up, down}
use Rattle.condition.proofs.Small.{minus}
use Rattle.differences.specs.Table.{numbers, cell, Meets, Closed, tightest, Starts, Adds, Shown}
use Rattle.differences.proofs.Closed.{meets_held, column_meets, tightest_meets}
use Rattle.differences.proofs.Parts.{place_of_lem}

column : List ℕ → ℕ → Assignment
column t j = record { flag = λ p. false; number = λ i. pos (cell t i j) -ℤ pos (cell t 0 j) }

column_value : (t : List ℕ) (j i : ℕ) → up (value (column t j) i) + cell t 0 j ≡ cell t i j + down (value (column t j) i)
unfolding column value
column_value t j zero = omega arith
column_value t j (suc i) = omega (arith, minus (cell t (suc i) j) (cell t 0 j))

cell_most : {s t : List ℕ} → Closed s → ((a : Assignment) → Meets s a → Meets t a) → (i j : ℕ) → i ≤ last_number → j ≤ last_number →
    cell s i j ≤ cell t i j
cell_most {s} {t} h f i j hi hj =
    let m = f (column s j) (column_meets h (column s j) j hj (λ i hi. column_value s j i)) in
    omega (arith, meets_held m i j hi hj, column_value s j i, column_value s j j, h.same j hj)

pub closed_unique : {s t : List ℕ} → Closed s → Closed t → ((a : Assignment) → Meets s a ↔ Meets t a) → s ≡ t
closed_unique {s} {t} h k f =
    ext_get_or 0 s t (h.size ∙ sym k.size)
    (λ p l.
    rw (place_of_lem p) at (le_antisymm
    (cell_most h (λ a. (f a).0) (p / numbers) (p % numbers) (omega (arith, h.size)) (omega arith))
    (cell_most k (λ a. (f a).1) (p / numbers) (p % numbers) (omega (arith, h.size)) (omega arith))))

pub starts_unique : {s t : List ℕ} → Starts s → Starts t → s ≡ t
starts_unique h k =
    closed_unique h.closed k.closed
    (λ a. ((λ m. (k.meets a).1 ((h.meets a).0 m)), λ m. (h.meets a).1 ((k.meets a).0 m)))

pub shown_unique : {t : List ℕ} {i : ℕ} {y z : ℤ} → Shown t i y → Shown t i z → y ≡ z
shown_unique h k = h.shown (λ p. false) ∙ sym (k.shown (λ p. false))

added_and_refused : {t u v : List ℕ} {e : End} → Adds t e true u → Adds t e false v → ⊥
added_and_refused {u = u} h k =
    let a = tightest (λ p. false) u in
    let m = (h.meets refl a).0 (tightest_meets h.closed (λ p. false)) in
    k.none refl a m.0 m.1

pub adds_unique : {t u v : List ℕ} {e : End} {p q : Bool} → Adds t e p u → Adds t e q v → (p ≡ q) × (u ≡ v)
adds_unique {p = true} {q = true} h k = (
  refl,
  closed_unique h.closed k.closed
      (λ a. ((λ m. (k.meets refl a).1 ((h.meets refl a).0 m)), λ m. (h.meets refl a).1 ((k.meets refl a).0 m))),
)
adds_unique {p = true} {q = false} h k = absurd (added_and_refused h k)
adds_unique {p = false} {q = true} h k = absurd (added_and_refused k h)
adds_unique {p = false} {q = false} h k = (refl, h.kept refl ∙ sym (k.kept refl))
