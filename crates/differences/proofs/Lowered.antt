-- Adding x - y <= c to a closed table. An entry becomes the way round by x, the new bound and y where that is less; if y to x and the
-- bound sum to no less than 0, that is closed again and says just the old entries and the bound, and if they sum below 0, nothing meets
-- both. Row y stays, and so does each row whose way to y is no shorter by the bound: so the table can be lowered in place.
use Prim.Native.Nat.{ℕ, ◌+◌, ◌-◌, ◌*◌, ◌≤◌, ◌<◌, min}
use mathlib.Core.Path.{◌≡◌, refl, sym}
use mathlib.Core.Logic.{◌↔◌}
use mathlib.Core.List.{List}
use mathlib.Core.Bool.{true, false, true≢false}
use native.Mathlib.Omega.{arith}
use lib.IntN.{pos, ◌-ℤ◌}
use lib.ListN.{length}
use Rattle.condition.specs.Limits.{last_number}
use Rattle.condition.specs.Meaning.{Assignment, at_most, met}
use Rattle.differences.specs.Table.{offset, cell, Meets, Closed, Adds}
use Rattle.differences.specs.Rows.{Ready}
use Rattle.differences.proofs.Closed.{held, meets_held, held_meets, upper}

-- t' is t with x - y <= c - offset worked in
pub record Lowered (t : List ℕ) (x y c : ℕ) (t' : List ℕ) : Type 0 where
  pub size : length t' ≡ length t
  pub at : (i j : ℕ) → i ≤ last_number → j ≤ last_number →
      cell t' i j ≡ min (cell t i j) (cell t i x + c + cell t y j - 2 * offset)

-- the two cells between x and y
pub between_upper : {t : List ℕ} {x y : ℕ} → Ready t x y → (cell t x y ≤ 2 * offset) × (cell t y x ≤ 2 * offset)
between_upper {t} {x} {y} r = (upper r.closed x y r.left r.right, upper r.closed y x r.right r.left)

module _ {t : List ℕ} {x y : ℕ} (r : Ready t x y) (c : ℕ) where
  pub refuses : cell t y x + c < 2 * offset → Adds t (at_most x y (pos c -ℤ pos offset)) false t
  refuses bad = record {
    closed = r.closed;
    meets = λ e. absurd (true≢false (sym e));
    kept = λ e. refl;
    none = λ e a m l. omega (arith, meets_held m y x r.right r.left, (held x y c a).0 l);
  }

  -- a row whose way to y is no shorter by the bound
  pub stays : (i j : ℕ) → i ≤ last_number → j ≤ last_number → cell t i y + offset ≤ cell t i x + c →
      cell t i j ≡ min (cell t i j) (cell t i x + c + cell t y j - 2 * offset)
  stays i j hi hj l = omega (arith, r.closed.chain i y j hi r.right hj)

  -- the bound says nothing new: no way to y is shorter by it
  pub nothing_new : cell t x y ≤ c → Lowered t x y c t
  nothing_new l = record {
    size = refl;
    at = λ i j hi hj. stays i j hi hj (omega (arith, r.closed.chain i x y hi r.left r.right));
  }

  module _ (ok : 2 * offset ≤ cell t y x + c) where
    -- a way round doesn't fall below what an entry can be
    pub way_least : (i j : ℕ) → i ≤ last_number → j ≤ last_number → 2 * offset ≤ cell t i x + c + cell t y j
    way_least i j hi hj =
        omega (
          arith,
          r.closed.chain y j x r.right hj r.left,
          r.closed.chain j i x hj hi r.left,
          upper r.closed j i hj hi,
        )

    module _ {t' : List ℕ} (l : Lowered t x y c t') where
      old : (i j : ℕ) → i ≤ last_number → j ≤ last_number → cell t' i j ≤ cell t i j
      old i j hi hj = omega (arith, l.at i j hi hj)

      new : (i j : ℕ) → i ≤ last_number → j ≤ last_number → cell t' i j + 2 * offset ≤ cell t i x + c + cell t y j
      new i j hi hj = omega (arith, l.at i j hi hj, way_least i j hi hj)

      lowered_chain : (i j k : ℕ) → i ≤ last_number → j ≤ last_number → k ≤ last_number →
          cell t' i k + offset ≤ cell t' i j + cell t' j k
      lowered_chain i j k hi hj hk =
          let chain = r.closed.chain in
          omega (
            arith,
            old i k hi hk,
            new i k hi hk,
            l.at i j hi hj,
            l.at j k hj hk,
            chain i j k hi hj hk,
            chain i j x hi hj r.left,
            chain y j k r.right hj hk,
            chain y j x r.right hj r.left,
          )

      lowered_closed : Closed t'
      lowered_closed = record {
        size = omega (arith, l.size, r.closed.size);
        same = λ i hi. omega (arith, l.at i i hi hi, r.closed.same i hi, r.closed.chain y i x r.right hi r.left);
        chain = lowered_chain;
        high = λ i hi. omega (arith, r.closed.high i hi, old i 0 hi (omega arith));
        low = λ i hi. omega (arith, r.closed.low i hi, old 0 i (omega arith) hi);
      }

      lowered_meets : (a : Assignment) → Meets t' a ↔ (Meets t a × (met (at_most x y (pos c -ℤ pos offset)) a ≡ true))
      lowered_meets a = (
        (λ m. (
          held_meets (λ i j hi hj. omega (arith, meets_held m i j hi hj, old i j hi hj)),
          (held x y c a).1
              (omega (
                arith,
                meets_held m x y r.left r.right,
                new x y r.left r.right,
                r.closed.same x r.left,
                r.closed.same y r.right,
              )),
        )),
        (λ m.
            held_meets
            (λ i j hi hj.
            omega (
              arith,
              l.at i j hi hj,
              meets_held m.0 i j hi hj,
              meets_held m.0 i x hi r.left,
              meets_held m.0 y j r.right hj,
              (held x y c a).0 m.1,
            ))),
      )

      pub adds : Adds t (at_most x y (pos c -ℤ pos offset)) true t'
      adds = record {
        closed = lowered_closed;
        meets = λ e. lowered_meets;
        kept = λ e. absurd (true≢false e);
        none = λ e. absurd (true≢false e);
      }
