-- The rows lowered one after another in place. Row y stays as it was, lowered or not yet, so each row is lowered by the old row y; a
-- row that the test leaves out stays too, by `stays`. After all the rows the table is lowered.
use Prim.Native.Nat.{ℕ, ◌+◌, ◌-◌, ◌*◌, ◌/◌, ◌%◌, ◌≤◌, ◌<◌, min}
use mathlib.Core.Path.{◌≡◌, ap, ◌∙◌}
use mathlib.Core.List.{List}
use native.Mathlib.Omega.{arith}
use native.Mathlib.Decide.{dec_lt}
use lib.IntN.{pos, ◌-ℤ◌}
use lib.ListN.{get_or}
use mathlib.Core.Bool.{true}
use Rattle.condition.specs.Meaning.{at_most}
use Rattle.differences.specs.Table.{numbers, offset, cell, Adds}
use Rattle.differences.specs.Rows.{Ready, Part, lowered, Lowers}
use Rattle.differences.proofs.Closed.{upper}
use Rattle.differences.proofs.Lowered.{stays, way_least, adds}
use Rattle.differences.proofs.Parts.{row_of, column_of, place_of_lem, part_kept, part_on}

-- the cell at place k of the lowered table
abbrev pub round : List ℕ → (x y c : ℕ) → ℕ → ℕ
round t x y c k = min (get_or t k 0) (cell t (k / numbers) x + c + cell t y (k % numbers) - 2 * offset)

round_at : (t : List ℕ) (x y c i j : ℕ) → j < numbers →
    round t x y c (i * numbers + j) ≡ min (cell t i j) (cell t i x + c + cell t y j - 2 * offset)
round_at t x y c i j h = rw (row_of i j h, column_of i j h)

-- t' has the rows before i lowered; the bound contradicts nothing
pub record LoweredTo (i : ℕ) (t : List ℕ) (x y c : ℕ) (t' : List ℕ) : Type 0 where
  pub most : i ≤ numbers
  pub ready : Ready t x y
  pub bound : c ≤ 2 * offset
  pub ok : 2 * offset ≤ cell t y x + c
  pub part : Part 0 (i * numbers) (round t x y c) t t'

next : (i : ℕ) → (i + 1) * numbers ≡ i * numbers + numbers
next i = omega arith

row_is : (i k : ℕ) → i * numbers ≤ k → k < i * numbers + numbers → k / numbers ≡ i
row_is i k lo hi = omega arith

module _ {t : List ℕ} {x y c i : ℕ} {t' : List ℕ} (p : LoweredTo i t x y c t') where
  same_row : (j : ℕ) → cell t' i j ≡ cell t i j
  same_row j = p.part.after (i * numbers + j) (omega arith)

  same_y : (j : ℕ) → j < numbers → cell t' y j ≡ cell t y j
  same_y j h =
      elim (dec_lt y i) [
        | yes b ↦ omega (arith, p.part.done (y * numbers + j) (omega arith) (omega arith), round_at t x y c y j h, p.ok)
        | no b ↦ p.part.after (y * numbers + j) (omega arith)
      ]

  -- the two cells that the row's test reads
  pub row_upper : i < numbers → (cell t' i x ≤ 2 * offset) × (cell t' i y ≤ 2 * offset)
  row_upper h =
      let r = p.ready in
      omega (
        arith,
        same_row x,
        same_row y,
        upper r.closed i x (omega arith) r.left,
        upper r.closed i y (omega arith) r.right,
      )

  pub lowers : i < numbers → cell t' i x + c < cell t' i y + offset → Lowers t' i y (cell t' i x + c)
  lowers h l =
      let r = p.ready in
      record {
        size = p.part.size ∙ r.closed.size;
        row = omega arith;
        other = r.right;
        apart = λ e.
            omega (
              arith,
              p.ok,
              same_row x,
              same_row y,
              ap (λ i. cell t i x) e,
              ap (λ i. cell t i y) e,
              r.closed.same y r.right,
            );
        least = λ j hj. omega (arith, same_row x, same_y j (omega arith), way_least r c p.ok i j (omega arith) hj);
        most = λ j hj. omega (arith, p.bound, row_upper h, same_y j (omega arith), upper r.closed y j r.right hj);
      }

  on : {t'' : List ℕ} → i < numbers → Part 0 (i * numbers + numbers) (round t x y c) t t'' → LoweredTo (i + 1) t x y c t''
  on h q = record { most = omega arith; ready = p.ready; bound = p.bound; ok = p.ok; part = rw (next i) q }

  pub row_lowered : {t'' : List ℕ} → i < numbers →
      Part (i * numbers) (i * numbers + numbers) (lowered t' y (cell t' i x + c)) t' t'' → LoweredTo (i + 1) t x y c t''
  row_lowered h q =
      on h
      (part_on p.part (omega arith) q (omega arith)
      (λ k lo hi. rw (row_is i k lo hi, p.part.after k lo, same_row x, same_y (k % numbers) (omega arith))))

  pub row_left : i < numbers → cell t' i y + offset ≤ cell t' i x + c → LoweredTo (i + 1) t x y c t'
  row_left h l =
      let short : (k : ℕ) → k / numbers ≡ i → cell t (k / numbers) y + offset ≤ cell t (k / numbers) x + c =
      λ k e. rw e (omega (arith, same_row x, same_row y)) in
      on h
      (part_on p.part (omega arith) (part_kept (i * numbers) (i * numbers + numbers) t') (omega arith)
      (λ k lo hi.
      p.part.after k lo
      ∙ rw (place_of_lem k) at
      (stays p.ready c (k / numbers) (k % numbers) (omega arith) (omega arith) (short k (row_is i k lo hi)))))

pub rows_added : {t : List ℕ} {x y c i : ℕ} {t' : List ℕ} → LoweredTo i t x y c t' → numbers ≤ i →
    Adds t (at_most x y (pos c -ℤ pos offset)) true t'
rows_added {t} {x} {y} {c} {i} p h =
    adds p.ready c p.ok
    (record {
      size = p.part.size;
      at = λ i j hi hj. p.part.done (i * numbers + j) (omega arith) (omega arith) ∙ round_at t x y c i j (omega arith);
    })
