-- What `number` reads from column 0 is the tightest assignment's number. That lies in range, so the machine's numbers hold it.
use Prim.Native.Nat.{ℕ, ◌*◌, ◌≤◌}
use mathlib.Core.Path.{◌≡◌, sym}
use mathlib.Core.List.{List}
use mathlib.Core.Bool.{Bool, false}
use native.Mathlib.Nat.{add-zero}
use native.Mathlib.Omega.{arith}
use lib.IntN.{ℤ, pos, negsuc, nat_abs, ◌-ℤ◌}
use lib.ListN.{get_or}
use lib.Signed.{mag}
use Rattle.condition.specs.Limits.{last_number}
use Rattle.condition.specs.Meaning.{value}
use Rattle.condition.specs.Satisfying.{farthest}
use Rattle.differences.specs.Table.{numbers, offset, cell, entry, Closed, tightest, Shown}
use Rattle.differences.proofs.Closed.{tightest_value, tightest_range}

mag_size : (z : ℤ) → mag z ≤ nat_abs z
mag_size (pos n) = omega arith
mag_size (negsuc n) = omega arith

module _ {t : List ℕ} (h : Closed t) (i : ℕ) (few : i ≤ last_number) where
  entry_value : (flags : ℕ → Bool) → value (tightest flags t) i ≡ entry t i 0
  entry_value flags = tightest_value h flags i few

  entry_range : nat_abs (entry t i 0) ≤ farthest
  entry_range = rw (entry_value (λ q. false)) at (tightest_range h (λ q. false) i few)

  -- the code reads the cell at i * 16 + 0 as the one at i * 16
  pub shown : (z : ℤ) → z ≡ pos (get_or t (i * numbers) 0) -ℤ pos offset → Shown t i z
  shown z e =
      let column : cell t i 0 ≡ get_or t (i * numbers) 0 = rw add-zero in
      rw (e, ← column) (record { shown = λ flags. sym (entry_value flags); range = entry_range })
