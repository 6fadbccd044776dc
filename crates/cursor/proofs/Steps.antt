-- A step of the cursor: the bytes it reads, and what it says of them.
use Prim.Native.Nat.{ℕ, ◌+◌, ◌≤◌, ◌<◌}
use mathlib.Core.Path.{◌≡◌, sym, ap, ◌∙◌}
use mathlib.Core.List.{List, [], ◌∷◌}
use native.Mathlib.Omega.{arith}
use native.Mathlib.Numerals.{add-one}
use lib.ListN.{length, get_or, length-drop, drop_of_length-le}
use lib.Seq.{drop-cons}
use Rattle.std.specs.Prelude.{Result, Err}
use Rattle.condition.proofs.Steps.{Moved, Stepped, up_to_steps, count_steps}
use Rattle.condition.specs.Reading.{Reading, got, refused, up_to, read_count}
use Rattle.cursor.specs.declared.Cursor.{Cursor}
use Rattle.cursor.specs.declared.Refusal.{Refusal}
use Rattle.cursor.specs.Said.{answer_of, place_of, from, said}

-- the bytes from `at` on: the byte there and the rest, or none
pub first_byte : (s : List ℕ) (at b : ℕ) → at < length s → b ≡ get_or s at 0 → from s at ≡ b ∷ from s (at + 1)
unfolding from
first_byte s at b h e = rw (add-one, e) (drop-cons s at 0 h)

pub no_bytes : (s : List ℕ) (at : ℕ) → length s ≤ at → from s at ≡ []
unfolding from
no_bytes s at h = drop_of_length-le s h

-- a step that yields no value: what was read there is its refusal
pub refusal_read : (s : List ℕ) (step : Result (ℕ × Cursor) Refusal) (x : Reading ℕ) (why : Refusal) → said s step ≡ x → step ≡ Err why →
    x ≡ refused (answer_of why) (place_of why)
refusal_read s step x why is e = sym is ∙ ap (said s) e

-- a value n read from `at` on, inside the bytes and in its range
pub record Taken (P : ℕ → Type 0) (s : List ℕ) (at : ℕ) (x : Reading ℕ) (n : ℕ) (c : Cursor) : Type 0 where
  pub is : x ≡ got n (from s c.at) c.at
  pub on : at < c.at
  pub inside : c.at ≤ length s
  pub ranged : P n

inside_moved : (s : List ℕ) (at at' : ℕ) → at ≤ length s → Moved (from s at) at (from s at') at' → at' ≤ length s
unfolding from
inside_moved s at at' h m = omega (arith, m.on, simp length-drop at m.kept)

module _ (s : List ℕ) (at : ℕ) (inside : at ≤ length s) (n : ℕ) (c : Cursor) where
  taken : (P : ℕ → Type 0) (x : Reading ℕ) → got n (from s c.at) c.at ≡ x →
      (x ≡ got n (from s c.at) c.at → Stepped P (from s at) at n (from s c.at) c.at) → Taken P s at x n c
  taken P x e steps =
      let h = steps (sym e) in
      record { is = sym e; on = h.moved.on; inside = inside_moved s at c.at inside h.moved; ranged = h.ranged }

  pub up_to_taken : (most answer : ℕ) → got n (from s c.at) c.at ≡ up_to most answer (from s at) at →
      Taken (λ n. n ≤ most) s at (up_to most answer (from s at) at) n c
  up_to_taken most answer e = taken (λ n. n ≤ most) _ e (up_to_steps most answer (from s at) at n (from s c.at) c.at)

  pub count_taken : got n (from s c.at) c.at ≡ read_count (from s at) at → Taken (λ n. 2 ≤ n) s at (read_count (from s at) at) n c
  count_taken e = taken (λ n. 2 ≤ n) _ e (count_steps (from s at) at n (from s c.at) c.at)
