-- What each way out of `Cursor::group` shows: one equation of `number_from` a way, with the bytes from `at` on as a first byte and
-- the rest.
use Prim.Native.Nat.{ℕ, ◌+◌, ◌-◌, ◌*◌, ◌^◌, ◌≤◌, ◌<◌}
use mathlib.Core.Path.{◌≡◌, refl, sym, ap, ◌∙◌}
use mathlib.Core.List.{List}
use mathlib.Core.Bool.{true, false, ◌&&◌, and-false}
use native.Mathlib.Nat.{pow-succ', pow-le-pow_right}
use native.Mathlib.Omega.{arith}
use lib.Dec.{ltb, eqb}
use lib.ListN.{length, get_or}
use borrow.Author.Tests.{lt-ltb, le-ltb}
use Rattle.condition.proofs.Naturals.{less, positive}
use Rattle.condition.specs.Answers as answers
use Rattle.condition.specs.Limits.{groups, group_size}
use Rattle.condition.specs.Reading.{got, refused, then, number_from}
use Rattle.cursor.specs.Said.{from}
use Rattle.cursor.proofs.Steps.{first_byte, no_bytes}

module _ (first : ℕ) (s : List ℕ) (at left : ℕ) where
  pub no_group : left ≡ 0 → refused answers.form first ≡ number_from left first (from s at) at
  unfolding number_from
  no_group e = rw e refl

  module _ (some : left ≡ 0 → ⊥) where
    pub no_byte : length s ≤ at → refused answers.ended at ≡ number_from left first (from s at) at
    unfolding number_from
    no_byte h = positive (λ g. refused answers.ended at ≡ number_from g first (from s at) at) left some (rw (no_bytes s at h) refl)

    module _ (b : ℕ) (here : at < length s) (is : b ≡ get_or s at 0) where
      pub padded : b < group_size → (eqb b 0 && ltb first at) ≡ true → refused answers.form first ≡ number_from left first (from s at) at
      unfolding number_from
      padded h q =
          positive (λ g. refused answers.form first ≡ number_from g first (from s at) at) left some
          (rw (first_byte s at b here is) (simp (lt-ltb _ _ h, q)))

      pub last_group : b < group_size → (eqb b 0 && ltb first at) ≡ false → got b (from s (at + 1)) (at + 1) ≡ number_from left first (from s at) at
      unfolding number_from
      last_group h q =
          positive (λ g. got b (from s (at + 1)) (at + 1) ≡ number_from g first (from s at) at) left some
          (rw (first_byte s at b here is) (simp (lt-ltb _ _ h, q)))

      more_groups : group_size ≤ b →
          number_from left first (from s at) at ≡ then (number_from (left - 1) first (from s (at + 1)) (at + 1))
          (λ n l' at'. got (b - group_size + group_size * n) l' at')
      unfolding number_from
      more_groups h =
          positive
          (λ g. number_from g first (from s at) at ≡ then (number_from (g - 1) first (from s (at + 1)) (at + 1))
          (λ n l' at'. got (b - group_size + group_size * n) l' at'))
          left some
          (rw (first_byte s at b here is) (simp (le-ltb _ _ h, less (left - 1))))

      module _ (h : group_size ≤ b) where
        pub more_read : (n : ℕ) (l : List ℕ) (at' : ℕ) → got n l at' ≡ number_from (left - 1) first (from s (at + 1)) (at + 1) →
            got (b - group_size + group_size * n) l at' ≡ number_from left first (from s at) at
        more_read n l at' e = ap (λ x. then x (λ n l at'. got (b - group_size + group_size * n) l at')) e ∙ sym (more_groups h)

        pub more_refused : (a p : ℕ) → refused a p ≡ number_from (left - 1) first (from s (at + 1)) (at + 1) →
            refused a p ≡ number_from left first (from s at) at
        more_refused a p e = ap (λ x. then x (λ n l at'. got (b - group_size + group_size * n) l at')) e ∙ sym (more_groups h)

-- a number of one byte: none can be padded
pub one_byte : (s : List ℕ) (at b : ℕ) → at < length s → b ≡ get_or s at 0 → b < group_size →
    got b (from s (at + 1)) (at + 1) ≡ number_from groups at (from s at) at
one_byte s at b here is h =
    last_group at s at groups (λ e. omega arith) b here is h
    (ap (λ x. eqb b 0 && x) (le-ltb at at (omega arith)) ∙ and-false (eqb b 0))

-- sizes
pub small_last : (left b : ℕ) → (left ≡ 0 → ⊥) → b < group_size → b < group_size ^ left
small_last left b some h =
    positive (λ g. b < group_size ^ g) left some (rw (pow-succ' group_size (left - 1)) (omega (
      arith,
      pow-le-pow_right {n = group_size} (omega
          arith) {i = 0} {j = left - 1} (omega arith),
    )))

pub small_more : (left b n : ℕ) → (left ≡ 0 → ⊥) → b < 256 → n < group_size ^ (left - 1) → b - group_size + group_size * n < group_size ^ left
small_more left b n some h q = positive (λ g. n < group_size ^ (g - 1) → b - group_size + group_size * n < group_size ^ g) left some
    (λ r. rw (pow-succ' group_size (left - 1)) (omega (arith, q))) q

pub small_fits : (g n : ℕ) → g ≤ groups → n < group_size ^ g → n < group_size ^ groups
small_fits g n h q = omega (arith, pow-le-pow_right {n = group_size} (omega arith) {i = g} {j = groups} h)

-- those by which the check finds most ways out itself
pub ruleset ways = (no_group, no_byte, padded, more_read, more_refused, small_more)
