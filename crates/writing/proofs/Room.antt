-- What writings leave, one after another. Where the first and the second fit together, the first's bytes stand and the rest of the output is
-- as it was, so that it is the second's whole output; lent and given back (`put_mid`), it has nothing after it.
use Prim.Native.Nat.{ℕ, zero, suc, ◌+◌, ◌-◌, ◌/◌, ◌%◌, ◌≤◌, ◌<◌}
use mathlib.Core.Path.{◌≡◌, refl, sym, ap, ap₂, ◌∙◌}
use mathlib.Core.List.{List, [], ◌∷◌, ◌++◌, append_assoc, append-nil}
use native.Mathlib.Omega.{arith}
use lib.Dec.{ltb}
use lib.ListN.{length, get_or, take, drop, length-append, length-drop, drop_of_length-le}
use lib.Seq.{take_all, drop-drop, take_at, drop_at}
use borrow.Rule.Slice.PartMut.{mid_of, put_mid}
use borrow.Table.Steps.{cases}
use borrow.Author.Tests.{ltb-true, ltb-false, lt-ltb, le-ltb}
use Rattle.condition.specs.Limits.{group_size}
use Rattle.std.specs.List.{flat_map}
use Rattle.std.proofs.lemmas.List.{flat_map_more, take_more}
use Rattle.condition.specs.Bytes.{groups_of, number}
use Rattle.writing.specs.Written.{Stands, Put}

-- no bytes are written, or none of bytes that have no room
pub nothing : (o : List ℕ) → Stands o o [] 0
nothing o = record { long = λ h. refl; here = λ h. refl }

pub no_room : {o o' s : List ℕ} {r : ℕ} → length o < length s → Stands o o' s r
no_room f = record { long = λ h. absurd (omega arith); here = λ h. absurd (omega arith) }

-- u at the start, then v into the rest, which is lent whole
module _ (o o₁ o₂ u v : List ℕ) (a m b : ℕ) (same : length o₁ ≡ length o) (whole : m ≡ length o₁ - a) (first : Stands o o₁ u a)
    (second : Stands (mid_of a m o₁) o₂ v b) where
  rest_long : length (drop a o₁) ≤ m
  rest_long = omega (arith, length-drop a o₁)

  module _ (fits : length (u ++ v) ≤ length o) where
    both : length u + length v ≤ length o
    both = omega (arith, length-append u v)

    a_is : a ≡ length u
    a_is = first.long (omega (arith, both))

    first_is : o₁ ≡ u ++ drop (length u) o
    first_is = first.here (omega (arith, both))

    rest_is : mid_of a m o₁ ≡ drop (length u) o
    rest_is = take_all m (drop a o₁) rest_long ∙ ap (drop a) first_is ∙ drop_at u (drop (length u) o) a (sym a_is)

    second_fits : length v ≤ length (mid_of a m o₁)
    second_fits = rw rest_is (omega (arith, length-drop (length u) o, both))

    second_is : o₂ ≡ v ++ drop (length (u ++ v)) o
    second_is =
        second.here second_fits
        ∙ ap (λ x. v ++ drop (length v) x) rest_is
        ∙ ap (λ x. v ++ x) (drop-drop (length v) (length u) o ∙ ap (λ k. drop k o) (sym (length-append u v)))

    joined_long : a + b ≡ length (u ++ v)
    joined_long = omega (arith, a_is, second.long second_fits, length-append u v)

    joined_here : put_mid a m o₁ o₂ ≡ (u ++ v) ++ drop (length (u ++ v)) o
    joined_here =
        ap₂ ◌++◌
        (ap (take a) first_is ∙ take_at u (drop (length u) o) a (sym a_is))
        (ap₂ ◌++◌ second_is (drop_of_length-le (drop a o₁) rest_long) ∙ append-nil _)
        ∙ sym (append_assoc u v (drop (length (u ++ v)) o))

  pub joined : Stands o (put_mid a m o₁ o₂) (u ++ v) (a + b)
  joined = record { long = joined_long; here = joined_here }

-- what the second wrote lies within the whole
pub within : (o o₁ : List ℕ) (a m b : ℕ) → length o₁ ≡ length o → m ≡ length o₁ - a → a ≤ length o → b ≤ length (mid_of a m o₁) →
    a + b ≤ length o
within o o₁ a m b same whole ha hb =
    let rest = take_all m (drop a o₁) (omega (arith, length-drop a o₁)) in
    omega (arith, ap length rest, length-drop a o₁)

-- a number's groups
no_groups : (g n : ℕ) → g ≡ 0 → groups_of g n ≡ []
unfolding groups_of
no_groups zero n z = refl
no_groups (suc g) n z = absurd (omega arith)

pub short_number : (g n : ℕ) → (g ≡ 0 → ⊥) → n < group_size → groups_of g n ≡ n ∷ []
unfolding groups_of
short_number zero n some h = absurd (some refl)
short_number (suc g) n some h = rw (lt-ltb n group_size h)

less : (g : ℕ) → suc g - 1 ≡ g
less g = omega arith

pub long_number : (g n : ℕ) → (g ≡ 0 → ⊥) → group_size ≤ n → groups_of g n ≡ (group_size + n % group_size) ∷ groups_of (g - 1) (n / group_size)
unfolding groups_of
long_number zero n some h = absurd (some refl)
long_number (suc g) n some h = rw (le-ltb n group_size h, less g)

some_byte : (g n : ℕ) → (g ≡ 0 → ⊥) → 1 ≤ length (groups_of g n)
some_byte g n some =
    cases (ltb n group_size)
    (λ e. rw (short_number g n some (ltb-true n group_size e)) (omega arith))
    (λ e. rw (long_number g n some (ltb-false n group_size e)) (omega arith))

-- ---- with room for what was written

pub put_then : (o o₁ o₂ u v : List ℕ) (a m b : ℕ) → length o₁ ≡ length o → m ≡ length o₁ - a → Put o o₁ u a →
    Put (mid_of a m o₁) o₂ v b → Put o (put_mid a m o₁ o₂) (u ++ v) (a + b)
put_then o o₁ o₂ u v a m b same whole first second =
    record {
      room = within o o₁ a m b same whole first.room second.room;
      stands = joined o o₁ o₂ u v a m b same whole first.stands second.stands;
    }

-- ---- the ways out of `put`

pub put_none : (o : List ℕ) (g n : ℕ) → g ≡ 0 → Put o o (groups_of g n) 0
put_none o g n z = record { room = omega arith; stands = rw (no_groups g n z) (nothing o) }

module _ {o : List ℕ} (g n : ℕ) (some : g ≡ 0 → ⊥) where
  pub put_full : length o ≡ 0 → Put o o (groups_of g n) 0
  put_full z = record { room = omega arith; stands = no_room (omega (arith, some_byte g n some)) }

  -- the first byte is x, the others o₁
  module _ {x : ℕ} {o₁ : List ℕ} (whole : o ≡ x ∷ o₁) where
    pub put_short : n < group_size → Put o (n ∷ o₁) (groups_of g n) 1
    put_short h =
        rw (whole, short_number g n some h) (record { room = omega arith; stands = record { long = λ f. refl; here = λ f. refl } })

    pub put_long : {o₂ : List ℕ} {b : ℕ} → group_size ≤ n → Put o₁ o₂ (groups_of (g - 1) (n / group_size)) b →
        Put o ((group_size + n % group_size) ∷ o₂) (groups_of g n) (1 + b)
    put_long h rest =
        let s = rest.stands in
        rw (whole, long_number g n some h) (record {
          room = omega (arith, rest.room);
          stands = record {
            long = λ f. omega (arith, s.long (omega arith));
            here = λ f. ap (λ l. (group_size + n % group_size) ∷ l) (s.here (omega arith));
          };
        })

-- ---- the loop of `put_each`: a turn

pub one_more : {o o₁ o₂ : List ℕ} (ns : List ℕ) (i n : ℕ) {a m b : ℕ} → i < length ns → n ≡ get_or ns i 0 → length o₁ ≡ length o → m ≡ length o₁ - a →
    Put o o₁ (flat_map number (take i ns)) a → Put (mid_of a m o₁) o₂ (number n) b →
    Put o (put_mid a m o₁ o₂) (flat_map number (take (i + 1) ns)) (a + b)
one_more {o} {o₁} {o₂} ns i n {a} {m} {b} less same long whole first second =
    let more : flat_map number (take i ns) ++ number n ≡ flat_map number (take (i + 1) ns) =
    ap (λ x. flat_map number (take i ns) ++ number x) same
    ∙ flat_map_more number [] (take i ns) (get_or ns i 0)
    ∙ ap (flat_map number) (sym (take_more ns i 0 less)) in
    rw (← more) (put_then o o₁ o₂ (flat_map number (take i ns)) (number n) a m b long whole first second)
