-- A number step that yields a value moves on within the bytes, and its value is in its range. Each follows the definition's own
-- cases: `number_from` by recursion over the groups, the others from it.
use Prim.Native.Nat.{ℕ, zero, suc, ◌+◌, ◌≤◌, ◌<◌}
use mathlib.Core.Path.{◌≡◌, refl, ◌∙◌}
use mathlib.Core.List.{List, [], ◌∷◌}
use mathlib.Core.Bool.{Bool, true, false, cond, ◌&&◌}
use native.Mathlib.Omega.{arith}
use lib.Dec.{ltb, leb, eqb}
use lib.ListN.{length}
use borrow.Author.Tests.{leb-true}
use Rattle.condition.specs.Limits.{groups, group_size}
use Rattle.condition.specs.Reading.{Reading, got, refused, then, number_from, checked, up_to, read_count}

-- what was read began at `at`, of the bytes l, and ended before `at'`, where the bytes l' begin
pub record Moved (l : List ℕ) (at : ℕ) (l' : List ℕ) (at' : ℕ) : Type 0 where
  pub on : at < at'
  pub kept : at + length l ≡ at' + length l'

-- `Yields r P`: if r is a value, P of it; nothing is said of a refusal
abbrev pub Yields : {A : Type 0} → Reading A → (A → List ℕ → ℕ → Type 0) → Type 0
Yields (got x l at) P = P x l at
Yields (refused n p) P = Unit {0}

pub yields : {A : Type 0} (r : Reading A) (P : A → List ℕ → ℕ → Type 0) → Yields r P → (x : A) (l : List ℕ) (at : ℕ) →
    r ≡ got x l at → P x l at
yields r P h x l at e = rw e at h

-- a step after a step
pub yields_then : {A B : Type 0} (r : Reading A) (next : A → List ℕ → ℕ → Reading B) →
    (P : A → List ℕ → ℕ → Type 0) (Q : B → List ℕ → ℕ → Type 0) →
    Yields r P → ((x : A) (l : List ℕ) (at : ℕ) → P x l at → Yields (next x l at) Q) → Yields (then r next) Q
yields_then (got x l at) next P Q h f = f x l at h
yields_then (refused n p) next P Q h f = tt

pub yields_cond : {A : Type 0} (b : Bool) (r s : Reading A) (P : A → List ℕ → ℕ → Type 0) → (b ≡ true → Yields r P) →
    (b ≡ false → Yields s P) → Yields (cond b r s) P
yields_cond true r s P h k = h refl
yields_cond false r s P h k = k refl

pub moved_again : {l l1 l2 : List ℕ} {at at1 at2 : ℕ} → Moved l at l1 at1 → Moved l1 at1 l2 at2 → Moved l at l2 at2
moved_again m n = record { on = omega (arith, m.on, n.on); kept = m.kept ∙ n.kept }

one_on : (b : ℕ) (l : List ℕ) (at : ℕ) → Moved (b ∷ l) at l (at + 1)
one_on b l at = record { on = omega arith; kept = omega arith }

pub number_moves : (g first : ℕ) (l : List ℕ) (at : ℕ) → Yields (number_from g first l at) (λ n. Moved l at)
unfolding number_from
number_moves zero first l at = tt
number_moves (suc g) first [] at = tt
number_moves (suc g) first (b ∷ l) at =
    yields_cond (ltb b group_size) _ _ (λ n. Moved (b ∷ l) at)
    (λ e. yields_cond (eqb b 0 && ltb first at) _ _ (λ n. Moved (b ∷ l) at) (λ q. tt) (λ q. one_on b l at))
    (λ e. yields_then (number_from g first l (at + 1)) _ (λ n. Moved l (at + 1)) (λ n. Moved (b ∷ l) at)
    (number_moves g first l (at + 1)) (λ n l' at' m. moved_again (one_on b l at) m))

-- a value that was tested
pub record Stepped (P : ℕ → Type 0) (l : List ℕ) (at n : ℕ) (l' : List ℕ) (at' : ℕ) : Type 0 where
  pub moved : Moved l at l' at'
  pub ranged : P n

tested : (test : ℕ → Bool) (answer : ℕ) (l : List ℕ) (at : ℕ) → Yields (checked test answer l at) (Stepped (λ n. test n ≡ true) l at)
tested test answer l at =
    yields_then (number_from groups at l at) _ (λ n. Moved l at) (Stepped (λ n. test n ≡ true) l at) (number_moves groups at l at)
    (λ n l' at' m. yields_cond (test n) _ _ (Stepped (λ n. test n ≡ true) l at) (λ e. record { moved = m; ranged = e }) (λ e. tt))

pub up_to_steps : (most answer : ℕ) (l : List ℕ) (at n : ℕ) (l' : List ℕ) (at' : ℕ) → up_to most answer l at ≡ got n l' at' →
    Stepped (λ n. n ≤ most) l at n l' at'
unfolding up_to
up_to_steps most answer l at n l' at' e =
    let h = yields _ _ (tested (λ n. leb n most) answer l at) n l' at' e in
    record { moved = h.moved; ranged = leb-true _ _ h.ranged }

pub count_steps : (l : List ℕ) (at n : ℕ) (l' : List ℕ) (at' : ℕ) → read_count l at ≡ got n l' at' → Stepped (λ n. 2 ≤ n) l at n l' at'
unfolding read_count
count_steps l at n l' at' e =
    let h = yields _ _ (tested (λ n. leb 2 n) 4 l at) n l' at' e in
    record { moved = h.moved; ranged = leb-true _ _ h.ranged }
