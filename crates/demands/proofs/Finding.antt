-- Find answers every input: another number of numbers with 11, bytes that are refused as reading refuses them, and a tree by whether it is
-- satisfiable, which `sat` decides. A tree that is satisfiable has an assignment that can be shown (condition's Given).
use Prim.Native.Nat.{ℕ}
use mathlib.Core.Path.{◌≡◌, refl, sym, ◌∙◌}
use mathlib.Core.List.{List}
use mathlib.Core.Bool.{true≢false}
use native.Mathlib.Decide.{ℕ_discrete}
use lib.IntN.{ℤ}
use lib.ListN.{length}
use borrow.Table.Steps.{cases}
use Rattle.condition.specs.Limits.{last_number}
use Rattle.condition.specs.Meaning.{Tree}
use Rattle.condition.specs.Bytes.{Octets}
use Rattle.condition.specs.Reading.{Read, tree, refusal, read}
use Rattle.condition.specs.Satisfying.{Named}
use Rattle.condition.specs.Deciding.{sat}
use Rattle.condition.proofs.Reading.{read_written, refusals}
use Rattle.condition.proofs.Small.{formed_named}
use Rattle.condition.proofs.Deciding.{sat_is}
use Rattle.condition.proofs.Given.{shown}
use Rattle.cursor.proofs.Refusals.{refusal_of, there}
use Rattle.std.specs.Prelude.{Result, Ok, Err}
use Rattle.travelring.specs.declared.FindRefusal.{FindRefusal}
use Rattle.travelring.specs.declared.FindRefusal.TheVariants.{Bytes, Unfit, Nothing}
use Rattle.travelring.specs.Finding.{FindsTree, FindsRead, Finds}

tree_answers : (t : Tree) → Named t → (before : List ℤ) → (r : Result ℕ FindRefusal) × (after : List ℤ) × FindsTree t before r after
tree_answers t w before =
    cases (sat t)
    (λ e. let a = shown t w ((sat_is t).0 e) in (Ok a.bits, a.numbers, (a.true_there, a.range, a.long)))
    (λ e. (Err Nothing, before, (λ s. true≢false (sym ((sat_is t).1 s) ∙ e), refl)))

read_answers : (s : List ℕ) → Octets s → (before : List ℤ) → (x : Read) → read s ≡ x →
    (r : Result ℕ FindRefusal) × (after : List ℤ) × FindsRead x before r after
read_answers s octets before (tree t) e = tree_answers t (formed_named t (read_written s t octets e).1.formed) before
read_answers s octets before (refusal n p) e =
    let h = there n p (refusals s n p e) in
    (Err (Bytes (refusal_of n p)), before, record { told = simp (h.0, h.1); kept = refl })

pub find_answers : (s : List ℕ) → Octets s → (before : List ℤ) → (r : Result ℕ FindRefusal) × (after : List ℤ) × Finds s before r after
find_answers s octets before = elim (ℕ_discrete (length before) last_number) [
  | yes fit ↦ let a = read_answers s octets before (read s) refl in (a.0, a.1, record { unfit = λ h. absurd (h fit); fit = λ z. a.2 })
  | no h ↦ (Err Unfit, before, record { unfit = λ z. record { told = refl; kept = refl }; fit = λ z. absurd (h z) })
]
