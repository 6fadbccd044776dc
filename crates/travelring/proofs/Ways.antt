-- What each way out of `judge` and of `find` shows: numbers of another length are 11; else what reading answered, and with a tree its
-- value, or what the search answered of it.
use Prim.Native.Nat.{ℕ, ◌≤◌, ◌<◌}
use mathlib.Core.Path.{◌≡◌, refl, subst, ap}
use mathlib.Core.List.{List}
use mathlib.Core.Bool.{Bool}
use native.Mathlib.Omega.{arith}
use lib.IntN.{ℤ}
use lib.ListN.{length, get_or}
use borrow.Author.Tests.{eq-eqb, ne_eqb}
use Rattle.condition.specs.Limits.{last_number, question_room}
use Rattle.condition.specs.Meaning.{Tree, holds, given}
use Rattle.condition.specs.Reading.{Read, tree, refusal, read}
use Rattle.condition.proofs.Small.{formed_named}
use Rattle.condition.proofs.Reading.{octets, read_written}
use Rattle.cursor.specs.declared.Refusal.{Refusal}
use Rattle.nodes.specs.declared.Node.{Node}
use Rattle.nodes.specs.Memory.{node_at}
use Rattle.nodes.specs.Laid.{Laid, nodes}
use Rattle.reading.specs.Parts.{Holds}
use Rattle.settling.specs.declared.Found.{Found}
use Rattle.settling.specs.Settled as settled
use Rattle.std.specs.Prelude.{Option, Some, None, Result, Ok, Err, IsErr, IsErrAnd}
use Rattle.travelring.specs.declared.JudgeRefusal.{JudgeRefusal}
use Rattle.travelring.specs.declared.JudgeRefusal.TheVariants as judge_refusal
use Rattle.travelring.specs.Judging.{judged_tree, judged, told}
use Rattle.travelring.specs.declared.FindRefusal.TheVariants as find_refusal
use Rattle.travelring.specs.declared.FindRefusal.{FindRefusal}
use Rattle.travelring.specs.Finding.{FindsRead, Finds}

-- what a `?` passes on
pub passed : {A E : Type 0} (r : Result A E) (e : E) → IsErr r × IsErrAnd r (λ y. y ≡ e) → r ≡ Err e
passed (Ok x) e h = absurd h.1
passed (Err y) e h = ap Err h.1

-- ---- judge

module _ (s : List ℕ) (flags : ℕ) (numbers : List ℤ) where
  pub judge_unfit : (length numbers ≡ last_number → ⊥) → told (Err judge_refusal.Unfit) ≡ judged s flags numbers
  unfolding judged
  judge_unfit h = simp (ne_eqb _ _ h)

  module _ (fit : length numbers ≡ last_number) (x : Result Unit Refusal) (ns : List Node) (held : Holds ns x (read s)) where
    by_tree : (r : Result Bool JudgeRefusal) → told r ≡ judged_tree (read s) (given flags numbers) → told r ≡ judged s flags numbers
    unfolding judged
    by_tree r e = simp (eq-eqb _ _ fit) e

    pub judge_refuses : (why : Refusal) → x ≡ Err why → told (Err (judge_refusal.Bytes why)) ≡ judged s flags numbers
    judge_refuses why e = by_tree (Err (judge_refusal.Bytes why)) (carried (read s) (subst (λ z. Holds ns z (read s)) e held))
      where
        carried : (y : Read) → Holds ns (Err why) y → told (Err (judge_refusal.Bytes why)) ≡ judged_tree y (given flags numbers)
        carried (tree t) h = absurd h
        carried (refusal n p) h = simp (h.0, h.1)

    pub judge_values : (u : Unit) (v : Bool) → x ≡ Ok u →
        ((t : Tree) → Laid t (node_at ns) 0 → nodes t ≤ question_room → v ≡ holds t (given flags numbers)) →
        told (Ok v) ≡ judged s flags numbers
    judge_values u v e f = by_tree (Ok v) (valued (read s) (subst (λ z. Holds ns z (read s)) e held))
      where
        valued : (y : Read) → Holds ns (Ok u) y → told (Ok v) ≡ judged_tree y (given flags numbers)
        valued (tree t) h = simp (f t h.0 (omega (arith, h.1)))
        valued (refusal m p) h = absurd h

-- ---- find

module _ (s : List ℕ) (numbers : List ℤ) where
  pub find_unfit : (length numbers ≡ last_number → ⊥) → Finds s numbers (Err find_refusal.Unfit) numbers
  find_unfit h = record { unfit = λ z. record { told = refl; kept = refl }; fit = λ z. absurd (h z) }

  module _ (fit : length numbers ≡ last_number) (x : Result Unit Refusal) (ns : List Node) (held : Holds ns x (read s)) where
    as_read : (r : Result ℕ FindRefusal) (numbers' : List ℤ) → FindsRead (read s) numbers r numbers' → Finds s numbers r numbers'
    as_read r numbers' h = record { unfit = λ z. absurd (z fit); fit = λ z. h }

    pub find_refuses : (why : Refusal) → x ≡ Err why → Finds s numbers (Err (find_refusal.Bytes why)) numbers
    find_refuses why e = as_read (Err (find_refusal.Bytes why)) numbers (carried (read s) (subst (λ z. Holds ns z (read s)) e held))
      where
        carried : (y : Read) → Holds ns (Err why) y → FindsRead y numbers (Err (find_refusal.Bytes why)) numbers
        carried (tree t) h = absurd h
        carried (refusal n p) h = record { told = simp (h.0, h.1); kept = refl }

    -- the tree read is within the limits, so the search speaks of it
    module _ (bytes : (i : ℕ) → get_or s i 0 < 256) (u : Unit) (e : x ≡ Ok u) where
      settles : (v : Option Found) → settled.Finds (node_at ns) v → (r : Result ℕ FindRefusal) (numbers' : List ℤ) →
          ((t : Tree) → settled.Right t v → FindsRead (tree t) numbers r numbers') → Finds s numbers r numbers'
      settles v f r numbers' answered = as_read r numbers' (told (read s) refl (subst (λ z. Holds ns z (read s)) e held))
        where
          told : (y : Read) → read s ≡ y → Holds ns (Ok u) y → FindsRead y numbers r numbers'
          told (tree t) same h =
              answered t
              (f.right t h.0 (omega (arith, h.1)) (formed_named t (read_written s t (octets s bytes) same).1.formed))
          told (refusal m p) same h = absurd h

      pub find_shows : (found : Found) → settled.Finds (node_at ns) (Some found) → length found.numbers ≡ last_number →
          Finds s numbers (Ok found.flags) found.numbers
      find_shows found f long = settles (Some found) f (Ok found.flags) found.numbers (λ t h. (h.0, h.1, long))

      pub find_shows_none : settled.Finds (node_at ns) None → Finds s numbers (Err find_refusal.Nothing) numbers
      find_shows_none f = settles None f (Err find_refusal.Nothing) numbers (λ t h. (h, refl))
