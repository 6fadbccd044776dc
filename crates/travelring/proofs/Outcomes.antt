-- What `outcome` is, by what was read and whether the result has room; and that what is written has room.
use Prim.Native.Nat.{ℕ, ◌+◌, ◌≤◌, ◌<◌}
use mathlib.Core.Path.{◌≡◌, ap, ◌∙◌}
use mathlib.Core.List.{List}
use Rattle.std.specs.Prelude.{Result}
use native.Mathlib.Omega.{arith}
use lib.ListN.{length, drop, length-append, length-drop}
use borrow.Author.Tests.{lt-ltb, le-ltb}
use Rattle.condition.specs.Answers as answers
use Rattle.condition.specs.Bytes.{bytes}
use Rattle.condition.specs.Reading.{Read, read}
use Rattle.condition.specs.Sweep.{Answer}
use Rattle.travelring.specs.declared.Trimmed.{Trimmed}
use Rattle.travelring.specs.declared.TrimRefusal.{TrimRefusal}
use Rattle.travelring.specs.Trimming.{refuses, ended, fitted, outcome_read, outcome, length_told, Trims}

pub by_read : (s : List ℕ) (ration room : ℕ) (x : Read) → read s ≡ x → outcome s ration room ≡ outcome_read x ration room
unfolding outcome
by_read s ration room x e = ap (λ y. outcome_read y ration room) e

pub too_long : (room : ℕ) (a : Answer) → room < length (bytes a.tree) → fitted room a ≡ refuses answers.long (length (bytes a.tree))
too_long room a h = simp (lt-ltb room (length (bytes a.tree)) h)

pub fits : (room : ℕ) (a : Answer) → length (bytes a.tree) ≤ room → fitted room a ≡ ended a
fits room a h = simp (le-ltb room (length (bytes a.tree)) h)

-- what is written lies within the output, which is as long after the call as before
pub length_within : (s : List ℕ) (ration : ℕ) (out : List ℕ) (r : Result Trimmed TrimRefusal) (out' : List ℕ) → Trims s ration out r out' →
    length out' ≡ length out → length_told r ≤ length out'
length_within s ration out r out' h same =
    let w = (outcome s ration (length out)).written in
    let long = ap length h.lent ∙ length-append w (drop (length w) out) ∙ ap (λ n. length w + n) (length-drop (length w) out) in
    omega (arith, h.long, long, same)
