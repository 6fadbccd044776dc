-- The sweep under a ration: document 01, "Critical constraint and sweep", from "Question one".
use Rattle.std.specs.Prelude.{ℕ, zero, suc, ◌+◌, ◌*◌, Bool, true, false, not, cond, leb}
use Rattle.condition.specs.Meaning.{Tree, plain, leaf, negate}
use Rattle.condition.specs.Folding.{fold, live}
use Rattle.condition.specs.Critical.{end_at, put, both, critical}
use Rattle.condition.specs.Deciding.{sat}

-- Where a sweep stands: the tree, the end it is at, counted from 0, and whether question one of this end is behind
pub record Stage : Type 0 where
  pub tree : Tree
  pub at : ℕ
  pub second : Bool

abbrev pub stage : Tree → ℕ → Bool → Stage
stage t i q = record { tree = t; at = i; second = q }

-- "the sweep starts again at the first end"
abbrev pub start : Tree → Stage
start t = stage t 0 false

-- "A sweep with no yes ends the work": no end is left
abbrev pub over : Stage → Bool
over s = leb (live s.tree) s.at

-- "On the first yes, L becomes true (one) or false (two), the tree is folded, and the sweep starts again"
abbrev pub cut : Stage → Stage
cut s = start (fold (put s.tree s.at (plain (not s.second))))

-- a no: "The sweep takes ends from left to right, question one before two"
abbrev pub on : Tree → ℕ → Bool → Stage
on t i false = stage t i true
on t i true = stage t (suc i) false

-- "Question one: does the constraint imply L [..]? Question two: does it imply not L": what it is to imply
abbrev pub claim : Bool → Tree → Tree
claim false l = l
claim true l = negate l

-- the constraint and not the claim: unsatisfiable exactly if the answer is yes
unfoldable pub question : Stage → Tree
question s = both (critical s.tree s.at) (negate (claim s.second (leaf (end_at s.tree s.at))))

-- A machine under a ration: the steps it took, and where it is. "A question is asked only while the ration has one left"
pub record Ran (S : Type 0) : Type 0 where
  pub asked : ℕ
  pub last : S

module _ {S : Type 0} where
  abbrev pub none_asked : S → Ran S
  none_asked s = record { asked = 0; last = s }

  abbrev pub one_more : Ran S → Ran S
  one_more r = record { asked = suc r.asked; last = r.last }

module _ {S : Type 0} (over : S → Bool) (next : S → S) where
  unfoldable pub run : ℕ → S → Ran S
  run zero s = none_asked s
  run (suc r) s = let more = one_more (run r (next s)) in cond (over s) (none_asked s) more

-- The sweep, given what decides satisfiability. "Folding is done on reading and after each cut."
module _ (decide : Tree → Bool) where
  unfoldable pub answer : Stage → Bool
  answer s = not (decide (question s))

  unfoldable pub next : Stage → Stage
  next s = cond (answer s) (cut s) (on s.tree s.at s.second)

  unfoldable pub sweep : Tree → ℕ → Ran Stage
  sweep t r = run over next r (start (fold t))

-- What trim answers for a tree that reads: the result, "the questions asked", and whether the work ended. "At the stop, the tree is the
-- one after the last cut."
pub record Answer : Type 0 where
  pub tree : Tree
  pub asked : ℕ
  pub finished : Bool

abbrev pub reported : Ran Stage → Answer
reported w = record { tree = w.last.tree; asked = w.asked; finished = over w.last }

unfoldable pub trimmed : Tree → ℕ → Answer
trimmed t r = reported (sweep sat t r)

-- "the bound n(n+1)", n the ends after folding: a ration that suffices
abbrev pub enough_for : Tree → ℕ
enough_for t = live (fold t) * (live (fold t) + 1)

-- the questions that the sweep of a tree needs: "The question count is thus fixed"
unfoldable pub needs : Tree → ℕ
needs t = (trimmed t (enough_for t)).asked
