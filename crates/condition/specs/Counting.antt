-- The question count and the result, said of ends and cuts with no machine: document 01, "Critical constraint and sweep", its last line.
use Rattle.std.specs.Prelude.{ℕ, suc, ◌+◌, ◌*◌, ◌-◌, ◌<◌, true, false}
use Rattle.condition.specs.Meaning.{Tree, plain}
use Rattle.condition.specs.Folding.{fold, live}
use Rattle.condition.specs.Critical.{put, NonConstraining, NonRelaxing, Firm}

abbrev pub FirmBefore : Tree → ℕ → Type 0
FirmBefore t i = (m : ℕ) → m < i → Firm t m

-- `Sweeps t n u`: the work on the folded tree t asks n questions and leaves u. "The question count is thus fixed: sweep by sweep, 2j - 1
-- or 2j where end j is cut, 2k for the last sweep over k ends." Ends count from 0 here: end i is the document's j = i + 1
pub data Sweeps : Tree → ℕ → Tree → Type 0 where
  none_cut : {t : Tree} → FirmBefore t (live t) → Sweeps t (2 * live t) t
  cut_one : {t u : Tree} {n : ℕ} (i : ℕ) → i < live t → FirmBefore t i → NonConstraining t i →
      Sweeps (fold (put t i (plain true))) n u → Sweeps t (2 * suc i - 1 + n) u
  cut_two : {t u : Tree} {n : ℕ} (i : ℕ) → i < live t → FirmBefore t i → ¬ NonConstraining t i → NonRelaxing t i →
      Sweeps (fold (put t i (plain false))) n u → Sweeps t (2 * suc i + n) u
