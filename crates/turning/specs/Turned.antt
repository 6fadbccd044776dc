-- What one assignment tells of an end, and what the functions of the walk promise.
use Rattle.std.specs.Prelude.{ℕ, ◌≤◌, ◌<◌, ◌≡◌, List, Bool, true, cond, length, get_or, Option, Some, None}
use Rattle.condition.specs.Limits.{question_room}
use Rattle.condition.specs.Meaning.{Assignment, met, Join, Tree, plain, Forest, count, holds, each}
use Rattle.condition.specs.Folding.{live, live_all}
use Rattle.condition.specs.Critical.{end_at, end_in, critical, critical_in}
use Rattle.nodes.specs.declared.Node.{Node}
use Rattle.nodes.specs.Memory.{size_of}
use Rattle.nodes.specs.Laid.{join_of, nodes, nodes_all, Laid, LaidAll}

-- None if the critical constraint of end i is false there. Else whether the end is true: if it is false "Question one: does the constraint
-- imply L" is answered no, and if it is true "Question two: does it imply not L" is.
unfoldable pub tells : Tree → ℕ → Assignment → Option Bool
tells t i a = cond (holds (critical t i) a) (Some (met (end_at t i) a)) None

-- the same of the children of a connective, of which nothing is above
unfoldable pub tells_in : Forest → Join → ℕ → Assignment → Option Bool
tells_in ts j i a = cond (holds (critical_in ts j (plain true) i) a) (Some (met (end_in ts i) a)) None

-- ---- what the code promises: m are the marks before, m' after

pub record Ends (v : Bool) (value : Bool) (ends : ℕ) (m' : List (Option Bool)) : Type 0 where
  pub is : value ≡ v
  pub one : ends ≡ 1
  pub marked : get_or m' 0 None ≡ Some v

-- the value, and from the first mark on as many as there are ends, each telling f of its end
pub record Marked (v : Bool) (n : ℕ) (f : ℕ → Option Bool) (value : Bool) (ends : ℕ) (m' : List (Option Bool)) : Type 0 where
  pub is : value ≡ v
  pub many : ends ≡ n
  pub marked : (k : ℕ) → k < n → get_or m' k None ≡ f k

-- the tree that stands from node 0 on, if that has at most `left` nodes
pub record Turns (n : ℕ → Node) (left : ℕ) (a : Assignment) (value : Bool) (ends : ℕ) (m' : List (Option Bool)) : Type 0 where
  pub few : ends ≤ left
  pub tree : (t : Tree) → Laid t n 0 → nodes t ≤ left → Marked (holds t a) (live t) (λ k. tells t k a) value ends m'

-- the k trees that stand from node 0 on, if those have at most `left` nodes together
pub record TurnsAll (n : ℕ → Node) (left : ℕ) (b : Bool) (k : ℕ) (a : Assignment) (value : Bool) (ends : ℕ) (m' : List (Option Bool)) :
    Type 0 where
  pub few : ends ≤ left
  pub trees : (ts : Forest) → LaidAll ts n 0 → count ts ≡ k → nodes_all ts ≤ left →
      Marked (each ts (join_of b) a) (live_all ts) (λ x. tells_in ts (join_of b) x a) value ends m'

pub record Tells (n : ℕ → Node) (a : Assignment) (m : List (Option Bool)) (ends : ℕ) (m' : List (Option Bool)) : Type 0 where
  pub few : ends ≤ length m
  pub long : length m' ≡ length m
  pub right : (t : Tree) → Laid t n 0 → nodes t ≤ question_room → nodes t ≤ length m →
      (ends ≡ live t) × ((k : ℕ) → k < live t → get_or m' k None ≡ tells t k a)
  pub full : length m < size_of (n 0) → (ends ≡ 0) × (m' ≡ m)
