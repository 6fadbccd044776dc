-- What is settled, what waits, and what the search promises: yes exactly if some assignment satisfies the tree, and then one that does.
-- Nothing here says in which order it guesses.
use Rattle.std.specs.Prelude.{ℕ, suc, ◌+◌, ◌-◌, ◌*◌, ◌/◌, ◌%◌, ◌^◌, ◌≤◌, ◌<◌, ◌≡◌, List, [], ◌∷◌, ◌↔◌, Bool, true, false, ◌&&◌, eqb, Option, Some, None, ℤ, pos, length, get_or, set}
use Rattle.std.specs.Option.{unwrap_or}
use Rattle.condition.specs.Limits.{last_boolean, last_number, question_room}
use Rattle.condition.specs.Meaning.{Assignment, value, End, met, all, any, Tree, join, Forest, none, holds, each, EndWithin, given}
use Rattle.condition.specs.Satisfying.{Satisfiable, InRange, Named, NamedAll}
use Rattle.differences.specs.Distances.{distances}
use Rattle.differences.specs.Table.{Meets, Starts, tightest}
use Rattle.nodes.specs.declared.Node.{Node}
use Rattle.nodes.specs.Laid.{nodes, nodes_all, Laid, LaidAll}
use Rattle.settling.specs.declared.settled.Settled.{Settled}
use Rattle.settling.specs.declared.Found.{Found}

-- ---- what is settled

pub record Agrees (b : List (Option Bool)) (a : Assignment) : Type 0 where
  pub says : (p : ℕ) (so : Bool) → get_or b p None ≡ Some so → a.flag p ≡ so

-- an assignment agrees with all that is settled
pub record Knows (s : Settled) (a : Assignment) : Type 0 where
  pub flags : Agrees s.flags a
  pub numbers : Meets (distances s.table) a

-- nothing is settled but the numbers' range, and nothing waits
pub record Clear (s : Settled) : Type 0 where
  pub waits : s.many ≡ 0
  pub flags : (p : ℕ) → get_or s.flags p None ≡ None
  pub numbers : Starts (distances s.table)

-- s' is s with the end e settled; ok is false if that can't be
pub record Fixes (s : Settled) (e : End) (ok : Bool) (s' : Settled) : Type 0 where
  pub ors : s'.ors ≡ s.ors
  pub many : s'.many ≡ s.many
  pub meets : ok ≡ true → (a : Assignment) → Knows s' a ↔ (Knows s a × (met e a ≡ true))
  pub none : ok ≡ false → EndWithin e → (a : Assignment) → Knows s a → met e a ≡ true → ⊥

-- ---- what waits

-- s' is s with the `or` at node i on top; ok is false if the stack is full
pub record Stacks (s : Settled) (i : ℕ) (ok : Bool) (s' : Settled) : Type 0 where
  pub flags : s'.flags ≡ s.flags
  pub table : s'.table ≡ s.table
  pub room : ok ≡ true → s.many < length s.ors
  pub ors : ok ≡ true → s'.ors ≡ set s.ors s.many i
  pub many : ok ≡ true → s'.many ≡ s.many + 1
  pub full : ok ≡ false → question_room ≤ s.many

-- an `or` within the limits
pub record Or (u : Tree) : Type 0 where
  pub ts : Forest
  pub same : u ≡ join any ts
  pub named : NamedAll ts

-- and it stands from node i on
pub record Stands (u : Tree) (n : ℕ → Node) (i : ℕ) : Type 0 where
  pub laid : Laid u n i
  pub near : i + nodes u ≤ question_room

-- the `or`s os wait: the first of them stands where the top of the stack says
unfoldable pub Waits : List Tree → (ℕ → Node) → List ℕ → ℕ → Type 0
Waits [] n o many = many ≡ 0
Waits (u ∷ us) n o many = (1 ≤ many) × Or u × Stands u n (get_or o (many - 1) 0) × Waits us n o (many - 1)

unfoldable pub owed : List Tree → Assignment → Bool
owed [] a = true
owed (u ∷ us) a = holds u a && owed us a

unfoldable pub bulk : List Tree → ℕ
bulk [] = 0
bulk (u ∷ us) = nodes u + bulk us

-- ---- what is still to be made true: the trees us, laid from node i on, and the `or`s os that wait

pub record Work (n : ℕ → Node) (i : ℕ) (us : Forest) (o : List ℕ) (many : ℕ) (os : List Tree) : Type 0 where
  pub laid : LaidAll us n i
  pub named : NamedAll us
  pub waits : Waits os n o many
  pub near : i + nodes_all us ≤ question_room
  pub few : bulk os + nodes_all us ≤ question_room

-- a agrees with what is settled and makes all that is left true
pub record Done (s : Settled) (us : Forest) (os : List Tree) (a : Assignment) : Type 0 where
  pub knows : Knows s a
  pub each : each us all a ≡ true
  pub owed : owed os a ≡ true

-- from one state of the work to a later one, which the same assignments finish
pub record Reaches (n : ℕ → Node) (i : ℕ) (us : Forest) (os : List Tree) (s : Settled) (i' : ℕ) (s' : Settled) : Type 0 where
  pub us' : Forest
  pub os' : List Tree
  pub work : Work n i' us' s'.ors s'.many os'
  pub end : i' + nodes_all us' ≡ i + nodes_all us
  pub less : bulk os' + nodes_all us' ≤ bulk os + nodes_all us
  pub same : (a : Assignment) → Done s' us' os' a ↔ Done s us os a

-- the node at i is taken, on to i' or, if there is none, to a contradiction
abbrev pub Takes : (n : ℕ → Node) (i : ℕ) (s : Settled) (r : Option ℕ) (s' : Settled) → Type 0
Takes n i s (Some i') s' =
    (i < i') × ((us : Forest) (os : List Tree) → Work n i us s.ors s.many os → 1 ≤ nodes_all us → Reaches n i us os s i' s')
Takes n i s None s' =
    (us : Forest) (os : List Tree) → Work n i us s.ors s.many os → 1 ≤ nodes_all us → (a : Assignment) → Done s us os a → ⊥

pub record Settles (n : ℕ → Node) (from to : ℕ) (s : Settled) (ok : Bool) (s' : Settled) : Type 0 where
  pub goes : ok ≡ true → (us : Forest) (os : List Tree) → Work n from us s.ors s.many os → from + nodes_all us ≡ to →
      Reaches n from us os s to s'
  pub stops : ok ≡ false → (us : Forest) (os : List Tree) → Work n from us s.ors s.many os → from + nodes_all us ≡ to →
      (a : Assignment) → Done s us os a → ⊥

-- ---- what is shown

-- a boolean that is not settled is shown as false
pub record Bits (b : List (Option Bool)) (r : ℕ) : Type 0 where
  pub each : (p : ℕ) → p ≤ last_boolean → eqb (r / 2 ^ p % 2) 1 ≡ unwrap_or (get_or b p None) false

pub record Shows (t : List ℕ) (numbers : List ℤ) : Type 0 where
  pub each : (x : ℕ) → x < last_number → (f : ℕ → Bool) → get_or numbers x (pos 0) ≡ value (tightest f t) (suc x)

-- ---- guesses

-- found: the assignment has P; nothing: none has
abbrev pub Answers : (Assignment → Type 0) → Option Found → Type 0
Answers P (Some f) = P (given f.flags f.numbers)
Answers P None = (a : Assignment) → P a → ⊥

-- a agrees with what is settled and makes one of the trees us true, and all the `or`s os
pub record Chosen (s : Settled) (us : Forest) (os : List Tree) (a : Assignment) : Type 0 where
  pub knows : Knows s a
  pub one : each us any a ≡ true
  pub owed : owed os a ≡ true

abbrev pub Guesses : (n : ℕ → Node) (s : Settled) (left : ℕ) (r : Option Found) → Type 0
Guesses n s left r =
    (os : List Tree) → Waits os n s.ors s.many → bulk os ≤ question_room → 3 * bulk os < left → Answers (Done s none os) r

-- the `or` on top is out of the work, since one of its children is in it
abbrev pub Attempts : (n : ℕ → Node) (from to : ℕ) (s : Settled) (left : ℕ) (r : Option Found) → Type 0
Attempts n from to s left r =
    (us : Forest) (os : List Tree) → Work n from us s.ors (s.many - 1) os → from + nodes_all us ≡ to → 3 * (bulk os + nodes_all us) < left →
    Answers (Done s us os) r

-- ---- the search: over all whole numbers

abbrev pub Right : Tree → Option Found → Type 0
Right u (Some f) = (holds u (given f.flags f.numbers) ≡ true) × InRange (given f.flags f.numbers)
Right u None = Satisfiable u → ⊥

pub record Finds (n : ℕ → Node) (r : Option Found) : Type 0 where
  pub right : (u : Tree) → Laid u n 0 → nodes u ≤ question_room → Named u → Right u r
