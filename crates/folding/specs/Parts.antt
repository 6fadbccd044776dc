-- What the parts of the folding leave. `is` says what is written where a tree is laid; the other fields hold on any nodes.
use Rattle.std.specs.Prelude.{ℕ, ◌+◌, ◌-◌, ◌≤◌, ◌≡◌, Bool, cond, eqb, ltb, Option, Some, None}
use Rattle.condition.specs.Meaning.{End, Tree, plain, leaf, join, Forest, none, more, count}
use Rattle.condition.specs.Folding.{Left, decided, these, close, fold, fold_all, live, live_all}
use Rattle.nodes.specs.declared.Node.{Node}
use Rattle.nodes.specs.Laid.{join_of, EndIs, nodes, nodes_all, Laid, LaidAll}
use Rattle.folding.specs.declared.Cut.{Cut}
use Rattle.folding.specs.declared.Kid.{Kid}
use Rattle.folding.specs.declared.Kids.{Kids}

-- the cut as it goes from child to child: counted from the end after k ends, or past them
abbrev pub past : ℕ → Option Cut → Option Cut
past k None = None
past k (Some c) = cond (ltb c.end k) None (Some (record { end = c.end - k; to = c.to }))

-- what replaces the first end, if that is the one to cut
abbrev pub first_cut : Option Cut → Option Bool
first_cut None = None
first_cut (Some c) = cond (eqb c.end 0) (Some c.to) None

abbrev pub end_or : End → Option Bool → Tree
end_or e None = leaf e
end_or e (Some b) = plain b

unfoldable mutual
  pub cut : Tree → Option Cut → Tree
  cut (plain b) x = plain b
  cut (leaf e) x = end_or e (first_cut x)
  cut (join j ts) x = join j (cut_all ts x)

  pub cut_all : Forest → Option Cut → Forest
  cut_all none x = none
  cut_all (more t ts) x = more (cut t x) (cut_all ts (past (live t) x))

abbrev pub constant_of : Tree → Option Bool
constant_of (plain b) = Some b
constant_of (leaf e) = None
constant_of (join j ts) = None

-- u stands from node 0 on
pub record KidIs (o : ℕ → Node) (u : Tree) (r : Kid) : Type 0 where
  pub laid : Laid u o 0
  pub sized : r.size ≡ nodes u
  pub sorted : r.constant ≡ constant_of u

-- the children us are left and stand from j on; the first is no constant, as none is
abbrev pub Headed : Forest → Type 0
Headed none = Unit {0}
Headed (more t ts) = constant_of t ≡ None

pub record These (o : ℕ → Node) (j : ℕ) (us : Forest) (r : Kids) : Type 0 where
  pub laid : LaidAll us o j
  pub sized : r.size ≡ nodes_all us
  pub counted : r.count ≡ count us
  pub headed : Headed us

abbrev pub Leaves : Left → (ℕ → Node) → ℕ → Option Kids → Type 0
Leaves decided o j None = Unit {0}
Leaves decided o j (Some r) = ⊥
Leaves (these us) o j None = ⊥
Leaves (these us) o j (Some r) = These o j us r

abbrev pub size_left : Option Kids → ℕ
size_left None = 0
size_left (Some r) = r.size

abbrev pub count_left : Option Kids → ℕ
count_left None = 0
count_left (Some r) = r.count

-- x is the cut before the part, y after it
pub record EndRight (n : Node) (x y : Option Cut) (o : ℕ → Node) (r : Kid) : Type 0 where
  pub small : r.size ≡ 1
  pub goes : y ≡ past 1 x
  pub is : (e : End) → EndIs e n → KidIs o (end_or e (first_cut x)) r

-- of an `and` (every) or an `or`
pub record ShutRight (every : Bool) (kept : Option Kids) (o₀ o : ℕ → Node) (r : Kid) : Type 0 where
  pub small : r.size ≤ size_left kept + 1
  pub is : (l : Left) → Leaves l o₀ 1 kept → KidIs o (close (join_of every) l) r

pub record NodeRight (n : ℕ → Node) (left : ℕ) (x y : Option Cut) (o : ℕ → Node) (r : Kid) : Type 0 where
  pub small : r.size ≤ left
  pub is : (t : Tree) → Laid t n 0 → nodes t ≤ left → KidIs o (fold (cut t x)) r × (y ≡ past (live t) x)

pub record ChildrenRight (n : ℕ → Node) (left : ℕ) (every : Bool) (k : ℕ) (x y : Option Cut) (o : ℕ → Node) (r : Option Kids) : Type 0 where
  pub small : size_left r ≤ left
  pub few : count_left r ≤ left
  pub is : (ts : Forest) → LaidAll ts n 0 → count ts ≡ k → nodes_all ts ≤ left →
      Leaves (fold_all (cut_all ts x) (join_of every)) o 0 r × (y ≡ past (live_all ts) x)
