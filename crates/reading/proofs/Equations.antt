-- The equations of `read_node`, `read_join`, `read_end` and `read_all`, one for each way that a reading goes: each is the definition at
-- what the steps before it yielded.
use Prim.Native.Nat.{ℕ, zero, suc, ◌+◌, ◌-◌, ◌≤◌, ◌<◌}
use mathlib.Core.Path.{◌≡◌, refl, ap}
use mathlib.Core.List.{List}
use lib.Dec.{eqb}
use borrow.Author.Tests.{lt-ltb, le-ltb}
use Rattle.condition.proofs.Naturals.{less, positive}
use Rattle.condition.proofs.Steps.{Yields, yields_then}
use Rattle.condition.specs.Answers as answers
use Rattle.condition.specs.Limits.{most_ends, last_boolean, last_number}
use Rattle.condition.specs.Meaning.{Tree, plain, leaf, join, Forest, none, more, count, ends}
use Rattle.condition.specs.Reading.{Reading, got, refused, then, read_tag, read_count, read_name, read_bound}
use Rattle.condition.specs.Reading.{bound_of, flag_end, bound_end, join_of, read_end, read_join, read_node, read_all, read_tree}

abbrev pub Kids : Type 0
Kids = ℕ → List ℕ → ℕ → Reading Forest

module _ (g : ℕ) (l : List ℕ) (at : ℕ) where
  module _ (low : g < 6) where
    pub name_stop : (a p : ℕ) → read_name last_boolean l at ≡ refused a p → read_end g l at ≡ refused a p
    unfolding read_end
    name_stop a p e = simp (lt-ltb _ _ low, e)

    pub flag_read : (p : ℕ) (l1 : List ℕ) (at1 : ℕ) → read_name last_boolean l at ≡ got p l1 at1 → read_end g l at ≡ got (flag_end g p) l1 at1
    unfolding read_end
    flag_read p l1 at1 e = simp (lt-ltb _ _ low, e)

  module _ (high : 6 ≤ g) where
    pub x_stop : (a p : ℕ) → read_name last_number l at ≡ refused a p → read_end g l at ≡ refused a p
    unfolding read_end
    x_stop a p e = simp (le-ltb _ _ high, e)

    module _ (x : ℕ) (l1 : List ℕ) (at1 : ℕ) (ex : read_name last_number l at ≡ got x l1 at1) where
      pub y_stop : (a p : ℕ) → read_name last_number l1 at1 ≡ refused a p → read_end g l at ≡ refused a p
      unfolding read_end
      y_stop a p e = simp (le-ltb _ _ high, ex, e)

      module _ (y : ℕ) (l2 : List ℕ) (at2 : ℕ) (ey : read_name last_number l1 at1 ≡ got y l2 at2) where
        pub bound_stop : (a p : ℕ) → read_bound l2 at2 ≡ refused a p → read_end g l at ≡ refused a p
        unfolding read_end
        bound_stop a p e = simp (le-ltb _ _ high, ex, ey, e)

        pub bound_read : (w : ℕ) (l3 : List ℕ) (at3 : ℕ) → read_bound l2 at2 ≡ got w l3 at3 →
            read_end g l at ≡ got (bound_end g x y (bound_of w)) l3 at3
        unfolding read_end
        bound_read w l3 at3 e = simp (le-ltb _ _ high, ex, ey, e)

module _ (kids : Kids) (l : List ℕ) (at others : ℕ) where
  pub tag_stop : (a p : ℕ) → read_tag l at ≡ refused a p → read_node kids l at others ≡ refused a p
  unfolding read_node
  tag_stop a p e = simp e

  module _ (g : ℕ) (l1 : List ℕ) (at1 : ℕ) (eg : read_tag l at ≡ got g l1 at1) where
    pub plain_read : g < 2 → read_node kids l at others ≡ got (plain (eqb g 1)) l1 at1
    unfolding read_node
    plain_read h = simp (eg, lt-ltb _ _ h)

    pub end_read : 4 ≤ g → 2 ≤ g → read_node kids l at others ≡ then (read_end g l1 at1) (λ e l2 at2. got (leaf e) l2 at2)
    unfolding read_node
    end_read h h2 = simp (eg, le-ltb _ _ h2, le-ltb _ _ h)

    module _ (h2 : 2 ≤ g) (h4 : g < 4) where
      pub count_stop : (a p : ℕ) → read_count l1 at1 ≡ refused a p → read_node kids l at others ≡ refused a p
      unfolding read_node read_join
      count_stop a p e = simp (eg, le-ltb _ _ h2, lt-ltb _ _ h4, e)

      module _ (k : ℕ) (l2 : List ℕ) (at2 : ℕ) (ek : read_count l1 at1 ≡ got k l2 at2) where
        pub crowd_stop : most_ends < others + k → read_node kids l at others ≡ refused answers.crowd at
        unfolding read_node read_join
        crowd_stop h = simp (eg, le-ltb _ _ h2, lt-ltb _ _ h4, ek, lt-ltb _ _ h)

        pub join_read : others + k ≤ most_ends →
            read_node kids l at others ≡ then (kids k l2 at2) (λ ts l3 at3. got (join (join_of g) ts) l3 at3)
        unfolding read_node read_join
        join_read h = simp (eg, le-ltb _ _ h2, lt-ltb _ _ h4, ek, le-ltb _ _ h)

-- what holds whoever reads the children holds at every depth
pub any_depth : (P : Reading Tree → Type 0) (l : List ℕ) (at others : ℕ) → ((kids : Kids) → P (read_node kids l at others)) →
    (d : ℕ) → P (read_tree d l at others)
unfolding read_tree
any_depth P l at others h zero = h _
any_depth P l at others h (suc d) = h _

-- where children are read, one more depth is left for them
pub deeper : (P : Reading Tree → Type 0) (l : List ℕ) (at others d : ℕ) → (d ≡ 0 → ⊥) →
    P (read_node (λ k l1 at1. read_all (read_tree (d - 1)) k l1 at1 others) l at others) → P (read_tree d l at others)
unfolding read_tree
deeper P l at others d some h = positive (λ x. P (read_tree x l at others)) d some h

module _ (node : List ℕ → ℕ → ℕ → Reading Tree) (k : ℕ) (l : List ℕ) (at others : ℕ) where
  pub no_child : k ≡ 0 → read_all node k l at others ≡ got none l at
  unfolding read_all
  no_child e = rw e refl

  pub some_child : (k ≡ 0 → ⊥) →
      read_all node k l at others ≡ then (node l at (others + (k - 1)))
      (λ t l1 at1. then (read_all node (k - 1) l1 at1 (others + ends t)) (λ ts l2 at2. got (more t ts) l2 at2))
  unfolding read_all
  some_child some =
      positive
      (λ x. read_all node x l at others ≡ then (node l at (others + (x - 1)))
      (λ t l1 at1. then (read_all node (x - 1) l1 at1 (others + ends t)) (λ ts l2 at2. got (more t ts) l2 at2)))
      k some
      (rw (less (k - 1)) refl)

-- k children are read
pub all_counted : (node : List ℕ → ℕ → ℕ → Reading Tree) (k : ℕ) (l : List ℕ) (at others : ℕ) →
    Yields (read_all node k l at others) (λ ts l' at'. count ts ≡ k)
unfolding read_all
all_counted node zero l at others = refl
all_counted node (suc k) l at others =
    yields_then (node l at (others + k)) _ (λ t l1 at1. Unit {0}) (λ ts l' at'. count ts ≡ suc k) (anything (node l at (others + k)))
    (λ t l1 at1 h. yields_then (read_all node k l1 at1 (others + ends t)) _ (λ ts l' at'. count ts ≡ k)
    (λ ts l' at'. count ts ≡ suc k) (all_counted node k l1 at1 (others + ends t)) (λ ts l2 at2 e. ap suc e))
  where
    anything : (x : Reading Tree) → Yields x (λ t l1 at1. Unit {0})
    anything (got t l at) = tt
    anything (refused a p) = tt
