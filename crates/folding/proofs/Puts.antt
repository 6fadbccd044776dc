-- What `end` and `shut` put. An end is kept or becomes the constant; of a connective's children that are left there are none, one, which
-- moves to node 0, or more, which stay after the connective's node.
use Prim.Native.Nat.{ℕ, ◌+◌, ◌<◌, ◌≤◌}
use mathlib.Core.Path.{◌≡◌, refl, sym, subst, ap, ◌∙◌}
use mathlib.Core.List.{List}
use mathlib.Core.Bool.{Bool, true, false, not}
use native.Mathlib.Omega.{arith}
use borrow.Author.Rules.{rules}
use lib.ListN.{length, set}
use Rattle.std.specs.List.{copy_within}
use Rattle.std.proofs.Common.{Option, Some, None}
use Rattle.std.proofs.lemmas.List.{places}
use Rattle.condition.specs.Meaning.{unit, plain, none, more}
use Rattle.condition.specs.Folding.{Left, decided, these, close}
use Rattle.nodes.specs.declared.Node.{Node}
use Rattle.nodes.specs.declared.Node.TheVariants as node
use Rattle.nodes.specs.Memory.{node_at}
use Rattle.nodes.specs.Laid.{join_of, nodes, Laid}
use Rattle.nodes.proofs.Memory.{put_here, put_other}
use Rattle.nodes.proofs.Laws.{is_all_join_of, tell, move, move_all}
use Rattle.folding.specs.declared.Cut.{Cut}
use Rattle.folding.specs.declared.Kid.{Kid}
use Rattle.folding.specs.declared.Kids.{Kids}
use Rattle.folding.specs.Parts.{past, first_cut, end_or, KidIs, Leaves, EndRight, ShutRight}

pub constant_put : (o : List Node) (b : Bool) → 1 ≤ length o →
    KidIs (node_at (set o 0 (node.Plain b))) (plain b) (record { constant = Some b; size = 1 })
unfolding Laid nodes
constant_put o b room = record { laid = put_here o 0 (node.Plain b) room; sized = refl; sorted = refl }

-- ---- an end

module _ (n : Node) (x y : Option Cut) (goes : y ≡ past 1 x) where
  pub end_cut : (o : ℕ → Node) (b : Bool) (r : Kid) → Some b ≡ first_cut x → KidIs o (plain b) r → EndRight n x y o r
  unfolding nodes
  end_cut o b r e k = record { small = k.sized; goes = goes; is = λ d h. subst (λ z. KidIs o (end_or d z) r) e k }

  pub end_kept : (o : List Node) → None ≡ first_cut x → 1 ≤ length o →
      EndRight n x y (node_at (set o 0 n)) (record { constant = None; size = 1 })
  unfolding Laid nodes
  end_kept o e room = record {
    small = refl;
    goes = goes;
    is = λ d h.
        subst (λ z. KidIs (node_at (set o 0 n)) (end_or d z) (record { constant = None; size = 1 })) e
        (record { laid = tell (sym (put_here o 0 n room)) d h; sized = refl; sorted = refl });
  }

-- ---- a connective

unit_is : (b : Bool) → unit (join_of b) ≡ b
unit_is true = refl
unit_is false = refl

-- one of the children decides
pub shut_decided : (every : Bool) (kept : Option Kids) (n o : ℕ → Node) (r : Kid) → kept ≡ None → KidIs o (plain (not every)) r →
    ShutRight every kept n o r
unfolding nodes
shut_decided every kept n o r e k =
    rw e (record { small = omega (arith, k.sized); is = by })
  where
    by : (l : Left) → Leaves l n 1 None → KidIs o (close (join_of every) l) r
    by decided h = rw (unit_is every) k
    by (these us) h = absurd h

module _ (every : Bool) (kept : Option Kids) (left : Kids) (is : kept ≡ Some left) where
  pub shut_none : (n o : ℕ → Node) (r : Kid) → left.count ≡ 0 → KidIs o (plain every) r → ShutRight every kept n o r
  unfolding nodes
  shut_none n o r z k = rw is (record { small = omega (arith, k.sized); is = by })
    where
      by : (l : Left) → Leaves l n 1 (Some left) → KidIs o (close (join_of every) l) r
      by decided h = absurd h
      by (these none) h = rw (unit_is every) k
      by (these (more t us)) h = absurd (omega (arith, h.counted))

  pub shut_one : (o : List Node) → left.count ≡ 1 → left.size < length o →
      ShutRight every kept (node_at o) (node_at (copy_within o 1 (left.size + 1) 0)) (record { constant = None; size = left.size })
  unfolding Laid nodes
  shut_one o z room = rw is (record { small = omega arith; is = by })
    where
      moved : (x : ℕ) → x < left.size → node_at (copy_within o 1 (left.size + 1) 0) x ≡ node_at o (1 + x)
      moved x lt = search (rules, places)

      by : (l : Left) → Leaves l (node_at o) 1 (Some left) →
          KidIs (node_at (copy_within o 1 (left.size + 1) 0)) (close (join_of every) l) (record { constant = None; size = left.size })
      by decided h = absurd h
      by (these none) h = absurd (omega (arith, h.counted))
      by (these (more t none)) h =
          let size = h.sized in
          record {
            laid = move t (node_at o) (node_at (copy_within o 1 (left.size + 1) 0)) 1 0
                (λ k lt. ap (node_at (copy_within o 1 (left.size + 1) 0)) (omega arith) ∙ moved k (omega arith)) h.laid.0;
            sized = omega arith;
            sorted = sym h.headed;
          }
      by (these (more t (more u us))) h = absurd (omega (arith, h.counted))

  pub shut_more : (o : List Node) → (left.count ≡ 0 → ⊥) → (left.count ≡ 1 → ⊥) → 1 ≤ length o →
      ShutRight every kept (node_at o) (node_at (set o 0 (node.Join every left.count left.size)))
      (record { constant = None; size = left.size + 1 })
  unfolding Laid nodes
  shut_more o z z1 room = rw is (record { small = omega arith; is = by })
    where
      head : Node
      head = node.Join every left.count left.size

      by : (l : Left) → Leaves l (node_at o) 1 (Some left) →
          KidIs (node_at (set o 0 (node.Join every left.count left.size))) (close (join_of every) l)
          (record { constant = None; size = left.size + 1 })
      by decided h = absurd h
      by (these none) h = absurd (z h.counted)
      by (these (more t none)) h = absurd (z1 h.counted)
      by (these (more t (more u us))) h =
          let size = h.sized in
          let many = h.counted in
          let is_all = is_all_join_of every in
          let here : node_at (set o 0 (node.Join every left.count left.size)) 0 ≡ node.Join every left.count left.size =
          put_here o 0 (node.Join every left.count left.size) room in
          record {
            laid = (
              cc,
              move_all (more t (more u us)) (node_at o) (node_at (set o 0 (node.Join every left.count left.size))) 1 (0 + 1)
                  (λ k lt. ap (node_at (set o 0 (node.Join every left.count left.size))) (omega arith) ∙
                  put_other o 0 (1 + k) (node.Join every left.count left.size) (λ e. omega arith)) h.laid,
            );
            sized = omega arith;
            sorted = refl;
          }
