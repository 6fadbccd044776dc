-- Where a reading stops. Every step keeps the bytes left and their place together, so that both end where the input ends, and answer 1,
-- "bytes end inside the tree", is given only with no byte left. Each law follows its definition's own cases.
use Prim.Native.Nat.{ℕ, zero, suc, ◌+◌, ◌*◌}
use mathlib.Core.Path.{◌≡◌}
use mathlib.Core.List.{List, [], ◌∷◌}
use mathlib.Core.Bool.{Bool, true, false, cond, ◌&&◌}
use native.Mathlib.Omega.{arith}
use lib.Dec.{ltb, leb, eqb}
use lib.ListN.{length}
use Rattle.condition.specs.Answers as answers
use Rattle.condition.specs.Answers.{OfReading, of_ended, of_form, of_tag, of_count, of_name, of_bound, of_crowd}
use Rattle.condition.specs.Limits.{most_ends, last_boolean, last_number, largest_bound, last_tag, groups, group_size}
use Rattle.condition.specs.Meaning.{Tree, Forest, ends}
use Rattle.condition.specs.Reading.{Reading, got, refused, then, number_from, checked, up_to, read_bound, read_name, read_tag, read_count, read_end}
use Rattle.condition.specs.Reading.{read_join, read_node, read_all, read_tree}

-- a refusal of bytes that end at `end`, not for bytes after the tree
abbrev pub Refused : ℕ → ℕ → ℕ → Type 0
Refused n place end = OfReading n × (n ≡ answers.after → ⊥) × (n ≡ answers.ended → place ≡ end)

-- a reading of such bytes
abbrev pub Ended : {A : Type 0} → Reading A → ℕ → Type 0
Ended (got x l at) end = at + length l ≡ end
Ended (refused n place) end = Refused n place end

-- a refusal for what stands at a place, and not for want of bytes
abbrev Stands : ℕ → Type 0
Stands n = OfReading n × (n ≡ answers.after → ⊥) × (n ≡ answers.ended → ⊥)

module _ (end : ℕ) where
  abbrev pub Ends : {A : Type 0} → (List ℕ → ℕ → Reading A) → Type 0
  Ends r = (l : List ℕ) (at : ℕ) → at + length l ≡ end → Ended (r l at) end

  ended_then : {A B : Type 0} (r : Reading A) (next : A → List ℕ → ℕ → Reading B) →
      Ended r end → ((x : A) → Ends (next x)) → Ended (then r next) end
  ended_then (got x l at) next h f = f x l at h
  ended_then (refused n place) next h f = h

  ended_cond : {A : Type 0} (b : Bool) (r s : Reading A) → Ended r end → Ended s end → Ended (cond b r s) end
  ended_cond true r s h k = h
  ended_cond false r s h k = k

  stands : (n place : ℕ) → Stands n → Refused n place end
  stands n place h = (h.0, h.1, λ e. absurd (h.2 e))

  number_ends : (g first : ℕ) → Ends (number_from g first)
  unfolding number_from
  number_ends zero first l at h = stands answers.form first (of_form, omega arith, omega arith)
  number_ends (suc g) first [] at h = (of_ended, omega arith, λ e. omega arith)
  number_ends (suc g) first (b ∷ l) at h =
      ended_cond (ltb b group_size) _ _
      (ended_cond (eqb b 0 && ltb first at) (refused answers.form first) (got b l (at + 1))
      (stands answers.form first (of_form, omega arith, omega arith)) (omega arith))
      (ended_then (number_from g first l (at + 1)) _ (number_ends g first l (at + 1) (omega arith)) (λ n l' at' h'. h'))

  checked_ends : (test : ℕ → Bool) (answer : ℕ) → Stands answer → Ends (checked test answer)
  checked_ends test answer why l at h =
      ended_then (number_from groups at l at) _ (number_ends groups at l at h)
      (λ n l' at' h'. ended_cond (test n) (got n l' at') (refused answer at) h' (stands answer at why))

  up_to_ends : (most answer : ℕ) → Stands answer → Ends (up_to most answer)
  unfolding up_to
  up_to_ends most answer why l at h = checked_ends (λ n. leb n most) answer why l at h

  count_ends : Ends read_count
  unfolding read_count
  count_ends l at h = checked_ends (λ k. leb 2 k) answers.count (of_count, omega arith, omega arith) l at h

  name_ends : (last : ℕ) → Ends (read_name last)
  name_ends last l at h = up_to_ends last answers.name (of_name, omega arith, omega arith) l at h

  bound_ends : Ends read_bound
  bound_ends l at h = up_to_ends (2 * largest_bound) answers.bound (of_bound, omega arith, omega arith) l at h

  end_ends : (g : ℕ) → Ends (read_end g)
  unfolding read_end
  end_ends g l at h =
      ended_cond (ltb g 6) _ _
      (ended_then (read_name last_boolean l at) _ (name_ends last_boolean l at h) (λ p l1 at1 h1. h1))
      (ended_then (read_name last_number l at) _ (name_ends last_number l at h) (λ x l1 at1 h1.
      ended_then (read_name last_number l1 at1) _ (name_ends last_number l1 at1 h1) (λ y l2 at2 h2.
      ended_then (read_bound l2 at2) _ (bound_ends l2 at2 h2) (λ w l3 at3 h3. h3))))

  module _ (kids : ℕ → List ℕ → ℕ → Reading Forest) (kids-end : (k : ℕ) → Ends (kids k)) (others : ℕ) where
    join_ends : (g place : ℕ) → Ends (read_join kids g place others)
    unfolding read_join
    join_ends g place l at h =
        ended_then (read_count l at) _ (count_ends l at h) (λ k l1 at1 h1.
        ended_cond (ltb most_ends (others + k)) _ _ (stands answers.crowd _ (of_crowd, omega arith, omega arith))
        (ended_then (kids k l1 at1) _ (kids-end k l1 at1 h1) (λ ts l2 at2 h2. h2)))

    node_ends : Ends (λ l at. read_node kids l at others)
    unfolding read_node
    node_ends l at h =
        ended_then (read_tag l at) _ (up_to_ends last_tag answers.tag (of_tag, omega arith, omega arith) l at h) (λ g l1 at1 h1.
        ended_cond (ltb g 2) _ _ h1
        (ended_cond (ltb g 4) _ _ (join_ends g at l1 at1 h1)
        (ended_then (read_end g l1 at1) _ (end_ends g l1 at1 h1) (λ e l2 at2 h2. h2))))

  all_ends : (node : List ℕ → ℕ → ℕ → Reading Tree) → ((others : ℕ) → Ends (λ l at. node l at others)) →
      (k others : ℕ) → Ends (λ l at. read_all node k l at others)
  unfolding read_all
  all_ends node one-ends zero others l at h = h
  all_ends node one-ends (suc k) others l at h =
      ended_then (node l at (others + k)) _ (one-ends (others + k) l at h) (λ t l1 at1 h1.
      ended_then (read_all node k l1 at1 (others + ends t)) _ (all_ends node one-ends k (others + ends t) l1 at1 h1) (λ ts l2 at2 h2. h2))

  pub tree_ends : (d others : ℕ) → Ends (λ l at. read_tree d l at others)
  unfolding read_tree
  tree_ends zero others l at h = node_ends _ (λ k l1 at1 h1. stands answers.crowd at (of_crowd, omega arith, omega arith)) others l at h
  tree_ends (suc d) others l at h = node_ends _ (λ k. all_ends (read_tree d) (tree_ends d) k others) others l at h
