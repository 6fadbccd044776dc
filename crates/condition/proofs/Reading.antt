-- Reading and writing, in the words of document 01: from Round (what is written is read), Sound (what reads was written) and Moves (where
-- a reading stops). That no tree is longer than the longest is by recursion over the tree.
use Prim.Native.Nat.{ℕ, zero, suc, ◌+◌, ◌*◌, ◌/◌, ◌≤◌, ◌<◌}
use mathlib.Core.Path.{◌≡◌, refl, sym, ap, subst, ◌∙◌}
use mathlib.Core.List.{List, [], ◌∷◌, ◌++◌, append-nil}
use native.Mathlib.Omega.{arith}
use lib.Dec.{ltb}
use lib.ListN.{length, get_or, length-append}
use borrow.Table.Steps.{cases}
use borrow.Author.Tests.{ltb-true, lt-ltb}
use Rattle.condition.specs.Limits.{most_ends, deepest, last_number, last_tag, groups, group_size, longest_tree}
use Rattle.condition.specs.Answers as answers
use Rattle.condition.specs.Answers.{OfReading, of_after}
use Rattle.condition.specs.Meaning.{End, is, is_not, at_most, above, Join, all, any, Tree, plain, leaf, join, Forest, none, more}
use Rattle.condition.specs.Meaning.{ends, ends_all, count, EndWithin, Formed, FormedAll, Within}
use Rattle.condition.specs.Bytes.{Octets, groups_of, number, written, end_bytes, join_tag, plain_tag, bytes, bytes_all}
use Rattle.condition.specs.Reading.{Reading, got, refused, read_tree, tree, refusal, whole, read}
use Rattle.condition.specs.Places.{Follows}
use Rattle.condition.proofs.Depth.{tall, tall_within}
use Rattle.condition.proofs.Steps.{Yields}
use Rattle.condition.proofs.Round.{ends_each, tree_read}
use Rattle.condition.proofs.Sound.{TreeWritten, tree_written}
use Rattle.condition.proofs.Moves.{Ended, tree_ends}

whole_written : (r : Reading Tree) (s : List ℕ) (t : Tree) → Yields r (TreeWritten 0 s 0) → whole r ≡ tree t → (s ≡ bytes t) × Within t
whole_written (got u [] at) s t w e =
    let same : u ≡ t = cc in
    rw (← same) (w.took.from ∙ append-nil (bytes u), record { formed = w.good.0; few = omega arith })
whole_written (got u (b ∷ l) at) s t w e = let z : ◌≡◌ {A = ℕ} 0 1 = cc in absurd (omega arith)
whole_written (refused n p) s t w e = let z : ◌≡◌ {A = ℕ} 0 1 = cc in absurd (omega arith)

-- what reads as a tree are that tree's bytes, and the tree is within the limits
pub read_written : (s : List ℕ) (t : Tree) → Octets s → read s ≡ tree t → (s ≡ bytes t) × Within t
unfolding read
read_written s t o e = whole_written (read_tree most_ends s 0 0) s t (tree_written most_ends s 0 0 (omega arith) o) e

-- no two byte strings read as one tree
pub one_string : (s s' : List ℕ) (t : Tree) → Octets s → Octets s' → read s ≡ tree t → read s' ≡ tree t → s ≡ s'
one_string s s' t o o' e e' = (read_written s t o e).0 ∙ sym (read_written s' t o' e').0

-- a tree within the limits is read from its bytes
pub written_read : (t : Tree) → Within t → read (bytes t) ≡ tree t
unfolding read
written_read t w = ap whole (rw append-nil at (tree_read t most_ends 0 w.formed (omega arith) (omega arith) [] 0))

-- no tree's bytes begin with another's
pub one_start : (t u : Tree) (l l' : List ℕ) → Within t → Within u → bytes t ++ l ≡ bytes u ++ l' → t ≡ u
one_start t u l l' wt wu e =
    let h = tree_read t most_ends 0 wt.formed (omega (arith, wt.few)) (omega arith) l 0 in
    let k = tree_read u most_ends 0 wu.formed (omega (arith, wu.few)) (omega arith) l' 0 in
    let same = sym h ∙ ap (λ s. read_tree most_ends s 0 0) e ∙ k in
    ap (λ (r : Reading Tree). got_of r) same
  where
    got_of : Reading Tree → Tree
    got_of (got x rest at) = x
    got_of (refused n p) = t

-- a list whose every element is a byte
pub octets : (s : List ℕ) → ((i : ℕ) → get_or s i 0 < 256) → Octets s
unfolding Octets
octets [] h = tt
octets (b ∷ s) h = (h 0, octets s (λ i. h (suc i)))

octets_none : Octets []
unfolding Octets
octets_none = tt

octets_both : (s s' : List ℕ) → Octets s → Octets s' → Octets (s ++ s')
unfolding Octets
octets_both [] s' o o' = o'
octets_both (b ∷ s) s' o o' = (o.0, octets_both s s' o.1 o')

number_octets : (g n : ℕ) → Octets (groups_of g n)
unfolding Octets groups_of
number_octets zero n = tt
number_octets (suc g) n =
    cases (ltb n group_size)
    (λ e. rw e (omega (arith, ltb-true n group_size e), tt))
    (λ e. rw e (omega arith, number_octets g (n / group_size)))

end_octets : (e : End) → Octets (end_bytes e)
unfolding end_bytes
end_octets (is p) = search (octets_both, number_octets)
end_octets (is_not p) = search (octets_both, number_octets)
end_octets (at_most x y c) = search (octets_both, number_octets)
end_octets (above x y c) = search (octets_both, number_octets)

-- a tree's bytes are bytes
mutual
  unfolding bytes bytes_all

  pub bytes_octets : (t : Tree) → Octets (bytes t)
  bytes_octets (plain b) = number_octets groups (plain_tag b)
  bytes_octets (leaf e) = end_octets e
  bytes_octets (join j ts) = search (octets_both, number_octets, all_octets ts)

  all_octets : (ts : Forest) → Octets (bytes_all ts)
  all_octets none = octets_none
  all_octets (more t ts) = octets_both (bytes t) (bytes_all ts) (bytes_octets t) (all_octets ts)

-- what is known of a refusal of bytes of which there are `end`
record Known (end n p : ℕ) : Type 0 where
  why : OfReading n
  short : n ≡ answers.ended → p ≡ end

whole_known : (r : Reading Tree) (end n p : ℕ) → Ended r end → whole r ≡ refusal n p → Known end n p
whole_known (got t [] at) end n p h e = let z : ◌≡◌ {A = ℕ} 0 1 = cc in absurd (omega arith)
whole_known (got t (b ∷ l) at) end n p h e =
    let answer : n ≡ answers.after = cc in
    record { why = subst OfReading (sym answer) of_after; short = λ z. absurd (omega arith) }
whole_known (refused m q) end n p h e =
    let answer : n ≡ m = cc in
    let place : p ≡ q = cc in
    record { why = subst OfReading (sym answer) h.0; short = λ z. place ∙ h.2 (omega arith) }

known : (s : List ℕ) (n p : ℕ) → read s ≡ refusal n p → Known (length s) n p
unfolding read
known s n p e = whole_known (read_tree most_ends s 0 0) (length s) n p (tree_ends (length s) most_ends 0 s 0 (omega arith)) e

-- what reading refuses with
pub refusals : (s : List ℕ) (n p : ℕ) → read s ≡ refusal n p → OfReading n
refusals s n p e = (known s n p e).why

-- answer 1: the place is the input length
pub ended_at_end : (s : List ℕ) (p : ℕ) → read s ≡ refusal answers.ended p → p ≡ length s
ended_at_end s p e = (known s answers.ended p e).short refl

-- answer 8: bytes that follow a tree are refused, at the first of them
pub after_tree : (t : Tree) (b : ℕ) (l : List ℕ) → Within t → read (bytes t ++ b ∷ l) ≡ refusal answers.after (length (bytes t))
unfolding read
after_tree t b l w =
    ap whole (tree_read t most_ends 0 w.formed (omega (arith, w.few)) (omega arith) (b ∷ l) 0) ∙ ap (refusal answers.after) (omega arith)

whole_follows : (r : Reading Tree) (s : List ℕ) (p : ℕ) → Yields r (TreeWritten 0 s 0) → Ended r (length s) → whole r ≡ refusal answers.after p →
    Follows s p
whole_follows (got t [] at) s p w h e = let z : ◌≡◌ {A = ℕ} 0 1 = cc in absurd (omega arith)
whole_follows (got t (b ∷ l) at) s p w h e =
    let place : p ≡ at = cc in
    record {
      before = t;
      first = b;
      later = l;
      within = record { formed = w.good.0; few = omega (arith, w.good.1) };
      made = w.took.from;
      after = omega (arith, w.took.to);
    }
whole_follows (refused n q) s p w h e = let answer : n ≡ answers.after = cc in absurd (h.1 answer)

-- and refused with 8 are no others
pub after_place : (s : List ℕ) (p : ℕ) → Octets s → read s ≡ refusal answers.after p → Follows s p
unfolding read
after_place s p o e =
    whole_follows (read_tree most_ends s 0 0) s p (tree_written most_ends s 0 0 (omega arith) o)
    (tree_ends (length s) most_ends 0 s 0 (omega arith)) e

pub number_length : (g n : ℕ) → length (groups_of g n) ≤ g
unfolding groups_of
number_length zero n = omega arith
number_length (suc g) n = cases (ltb n group_size) (λ e. rw e (omega arith)) (λ e. rw e (omega (arith, number_length g (n / group_size))))

short_length : (n : ℕ) → n < group_size → length (number n) ≡ 1
unfolding groups_of
short_length n h = rw (lt-ltb n group_size h)

difference_length : (g x y w : ℕ) → (g ≤ last_tag) × (x ≤ last_number) × (y ≤ last_number) →
    length (number g ++ (number x ++ (number y ++ number w))) ≤ 3 + groups
difference_length g x y w h =
    simp (length-append, short_length g (omega arith), short_length x (omega arith), short_length y (omega arith))
    (omega (arith, number_length groups w))

end_length : (e : End) → EndWithin e → length (end_bytes e) ≤ 3 + groups
unfolding end_bytes
end_length (is p) within = simp length-append (omega (arith, number_length groups 4, number_length groups p))
end_length (is_not p) within = simp length-append (omega (arith, number_length groups 5, number_length groups p))
end_length (at_most x y c) within = difference_length 6 x y (written c) (omega arith)
end_length (above x y c) within = difference_length 7 x y (written c) (omega arith)

tag_length : (j : Join) → length (number (join_tag j)) ≡ 1
tag_length all = short_length 2 (omega arith)
tag_length any = short_length 3 (omega arith)

-- an end has at most a tag, two names and a bound; a connective adds a tag and a count, and has two children or more
mutual
  unfolding bytes bytes_all Formed FormedAll ends ends_all

  tree_length : (t : Tree) → Formed t → ends t ≤ most_ends → length (bytes t) + 2 ≤ (5 + groups) * ends t
  tree_length (plain b) formed few = omega (arith, number_length groups (plain_tag b))
  tree_length (leaf e) formed few = omega (arith, end_length e formed)
  tree_length (join j ts) formed few =
      let owed = ends_each ts formed.1 in
      simp (length-append, tag_length, short_length (count ts) (omega arith)) (omega (arith, all_length ts formed.1 few))

  all_length : (ts : Forest) → FormedAll ts → ends_all ts ≤ most_ends → length (bytes_all ts) + 2 * count ts ≤ (5 + groups) * ends_all ts
  all_length none formed few = omega arith
  all_length (more t ts) formed few =
      simp length-append (omega (arith, tree_length t formed.0 (omega arith), all_length ts formed.1 (omega arith)))

-- "The longest tree has 190 bytes."
pub longest_is : longest_tree ≡ 190
longest_is = refl

pub longest : (t : Tree) → Within t → length (bytes t) ≤ longest_tree
longest t w = omega (arith, tree_length t w.formed w.few)

-- one that has them: all ends differences with the largest bound, each connective of two
pub longest_met : (t : Tree) × Within t × (length (bytes t) ≡ longest_tree)
unfolding tall ends bytes end_bytes groups_of
longest_met = (tall deepest, tall_within, refl)
