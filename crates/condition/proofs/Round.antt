-- What is written is read. A number comes back by recursion over its groups, a tree by recursion over it: each step takes what stands
-- first in the bytes and leaves what follows. The depth that `read_tree` is given lasts: a connective has a child or more beside the one
-- that is read, which is owed or was an end or more, so that with each connective on the way down `others` grows.
use Prim.Native.Nat.{ℕ, zero, suc, ◌+◌, ◌*◌, ◌/◌, ◌%◌, ◌^◌, ◌≤◌, ◌<◌}
use mathlib.Core.Path.{◌≡◌, refl, ap, ap₂}
use mathlib.Core.List.{List, ◌++◌, append_assoc}
use mathlib.Core.Bool.{Bool, true, false, ◌&&◌, and-false}
use native.Mathlib.Nat.{pow-succ'}
use native.Mathlib.Omega.{arith}
use lib.Dec.{ltb, leb, eqb}
use lib.IntN.{ℤ, pos, negsuc, nat_abs}
use lib.ListN.{length, length-append}
use borrow.Table.Steps.{cases}
use borrow.Author.Tests.{ltb-true, ltb-false, lt-ltb, le-ltb, le-leb, eq-eqb, ne_eqb}
use Rattle.condition.specs.Answers as answers
use Rattle.condition.specs.Limits.{most_ends, last_boolean, last_number, largest_bound, last_tag, groups, group_size}
use Rattle.condition.specs.Meaning.{End, is, is_not, at_most, above, Join, all, any, Tree, plain, leaf, join, Forest, none, more}
use Rattle.condition.specs.Meaning.{ends, ends_all, count, EndWithin, Formed, FormedAll}
use Rattle.condition.specs.Bytes.{groups_of, number, written, end_bytes, plain_tag, bytes, bytes_all}
use Rattle.condition.specs.Reading.{Reading, got, number_from, checked, up_to, read_count, bound_of, flag_end, bound_end, read_end}
use Rattle.condition.specs.Reading.{join_of, read_join, read_node, read_all, read_tree}

-- from the bytes s, whatever follows them, r reads x and goes on after them
abbrev pub Back : {A : Type 0} → (List ℕ → ℕ → Reading A) → List ℕ → A → Type 0
Back r s x = (l : List ℕ) (at : ℕ) → r (s ++ l) at ≡ got x l (at + length s)

same_got : {A : Type 0} {x y : A} {l : List ℕ} {m n : ℕ} → x ≡ y → m ≡ n → got x l m ≡ got y l n
same_got {l = l} p q = ap₂ (λ x at. got x l at) p q

-- Numbers
not_refused : (n first at : ℕ) → (first < at → 1 ≤ n) → (eqb n 0 && ltb first at) ≡ false
not_refused n first at h =
    cases (ltb first at)
    (λ e. rw (ne_eqb n 0 (omega (arith, h (ltb-true first at e)))))
    (λ e. rw (e, and-false))

another_group : (g n : ℕ) → group_size ≤ n → n < group_size ^ suc g → 1 ≤ g
another_group zero n h fits = absurd (omega arith)
another_group (suc g) n h fits = omega arith

-- the byte 00 ends a number only where it stands alone
pub number_read : (g first n : ℕ) (l : List ℕ) (at : ℕ) → 1 ≤ g → n < group_size ^ g → (first < at → 1 ≤ n) →
    number_from g first (groups_of g n ++ l) at ≡ got n l (at + length (groups_of g n))
unfolding number_from groups_of
number_read zero first n l at some fits shortest = absurd (omega arith)
number_read (suc g) first n l at some fits shortest =
    cases (ltb n group_size)
    (λ e. simp (e, not_refused n first at shortest))
    (λ e.
    let long = ltb-false n group_size e in
    let fits' : n < group_size * group_size ^ g = rw pow-succ' at fits in
    let rest = number_read g first (n / group_size) l (at + 1) (another_group g n long fits) (omega arith) (omega arith) in
    rw (e, le-ltb (group_size + n % group_size) group_size (omega arith), rest) (same_got (omega arith) (omega arith)))

-- a number that is tested once it is read
checked_read : (test : ℕ → Bool) (answer n : ℕ) → n < group_size ^ groups → test n ≡ true → Back (checked test answer) (number n) n
checked_read test answer n fits passed l at = rw (number_read groups at n l at (omega arith) fits (omega arith), passed)

pub up_to_read : (most answer n : ℕ) → (n ≤ most) × (most < group_size ^ groups) → Back (up_to most answer) (number n) n
unfolding up_to
up_to_read most answer n h = checked_read (λ n. leb n most) answer n (omega arith) (le-leb n most h.0)

pub count_read : (k : ℕ) → (2 ≤ k) × (k < group_size ^ groups) → Back read_count (number k) k
unfolding read_count
count_read k h = checked_read (λ k. leb 2 k) 4 k h.1 (le-leb 2 k h.0)

-- Ends
pub bound_back : (c : ℤ) → bound_of (written c) ≡ c
bound_back (pos n) = rw (eq-eqb (2 * n % 2) 0 (omega arith)) (ap pos (omega arith))
bound_back (negsuc n) = rw (ne_eqb ((2 * n + 1) % 2) 0 (omega arith)) (ap negsuc (omega arith))

pub bound_written : (c : ℤ) → nat_abs c ≤ largest_bound → written c ≤ 2 * largest_bound
bound_written (pos n) h = omega arith
bound_written (negsuc n) h = omega arith

flag_read : (g p : ℕ) → g < 6 → p ≤ last_boolean → Back (read_end g) (number p) (flag_end g p)
unfolding read_end
flag_read g p h within l at = rw (lt-ltb g 6 h, up_to_read last_boolean answers.name p (omega arith))

difference_read : (g x y : ℕ) (c : ℤ) → 6 ≤ g → (x ≤ last_number) × (y ≤ last_number) × (nat_abs c ≤ largest_bound) →
    Back (read_end g) (number x ++ (number y ++ number (written c))) (bound_end g x y c)
unfolding read_end
difference_read g x y c h within l at =
    let small = bound_written c within.2 in
    rw (
      le-ltb g 6 h,
      append_assoc,
      append_assoc,
      up_to_read last_number answers.name x (omega arith),
      up_to_read last_number answers.name y (omega arith),
      up_to_read (2 * largest_bound) answers.bound (written c) (omega arith),
      bound_back,
    )
    (same_got refl (simp length-append (omega arith)))

-- Nodes, by their tags
module _ (kids : ℕ → List ℕ → ℕ → Reading Forest) (others : ℕ) where
  abbrev node : List ℕ → ℕ → Reading Tree
  node l at = read_node kids l at others

  plain_read : (b : Bool) → Back node (number (plain_tag b)) (plain b)
  unfolding read_node
  plain_read true l at = rw (up_to_read last_tag answers.tag 1 (omega arith))
  plain_read false l at = rw (up_to_read last_tag answers.tag 0 (omega arith))

  tagged_read : (g : ℕ) (s : List ℕ) (e : End) → (4 ≤ g) × (g ≤ last_tag) → Back (read_end g) s e → Back node (number g ++ s) (leaf e)
  unfolding read_node
  tagged_read g s e h back l at =
      rw (append_assoc, up_to_read last_tag answers.tag g (omega arith), le-ltb g 2 (omega arith), le-ltb g 4 h.0, back)
      (same_got refl (simp length-append (omega arith)))

  pub end_read : (e : End) → EndWithin e → Back node (end_bytes e) (leaf e)
  unfolding end_bytes
  end_read (is p) within = tagged_read 4 _ (is p) (omega arith) (flag_read 4 p (omega arith) within)
  end_read (is_not p) within = tagged_read 5 _ (is_not p) (omega arith) (flag_read 5 p (omega arith) within)
  end_read (at_most x y c) within = tagged_read 6 _ (at_most x y c) (omega arith) (difference_read 6 x y c (omega arith) within)
  end_read (above x y c) within = tagged_read 7 _ (above x y c) (omega arith) (difference_read 7 x y c (omega arith) within)

  module _ (ts : Forest) (few : (2 ≤ count ts) × (others + count ts ≤ most_ends)) (back : Back (kids (count ts)) (bytes_all ts) ts) where
    connective_read : (g : ℕ) → (2 ≤ g) × (g < 4) → Back node (number g ++ (number (count ts) ++ bytes_all ts)) (join (join_of g) ts)
    unfolding read_node read_join
    connective_read g h l at =
        rw (
          append_assoc,
          append_assoc,
          up_to_read last_tag answers.tag g (omega arith),
          le-ltb g 2 h.0,
          lt-ltb g 4 h.1,
          count_read (count ts) (omega arith),
          le-ltb most_ends (others + count ts) few.1,
          back,
        )
        (same_got refl (simp length-append (omega arith)))

    join_read : (j : Join) → Back node (bytes (join j ts)) (join j ts)
    unfolding bytes
    join_read all = connective_read 2 (omega arith)
    join_read any = connective_read 3 (omega arith)

-- Trees
mutual
  unfolding Formed FormedAll ends ends_all

  pub ends_some : (t : Tree) → Formed t → 1 ≤ ends t
  ends_some (plain b) formed = omega arith
  ends_some (leaf e) formed = omega arith
  ends_some (join j ts) formed = omega (arith, ends_each ts formed.1)

  pub ends_each : (ts : Forest) → FormedAll ts → count ts ≤ ends_all ts
  ends_each none formed = omega arith
  ends_each (more t ts) formed = omega (arith, ends_some t formed.0, ends_each ts formed.1)

mutual
  unfolding Formed FormedAll ends ends_all bytes bytes_all read_tree read_all

  pub tree_read : (t : Tree) (d others : ℕ) → Formed t → others + ends t ≤ most_ends → most_ends ≤ d + others + 1 →
      Back (λ l at. read_tree d l at others) (bytes t) t
  tree_read (plain b) zero others formed few deep l at = plain_read _ others b l at
  tree_read (plain b) (suc d) others formed few deep l at = plain_read _ others b l at
  tree_read (leaf e) zero others formed few deep l at = end_read _ others e formed l at
  tree_read (leaf e) (suc d) others formed few deep l at = end_read _ others e formed l at
  tree_read (join j ts) zero others formed few deep l at = absurd (omega (arith, ends_each ts formed.1))
  tree_read (join j ts) (suc d) others formed few deep l at =
      let owed = ends_each ts formed.1 in
      join_read _ others ts (omega arith) (λ l at. all_read ts d others formed.1 few (omega arith) l at) j l at

  pub all_read : (ts : Forest) (d others : ℕ) → FormedAll ts → others + ends_all ts ≤ most_ends → most_ends ≤ d + others + count ts →
      Back (λ l at. read_all (read_tree d) (count ts) l at others) (bytes_all ts) ts
  all_read none d others formed few deep l at = same_got refl (omega arith)
  all_read (more t ts) d others formed few deep l at =
      let some = ends_some t formed.0 in
      let owed = ends_each ts formed.1 in
      rw (
        append_assoc,
        tree_read t d (others + count ts) formed.0 (omega arith) (omega arith) (bytes_all ts ++ l) at,
        all_read ts d (others + ends t) formed.1 (omega arith) (omega arith) l (at + length (bytes t)),
      )
      (same_got refl (simp length-append (omega arith)))
