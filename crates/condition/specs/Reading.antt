-- What reading answers: document 01, "What each call answers", rows 1 to 8.
use Rattle.std.specs.Prelude.{ℕ, zero, suc, ◌+◌, ◌-◌, ◌*◌, ◌/◌, ◌%◌, List, [], ◌∷◌, Bool, cond, ◌&&◌, ltb, leb, eqb, ℤ, pos, negsuc}
use Rattle.condition.specs.Answers as answers
use Rattle.condition.specs.Limits.{most_ends, last_boolean, last_number, largest_bound, last_tag, groups, group_size}
use Rattle.condition.specs.Meaning.{End, is, is_not, at_most, above, Join, all, any, Tree, plain, leaf, join, Forest, none, more, ends}

-- "the reading position goes in and comes back with each number": what was read, the bytes after it and the place of the first
-- of them; or an answer and its place: "a reading step that yields no value ends the reading"
pub data Reading (A : Type 0) : Type 0 where
  got : A → List ℕ → ℕ → Reading A
  refused : (answer place : ℕ) → Reading A

abbrev pub then : {A B : Type 0} → Reading A → (A → List ℕ → ℕ → Reading B) → Reading B
then (got x l at) next = next x l at
then (refused n place) next = refused n place

-- A number that began at `first` and of which g groups may still come. 1: "bytes end inside the tree"; 2: "a number's third byte
-- has the top bit, or the form isn't shortest" ("the last byte of a longer number isn't 00"), at "its first byte"
unfoldable pub number_from : ℕ → (first : ℕ) → List ℕ → ℕ → Reading ℕ
number_from zero first l at = refused answers.form first
number_from (suc g) first [] at = refused answers.ended at
number_from (suc g) first (b ∷ l) at =
    cond (ltb b group_size) (cond (eqb b 0 && ltb first at) (refused answers.form first) (got b l (at + 1)))
    (then (number_from g first l (at + 1)) (λ n l' at'. got (b - group_size + group_size * n) l' at'))

-- "each number being checked for 1 and 2 before its range": one that fails the test gives `answer`, at "its first byte"
abbrev pub checked : (test : ℕ → Bool) → (answer : ℕ) → List ℕ → ℕ → Reading ℕ
checked test answer l at =
    then (number_from groups at l at) (λ n l' at'. cond (test n) (got n l' at') (refused answer at))

unfoldable pub up_to : (most answer : ℕ) → List ℕ → ℕ → Reading ℕ
up_to most = checked (λ n. leb n most)

-- 3: "tag above 7"
abbrev pub read_tag : List ℕ → ℕ → Reading ℕ
read_tag = up_to last_tag answers.tag

-- 4: "child count 0 or 1"
unfoldable pub read_count : List ℕ → ℕ → Reading ℕ
read_count = checked (λ k. leb 2 k) answers.count

-- 5: "name too high"
abbrev pub read_name : ℕ → List ℕ → ℕ → Reading ℕ
read_name last = up_to last answers.name

-- 6: "written c above 2,000,000"
abbrev pub read_bound : List ℕ → ℕ → Reading ℕ
read_bound = up_to (2 * largest_bound) answers.bound

-- "c is written as 2c when c >= 0 and as -2c - 1 when c < 0"
abbrev pub bound_of : ℕ → ℤ
bound_of w = cond (eqb (w % 2) 0) (pos (w / 2)) (negsuc (w / 2))

-- An end by its tag: 4 and 5 "p, not p", then 6 and 7 "x - y <= c, its negation"
abbrev pub flag_end : ℕ → ℕ → End
flag_end g p = cond (eqb g 4) (is p) (is_not p)

abbrev pub bound_end : ℕ → ℕ → ℕ → ℤ → End
bound_end g x y c = cond (eqb g 6) (at_most x y c) (above x y c)

unfoldable pub read_end : ℕ → List ℕ → ℕ → Reading End
read_end g l at =
    cond (ltb g 6)
    (then (read_name last_boolean l at) (λ p l1 at1. got (flag_end g p) l1 at1))
    (then (read_name last_number l at) (λ x l1 at1.
    then (read_name last_number l1 at1) (λ y l2 at2.
    then (read_bound l2 at2) (λ w l3 at3. got (bound_end g x y (bound_of w)) l3 at3))))

-- A connective by its tag, at `place`: 2 and 3 "and, or". `others` are the ends read before it and those owed beside it, so with k
-- children the "ends read plus ends still owed" are others + k. 7: they "exceed 24", at "the connective's tag"; "4 before 7"
abbrev pub join_of : ℕ → Join
join_of g = cond (eqb g 2) all any

unfoldable pub read_join : (kids : ℕ → List ℕ → ℕ → Reading Forest) → (g place others : ℕ) → List ℕ → ℕ → Reading Tree
read_join kids g place others l at =
    then (read_count l at) (λ k l1 at1.
    cond (ltb most_ends (others + k)) (refused answers.crowd place)
    (then (kids k l1 at1) (λ ts l2 at2. got (join (join_of g) ts) l2 at2)))

-- A node by its tag, its children read by `kids`
unfoldable pub read_node : (kids : ℕ → List ℕ → ℕ → Reading Forest) → List ℕ → (at others : ℕ) → Reading Tree
read_node kids l at others =
    then (read_tag l at) (λ g l1 at1.
    cond (ltb g 2) (got (plain (eqb g 1)) l1 at1)
    (cond (ltb g 4) (read_join kids g at others l1 at1)
    (then (read_end g l1 at1) (λ e l2 at2. got (leaf e) l2 at2))))

-- k trees in order, each read by `node`: while one is read, its younger siblings are owed
unfoldable pub read_all : (node : List ℕ → ℕ → ℕ → Reading Tree) → ℕ → List ℕ → (at others : ℕ) → Reading Forest
read_all node zero l at others = got none l at
read_all node (suc k) l at others =
    then (node l at (others + k)) (λ t l1 at1.
    then (read_all node k l1 at1 (others + ends t)) (λ ts l2 at2. got (more t ts) l2 at2))

-- A tree of at most d connectives one inside the other. "at most 23 connectives, and a tree may nest 23 connectives deep": each adds
-- an end or more to `others`, so from 24 on the first clause's children are never asked for
unfoldable pub read_tree : ℕ → List ℕ → (at others : ℕ) → Reading Tree
read_tree zero l at others = read_node (λ k l1 at1. refused answers.crowd at) l at others
read_tree (suc d) l at others = read_node (λ k l1 at1. read_all (read_tree d) k l1 at1 others) l at others

-- The whole input: its tree, or the first refusal from left to right. 8: "bytes follow the tree", at the "first of them"
pub data Read : Type 0 where
  tree : Tree → Read
  refusal : (answer place : ℕ) → Read

abbrev pub whole : Reading Tree → Read
whole (got t [] at) = tree t
whole (got t (b ∷ l) at) = refusal answers.after at
whole (refused n place) = refusal n place

unfoldable pub read : List ℕ → Read
read s = whole (read_tree most_ends s 0 0)
