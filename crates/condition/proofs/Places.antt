-- What stands at the place of a refusal, 1 and 8 aside. A walk of reading along its own cases, with what was taken so far (Sound): between two
-- nodes that is nodes with which a tree begins, since the bytes of a tree that was read are such (`begun_tree`). So each refusal meets its
-- row. The depth that `read_tree` is given lasts, as in Round.
use Prim.Native.Nat.{ℕ, zero, suc, ◌+◌, ◌*◌, ◌≤◌, ◌<◌}
use mathlib.Core.Path.{◌≡◌, refl, sym, ◌∙◌}
use mathlib.Core.List.{List, [], ◌∷◌, ◌++◌, append_assoc, append-nil}
use mathlib.Core.Bool.{Bool, true, false, cond, ◌&&◌}
use native.Mathlib.Omega.{arith}
use native.Mathlib.Nat.{add-zero, add-suc, add_assoc}
use lib.Dec.{ltb, leb, eqb}
use lib.ListN.{length, length-append}
use lib.Seq.{take_at, drop_at}
use borrow.Table.Steps.{cases}
use borrow.Author.Tests.{ltb-true, ltb-false, leb-false, eqb-true}
use Rattle.condition.specs.Answers as answers
use Rattle.condition.specs.Limits.{most_ends, last_boolean, last_number, largest_bound, last_tag, groups, group_size}
use Rattle.condition.specs.Meaning.{Join, all, any, Tree, plain, leaf, join, Forest, none, more}
use Rattle.condition.specs.Meaning.{ends, ends_all, count, Formed, FormedAll}
use Rattle.condition.specs.Bytes.{Octets, groups_of, number, join_tag, plain_tag, bytes, bytes_all}
use Rattle.condition.specs.Reading.{Reading, got, refused, then, number_from, checked, up_to, read_bound, read_name, read_tag, read_count, read_end}
use Rattle.condition.specs.Reading.{read_join, read_node, read_all, read_tree, refusal, whole, read}
use Rattle.condition.specs.Places.{Begun, start, connective, constant, end, NodePart, tag, child_count, bound, name}
use Rattle.condition.specs.Places.{Awaits, tag_next, count_next, boolean_next, x_next, y_next, c_next}
use Rattle.condition.specs.Places.{Malformed, third_byte, two_bytes, three_bytes, Held}
use Rattle.condition.specs.Places.{Fault, malformed, high_tag, low_count, high_name, high_bound, crowd, FaultAt}
use Rattle.condition.proofs.Steps.{Yields}
use Rattle.condition.proofs.Round.{ends_some, ends_each}
use Rattle.condition.proofs.Sound.{Took, took_again, TreeReader, number_written, up_to_written, count_written, tree_written}

-- A tree that was read is nodes, one after another
plain_low : (b : Bool) → plain_tag b ≤ 1
plain_low true = omega arith
plain_low false = omega arith

join_tag_lem : (j : Join) → (2 ≤ join_tag j) × (join_tag j ≤ 3)
join_tag_lem all = omega arith
join_tag_lem any = omega arith

mutual
  unfolding bytes bytes_all ends ends_all Formed FormedAll

  begun_tree : {u : List ℕ} {past owed : ℕ} (t : Tree) → Formed t → past + owed + ends t ≤ most_ends → Begun u past (suc owed) →
      Begun (u ++ bytes t) (past + ends t) owed
  begun_tree (plain b) formed room h = constant (plain_tag b) h (plain_low b)
  begun_tree (leaf e) formed room h = end e h formed
  begun_tree {past = past} {owed = owed} (join j ts) formed room h =
      let each = ends_each ts formed.1 in
      simp (← append_assoc)
      (begun_all ts formed.1 room (connective (join_tag j) (count ts) h (join_tag_lem j) formed.0 (omega arith)))

  begun_all : {u : List ℕ} {past owed : ℕ} (ts : Forest) → FormedAll ts → past + owed + ends_all ts ≤ most_ends →
      Begun u past (owed + count ts) → Begun (u ++ bytes_all ts) (past + ends_all ts) owed
  begun_all none formed room h = rw (append-nil, add-zero) (rw add-zero at h)
  begun_all {past = past} {owed = owed} (more t ts) formed room h =
      let each = ends_each ts formed.1 in
      let one = begun_tree t formed.0 (omega arith) (rw add-suc at h) in
      rw (← append_assoc, ← add_assoc) (begun_all ts formed.1 (omega arith) one)

-- the place is within the input: a byte stands there
number_some : (n : ℕ) (l : List ℕ) → 1 ≤ length (number n ++ l)
unfolding groups_of
number_some n l = cases (ltb n group_size) (λ e. rw e (omega arith)) (λ e. rw e (omega arith))

malformed_some : {l : List ℕ} → Malformed l → 1 ≤ length l
malformed_some (third_byte h) = omega arith
malformed_some (two_bytes h) = omega arith
malformed_some (three_bytes h) = omega arith

fault_some : {n : ℕ} {u l : List ℕ} → Fault n u l → 1 ≤ length l
fault_some (malformed part next m) = malformed_some m
fault_some (high_tag g l next held high) = number_some g l
fault_some (low_count k l next low) = number_some k l
fault_some (high_name last x l next held high) = number_some x l
fault_some (high_bound w l next held high) = number_some w l
fault_some (crowd g k l begun two some held many) = number_some g (number k ++ l)

-- a fault in the bytes l that are left, once u were taken
stands : {s u l : List ℕ} {n at : ℕ} → Took u s 0 l at → Fault n u l → FaultAt s n at
stands {u = u} {l = l} {at = at} took fault =
    let place : length u ≡ at = omega (arith, took.to) in
    rw took.from
    (record {
      within = rw length-append (omega (arith, fault_some fault));
      fault = rw (take_at u l at place, drop_at u l at place) fault;
    })

-- a reading of s that refuses, and not for want of bytes, does so where a fault stands
abbrev Faulted : {A : Type 0} → Reading A → List ℕ → Type 0
Faulted (got x l at) s = Unit {0}
Faulted (refused n p) s = (n ≡ answers.ended → ⊥) → FaultAt s n p

faulted_then : {A B : Type 0} (s : List ℕ) (r : Reading A) (next : A → List ℕ → ℕ → Reading B) (P : A → List ℕ → ℕ → Type 0) →
    Faulted r s → Yields r P → ((x : A) (l : List ℕ) (at : ℕ) → P x l at → Faulted (next x l at) s) → Faulted (then r next) s
faulted_then s (got x l at) next P h y f = f x l at y
faulted_then s (refused n p) next P h y f = h

faulted_last : {A B : Type 0} (s : List ℕ) (r : Reading A) (f : A → B) → Faulted r s → Faulted (then r (λ x l at. got (f x) l at)) s
faulted_last s (got x l at) f h = tt
faulted_last s (refused n p) f h = h

faulted_cond : {A : Type 0} (s : List ℕ) (b : Bool) (r q : Reading A) → (b ≡ true → Faulted r s) → (b ≡ false → Faulted q s) →
    Faulted (cond b r q) s
faulted_cond s true r q h k = h refl
faulted_cond s false r q h k = k refl

-- Numbers
padding : (b first at : ℕ) → (eqb b 0 && ltb first at) ≡ true → (b ≡ 0) × (first < at)
padding b first at h =
    cases (eqb b 0)
    (λ e. (eqb-true b 0 e, ltb-true first at (rw e at h)))
    (λ e. let z : false ≡ true = rw e at h in let y : ◌≡◌ {A = ℕ} 0 1 = cc in absurd (omega arith))

-- a number's next byte, of the bytes l of which P is known: it is padding, or more bytes come after it, or it is not at fault
byte_faults : (s : List ℕ) (P : List ℕ → Type 0) (g first : ℕ) (l : List ℕ) (at : ℕ) → P l →
    (first < at → (m : List ℕ) → P (0 ∷ m) → FaultAt s answers.form first) →
    ((b : ℕ) (m : List ℕ) → group_size ≤ b → P (b ∷ m) → Faulted (number_from g first m (at + 1)) s) → Faulted (number_from (suc g) first l at) s
unfolding number_from
byte_faults s P g first [] at h padded more_bytes = λ some. absurd (some refl)
byte_faults s P g first (b ∷ l) at h padded more_bytes =
    faulted_cond s (ltb b group_size) _ _
    (λ e. faulted_cond s (eqb b 0 && ltb first at) (refused answers.form first) _
    (λ q some. let zeroed = padding b first at q in padded zeroed.1 l (rw zeroed.0 at h))
    (λ q. tt))
    (λ e. faulted_last s (number_from g first l (at + 1)) _ (more_bytes b l (ltb-false b group_size e) h))

module _ (s u : List ℕ) (part : NodePart) (next : Awaits part u) where
  bad : {l : List ℕ} {at : ℕ} → Took u s 0 l at → Malformed l → FaultAt s answers.form at
  bad took m = stands took (malformed part next m)

  number_faults : (l : List ℕ) (at : ℕ) → Took u s 0 l at → Faulted (number_from groups at l at) s
  unfolding number_from
  number_faults l at took =
      byte_faults s (λ l. Took u s 0 l at) 2 at l at took (λ later. absurd (omega arith)) (λ a l1 high1 took1.
      byte_faults s (λ l. Took u s 0 (a ∷ l) at) 1 at l1 (at + 1) took1 (λ later m t. bad t (two_bytes high1)) (λ b l2 high2 took2.
      byte_faults s (λ l. Took u s 0 (a ∷ b ∷ l) at) 0 at l2 (at + 1 + 1) took2 (λ later m t. bad t (three_bytes (high1, high2)))
      (λ c l3 high3 took3 some. bad took3 (third_byte (high1, high2, high3)))))

  checked_faults : (test : ℕ → Bool) (answer : ℕ) → ((n : ℕ) (l : List ℕ) → test n ≡ false → Held n → Fault answer u (number n ++ l)) →
      (l : List ℕ) (at : ℕ) → Took u s 0 l at → Faulted (checked test answer l at) s
  checked_faults test answer wrong l at took =
      faulted_then s (number_from groups at l at) _ _ (number_faults l at took) (number_written groups at l at (omega arith) took.rest)
      (λ n l' at' w. faulted_cond s (test n) _ _ (λ e. tt)
      (λ e h. stands took (rw w.took.from (wrong n l' e w.good.0))))

  up_to_faults : (most answer : ℕ) → ((n : ℕ) (l : List ℕ) → Held n → most < n → Fault answer u (number n ++ l)) →
      (l : List ℕ) (at : ℕ) → Took u s 0 l at → Faulted (up_to most answer l at) s
  unfolding up_to
  up_to_faults most answer wrong l at took =
      checked_faults (λ n. leb n most) answer (λ n l e held. wrong n l held (leb-false n most e)) l at took

count_faults : (s u : List ℕ) → Awaits child_count u → (l : List ℕ) (at : ℕ) → Took u s 0 l at → Faulted (read_count l at) s
unfolding read_count
count_faults s u next l at took =
    checked_faults s u child_count next (λ k. leb 2 k) answers.count (λ k l e held. low_count k l next (omega (arith, leb-false 2 k e))) l at took

name_faults : (s u : List ℕ) (last : ℕ) → Awaits (name last) u → (l : List ℕ) (at : ℕ) → Took u s 0 l at → Faulted (read_name last l at) s
name_faults s u last next l at took = up_to_faults s u (name last) next last answers.name (λ x l. high_name last x l next) l at took

-- Ends, by their tags
end_faults : (s u : List ℕ) → Awaits tag u → (g : ℕ) (l : List ℕ) (at : ℕ) → (4 ≤ g) × (g ≤ last_tag) → Took (u ++ number g) s 0 l at →
    Faulted (read_end g l at) s
unfolding read_end
end_faults s u next g l at h took =
    faulted_cond s (ltb g 6) _ _
    (λ e.
    let boolean = boolean_next g next (omega (arith, ltb-true g 6 e)) in
    faulted_last s (read_name last_boolean l at) _ (name_faults s _ last_boolean boolean l at took))
    (λ e.
    let six : (6 ≤ g) × (g ≤ last_tag) = omega (arith, ltb-false g 6 e) in
    faulted_then s (read_name last_number l at) _ _ (name_faults s _ last_number (x_next g next six) l at took)
    (up_to_written last_number answers.name l at took.rest) (λ x l1 at1 w1.
    let took1 = took_again took w1.took in
    faulted_then s (read_name last_number l1 at1) _ _ (name_faults s _ last_number (y_next g x next six w1.good) l1 at1 took1)
    (up_to_written last_number answers.name l1 at1 took1.rest) (λ y l2 at2 w2.
    let c = c_next g x y next six (w1.good, w2.good) in
    faulted_last s (read_bound l2 at2) _
    (up_to_faults s _ bound c (2 * largest_bound) answers.bound (λ w l. high_bound w l c) l2 at2 (took_again took1 w2.took)))))

-- Nodes, by their tags
module _ (s : List ℕ) (kids : ℕ → List ℕ → ℕ → Reading Forest) (u : List ℕ) (past owed : ℕ) (begun : Begun u past (suc owed))
    (kids-fault : (k : ℕ) (v l : List ℕ) (at : ℕ) → 2 ≤ k → past + owed + k ≤ most_ends → Begun v past (owed + k) → Took v s 0 l at →
    Faulted (kids k l at) s) where
  join_faults : (g : ℕ) (l0 : List ℕ) (at0 : ℕ) (l : List ℕ) (at : ℕ) → (2 ≤ g) × (g ≤ 3) → Took u s 0 l0 at0 →
      Took (number g) l0 at0 l at → Faulted (read_join kids g at0 (past + owed) l at) s
  unfolding read_join
  join_faults g l0 at0 l at two took tagged =
      let took1 = took_again took tagged in
      faulted_then s (read_count l at) _ _ (count_faults s _ (count_next g (tag_next begun) two) l at took1)
      (count_written l at tagged.rest) (λ k l1 at1 w1.
      faulted_cond s (ltb most_ends (past + owed + k)) _ _
      (λ e h. stands took (rw (tagged.from, w1.took.from)
      (crowd g k l1 begun two w1.good.0 w1.good.1 (ltb-true most_ends (past + owed + k) e))))
      (λ e.
      let few = ltb-false most_ends (past + owed + k) e in
      faulted_last s (kids k l1 at1) _
      (kids-fault k _ l1 at1 w1.good.0 few (connective g k begun two w1.good.0 few) (took_again took1 w1.took))))

  node_faults : (l : List ℕ) (at : ℕ) → Took u s 0 l at → Faulted (read_node kids l at (past + owed)) s
  unfolding read_node
  node_faults l at took =
      let next = tag_next begun in
      faulted_then s (read_tag l at) _ _ (up_to_faults s u tag next last_tag answers.tag (λ g l. high_tag g l next) l at took)
      (up_to_written last_tag answers.tag l at took.rest) (λ g l1 at1 w1.
      faulted_cond s (ltb g 2) _ _ (λ e. tt)
      (λ e. faulted_cond s (ltb g 4) _ _
      (λ q. join_faults g l at l1 at1 (omega (arith, ltb-false g 2 e, ltb-true g 4 q)) took w1.took)
      (λ q. faulted_last s (read_end g l1 at1) _
      (end_faults s u next g l1 at1 (ltb-false g 4 q, w1.good) (took_again took w1.took)))))

-- Trees
abbrev TreeFaults : List ℕ → (List ℕ → ℕ → ℕ → Reading Tree) → (d : ℕ) → Type 0
TreeFaults s node d = (u l : List ℕ) (at others past owed : ℕ) → Begun u past (suc owed) → others ≡ past + owed → others + 1 ≤ most_ends →
    most_ends ≤ d + others + 1 → Took u s 0 l at → Faulted (node l at others) s

all_faults : (s : List ℕ) (node : List ℕ → ℕ → ℕ → Reading Tree) (d : ℕ) → TreeReader node → TreeFaults s node d →
    (k : ℕ) (u l : List ℕ) (at others past owed : ℕ) → Begun u past (owed + k) → others ≡ past + owed → others + k ≤ most_ends →
    most_ends ≤ d + others + k → Took u s 0 l at → Faulted (read_all node k l at others) s
unfolding read_all
all_faults s node d reads faults zero u l at others past owed begun same room deep took = tt
all_faults s node d reads faults (suc k) u l at others past owed begun same room deep took =
    let one : Begun u past (suc (owed + k)) = rw add-suc at begun in
    faulted_then s (node l at (others + k)) _ _
    (faults u l at (others + k) past (owed + k) one (omega arith) (omega arith) (omega arith) took)
    (reads l at (others + k) (omega arith) took.rest) (λ t l1 at1 w1.
    let some = ends_some t w1.good.0 in
    let begun1 = begun_tree t w1.good.0 (omega (arith, w1.good.1)) one in
    faulted_last s (read_all node k l1 at1 (others + ends t)) _
    (all_faults s node d reads faults k _ l1 at1 (others + ends t) (past + ends t) owed begun1
    (omega arith) (omega (arith, w1.good.1)) (omega arith) (took_again took w1.took)))

tree_faults : (s : List ℕ) (d : ℕ) → TreeFaults s (read_tree d) d
unfolding read_tree
tree_faults s zero u l at others past owed begun same room deep took =
    rw same (node_faults s _ u past owed begun (λ k v l1 at1 two few b t h. absurd (omega arith)) l at took)
tree_faults s (suc d) u l at others past owed begun same room deep took =
    let reads = tree_written d in
    rw same (node_faults s _ u past owed begun (λ k v l1 at1 two few b t.
    all_faults s (read_tree d) d reads (tree_faults s d) k v l1 at1 (past + owed) past owed b refl few (omega arith) t) l at took)

-- the whole input
whole_faults : (r : Reading Tree) (s : List ℕ) (n p : ℕ) → Faulted r s → whole r ≡ refusal n p →
    (n ≡ answers.ended → ⊥) → (n ≡ answers.after → ⊥) → FaultAt s n p
whole_faults (got t [] at) s n p h e some inside = let z : ◌≡◌ {A = ℕ} 0 1 = cc in absurd (omega arith)
whole_faults (got t (b ∷ l) at) s n p h e some inside = let answer : n ≡ answers.after = cc in absurd (inside answer)
whole_faults (refused m q) s n p h e some inside =
    let answer : m ≡ n = cc in
    let place : q ≡ p = cc in
    rw (← answer, ← place) (h (λ z. some (sym answer ∙ z)))

-- an answer of reading but 1 and 8: at the place stands what the row says
pub place_of_fault : (s : List ℕ) (n p : ℕ) → Octets s → read s ≡ refusal n p →
    (n ≡ answers.ended → ⊥) → (n ≡ answers.after → ⊥) → FaultAt s n p
unfolding read
place_of_fault s n p o e some inside =
    let took : Took [] s 0 s 0 = record { from = refl; to = refl; rest = o } in
    let faults = tree_faults s most_ends [] s 0 0 0 0 start (omega arith) (omega arith) (omega arith) took in
    whole_faults (read_tree most_ends s 0 0) s n p faults e some inside
