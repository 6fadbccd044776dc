-- What reads was written. Every step that yields a value has taken that value's bytes, and no others, from the front of the bytes it
-- was given. By recursion over the groups of a number, then over the depth and the children left; each law follows its definition's
-- own cases, and `took_again` puts together what two steps took.
use Prim.Native.Nat.{ℕ, zero, suc, ◌+◌, ◌-◌, ◌*◌, ◌%◌, ◌^◌, ◌≤◌, ◌<◌}
use mathlib.Core.Path.{◌≡◌, refl, sym, ap, ap₂, ◌∙◌}
use mathlib.Core.List.{List, [], ◌∷◌, ◌++◌, append_assoc}
use mathlib.Core.Bool.{Bool, true, false, ◌&&◌, and-true}
use native.Mathlib.Nat.{pow-succ', one-le-pow}
use native.Mathlib.Omega.{arith}
use lib.Dec.{ltb, leb, eqb}
use lib.IntN.{nat_abs}
use lib.ListN.{length, length-append}
use borrow.Table.Steps.{cases}
use borrow.Author.Tests.{ltb-true, ltb-false, lt-ltb, le-ltb, leb-true, eqb-true, eqb-false}
use Rattle.condition.specs.Answers as answers
use Rattle.condition.specs.Limits.{most_ends, last_boolean, last_number, largest_bound, last_tag, groups, group_size}
use Rattle.condition.specs.Meaning.{End, at_most, Tree, plain, join, Forest, ends, ends_all, count, EndWithin, Formed, FormedAll}
use Rattle.condition.specs.Bytes.{Octets, groups_of, number, written, end_bytes, bytes, bytes_all}
use Rattle.condition.specs.Reading.{Reading, number_from, checked, up_to, read_bound, read_name, read_tag, read_count, bound_of, flag_end, bound_end, read_end}
use Rattle.condition.specs.Reading.{join_of, read_join, read_node, read_all, read_tree}
use Rattle.condition.proofs.Steps.{Yields, yields_then, yields_cond}

-- of the bytes l at `at`, s were taken, which leaves l' at `at'`
pub record Took (s l : List ℕ) (at : ℕ) (l' : List ℕ) (at' : ℕ) : Type 0 where
  pub from : l ≡ s ++ l'
  pub to : at' ≡ at + length s
  pub rest : Octets l'

took_one : (b : ℕ) (l : List ℕ) (at : ℕ) → Octets (b ∷ l) → Took (b ∷ []) (b ∷ l) at l (at + 1)
unfolding Octets
took_one b l at o = record { from = refl; to = refl; rest = o.1 }

pub took_again : {s s' l l1 l2 : List ℕ} {at at1 at2 : ℕ} → Took s l at l1 at1 → Took s' l1 at1 l2 at2 → Took (s ++ s') l at l2 at2
took_again {s} {s'} m n =
    record {
      from = m.from ∙ ap (λ l. s ++ l) n.from ∙ sym (append_assoc s s' _);
      to = simp length-append (omega arith);
      rest = n.rest;
    }

-- x was read: it is good, and its bytes were taken
pub record WasWritten {A : Type 0} (Good : A → Type 0) (text : A → List ℕ)
    (l : List ℕ) (at : ℕ) (x : A) (l' : List ℕ) (at' : ℕ) : Type 0 where
  pub good : Good x
  pub took : Took (text x) l at l' at'

-- Numbers. g groups hold n, and it is not a 0 after another byte
abbrev pub Shortest : (g first at n : ℕ) → Type 0
Shortest g first at n = (n < group_size ^ g) × (first < at → 1 ≤ n)

last_byte : (g first b : ℕ) (l : List ℕ) (at : ℕ) → Octets (b ∷ l) → b < group_size → (eqb b 0 && ltb first at) ≡ false →
    WasWritten (Shortest (suc g) first at) (groups_of (suc g)) (b ∷ l) at b l (at + 1)
unfolding groups_of
last_byte g first b l at o low shortest =
    record {
      good = (
        rw pow-succ' (omega (arith, one-le-pow g group_size (omega arith))),
        λ h. omega (arith, eqb-false b 0 (rw (lt-ltb first at h, and-true) at shortest)),
      );
      took = rw (lt-ltb b group_size low) (took_one b l at o);
    }

groups_more : (g b n : ℕ) → (group_size ≤ b) × (b < 256) × (1 ≤ n) → groups_of (suc g) (b - group_size + group_size * n) ≡ b ∷ groups_of g n
unfolding groups_of
groups_more g b n h = rw (le-ltb (b - group_size + group_size * n) group_size (omega arith)) (ap₂ (λ c m. c ∷ groups_of g m) (omega arith) (omega arith))

byte_before : (g first b : ℕ) (l : List ℕ) (at n : ℕ) (l' : List ℕ) (at' : ℕ) → first ≤ at → Octets (b ∷ l) → group_size ≤ b →
    WasWritten (Shortest g first (at + 1)) (groups_of g) l (at + 1) n l' at' →
    WasWritten (Shortest (suc g) first at) (groups_of (suc g)) (b ∷ l) at (b - group_size + group_size * n) l' at'
unfolding Octets
byte_before g first b l at n l' at' h o high w =
    let some = w.good.1 (omega arith) in
    record {
      good = rw pow-succ' (omega arith);
      took = rw (groups_more g b n (omega arith)) (took_again (took_one b l at o) w.took);
    }

pub number_written : (g first : ℕ) (l : List ℕ) (at : ℕ) → first ≤ at → Octets l →
    Yields (number_from g first l at) (WasWritten (Shortest g first at) (groups_of g) l at)
unfolding Octets number_from
number_written zero first l at h o = tt
number_written (suc g) first [] at h o = tt
number_written (suc g) first (b ∷ l) at h o =
    let P = WasWritten (Shortest (suc g) first at) (groups_of (suc g)) (b ∷ l) at in
    yields_cond (ltb b group_size) _ _ P
    (λ e. yields_cond (eqb b 0 && ltb first at) _ _ P (λ q. tt) (λ q. last_byte g first b l at o (ltb-true b group_size e) q))
    (λ e. yields_then (number_from g first l (at + 1)) _ _ P (number_written g first l (at + 1) (omega arith) o.1)
    (λ n l' at' w. byte_before g first b l at n l' at' h o (ltb-false b group_size e) w))

checked_written : (test : ℕ → Bool) (Good : ℕ → Type 0) → ((n : ℕ) → n < group_size ^ groups → test n ≡ true → Good n) →
    (answer : ℕ) (l : List ℕ) (at : ℕ) → Octets l → Yields (checked test answer l at) (WasWritten Good number l at)
checked_written test Good passed answer l at o =
    let P = WasWritten Good number l at in
    yields_then (number_from groups at l at) _ _ P (number_written groups at l at (omega arith) o)
    (λ n l' at' w. yields_cond (test n) _ _ P (λ e. record { good = passed n w.good.0 e; took = w.took }) (λ e. tt))

pub up_to_written : (most answer : ℕ) (l : List ℕ) (at : ℕ) → Octets l →
    Yields (up_to most answer l at) (WasWritten (λ n. n ≤ most) number l at)
unfolding up_to
up_to_written most answer l at o = checked_written (λ n. leb n most) (λ n. n ≤ most) (λ n fits. leb-true n most) answer l at o

pub count_written : (l : List ℕ) (at : ℕ) → Octets l → Yields (read_count l at) (WasWritten (λ k. (2 ≤ k) × (k < group_size ^ groups)) number l at)
unfolding read_count
count_written l at o =
    checked_written (λ k. leb 2 k) (λ k. (2 ≤ k) × (k < group_size ^ groups)) (λ k fits e. (leb-true 2 k e, fits)) answers.count l at o

-- Ends. Tags come in twos
of_two : (P : ℕ → Type 0) (a g : ℕ) → (a ≤ g) × (g < a + 2) → P a → P (a + 1) → P g
of_two P a g h p q =
    cases (eqb g a)
    (λ e. rw (eqb-true g a e) p)
    (λ e. let next : g ≡ a + 1 = omega (arith, eqb-false g a e) in rw next q)

-- an end within the limits, whose bytes are s
record Made (s : List ℕ) (e : End) : Type 0 where
  within : EndWithin e
  spelt : end_bytes e ≡ s

flag_made : (g p : ℕ) → (4 ≤ g) × (g < 6) → p ≤ last_boolean → Made (number g ++ number p) (flag_end g p)
unfolding end_bytes
flag_made g p h within =
    of_two (λ g. Made (number g ++ number p) (flag_end g p)) 4 g h
    (record { within = within; spelt = refl })
    (record { within = within; spelt = refl })

bound_made : (w : ℕ) → w ≤ 2 * largest_bound → (nat_abs (bound_of w) ≤ largest_bound) × (written (bound_of w) ≡ w)
bound_made w h =
    cases (eqb (w % 2) 0)
    (λ e. rw e (omega (arith, eqb-true (w % 2) 0 e)))
    (λ e. rw e (omega (arith, eqb-false (w % 2) 0 e)))

difference_made : (g x y w : ℕ) → (6 ≤ g) × (g < 8) → (x ≤ last_number) × (y ≤ last_number) × (w ≤ 2 * largest_bound) →
    Made (number g ++ (number x ++ (number y ++ number w))) (bound_end g x y (bound_of w))
unfolding end_bytes
difference_made g x y w h ranged =
    let bound = bound_made w ranged.2 in
    let within : EndWithin (at_most x y (bound_of w)) = (ranged.0, ranged.1, bound.0) in
    of_two (λ g. Made (number g ++ (number x ++ (number y ++ number w))) (bound_end g x y (bound_of w))) 6 g h
    (record { within = within; spelt = rw bound.1 })
    (record { within = within; spelt = rw bound.1 })

-- what follows a tag g that was taken from the bytes l0 at at0
module _ (g : ℕ) (l0 : List ℕ) (at0 : ℕ) (l : List ℕ) (at : ℕ) (tag : Took (number g) l0 at0 l at) where
  made_written : {s l' : List ℕ} {at' : ℕ} (e : End) → Made (number g ++ s) e → Took s l at l' at' →
      WasWritten EndWithin end_bytes l0 at0 e l' at'
  made_written e m took = record { good = m.within; took = rw m.spelt (took_again tag took) }

  pub end_written : (4 ≤ g) × (g ≤ last_tag) → Yields (read_end g l at) (WasWritten EndWithin end_bytes l0 at0)
  unfolding read_end
  end_written h =
      let P = WasWritten EndWithin end_bytes l0 at0 in
      yields_cond (ltb g 6) _ _ P
      (λ e. yields_then (read_name last_boolean l at) _ _ P (up_to_written last_boolean answers.name l at tag.rest) (λ p l1 at1 w1.
      made_written (flag_end g p) (flag_made g p (h.0, ltb-true g 6 e) w1.good) w1.took))
      (λ e. yields_then (read_name last_number l at) _ _ P (up_to_written last_number answers.name l at tag.rest) (λ x l1 at1 w1.
      yields_then (read_name last_number l1 at1) _ _ P (up_to_written last_number answers.name l1 at1 w1.took.rest) (λ y l2 at2 w2.
      yields_then (read_bound l2 at2) _ _ P (up_to_written (2 * largest_bound) answers.bound l2 at2 w2.took.rest) (λ w l3 at3 w3.
      made_written (bound_end g x y (bound_of w))
      (difference_made g x y w (ltb-false g 6 e, omega arith) (w1.good, w2.good, w3.good))
      (took_again w1.took (took_again w2.took w3.took))))))

-- Trees. Within the limits, with `others` ends beside them
abbrev pub TreeWritten : (others : ℕ) → List ℕ → ℕ → Tree → List ℕ → ℕ → Type 0
TreeWritten others = WasWritten (λ t. Formed t × (others + ends t ≤ most_ends)) bytes

abbrev pub AllWritten : (k others : ℕ) → List ℕ → ℕ → Forest → List ℕ → ℕ → Type 0
AllWritten k others = WasWritten (λ ts. (count ts ≡ k) × FormedAll ts × (others + ends_all ts ≤ most_ends)) bytes_all

-- one tree, or k of them, read whenever there is room for their ends
abbrev pub TreeReader : (List ℕ → ℕ → ℕ → Reading Tree) → Type 0
TreeReader node = (l : List ℕ) (at others : ℕ) → others + 1 ≤ most_ends → Octets l → Yields (node l at others) (TreeWritten others l at)

abbrev pub AllReader : (ℕ → List ℕ → ℕ → Reading Forest) → ℕ → Type 0
AllReader kids others = (k : ℕ) (l : List ℕ) (at : ℕ) → others + k ≤ most_ends → Octets l → Yields (kids k l at) (AllWritten k others l at)

plain_spelt : (g : ℕ) → g < 2 → bytes (plain (eqb g 1)) ≡ number g
unfolding bytes
plain_spelt g h = of_two (λ g. bytes (plain (eqb g 1)) ≡ number g) 0 g (omega arith) refl refl

join_spelt : (g : ℕ) (ts : Forest) → (2 ≤ g) × (g < 4) → bytes (join (join_of g) ts) ≡ number g ++ (number (count ts) ++ bytes_all ts)
unfolding bytes
join_spelt g ts h = of_two (λ g. bytes (join (join_of g) ts) ≡ number g ++ (number (count ts) ++ bytes_all ts)) 2 g h refl refl

module _ (kids : ℕ → List ℕ → ℕ → Reading Forest) (others : ℕ) (kids-written : AllReader kids others) where
  join_written : (g : ℕ) (l0 : List ℕ) (at0 : ℕ) (l : List ℕ) (at : ℕ) → (2 ≤ g) × (g < 4) → Took (number g) l0 at0 l at →
      Yields (read_join kids g at0 others l at) (TreeWritten others l0 at0)
  unfolding read_join Formed ends
  join_written g l0 at0 l at h tag =
      let P = TreeWritten others l0 at0 in
      yields_then (read_count l at) _ _ P (count_written l at tag.rest) (λ k l1 at1 w1.
      yields_cond (ltb most_ends (others + k)) _ _ P (λ e. tt)
      (λ e. yields_then (kids k l1 at1) _ _ P (kids-written k l1 at1 (ltb-false most_ends (others + k) e) w1.took.rest) (λ ts l2 at2 w2.
      let counted = w2.good.0 in
      record {
        good = ((rw counted w1.good.0, w2.good.1), w2.good.2);
        took = rw (join_spelt g ts h, counted) (took_again tag (took_again w1.took w2.took));
      })))

  node_written : (l : List ℕ) (at : ℕ) → others + 1 ≤ most_ends → Octets l → Yields (read_node kids l at others) (TreeWritten others l at)
  unfolding read_node Formed ends bytes
  node_written l at room o =
      let P = TreeWritten others l at in
      yields_then (read_tag l at) _ _ P (up_to_written last_tag answers.tag l at o) (λ g l1 at1 w1.
      yields_cond (ltb g 2) _ _ P
      (λ e. record { good = (tt, room); took = rw (plain_spelt g (ltb-true g 2 e)) w1.took })
      (λ e. yields_cond (ltb g 4) _ _ P
      (λ q. join_written g l at l1 at1 (ltb-false g 2 e, ltb-true g 4 q) w1.took)
      (λ q. yields_then (read_end g l1 at1) _ _ P (end_written g l at l1 at1 w1.took (ltb-false g 4 q, w1.good))
      (λ e l2 at2 w2. record { good = (w2.good, room); took = w2.took }))))

pub all_written : (node : List ℕ → ℕ → ℕ → Reading Tree) → TreeReader node →
    (k : ℕ) (l : List ℕ) (at others : ℕ) → others + k ≤ most_ends → Octets l → Yields (read_all node k l at others) (AllWritten k others l at)
unfolding read_all FormedAll ends_all bytes_all
all_written node reads zero l at others room o =
    record { good = (refl, tt, room); took = record { from = refl; to = omega arith; rest = o } }
all_written node reads (suc k) l at others room o =
    let P = AllWritten (suc k) others l at in
    yields_then (node l at (others + k)) _ _ P (reads l at (others + k) (omega arith) o) (λ t l1 at1 w1.
    let rest = all_written node reads k l1 at1 (others + ends t) (omega (arith, w1.good.1)) w1.took.rest in
    yields_then (read_all node k l1 at1 (others + ends t)) _ _ P rest (λ ts l2 at2 w2.
    record {
      good = (ap suc w2.good.0, (w1.good.0, w2.good.1), omega (arith, w2.good.2));
      took = took_again w1.took w2.took;
    }))

pub tree_written : (d : ℕ) → TreeReader (read_tree d)
unfolding read_tree
tree_written zero l at others room o = node_written _ others (λ k l1 at1 h q. tt) l at room o
tree_written (suc d) l at others room o =
    node_written _ others (λ k l1 at1 h q. all_written (read_tree d) (tree_written d) k l1 at1 others h q) l at room o
