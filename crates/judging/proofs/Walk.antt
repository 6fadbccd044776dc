-- The walk, one law a way out. What node 0 says of the tree laid there (the nodes crate's laws) gives the tree's meaning from
-- what the calls below answered; where nothing is left, or a child is longer than what is left, no tree is laid that fits.
use Prim.Native.Nat.{ℕ, ◌+◌, ◌-◌, ◌≤◌, ◌<◌}
use mathlib.Core.Path.{◌≡◌, refl, sym, subst, ap, ap₂, ◌∙◌}
use mathlib.Core.Bool.{Bool, true, false, cond, not}
use native.Mathlib.Omega.{arith}
use Rattle.condition.specs.Meaning.{Assignment, is, at_most, met, Join, joined, unit, holds, each}
use Rattle.nodes.specs.declared.Node.{Node}
use Rattle.nodes.specs.declared.Node.TheVariants as node
use Rattle.nodes.specs.Memory.{size_of}
use Rattle.nodes.specs.Laid.{shifted, join_of, nodes, nodes_all, LaidAll}
use Rattle.nodes.proofs.Laws.{some_node, sized, at_plain, at_flag, at_bound, at_join, at_none, at_more, rest_laid_all}
use Rattle.judging.specs.Judged.{Judged, JudgedAll}
use Rattle.judging.proofs.Ends.{flag_turned, bound_turned}

-- ---- a tree: nothing is left, or m is its node

pub nothing_left : {n : ℕ → Node} {left : ℕ} {a : Assignment} {r : Bool} → left ≡ 0 → Judged n left a r
nothing_left z = record { tree = λ t l h. absurd (omega (arith, some_node t)) }

module _ {n : ℕ → Node} {left : ℕ} {a : Assignment} {m : Node} (here : m ≡ n 0) where
  pub plain_judged : {b : Bool} → m ≡ node.Plain b → Judged n left a b
  unfolding holds
  plain_judged e = record { tree = λ t l h. sym (ap (λ x. holds x a) (at_plain n 0 t _ (sym here ∙ e) l)) }

  pub flag_judged : {so v r : Bool} {p : ℕ} → m ≡ node.Flag so p → v ≡ met (is p) a → r ≡ cond so v (not v) → Judged n left a r
  unfolding holds
  flag_judged {so} {p = p} e q s =
      let meant = s ∙ ap (λ x. cond so x (not x)) q ∙ flag_turned a so p in
      record { tree = λ t l h. meant ∙ sym (ap (λ x. holds x a) (at_flag n 0 t so p (sym here ∙ e) l)) }

  pub bound_judged : {so v r : Bool} {x y w : ℕ}
      → m ≡ node.Bound so x y w → v ≡ met (at_most x y (shifted w)) a → r ≡ cond so v (not v) → Judged n left a r
  unfolding holds
  bound_judged {so} {x = x} {y = y} {w = w} e q s =
      let meant = s ∙ ap (λ z. cond so z (not z)) q ∙ bound_turned a so x y w in
      record { tree = λ t l h. meant ∙ sym (ap (λ z. holds z a) (at_bound n 0 t so x y w (sym here ∙ e) l)) }

  pub join_judged : {b r : Bool} {k s : ℕ} {after : ℕ → Node}
      → m ≡ node.Join b k s → ((x : ℕ) → after x ≡ n (1 + x)) → JudgedAll after (left - 1) (join_of b) k a r → Judged n left a r
  unfolding holds nodes
  join_judged {b} {k = k} {s = s} {after} e from below =
      record {
        tree = λ t l h.
            let p = at_join n 0 t b k s (sym here ∙ e) l in
            let size : nodes t ≡ nodes_all p.ts + 1 = ap nodes p.tree in
            below.trees p.ts (rest_laid_all n after 1 from p.ts p.laid) p.many (omega arith) ∙ sym (ap (λ x. holds x a) p.tree);
      }

-- ---- the k trees from node 0 on: none, or s is the size of the first

unit_is : (b : Bool) → b ≡ unit (join_of b)
unit_is true = refl
unit_is false = refl

pub none_judged : {n : ℕ → Node} {left : ℕ} {b : Bool} {k : ℕ} {a : Assignment} → k ≡ 0 → JudgedAll n left (join_of b) k a b
unfolding holds
none_judged {b = b} {k = k} z = record { trees = λ ts l e h. rw (at_none ts k e z) (unit_is b) }

module _ {n : ℕ → Node} {left : ℕ} {j : Join} {k : ℕ} {a : Assignment} {s : ℕ} (some : k ≡ 0 → ⊥) (first : s ≡ size_of (n 0)) where
  pub too_long : {r : Bool} → left < s → JudgedAll n left j k a r
  too_long long =
      record {
        trees = λ ts l e h.
            let f = at_more ts n 0 k e some l in
            absurd (omega (arith, sized f.t n 0 f.laid));
      }

  pub more_judged : {v u r : Bool} {after : ℕ → Node} → s ≤ left → Judged n s a v → ((x : ℕ) → after x ≡ n (s + x)) →
      JudgedAll after (left - s) j (k - 1) a u → r ≡ joined j v u → JudgedAll n left j k a r
  unfolding holds
  more_judged {after = after} fits child from others q =
      record {
        trees = λ ts l e h.
            let f = at_more ts n 0 k e some l in
            let size : s ≡ nodes f.t = first ∙ sized f.t n 0 f.laid in
            let laid = rest_laid_all n after s from f.us (subst (LaidAll f.us n) (omega arith) f.others) in
            let v-is = child.tree f.t f.laid (omega arith) in
            let u-is = others.trees f.us laid f.many (omega arith) in
            q ∙ ap₂ (joined j) v-is u-is ∙ sym (ap (λ x. each x j a) f.forest);
      }
