-- The walk, one law a way out. What node 0 says of the tree laid there (the nodes crate's laws) gives what is told of its ends from
-- what the calls below marked; children are taken one after another, and after each those so far have their marks. Where nothing is left,
-- or a child is longer than what is left, no tree is laid that fits.
use Rattle.std.proofs.Common.{ℕ, ◌+◌, ◌-◌, ◌≤◌, ◌<◌, ◌≡◌, List, ◌++◌, Bool, true, false, cond, not, Option, Some, None, refl, sym, ap, ◌∙◌}
use Rattle.std.proofs.Common.{subst, length, get_or, take, arith}
use Rattle.std.proofs.lemmas.List.{get_or-take, get_or_append_left, get_or-append_right}
use mathlib.Core.Path.{ap₂}
use Rattle.condition.specs.Limits.{question_room}
use Rattle.condition.specs.Meaning.{Assignment, End, is, at_most, met, joined, unit, Tree, leaf, Forest, none, count, holds, each}
use Rattle.condition.specs.Folding.{live, live_all}
use Rattle.condition.proofs.Putting.{split}
use Rattle.nodes.specs.declared.Node.{Node}
use Rattle.nodes.specs.declared.Node.TheVariants as node
use Rattle.nodes.specs.Memory.{size_of}
use Rattle.nodes.specs.Laid.{shifted, join_of, flag_end, bound_end, nodes, nodes_all, Laid, LaidAll}
use Rattle.nodes.proofs.Laws.{some_node, sized, at_plain, at_flag, at_bound, at_join, at_none, at_more, rest_laid_all}
use Rattle.judging.proofs.Ends.{flag_turned, bound_turned}
use Rattle.turning.specs.Turned.{tells, tells_in, Ends, Marked, Turns, TurnsAll, Tells}
use Rattle.turning.proofs.Telling.{leaves, join_tells, end_tells, last, onto, onto_last, onto_none, last_live, last_each, elder_tells, last_tells}

abbrev Marks : Type 0
Marks = List (Option Bool)

-- ---- a tree: nothing is left, or its node is x

pub nothing_left : {n : ℕ → Node} {left : ℕ} {a : Assignment} {m : Marks} {v : Bool} → left ≡ 0 → Turns n left a v 0 m
nothing_left z = record { few = omega arith; tree = λ t l h. absurd (omega (arith, some_node t)) }

module _ {n : ℕ → Node} {left : ℕ} {a : Assignment} {m : Marks} {x : Node} (here : x ≡ n 0) where
  pub plain_turned : {b : Bool} → x ≡ node.Plain b → Turns n left a b 0 m
  unfolding holds live
  plain_turned {b} e =
      record {
        few = omega arith;
        tree = λ t l h. rw (at_plain n 0 t b (sym here ∙ e) l) (record { is = refl; many = refl; marked = λ k u. absurd (omega arith) });
      }

  end_turned : (o : End) {v value : Bool} {ends : ℕ} → ((t : Tree) → Laid t n 0 → t ≡ leaf o) → v ≡ met o a → (left ≡ 0 → ⊥) →
      Ends v value ends m → Turns n left a value ends m
  unfolding holds live
  end_turned o {v} alone q some e =
      record {
        few = omega (arith, e.one, some);
        tree = λ t l h. rw (alone t l) (record {
          is = e.is ∙ q;
          many = e.one;
          marked = λ k u. ap (λ y. get_or m y None) (omega arith) ∙ e.marked ∙ ap Some q ∙ sym (end_tells a o k);
        });
      }

  pub flag_marked : {so y v value : Bool} {p ends : ℕ} → x ≡ node.Flag so p → y ≡ met (is p) a → v ≡ cond so y (not y) →
      (left ≡ 0 → ⊥) → Ends v value ends m → Turns n left a value ends m
  flag_marked {so} {p = p} e q s some h =
      end_turned (flag_end so p) (λ t l. at_flag n 0 t so p (sym here ∙ e) l)
      (s ∙ ap (λ z. cond so z (not z)) q ∙ flag_turned a so p) some h

  pub bound_marked : {so r v value : Bool} {y z w ends : ℕ} → x ≡ node.Bound so y z w → r ≡ met (at_most y z (shifted w)) a →
      v ≡ cond so r (not r) → (left ≡ 0 → ⊥) → Ends v value ends m → Turns n left a value ends m
  bound_marked {so} {y = y} {z} {w} e q s some h =
      end_turned (bound_end so y z w) (λ t l. at_bound n 0 t so y z w (sym here ∙ e) l)
      (s ∙ ap (λ r. cond so r (not r)) q ∙ bound_turned a so y z w) some h

  pub join_turned : {b value : Bool} {k s ends : ℕ} {n₁ : ℕ → Node} → x ≡ node.Join b k s → ((x : ℕ) → n₁ x ≡ n (1 + x)) →
      TurnsAll n₁ (left - 1) b k a value ends m → Turns n left a value ends m
  unfolding holds nodes live
  join_turned {b} {k = k} {s} {n₁ = n₁} e from below =
      record {
        few = omega (arith, below.few);
        tree = λ t l h.
            let p = at_join n 0 t b k s (sym here ∙ e) l in
            let size : nodes t ≡ nodes_all p.ts + 1 = ap nodes p.tree in
            let g = below.trees p.ts (rest_laid_all n n₁ 1 from p.ts p.laid) p.many (omega arith) in
            rw p.tree (record { is = g.is; many = g.many; marked = λ y u. g.marked y u ∙ sym (join_tells a (join_of b) p.ts y) });
      }

-- ---- the k trees from node 0 on, one after another

unit_is : (b : Bool) → b ≡ unit (join_of b)
unit_is true = refl
unit_is false = refl

-- the marks of the elder trees and of the next, y and z, of which some are cleared
module _ (b : Bool) (a : Assignment) (ts : Forest) (t : Tree) (e f : ℕ) (m₁ m₂ y₁ y z r : Marks) {v u : Bool}
    (elder : Marked (each ts (join_of b) a) (live_all ts) (λ x. tells_in ts (join_of b) x a) v e m₁)
    (next : Marked (holds t a) (live t) (λ x. tells t x a) u f m₂)
    (kept : (k : ℕ) (d : Option Bool) → k < e → get_or y₁ k d ≡ get_or m₁ k d) (y_long : length y ≡ e) (z_long : length z ≡ f)
    (one : (k : ℕ) → get_or y k None ≡ cond (leaves b u) (get_or y₁ k None) None)
    (two : (k : ℕ) → get_or z k None ≡ cond (leaves b v) (get_or (take f m₂) k None) None) where
  elder_marked : (x : ℕ) → x < live_all ts → get_or (y ++ (z ++ r)) x None ≡ cond (leaves b (holds t a)) (tells_in ts (join_of b) x a) None
  elder_marked x h =
      let few = elder.many in
      get_or_append_left y (z ++ r) None x (omega arith)
      ∙ one x
      ∙ ap₂ (λ c k. cond (leaves b c) k None) next.is (kept x None (omega arith) ∙ elder.marked x h)

  next_marked : (x : ℕ) → x < live t →
      get_or (y ++ (z ++ r)) (live_all ts + x) None ≡ cond (leaves b (each ts (join_of b) a)) (tells t x a) None
  next_marked x h =
      let few = elder.many in
      let rest = next.many in
      get_or-append_right y (z ++ r) e (live_all ts + x) None y_long (omega arith)
      ∙ ap (λ k. get_or (z ++ r) k None) (omega arith)
      ∙ get_or_append_left z r None x (omega arith)
      ∙ two x
      ∙ ap₂ (λ c k. cond (leaves b c) k None) elder.is (get_or-take f m₂ x None (omega arith) ∙ next.marked x h)

  pub all_marked : {q : Bool} → q ≡ joined (join_of b) v u →
      Marked (each (last ts t) (join_of b) a) (live_all (last ts t)) (λ x. tells_in (last ts t) (join_of b) x a) q (e + f) (y ++ (z ++ r))
  all_marked q =
      record {
        is = q ∙ ap₂ (joined (join_of b)) elder.is next.is ∙ sym (last_each a b t ts);
        many = ap₂ ◌+◌ elder.many next.many ∙ sym (last_live ts t);
        marked = λ x h.
            split x (live_all ts)
            (λ l g. elder_marked x l ∙ sym (elder_tells a b t ts x l))
            (λ l g.
            let there : live_all ts + (x - live_all ts) ≡ x = omega arith in
            let near : x - live_all ts < live t = omega (arith, last_live ts t) in
            ap (λ k. get_or (y ++ (z ++ r)) k None) (sym there)
            ∙ next_marked (x - live_all ts) near
            ∙ sym (last_tells a b t ts (x - live_all ts) near)
            ∙ ap (λ k. tells_in (last ts t) (join_of b) k a) there);
      }

-- so far: the elder trees have their marks, and `todo` trees are left, from node 0 of n on
pub record Elder (ts : Forest) (n : ℕ → Node) (b : Bool) (a : Assignment) (unspent todo : ℕ) (v : Bool) (e : ℕ) (m : Marks) : Type 0 where
  pub elder : Forest
  pub left : Forest
  pub whole : ts ≡ onto elder left
  pub laid : LaidAll left n 0
  pub many : count left ≡ todo
  pub fits : nodes_all left ≤ unspent
  pub marked : Marked (each elder (join_of b) a) (live_all elder) (λ x. tells_in elder (join_of b) x a) v e m

pub record Walked (n : ℕ → Node) (left : ℕ) (b : Bool) (k : ℕ) (a : Assignment) (n₁ : ℕ → Node) (unspent done : ℕ) (v : Bool) (e : ℕ)
    (m : Marks) : Type 0 where
  pub few : e + unspent ≤ left
  pub trees : (ts : Forest) → LaidAll ts n 0 → count ts ≡ k → nodes_all ts ≤ left → Elder ts n₁ b a unspent (k - done) v e m

pub walked_none : {n : ℕ → Node} {left : ℕ} {b : Bool} {k : ℕ} {a : Assignment} {m : Marks} → Walked n left b k a n left 0 b 0 m
unfolding holds live
walked_none {b = b} =
    record {
      few = omega arith;
      trees = λ ts l c h.
          record {
            elder = none;
            left = ts;
            whole = refl;
            laid = l;
            many = omega arith;
            fits = omega arith;
            marked = record { is = unit_is b; many = refl; marked = λ x u. absurd (omega arith) };
          };
    }

module _ {n : ℕ → Node} {left : ℕ} {b : Bool} {k : ℕ} {a : Assignment} {n₁ : ℕ → Node} {unspent done : ℕ} {v : Bool} {e : ℕ} {m₁ : Marks}
    (walked : Walked n left b k a n₁ unspent done v e m₁) where
  -- no tree is left
  pub all_walked : k ≤ done → TurnsAll n left b k a v e m₁
  all_walked z =
      record {
        few = omega (arith, walked.few);
        trees = λ ts l c h.
            let g = walked.trees ts l c h in
            let same : ts ≡ g.elder =
            g.whole ∙ ap (onto g.elder) (at_none g.left (k - done) g.many (omega arith)) ∙ onto_none g.elder in
            rw same g.marked;
      }

  -- the next tree, of s nodes
  module _ {s : ℕ} (some : done < k) (size : s ≡ size_of (n₁ 0)) where
    pub too_long : unspent < s → TurnsAll n left b k a v e m₁
    too_long long =
        record {
          few = omega (arith, walked.few);
          trees = λ ts l c h.
              let g = walked.trees ts l c h in
              let f = at_more g.left n₁ 0 (k - done) g.many (λ z. omega arith) g.laid in
              let fits = g.fits in
              absurd (omega (arith, sized f.t n₁ 0 f.laid, f.total));
        }

    pub walked_one : {u p w q : Bool} {f : ℕ} {m₂ : Marks} {n₂ : ℕ → Node} (y₁ y z r : Marks) → s ≤ unspent → Turns n₁ s a u f m₂ →
        ((x : ℕ) → n₂ x ≡ n₁ (s + x)) →
        ((k : ℕ) (d : Option Bool) → k < e → get_or y₁ k d ≡ get_or m₁ k d) → length y ≡ e → length z ≡ f →
        p ≡ leaves b u → ((k : ℕ) → get_or y k None ≡ cond p (get_or y₁ k None) None) →
        w ≡ leaves b v → ((k : ℕ) → get_or z k None ≡ cond w (get_or (take f m₂) k None) None) →
        q ≡ joined (join_of b) v u → Walked n left b k a n₂ (unspent - s) (done + 1) q (e + f) (y ++ (z ++ r))
    walked_one {u} {f = f} {m₂ = m₂} {n₂} y₁ y z r fits child from kept y_long z_long p one w two q =
        record {
          few = omega (arith, walked.few, child.few);
          trees = λ ts l c h.
              let g = walked.trees ts l c h in
              let d = at_more g.left n₁ 0 (k - done) g.many (λ z. omega arith) g.laid in
              let long : s ≡ nodes d.t = size ∙ sized d.t n₁ 0 d.laid in
              let one' : (k : ℕ) → get_or y k None ≡ cond (leaves b u) (get_or y₁ k None) None = rw (← p) one in
              let two' : (k : ℕ) → get_or z k None ≡ cond (leaves b v) (get_or (take f m₂) k None) None = rw (← w) two in
              let mine = child.tree d.t d.laid (omega arith) in
              let held = g.fits in
              record {
                elder = last g.elder d.t;
                left = d.us;
                whole = g.whole ∙ ap (onto g.elder) d.forest ∙ onto_last g.elder d.t d.us;
                laid = rest_laid_all n₁ n₂ s from d.us (subst (LaidAll d.us n₁) (omega arith) d.others);
                many = omega (arith, d.many);
                fits = omega (arith, d.total);
                marked = all_marked b a g.elder d.t e f m₁ m₂ y₁ y z r g.marked mine kept y_long z_long one' two' q;
              };
        }

-- ---- the whole tree

pub no_room : {n : ℕ → Node} {a : Assignment} {m : Marks} {s : ℕ} → s ≡ size_of (n 0) → (s ≤ question_room → s ≤ length m → ⊥) →
    Tells n a m 0 m
no_room {n} size h =
    record {
      few = omega arith;
      long = refl;
      right = λ t l near room. absurd (h (omega (arith, sized t n 0 l)) (omega (arith, sized t n 0 l)));
      full = λ f. (refl, refl);
    }

pub told : {n : ℕ → Node} {a : Assignment} {m m' : Marks} {s e : ℕ} {v : Bool} → s ≡ size_of (n 0) → s ≤ length m → length m' ≡ length m →
    Turns n s a v e m' → Tells n a m e m'
told {n} size room long h =
    record {
      few = omega (arith, h.few);
      long = long;
      right = λ t l near wide. let g = h.tree t l (omega (arith, sized t n 0 l)) in (g.many, g.marked);
      full = λ f. absurd (omega arith);
    }
