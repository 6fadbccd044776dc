-- What each way out of `siblings`, `gather` and `ask` shows. The siblings are written first and what is gathered of the child after
-- them, into the rest of the slice; the two parts together are what `gathered` says of the connective.
use Prim.Native.Nat.{ℕ, suc, ◌+◌, ◌-◌, ◌≤◌, ◌<◌, max}
use mathlib.Core.Path.{◌≡◌, refl, sym, subst, ap, ◌∙◌}
use mathlib.Core.List.{List, ◌++◌}
use mathlib.Core.Bool.{Bool, true}
use native.Mathlib.Omega.{arith}
use lib.ListN.{length, set, drop, length-set}
use borrow.Rule.Slice.PartMut.{put_mid}
use Rattle.std.proofs.Common.{Option, None}
use Rattle.condition.specs.Limits.{deepest, question_room}
use Rattle.condition.specs.Meaning.{End, Tree, leaf, join, Forest, more, count}
use Rattle.condition.specs.Depth.{deep, deep_all}
use Rattle.condition.specs.Folding.{live, live_all}
use Rattle.nodes.specs.declared.Node.{Node}
use Rattle.nodes.specs.declared.Node.TheVariants as node
use Rattle.nodes.specs.Memory.{node_at, size_of}
use Rattle.nodes.specs.Laid.{join_of, flag_end, bound_end, nodes, nodes_all, Laid, LaidAll}
use Rattle.nodes.proofs.Memory.{put_here, put_other}
use Rattle.nodes.proofs.Laws.{tell, sized, at_plain, at_flag, at_bound, at_join, at_none, move_all, rest_laid, rest_laid_all}
use Rattle.asking.specs.declared.Place.{Place}
use Rattle.asking.specs.declared.Wrote.{Wrote}
use Rattle.asking.specs.Asked.{turned, asked, star_all, onto, gathered, gathered_in}
use Rattle.asking.specs.Asked.{Stars, Among, Sought, Seeks, Siblings, Stand, Gathers, MayGather, Asks}
use Rattle.asking.proofs.Parts.{in_part, in_first, in_second}
use Rattle.asking.proofs.Turned.{turned_end, star_nodes, star_count}
use Rattle.asking.proofs.Onto.{onto_nodes, onto_count, onto_deep, onto_laid, laid_onto, count_nodes, star_onto, gathered_among}

-- ---- two parts of the output: us stand in the first, vs in the second, which begins after d nodes

both_parts : (us vs : Forest) (d : ℕ) (o₁ o₂ o : ℕ → Node) → nodes_all us ≡ d → LaidAll us o₁ 0 → LaidAll vs o₂ 0 →
    ((x : ℕ) → x < d → o x ≡ o₁ x) → ((x : ℕ) → x < nodes_all vs → o (d + x) ≡ o₂ x) → LaidAll (onto us vs) o 0
both_parts us vs d o₁ o₂ o e l l₂ before after =
    onto_laid us vs o 0
    (move_all us o₁ o 0 0 (λ x q. ap o (omega arith) ∙ before x (omega arith) ∙ ap o₁ (omega arith)) l)
    (move_all vs o₂ o 0 (0 + nodes_all us) (λ x q. ap o (omega arith) ∙ after x q ∙ ap o₂ (omega arith)) l₂)

-- ---- `siblings`

-- the younger begin where the tree at c ends
pub siblings_starred : (n m : ℕ → Node) (c : Place) (size : ℕ) (a : Bool) (depth : ℕ) (o₁ o₂ o : ℕ → Node) → c.at ≤ size →
    ((x : ℕ) → m x ≡ n (c.at + c.size + x)) → Stars n c.at a depth o₁ → Stars m (size - c.at) a depth o₂ →
    ((x : ℕ) → x < c.at → o x ≡ o₁ x) → ((x : ℕ) → x < size - c.at → o (c.at + x) ≡ o₂ x) →
    Siblings n c size a depth o
unfolding nodes Laid deep live
siblings_starred n m c size a depth o₁ o₂ o h from s s₂ before after = record { right = right }
  where
    right : (ts : Forest) (k : ℕ) → LaidAll ts n 0 → nodes_all ts ≡ size + c.size → deep_all ts ≤ depth → (p : Among ts k c) →
        LaidAll (star_all (join_of a) (onto p.elder p.younger)) o 0
    right ts k l e d p =
        let j = join_of a in
        let ours = p.elder in
        let next = p.younger in
        let start = p.before in
        let here = p.here in
        let total : nodes_all ts ≡ nodes_all ours + (nodes p.t + nodes_all next) =
        ap nodes_all p.parts ∙ onto_nodes ours (more p.t next) in
        let nested : deep_all ts ≡ max (deep_all ours) (max (deep p.t) (deep_all next)) =
        ap deep_all p.parts ∙ onto_deep ours (more p.t next) in
        let laid = laid_onto ours (more p.t next) n 0 (subst (λ us. LaidAll us n 0) p.parts l) in
        let elder = s.right ours laid.0 (omega arith) (omega arith) in
        let behind = rest_laid_all n m (c.at + c.size) from next (subst (LaidAll next n) (omega arith) laid.1.1) in
        let younger = s₂.right next behind (omega arith) (omega arith) in
        rw (star_onto j ours next)
        (both_parts (star_all j ours) (star_all j next) c.at o₁ o₂ o (star_nodes j ours ∙ omega arith) elder younger before
        (λ x q. after x (omega (arith, star_nodes j next))))

-- the same of slices: the elder go to the first part of the output, the younger to the rest
pub siblings_lent : (n k m : ℕ → Node) (c : Place) (a : Bool) (depth d₁ d₂ part : ℕ) (o₀ o₁ o₂ : List Node) → c.at ≤ length o₀ →
    ((x : ℕ) → k x ≡ n (c.at + x)) → ((x : ℕ) → m x ≡ k (c.size + x)) → Stars n d₁ a depth (node_at o₁) → Stars m d₂ a depth (node_at o₂) →
    d₁ ≡ c.at → d₂ ≡ length o₀ - c.at → length o₁ ≡ d₁ → length o₂ ≡ d₂ →
    Siblings n c (length o₀) a depth (node_at (put_mid c.at part (o₁ ++ drop c.at o₀) o₂))
siblings_lent n k m c a depth d₁ d₂ part o₀ o₁ o₂ h after from s s₂ one two long long₂ =
    siblings_starred n m c (length o₀) a depth (node_at o₁) (node_at o₂) _ h
    (λ x. from x ∙ after (c.size + x) ∙ ap n (omega arith))
    (subst (λ z. Stars n z a depth (node_at o₁)) one s)
    (subst (λ z. Stars m z a depth (node_at o₂)) two s₂)
    (λ x lt. in_first c.at part o₀ o₁ o₂ h (omega arith) x lt)
    (λ x lt. in_second c.at part o₀ o₁ o₂ h (omega arith) x (omega arith))

-- ---- `gather`

-- the nodes n have no tree of so many nodes, so deep, that has an end m
abbrev Never : (ℕ → Node) → ℕ → ℕ → ℕ → Type 0
Never n size m depth = (t : Tree) → Laid t n 0 → nodes t ≡ size → deep t ≤ depth → live t ≤ m

module _ (n : ℕ → Node) (size m depth : ℕ) where
  pub nothing : (opp : Bool) (o : ℕ → Node) {w : Option Wrote} → w ≡ None → Never n size m depth → MayGather n size m depth opp o w
  nothing opp o e h = subst (MayGather n size m depth opp o) (sym e) h

  pub constant : (b : Bool) → n 0 ≡ node.Plain b → Never n size m depth
  unfolding live
  constant b q t l e d = let z : live t ≡ 0 = ap live (at_plain n 0 t b q l) in omega arith

  -- ---- an end

  an_end : (opp : Bool) (o : ℕ → Node) (e : End) → ((t : Tree) → Laid t n 0 → t ≡ leaf e) → 1 ≤ size → o 0 ≡ turned opp (n 0) →
      Gathers n size m depth opp o (record { size = 1; trees = 1 })
  unfolding gathered Laid nodes
  an_end opp o e is some here = record {
    small = some;
    few = some;
    right = λ t l h d.
        let end = turned_end opp e (n 0) (subst (λ u. Laid u n 0) (is t l) l) in
        rw (is t l) (record { laid = (tell (sym here) (asked opp e) end, tt); sized = refl; counted = refl });
  }

  -- the first node, which is neither a constant nor a connective
  pub an_end_put : (opp : Bool) (o : ℕ → Node) (k : Node) → n 0 ≡ k → ((b : Bool) → k ≡ node.Plain b → ⊥) →
      ((a : Bool) (x s : ℕ) → k ≡ node.Join a x s → ⊥) → 1 ≤ size → o 0 ≡ turned opp (n 0) →
      Gathers n size m depth opp o (record { size = 1; trees = 1 })
  an_end_put opp o (node.Plain b) q c j some here = absurd (c b refl)
  an_end_put opp o (node.Join a x s) q c j some here = absurd (j a x s refl)
  an_end_put opp o (node.Flag so p) q c j some here = an_end opp o (flag_end so p) (λ t l. at_flag n 0 t so p q l) some here
  an_end_put opp o (node.Bound so x y w) q c j some here = an_end opp o (bound_end so x y w) (λ t l. at_bound n 0 t so x y w q l) some here

  -- ---- a connective: r are the nodes after the first

  module _ (a : Bool) (k s : ℕ) (q : n 0 ≡ node.Join a k s) (r : ℕ → Node) (after : (x : ℕ) → r x ≡ n (1 + x)) where
    -- what its node says of a tree: its children
    record Below (t : Tree) : Type 0 where
      ts : Forest
      tree : t ≡ join (join_of a) ts
      laid : LaidAll ts r 0
      total : nodes_all ts + 1 ≡ nodes t
      nested : suc (deep_all ts) ≡ deep t
      many : count ts ≡ k
      ended : live_all ts ≡ live t

    below : (t : Tree) → Laid t n 0 → Below t
    unfolding nodes deep live
    below t l =
        let p = at_join n 0 t a k s q l in
        record {
          ts = p.ts;
          tree = p.tree;
          laid = rest_laid_all n r 1 after p.ts (subst (LaidAll p.ts n) (omega arith) p.laid);
          total = sym (ap nodes p.tree);
          nested = sym (ap deep p.tree);
          many = p.many;
          ended = sym (ap live p.tree);
        }

    pub too_deep : ¬ (1 ≤ depth) → Never n size m depth
    too_deep z t l e d = let p = below t l in let h = p.nested in absurd (omega arith)

    pub no_child : ¬ (1 ≤ k) → Never n size m depth
    unfolding live
    no_child z t l e d =
        let p = below t l in
        let none_there : live_all p.ts ≡ 0 = ap live_all (at_none p.ts k p.many (omega arith)) in
        let h = p.ended in
        omega arith

    pub not_among : (left : ℕ) → left ≡ size - 1 → Seeks r left m None → Never n size m depth
    not_among left same h t l e d =
        let p = below t l in
        let x = p.total in
        let y = p.ended in
        omega (arith, h p.ts p.laid (omega arith))

    -- the child that has the end stands at c, in the nodes v
    module _ (c : Place) (found : Sought r (size - 1) m c) (v : ℕ → Node) (from : (x : ℕ) → v x ≡ r (c.at + x)) where
      record Children (t : Tree) : Type 0 where
        ts : Forest
        tree : t ≡ join (join_of a) ts
        laid : LaidAll ts r 0
        total : nodes_all ts ≡ size - 1
        shallow : deep_all ts ≤ depth - 1
        many : count ts ≡ k
        among : Among ts m c
        split : nodes_all among.elder + (nodes among.t + nodes_all among.younger) ≡ nodes_all ts
        counted : count among.elder + (1 + count among.younger) ≡ count ts
        within : Laid among.t v 0
        inner : deep among.t ≤ depth - 1

      -- the child among its siblings, given what the node says of the tree
      apart : (t : Tree) → nodes t ≡ size → deep t ≤ depth → (p : Below t) → Among p.ts m c → Children t
      unfolding nodes deep Laid
      apart t e d p g =
          let ts = p.ts in
          let total = p.total in
          let depth_is = p.nested in
          let before = g.before in
          let nested : deep_all ts ≡ max (deep_all g.elder) (max (deep g.t) (deep_all g.younger)) =
          ap deep_all g.parts ∙ onto_deep g.elder (more g.t g.younger) in
          let laid = laid_onto g.elder (more g.t g.younger) r 0 (subst (λ us. LaidAll us r 0) g.parts p.laid) in
          record {
            ts = ts;
            tree = p.tree;
            laid = p.laid;
            total = omega arith;
            shallow = omega arith;
            many = p.many;
            among = g;
            split = sym (ap nodes_all g.parts ∙ onto_nodes g.elder (more g.t g.younger));
            counted = omega (arith, ap count g.parts ∙ onto_count g.elder (more g.t g.younger));
            within = rest_laid r v c.at from g.t (subst (Laid g.t r) (omega arith) laid.1.0);
            inner = omega arith;
          }

      children : (t : Tree) → Laid t n 0 → nodes t ≡ size → deep t ≤ depth → Children t
      children t l e d = let p = below t l in let total = p.total in apart t e d p (found.right p.ts p.laid (omega arith))

      pub too_many : size - 1 - c.size < k - 1 → Never n size m depth
      too_many far t l e d =
          let g = children t l e d in
          let p = g.among in
          absurd (omega (arith, g.total, g.many, g.split, g.counted, p.here, count_nodes p.elder, count_nodes p.younger))

      pub not_below : (left inner : ℕ) → left ≡ c.size → inner ≡ depth - 1 → Never v left c.end inner → Never n size m depth
      not_below left inner whole deeper h t l e d =
          let g = children t l e d in
          let p = g.among in
          absurd (omega (arith, h p.t g.within (p.here ∙ sym whole) (omega (arith, g.inner)), p.inside))

      pub connective : (opp : Bool) (o₁ o₂ o : ℕ → Node) (w : Wrote) → 1 ≤ k → k - 1 ≤ size - 1 - c.size →
          Siblings r c (size - 1 - c.size) a (depth - 1) o₁ → Gathers v c.size c.end (depth - 1) opp o₂ w →
          ((x : ℕ) → x < size - 1 - c.size → o x ≡ o₁ x) → ((x : ℕ) → x < w.size → o (size - 1 - c.size + x) ≡ o₂ x) →
          Gathers n size m depth opp o (record { size = size - 1 - c.size + w.size; trees = k - 1 + w.trees })
      unfolding gathered
      connective opp o₁ o₂ o w some fit s g before after = record {
        small = omega (arith, found.high, found.some, g.small);
        few = omega (arith, found.high, found.some, g.few);
        right = right;
      }
        where
          right : (t : Tree) → Laid t n 0 → nodes t ≡ size → deep t ≤ depth →
              Stand (gathered t m opp) o (record { size = size - 1 - c.size + w.size; trees = k - 1 + w.trees })
          right t l e d =
              let y = children t l e d in
              let p = y.among in
              let j = join_of a in
              let others = onto p.elder p.younger in
              let total = y.total in
              let starred = s.right y.ts m y.laid (omega (arith, found.high)) y.shallow p in
              let inner = g.right p.t y.within p.here y.inner in
              let vs = gathered p.t c.end opp in
              let here = p.here in
              let split = y.split in
              let size_is = inner.sized in
              let few : nodes_all (star_all j others) ≡ size - 1 - c.size =
              star_nodes j others ∙ onto_nodes p.elder p.younger ∙ omega arith in
              let asked_of = ap (λ us. gathered_in us j m opp) p.parts ∙
              gathered_among j opp p.t p.younger c.end p.inside p.elder m p.ended in
              rw (y.tree, asked_of)
              (record {
                laid = both_parts (star_all j others) vs (size - 1 - c.size) o₁ o₂ o few starred inner.laid before
                    (λ x lt. after x (omega arith));
                sized = omega (arith, onto_nodes (star_all j others) vs);
                counted = omega (
                  arith,
                  onto_count (star_all j others) vs,
                  star_count j others,
                  onto_count p.elder p.younger,
                  y.counted,
                  y.many,
                  inner.counted,
                );
              })

-- the same of slices: the siblings go to the first part of the output, what is gathered of the child to the part after it
pub connective_lent : (n : ℕ → Node) (m depth : ℕ) (a : Bool) (k s : ℕ) → n 0 ≡ node.Join a k s →
    (r : ℕ → Node) → ((x : ℕ) → r x ≡ n (1 + x)) → (c : Place) (o₀ : List Node) → Sought r (length o₀ - 1) m c →
    (v : ℕ → Node) → ((x : ℕ) → v x ≡ r (c.at + x)) → (opp : Bool) (o₁ o₂ : List Node) (w : Wrote) (d d₂ trees inner part : ℕ) →
    1 ≤ length o₀ → (1 ≤ k) × (trees ≡ k - 1) → (1 ≤ depth) × (inner ≡ depth - 1) → trees ≤ length o₀ - 1 - c.size →
    Siblings r c d a inner (node_at o₁) → Gathers v d₂ c.end inner opp (node_at o₂) w → d ≡ length o₀ - 1 - c.size → d₂ ≡ c.size →
    length o₁ ≡ d → length o₂ ≡ d₂ →
    Gathers n (length o₀) m depth opp (node_at (put_mid (length o₀ - 1 - c.size) part (o₁ ++ drop (length o₀ - 1 - c.size) o₀) o₂))
    (record { size = length o₀ - 1 - c.size + w.size; trees = trees + w.trees })
connective_lent n m depth a k s q r after c o₀ found v from opp o₁ o₂ w d d₂ trees inner part some kids deeper fit sib g e e₂ long long₂ =
    let z = length o₀ - 1 - c.size in
    rw kids.1
    (connective n (length o₀) m depth a k s q r after c found v from opp (node_at o₁) (node_at o₂) _ w kids.0 (omega arith)
    (subst (λ x. Siblings r c x a (depth - 1) (node_at o₁)) e (subst (λ x. Siblings r c d a x (node_at o₁)) deeper.1 sib))
    (subst (λ x. Gathers v x c.end (depth - 1) opp (node_at o₂) w) e₂ (subst (λ x. Gathers v d₂ c.end x opp (node_at o₂) w) deeper.1 g))
    (λ x lt. in_first z part o₀ o₁ o₂ (omega arith) (omega arith) x lt)
    (λ x lt. in_second z part o₀ o₁ o₂ (omega arith) (omega arith) x (omega (arith, g.small))))

-- ---- `ask`

module _ (n : ℕ → Node) (size m : ℕ) (opp : Bool) (o : List Node) (is : size ≡ size_of (n 0)) where
  pub refused : (size < question_room → length o ≤ size) → Asks n m opp o 0 o
  refused h = record {
    small = omega arith;
    few = omega arith;
    long = refl;
    kept = λ x. refl;
    right = λ t l near room lt d. let s = sized t n 0 l in absurd (omega arith);
  }

  -- left is the output's part that is handed on: as many nodes as the tree has
  module _ (left : ℕ) (whole : left ≡ size) (near : size < question_room) (room : size < length o) (o' : List Node) (long : length o' ≡ length o) where
    pub no_end : Never n left m deepest → Asks n m opp o 0 o'
    no_end never = record {
      small = omega arith;
      few = omega arith;
      long = long;
      kept = λ x. absurd (omega arith);
      right = λ t l h x lt d. absurd (omega (arith, never t l (sym (sized t n 0 l) ∙ sym is ∙ sym whole) d));
    }

    pub asks : (o₁ : List Node) (part : ℕ) (w : Wrote) → length o₁ ≡ left → Gathers n left m deepest opp (node_at o₁) w →
        o' ≡ set (put_mid 1 part o o₁) 0 (node.Join true w.trees w.size) → Asks n m opp o (w.size + 1) o'
    unfolding Laid nodes
    asks o₁ part w kept g e = record {
      small = omega (arith, g.small);
      few = omega (arith, g.small);
      long = long;
      kept = λ x. absurd (omega arith);
      right = λ t l h x lt d.
          let inner = g.right t l (sym (sized t n 0 l) ∙ sym is ∙ sym whole) d in
          let size_is = inner.sized in
          let count-is = inner.counted in
          let back = put_mid 1 part o o₁ in
          let head = node.Join true w.trees w.size in
          let same : length back ≡ length o = sym (length-set back 0 head) ∙ ap length (sym e) ∙ long in
          let top : node_at o' 0 ≡ head = ap (λ z. node_at z 0) e ∙ put_here back 0 head (omega arith) in
          let moved = move_all (gathered t m opp) (node_at o₁) (node_at o') 0 (0 + 1)
          (λ z lt. ap (node_at o') (omega arith) ∙ ap (λ w. node_at w (1 + z)) e ∙
          put_other back 0 (1 + z) head (λ q. omega arith) ∙
          in_part 1 part o o₁ (omega arith) z (omega (arith, g.small)) ∙
          ap (node_at o₁) (omega arith)) inner.laid in
          ((cc, moved), omega arith);
    }
