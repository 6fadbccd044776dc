-- What each way out of `boolean`, `difference`, `node` and `children` shows. A stop is the definition's refusal, carried on; a read node is put after
-- what stands already, so what stood before it still stands; the rest is the sizes, which are linear.
use Prim.Native.Nat.{ℕ, ◌+◌, ◌-◌, ◌*◌, ◌≤◌, ◌<◌}
use mathlib.Core.Path.{◌≡◌, refl, sym, subst, ap, ◌∙◌}
use mathlib.Core.List.{List}
use native.Mathlib.Omega.{arith}
use lib.Dec.{eqb}
use lib.ListN.{length, set}
use Rattle.std.specs.Prelude.{Result, Ok, Err, IfOk}
use Rattle.std.proofs.lemmas.Result.{IfOk-weaker}
use Rattle.condition.proofs.Steps.{Yields}
use Rattle.condition.specs.Answers as answers
use Rattle.condition.specs.Limits.{most_ends, last_boolean, last_number, largest_bound, last_tag}
use Rattle.condition.specs.Meaning.{End, Tree, plain, leaf, join, Forest, none, more, count, ends, ends_all}
use Rattle.condition.specs.Reading as reading
use Rattle.condition.specs.Reading.{Reading, got, refused, then, read_tag, read_count, read_name}
use Rattle.condition.specs.Reading.{read_bound, bound_of, read_end, read_node, read_all, read_tree, whole, read as read_of}
use Rattle.cursor.specs.declared.Cursor.{Cursor}
use Rattle.cursor.specs.declared.Refusal.{Refusal}
use Rattle.cursor.specs.declared.Refusal.TheVariants.{Crowd, After}
use Rattle.cursor.specs.Said.{answer_of, place_of, from, said}
use Rattle.cursor.proofs.Steps.{Taken, refusal_read, first_byte, no_bytes, up_to_taken, count_taken}
use Rattle.nodes.specs.declared.Node.{Node}
use Rattle.nodes.specs.declared.Node.TheVariants as node
use Rattle.nodes.specs.Memory.{node_at}
use Rattle.nodes.specs.Laid.{shifted, EndIs, nodes, nodes_all, Laid, LaidAll}
use Rattle.nodes.proofs.Memory.{put_here, put_other}
use Rattle.nodes.proofs.Laws.{is_all_join_of, tell, move, move_all}
use Rattle.reading.specs.declared.Part.{Part}
use Rattle.reading.specs.Parts.{after, Shows, Went, May, EndRight, NodeRight, ChildrenRight, Holds}
use Rattle.reading.proofs.Equations as eq

abbrev part : ℕ → Cursor → ℕ → Part
part j c e = record { free = j; cursor = c; ends = e }

-- a refusal is shown by the same stop, and ends whatever would come after
module _ {A : Type 0} (laid : A → (ℕ → Node) → ℕ → Type 0) (size many : A → ℕ) (s : List ℕ) (ns : List Node) (i others : ℕ) where
  stop_shows : (why : Refusal) (x : Reading A) → x ≡ refused (answer_of why) (place_of why) → Shows laid size many s ns i others (Err why) x
  stop_shows why x q = rw q (refl, refl)

  read_shows : (p : Part) (x : Reading A) (v : A) → x ≡ got v (from s p.cursor.at) p.cursor.at → laid v (node_at ns) i →
      p.free ≡ i + size v → p.ends ≡ others + many v → Shows laid size many s ns i others (Ok p) x
  read_shows p x v q l n m = rw q (record { stands = l; next = n; counted = m; rest = refl; place = refl })

  module _ {B : Type 0} (laid' : B → (ℕ → Node) → ℕ → Type 0) (size' many' : B → ℕ) (ns' : List Node) (i' others' : ℕ) where
    stop_then : (why : Refusal) (x : Reading A) (next : A → List ℕ → ℕ → Reading B) →
        Shows laid size many s ns i others (Err why) x → Shows laid' size' many' s ns' i' others' (Err why) (then x next)
    stop_then why (got v l at) next h = absurd h
    stop_then why (refused a p) next h = h

-- what was read from further on was read from here
further : (k : ℕ) (ns₀ ns : List Node) (len at at' others i : ℕ) (r : Result Part Refusal) → at ≤ at' →
    IfOk r (Went k ns₀ ns len at' others i) → IfOk r (Went k ns₀ ns len at others i)
further k ns₀ ns len at at' others i r h = IfOk-weaker r _ _ (λ p g. record {
  on = omega (arith, g.on);
  inside = g.inside;
  fits = g.fits;
  some = g.some;
  most = g.most;
  least = g.least;
  kept = g.kept;
})

-- ---- one node that is put at i, after what stands already

module _ (ns₀ ns : List Node) (i : ℕ) (k : Node) (room : i < length ns₀) (put : ns ≡ set ns₀ i k) where
  put_is : node_at ns i ≡ k
  put_is = ap (λ l. node_at l i) put ∙ put_here ns₀ i k room

  put_keeps : (x : ℕ) → (x ≡ i → ⊥) → node_at ns x ≡ node_at ns₀ x
  put_keeps x h = ap (λ l. node_at l x) put ∙ put_other ns₀ i x k h

module _ (ns₀ ns : List Node) (s : List ℕ) (done : Part) (k : Node) (room : done.free < length ns₀) (put : ns ≡ set ns₀ done.free k)
    (few : done.ends + 1 ≤ most_ends) (c : Cursor) where
  one_went : done.cursor.at < c.at → c.at ≤ length s → Went 1 ns₀ ns (length s) done.cursor.at done.ends done.free (after done c)
  one_went h h' = record {
    on = omega arith;
    inside = h';
    fits = omega arith;
    some = omega arith;
    most = few;
    least = omega arith;
    kept = λ x lt. put_keeps ns₀ ns done.free k room put x (λ e. omega arith);
  }

-- ---- end

abbrev leafs : End → List ℕ → ℕ → Reading Tree
leafs e l at = got (leaf e) l at

module _ (ns₀ ns : List Node) (s : List ℕ) (g : ℕ) (done : Part) where
  pub end_stops : (step : Result (ℕ × Cursor) Refusal) (why : Refusal) (x : Reading ℕ) → step ≡ Err why → said s step ≡ x →
      (x ≡ refused (answer_of why) (place_of why) →
      read_end g (from s done.cursor.at) done.cursor.at ≡ refused (answer_of why) (place_of why)) →
      EndRight ns₀ ns s g done (Err why)
  end_stops step why x q says f = record {
    is = stop_shows Laid nodes ends s ns done.free done.ends why _ (ap (λ x. then x leafs) (f (refusal_read s step x why says q)));
    goes = tt;
  }

  module _ (may : May 1 s done (length ns₀)) (r : Part) where
    end_put : (c : Cursor) (e : End) (k : Node) → read_end g (from s done.cursor.at) done.cursor.at ≡ got e (from s c.at) c.at →
        (done.cursor.at < c.at) × (c.at ≤ length s) → EndIs e k → ns ≡ set ns₀ done.free k → r ≡ after done c →
        EndRight ns₀ ns s g done (Ok r)
    unfolding Laid nodes ends
    end_put c e k q m h put is =
        let room : done.free < length ns₀ = omega (arith, may) in
        rw is (record {
          is = read_shows Laid nodes ends s ns done.free done.ends (after done c) _ (leaf e) (ap (λ x. then x leafs) q)
              (tell (sym (put_is ns₀ ns done.free k room put)) e h) refl refl;
          goes = one_went ns₀ ns s done k room put may.few c m.0 m.1;
        })

    pub end_flag : (p : ℕ) (c1 : Cursor) → g < 6 →
        got p (from s c1.at) c1.at ≡ read_name last_boolean (from s done.cursor.at) done.cursor.at →
        ns ≡ set ns₀ done.free (node.Flag (eqb g 4) p) → r ≡ after done c1 → EndRight ns₀ ns s g done (Ok r)
    end_flag p c1 h named put is =
        let name = up_to_taken s done.cursor.at may.inside p c1 last_boolean answers.name named in
        end_put c1 (reading.flag_end g p) (node.Flag (eqb g 4) p) (eq.flag_read g _ _ h p _ _ name.is) (name.on, name.inside) refl put is

    pub end_bound : (x y w v : ℕ) (c1 c2 c3 : Cursor) → 6 ≤ g →
        got x (from s c1.at) c1.at ≡ read_name last_number (from s done.cursor.at) done.cursor.at →
        got y (from s c2.at) c2.at ≡ read_name last_number (from s c1.at) c1.at →
        got w (from s c3.at) c3.at ≡ read_bound (from s c2.at) c2.at → shifted v ≡ bound_of w →
        ns ≡ set ns₀ done.free (node.Bound (eqb g 6) x y v) → r ≡ after done c3 → EndRight ns₀ ns s g done (Ok r)
    end_bound x y w v c1 c2 c3 h named named' bounded e put is =
        let first = up_to_taken s done.cursor.at may.inside x c1 last_number answers.name named in
        let second = up_to_taken s c1.at first.inside y c2 last_number answers.name named' in
        let bound = up_to_taken s c2.at second.inside w c3 (2 * largest_bound) answers.bound bounded in
        end_put c3 (reading.bound_end g x y (bound_of w)) (node.Bound (eqb g 6) x y v)
        (eq.bound_read g _ _ h x _ _ first.is y _ _ second.is w _ _ bound.is)
        (omega (arith, first.on, second.on, bound.on), bound.inside)
        (ap (reading.bound_end g x y) (sym e))
        put is

-- those by which the check finds most ways out of an end itself
pub ruleset stops = (up_to_taken, end_stops, eq.name_stop, eq.x_stop, eq.y_stop, eq.bound_stop)

-- ---- node

-- the children are read: they are joined
abbrev joins : ℕ → Forest → List ℕ → ℕ → Reading Tree
joins g ts l at = got (join (reading.join_of g) ts) l at

module _ (ns₀ ns : List Node) (s : List ℕ) (done : Part) where
  stops_at : (why : Refusal) →
      ((kids : eq.Kids) → read_node kids (from s done.cursor.at) done.cursor.at done.ends ≡ refused (answer_of why) (place_of why)) →
      NodeRight ns₀ ns s done (Err why)
  stops_at why q = record {
    is = λ d h. eq.any_depth (Shows Laid nodes ends s ns done.free done.ends (Err why)) _ _ _
        (λ kids. stop_shows Laid nodes ends s ns done.free done.ends why _ (q kids)) d;
    goes = tt;
  }

  pub node_stops : (step : Result (ℕ × Cursor) Refusal) (why : Refusal) (x : Reading ℕ) → step ≡ Err why → said s step ≡ x →
      ((kids : eq.Kids) → x ≡ refused (answer_of why) (place_of why) →
      read_node kids (from s done.cursor.at) done.cursor.at done.ends ≡ refused (answer_of why) (place_of why)) →
      NodeRight ns₀ ns s done (Err why)
  node_stops step why x q says f = stops_at why (λ kids. f kids (refusal_read s step x why says q))

  module _ (may : May 1 s done (length ns₀)) (g : ℕ) (c1 : Cursor)
      (tagged : got g (from s c1.at) c1.at ≡ read_tag (from s done.cursor.at) done.cursor.at) where
    tag : Taken (λ n. n ≤ last_tag) s done.cursor.at (read_tag (from s done.cursor.at) done.cursor.at) g c1
    tag = up_to_taken s done.cursor.at may.inside g c1 last_tag answers.tag tagged

    pub node_plain : g < 2 → ns ≡ set ns₀ done.free (node.Plain (eqb g 1)) → (r : Part) → r ≡ after done c1 → NodeRight ns₀ ns s done (Ok r)
    unfolding Laid nodes ends
    node_plain h put r is =
        let k = node.Plain (eqb g 1) in
        let room : done.free < length ns₀ = omega (arith, may) in
        rw is (record {
          is = λ d hd. eq.any_depth (Shows Laid nodes ends s ns done.free done.ends (Ok (after done c1))) _ _ _
              (λ kids. read_shows Laid nodes ends s ns done.free done.ends (after done c1) _ (plain (eqb g 1))
              (eq.plain_read kids _ done.cursor.at done.ends g _ _ tag.is h) (put_is ns₀ ns done.free k room put) refl refl)
              d;
          goes = one_went ns₀ ns s done k room put may.few c1 tag.on tag.inside;
        })

    -- an end is read past its tag
    pub node_end : 4 ≤ g → (r : Result Part Refusal) → EndRight ns₀ ns s g (part done.free c1 done.ends) r → NodeRight ns₀ ns s done r
    node_end h r e = record {
      is = λ d hd. eq.any_depth (Shows Laid nodes ends s ns done.free done.ends r) _ _ _
          (λ kids. rw (eq.end_read kids _ done.cursor.at done.ends g _ _ tag.is h (omega arith)) e.is) d;
      goes = further 1 ns₀ ns (length s) done.cursor.at c1.at done.ends done.free r (omega (arith, tag.on)) e.goes;
    }

    module _ (h2 : 2 ≤ g) (h4 : g < 4) (k : ℕ) (c2 : Cursor) (counted : got k (from s c2.at) c2.at ≡ read_count (from s c1.at) c1.at) where
      kids : Taken (λ n. 2 ≤ n) s c1.at (read_count (from s c1.at) c1.at) k c2
      kids = count_taken s c1.at tag.inside k c2 counted

      pub node_crowd : most_ends - done.ends < k → NodeRight ns₀ ns s done (Err (Crowd done.cursor.at))
      node_crowd h = stops_at (Crowd done.cursor.at)
          (λ ks. eq.crowd_stop ks _ done.cursor.at done.ends g _ _ tag.is h2 h4 k _ _ kids.is (omega (arith, may)))

      module _ (few : done.ends + k ≤ most_ends) where
        joined : (P : Reading Tree → Type 0) →
            ((d : ℕ) → most_ends ≤ d + done.ends + k → P (then (read_all (read_tree d) k (from s c2.at) c2.at done.ends) (joins g))) →
            (d : ℕ) → most_ends ≤ d + done.ends + 1 → P (read_tree d (from s done.cursor.at) done.cursor.at done.ends)
        joined P f d hd =
            eq.deeper P _ done.cursor.at done.ends d (λ z. omega (arith, kids.ranged))
            (rw (eq.join_read _ _ done.cursor.at done.ends g _ _ tag.is h2 h4 k _ _ kids.is few) (f (d - 1) (omega (arith, kids.ranged))))

        pub node_kids_stop : (ns₁ : List Node) (why : Refusal) → ChildrenRight ns₀ ns₁ s k (part (done.free + 1) c2 done.ends) (Err why) →
            NodeRight ns₀ ns s done (Err why)
        node_kids_stop ns₁ why K = record {
          is = joined (Shows Laid nodes ends s ns done.free done.ends (Err why))
              (λ d hd. stop_then LaidAll nodes_all ends_all s ns₁ (done.free + 1) done.ends Laid nodes ends ns done.free done.ends why
              (read_all (read_tree d) k (from s c2.at) c2.at done.ends) (joins g) (K.is d hd));
          goes = tt;
        }

        -- the connective is put before its children, which stand where they stood
        module _ (ns₁ : List Node) (p : Part) (K : ChildrenRight ns₀ ns₁ s k (part (done.free + 1) c2 done.ends) (Ok p))
            (room : done.free < length ns₁) (put : ns ≡ set ns₁ done.free (node.Join (eqb g 2) k (p.free - (done.free + 1)))) where
          went : Went k ns₀ ns₁ (length s) c2.at done.ends (done.free + 1) p
          went = K.goes

          head : node_at ns done.free ≡ node.Join (eqb g 2) k (p.free - (done.free + 1))
          head = put_is ns₁ ns done.free (node.Join (eqb g 2) k (p.free - (done.free + 1))) room put

          keeps : (x : ℕ) → (x ≡ done.free → ⊥) → node_at ns x ≡ node_at ns₁ x
          keeps = put_keeps ns₁ ns done.free (node.Join (eqb g 2) k (p.free - (done.free + 1))) room put

          join_shows : (x : Reading Forest) → Yields x (λ ts l at'. count ts ≡ k) →
              Shows LaidAll nodes_all ends_all s ns₁ (done.free + 1) done.ends (Ok p) x →
              Shows Laid nodes ends s ns done.free done.ends (Ok p) (then x (joins g))
          unfolding Laid nodes ends
          join_shows (got ts l at') n h =
              let next = h.next in
              let size : p.free - (done.free + 1) ≡ nodes_all ts = omega arith in
              let is_all = is_all_join_of (eqb g 2) in
              let top = head in
              record {
                stands = (
                  cc,
                  move_all ts (node_at ns₁) (node_at ns) (done.free + 1) (done.free + 1)
                      (λ x lt. keeps (done.free + 1 + x) (λ e. omega arith)) h.stands,
                );
                next = omega arith;
                counted = h.counted;
                rest = h.rest;
                place = h.place;
              }
          join_shows (refused a q) n h = h

          pub node_join : NodeRight ns₀ ns s done (Ok p)
          node_join = record {
            is = joined (Shows Laid nodes ends s ns done.free done.ends (Ok p))
                (λ d hd. join_shows (read_all (read_tree d) k (from s c2.at) c2.at done.ends)
                (eq.all_counted (read_tree d) k _ _ done.ends) (K.is d hd));
            goes = record {
              on = omega (arith, went.on, tag.on, kids.on);
              inside = went.inside;
              fits = omega (arith, went.fits, kids.ranged);
              some = omega (arith, went.some);
              most = went.most;
              least = omega (arith, went.least, kids.ranged);
              kept = λ x lt. keeps x (λ e. omega arith) ∙ went.kept x (omega arith);
            };
          }

-- ---- children

abbrev adds : Tree → Forest → List ℕ → ℕ → Reading Forest
adds t ts l at = got (more t ts) l at

module _ (ns₀ : List Node) (s : List ℕ) (k : ℕ) (done : Part) where
  pub all_none : k ≡ 0 → May k s done (length ns₀) → ChildrenRight ns₀ ns₀ s k done (Ok done)
  unfolding Laid nodes ends
  all_none z may = record {
    is = λ d h. read_shows LaidAll nodes_all ends_all s ns₀ done.free done.ends done _ none
        (eq.no_child (read_tree d) k _ _ done.ends z) tt (omega arith) (omega arith);
    goes = record {
      on = omega arith;
      inside = may.inside;
      fits = omega arith;
      some = omega arith;
      most = omega (arith, may.few);
      least = omega arith;
      kept = λ x lt. refl;
    };
  }

  module _ (some : k ≡ 0 → ⊥) (ns₁ ns : List Node) where
    -- the first child is read, with the others owed beside it, and then the others
    abbrev first_read : ℕ → Reading Tree
    first_read d = read_tree d (from s done.cursor.at) done.cursor.at (done.ends + (k - 1))

    abbrev others_read : ℕ → Tree → List ℕ → ℕ → Reading Forest
    others_read d t l1 at1 = then (read_all (read_tree d) (k - 1) l1 at1 (done.ends + ends t)) (adds t)

    some_child : (P : Reading Forest → Type 0) (d : ℕ) → P (then (first_read d) (others_read d)) →
        P (read_all (read_tree d) k (from s done.cursor.at) done.cursor.at done.ends)
    some_child P d h = subst P (sym (eq.some_child (read_tree d) k _ _ done.ends some)) h

    pub first_stop : (why : Refusal) → NodeRight ns₀ ns₁ s (part done.free done.cursor (done.ends + (k - 1))) (Err why) →
        ChildrenRight ns₀ ns s k done (Err why)
    first_stop why F = record {
      is = λ d h. some_child (Shows LaidAll nodes_all ends_all s ns done.free done.ends (Err why)) d
          (stop_then Laid nodes ends s ns₁ done.free (done.ends + (k - 1)) LaidAll nodes_all ends_all ns done.free done.ends why
          (first_read d) (others_read d) (F.is d (omega arith)));
      goes = tt;
    }

    module _ (p : Part) (F : NodeRight ns₀ ns₁ s (part done.free done.cursor (done.ends + (k - 1))) (Ok p)) where
      abbrev rest_read : ℕ → Reading Forest
      rest_read d = read_all (read_tree d) (k - 1) (from s p.cursor.at) p.cursor.at (p.ends - (k - 1))

      after_first : (P : Reading Forest → Type 0) (d : ℕ) (x : Reading Tree) →
          Shows Laid nodes ends s ns₁ done.free (done.ends + (k - 1)) (Ok p) x →
          ((t : Tree) → Laid t (node_at ns₁) done.free → p.free ≡ done.free + nodes t → p.ends - (k - 1) ≡ done.ends + ends t →
          P (then (rest_read d) (adds t))) →
          P (then x (others_read d))
      after_first P d (got t l at) h f =
          let many : p.ends - (k - 1) ≡ done.ends + ends t = omega (arith, h.counted) in
          rw (h.rest, h.place, ← many) (f t h.stands h.next many)
      after_first P d (refused a q) h f = absurd h

      first_went : Went 1 ns₀ ns₁ (length s) done.cursor.at (done.ends + (k - 1)) done.free p
      first_went = F.goes

      module _ (r : Result Part Refusal) (R : ChildrenRight ns₁ ns s (k - 1) (part p.free p.cursor (p.ends - (k - 1))) r) where
        more_shows : (t : Tree) → Laid t (node_at ns₁) done.free → p.free ≡ done.free + nodes t → p.ends - (k - 1) ≡ done.ends + ends t →
            (q : Result Part Refusal) → IfOk q (Went (k - 1) ns₁ ns (length s) p.cursor.at (p.ends - (k - 1)) p.free) → (x : Reading Forest) →
            Shows LaidAll nodes_all ends_all s ns p.free (p.ends - (k - 1)) q x →
            Shows LaidAll nodes_all ends_all s ns done.free done.ends q (then x (adds t))
        unfolding Laid nodes ends
        more_shows t l z m (Ok q) w (got ts l' at') h =
            let next = h.next in
            let counted = h.counted in
            record {
              stands = (
                move t (node_at ns₁) (node_at ns) done.free done.free (λ x lt. w.kept (done.free + x) (omega arith)) l,
                subst (LaidAll ts (node_at ns)) z h.stands,
              );
              next = omega arith;
              counted = omega arith;
              rest = h.rest;
              place = h.place;
            }
        more_shows t l z m (Ok q) w (refused a p) h = h
        more_shows t l z m (Err why) w (got ts l' at') h = h
        more_shows t l z m (Err why) w (refused a p) h = h

        pub all_more : ChildrenRight ns₀ ns s k done r
        all_more = record {
          is = λ d h. some_child (Shows LaidAll nodes_all ends_all s ns done.free done.ends r) d
              (after_first (Shows LaidAll nodes_all ends_all s ns done.free done.ends r) d (first_read d) (F.is d (omega arith))
              (λ t l z m. more_shows t l z m r R.goes (rest_read d) (R.is d (omega (arith, first_went.least)))));
          goes = IfOk-weaker r _ _ (λ q w. record {
            on = omega (arith, first_went.on, w.on);
            inside = w.inside;
            fits = omega (arith, first_went.fits, w.fits);
            some = omega (arith, first_went.some, w.some);
            most = w.most;
            least = omega (arith, first_went.least, w.least);
            kept = λ x lt. w.kept x (omega (arith, first_went.some)) ∙ first_went.kept x lt;
          }) R.goes;
        }

-- so far in the children: whatever is read from here on as the `left` ones was read from the beginning as all k
pub record SoFar (ns₀ ns : List Node) (s : List ℕ) (k : ℕ) (begun done : Part) (left : ℕ) : Type 0 where
  pub may : May left s done (length ns)
  pub on : begun.cursor.at ≤ done.cursor.at
  pub all : (ns' : List Node) (r : Result Part Refusal) → ChildrenRight ns ns' s left done r → ChildrenRight ns₀ ns' s k begun r

pub begins : (ns : List Node) (s : List ℕ) (k : ℕ) (done : Part) → May k s done (length ns) → SoFar ns ns s k done done k
begins ns s k done may = record { may = may; on = omega arith; all = λ ns' r h. h }

module _ (ns₀ ns : List Node) (s : List ℕ) (k : ℕ) (begun done : Part) (left : ℕ) (far : SoFar ns₀ ns s k begun done left) where
  pub over : left ≡ 0 → ChildrenRight ns₀ ns s k begun (Ok done)
  over z = far.all _ _ (all_none ns s left done z far.may)

  module _ (some : 0 < left) (ns₁ : List Node) where
    pub stops_there : (why : Refusal) → NodeRight ns ns₁ s (part done.free done.cursor (done.ends + (left - 1))) (Err why) →
        ChildrenRight ns₀ ns₁ s k begun (Err why)
    stops_there why F = far.all _ _ (first_stop ns s left done (λ z. omega arith) ns₁ ns₁ why F)

    pub another : (p : Part) → NodeRight ns ns₁ s (part done.free done.cursor (done.ends + (left - 1))) (Ok p) → length ns₁ ≡ length ns →
        SoFar ns₀ ns₁ s k begun (part p.free p.cursor (p.ends - (left - 1))) (left - 1)
    another p F same =
        let went : Went 1 ns ns₁ (length s) done.cursor.at (done.ends + (left - 1)) done.free p = F.goes in
        record {
          may = record {
            inside = went.inside;
            few = omega (arith, went.most, went.least);
            before = omega (arith, went.fits, went.least, far.may.before);
            wide = omega (arith, far.may.wide);
          };
          on = omega (arith, far.on, went.on);
          all = λ ns' r R. far.all ns' r (all_more ns s left done (λ z. omega arith) ns₁ ns' p F r R);
        }

-- ---- the whole

from_start : (s : List ℕ) → from s 0 ≡ s
unfolding from
from_start s = refl

abbrev start : Part
start = part 0 (record { at = 0 }) 0

module _ (ns₀ ns : List Node) (s : List ℕ) where
  shown : (r : Result Part Refusal) → NodeRight ns₀ ns s start r → Shows Laid nodes ends s ns 0 0 r (read_tree most_ends s 0 0)
  shown r right = subst (λ l. Shows Laid nodes ends s ns 0 0 r (read_tree most_ends l 0 0)) (from_start s) (right.is most_ends (omega arith))

  pub whole_stops : (why : Refusal) → NodeRight ns₀ ns s start (Err why) → Holds ns (Err why) (read_of s)
  unfolding read_of
  whole_stops why right = by (read_tree most_ends s 0 0) (shown (Err why) right)
    where
      by : (x : Reading Tree) → Shows Laid nodes ends s ns 0 0 (Err why) x → Holds ns (Err why) (whole x)
      by (got t l at) h = absurd h
      by (refused a p) h = h

  module _ (p : Part) (right : NodeRight ns₀ ns s start (Ok p)) where
    pub whole_after : p.cursor.at < length s → Holds ns (Err (After p.cursor.at)) (read_of s)
    unfolding read_of
    whole_after lt = by (read_tree most_ends s 0 0) (shown (Ok p) right)
      where
        by : (x : Reading Tree) → Shows Laid nodes ends s ns 0 0 (Ok p) x → Holds ns (Err (After p.cursor.at)) (whole x)
        by (got t l at) h = rw (h.rest, first_byte s p.cursor.at _ lt refl) (refl, h.place)
        by (refused a q) h = absurd h

    pub whole_read : length s ≤ p.cursor.at → Holds ns (Ok tt) (read_of s)
    unfolding read_of
    whole_read le = by (read_tree most_ends s 0 0) (shown (Ok p) right)
      where
        went : Went 1 ns₀ ns (length s) 0 0 0 p
        went = right.goes

        by : (x : Reading Tree) → Shows Laid nodes ends s ns 0 0 (Ok p) x → Holds ns (Ok tt) (whole x)
        by (got t l at) h = rw (h.rest, no_bytes s p.cursor.at le) (h.stands, omega (arith, h.next, went.fits, went.most))
        by (refused a q) h = absurd h
