-- What each way out of `guess`, `attempt` and `find` shows. With no `or` left, the table's own assignment finishes the work. A child that
-- fails rules itself out, so what is left to try is the others. From the range to all whole numbers goes the small-model fact.
use Prim.Native.Nat.{ℕ, zero, suc, ◌+◌, ◌-◌, ◌*◌, ◌≤◌, ◌<◌}
use mathlib.Core.Path.{◌≡◌, refl, sym, subst, ap, ◌∙◌}
use mathlib.Core.List.{List, [], ◌∷◌}
use mathlib.Core.Logic.{◌↔◌}
use mathlib.Core.Bool.{Bool, true, false, ◌||◌, true≢false}
use native.Mathlib.Omega.{arith}
use native.Mathlib.Decide.{dec_le}
use lib.IntN.{ℤ, pos}
use lib.ListN.{length, get_or, get_or-eq_default}
use Rattle.std.specs.Prelude.{Option, Some, None}
use Rattle.std.specs.Option.{unwrap_or}
use Rattle.std.proofs.lemmas.Option.{none-some}
use Rattle.std.proofs.lemmas.Bool.{and_parts, and_from}
use Rattle.condition.specs.Limits.{last_boolean, booleans, last_number, question_room}
use Rattle.condition.specs.Meaning.{Assignment, value, met, any, Tree, Forest, none, more, count, holds, each, given}
use Rattle.condition.specs.Satisfying.{Satisfiable, Named, NamedAll}
use Rattle.condition.proofs.Small.{small}
use Rattle.differences.specs.Distances.{distances}
use Rattle.differences.specs.Table.{Meets, Closed, tightest}
use Rattle.differences.proofs.Closed.{tightest_meets}
use Rattle.nodes.specs.declared.Node.{Node}
use Rattle.nodes.specs.Memory.{count_of, size_of}
use Rattle.nodes.specs.Laid.{nodes, nodes_all, Laid, LaidAll}
use Rattle.nodes.proofs.Laws.{some_node, sized, counted, at_none, at_more}
use Rattle.settling.specs.declared.settled.Settled.{Settled}
use Rattle.settling.specs.declared.Found.{Found}
use Rattle.settling.specs.Settled.{Agrees, Clear, Stands, Waits, owed, bulk, Work, Done, Settles}
use Rattle.settling.specs.Settled.{Bits, Shows, Answers, Chosen, Guesses, Attempts, Right, Finds}
use Rattle.settling.proofs.Forests.{nothing_left}
use Rattle.settling.proofs.Taking.{kept}

-- an answer about one claim is one about an equal claim
answers_same : {P Q : Assignment → Type 0} → ((a : Assignment) → P a ↔ Q a) → (r : Option Found) → Answers P r → Answers Q r
answers_same f (Some x) h = (f _).0 h
answers_same f None h = λ a q. h a ((f a).1 q)

-- ---- the assignment shown

given_value : (bits : ℕ) (numbers : List ℤ) (t : List ℕ) (f : ℕ → Bool) → Shows t numbers → (x : ℕ) → x ≤ last_number →
    value (given bits numbers) x ≡ value (tightest f t) x
unfolding value given
given_value bits numbers t f s zero h = refl
given_value bits numbers t f s (suc x) h = ap (λ k. get_or numbers k (pos 0)) (omega arith) ∙ s.each x (omega arith) f

given_meets : (bits : ℕ) (numbers : List ℤ) (t : List ℕ) → Closed t → Shows t numbers → Meets t (given bits numbers)
unfolding met
given_meets bits numbers t c s = record {
  each = λ i j hi hj. rw (given_value bits numbers t (λ p. true) s i hi, given_value bits numbers t (λ p. true) s j hj)
      ((tightest_meets c (λ p. true)).each i j hi hj);
}

given_agrees : (bits : ℕ) (numbers : List ℤ) (b : List (Option Bool)) → length b ≡ booleans → Bits b bits → Agrees b (given bits numbers)
unfolding given
given_agrees bits numbers b z h = record {
  says = λ p so e. elim (dec_le p last_boolean) [
    | yes l ↦ h.each p l ∙ ap (λ x. unwrap_or x false) e
    | no g ↦ absurd (none-some so (sym (get_or-eq_default b None (omega arith)) ∙ e))
  ];
}

-- nothing waits
pub guess_done : (n : ℕ → Node) (s : Settled) (left : ℕ) → s.many ≡ 0 → length s.flags ≡ booleans → (bits : ℕ) (numbers : List ℤ) →
    Bits s.flags bits → Shows (distances s.table) numbers → Guesses n s left (Some (record { flags = bits; numbers = numbers }))
unfolding Waits owed holds
guess_done n s left z size bits numbers h shows os w few time = by os w
  where
    by : (os : List Tree) → Waits os n s.ors s.many → Done s none os (given bits numbers)
    by [] w = record {
      knows = record { flags = given_agrees bits numbers s.flags size h; numbers = given_meets bits numbers (distances s.table) s.table.closed shows };
      each = refl;
      owed = refl;
    }
    by (u ∷ os) w = absurd (omega (arith, w.0))

-- ---- guess: the `or` on top, child by child

-- what is left to try: k trees from node `from` on, in place of the `or`s os
pub record Rest (n : ℕ → Node) (s : Settled) (spare from k : ℕ) (os : List Tree) : Type 0 where
  pub us : Forest
  pub under : List Tree
  pub work : Work n from us s.ors (s.many - 1) under
  pub many : count us ≡ k
  pub time : 3 * (bulk under + nodes_all us) + 3 < spare
  pub same : (a : Assignment) → Chosen s us under a ↔ Done s none os a

pub record Left (n : ℕ → Node) (s : Settled) (left spare from k : ℕ) : Type 0 where
  pub small : from ≤ 256
  pub falls : spare ≤ left
  pub rest : (os : List Tree) → Waits os n s.ors s.many → bulk os ≤ question_room → 3 * bulk os < left → Rest n s spare from k os

module _ (n : ℕ → Node) (s : Settled) (left : ℕ) where
  pub guess_begun : (s.many ≡ 0 → ⊥) → (top k : ℕ) → top < 256 → top ≡ get_or s.ors (s.many - 1) 0 → k ≡ count_of (n top) →
      Left n s left left (top + 1) k
  unfolding Waits owed bulk nodes holds
  guess_begun nz top k small et ek = record { small = omega arith; falls = omega arith; rest = by }
    where
      by : (os : List Tree) → Waits os n s.ors s.many → bulk os ≤ question_room → 3 * bulk os < left → Rest n s left (top + 1) k os
      by [] w few time = absurd (nz w)
      by (u ∷ os) w few time =
          let x = w.1 in
          let st : Stands u n top = subst (Stands u n) (sym et) w.2 in
          let size : nodes u ≡ nodes_all x.ts + 1 = ap nodes x.same in
          let c = counted n top x.ts any (subst (λ y. Laid y n top) x.same st.laid) in
          record {
            us = x.ts;
            under = os;
            work = record { laid = c.1; named = x.named; waits = w.3; near = omega (arith, st.near); few = omega arith };
            many = sym (ek ∙ c.0);
            time = omega arith;
            same = λ a. (
              (λ d. record { knows = d.knows; each = refl; owed = and_from _ _ (ap (λ y. holds y a) x.same ∙ d.one) d.owed }),
              (λ d. let q = and_parts (holds u a) (owed os a) d.owed in record
                  { knows = d.knows; one = sym (ap (λ y. holds y a) x.same) ∙ q.0; owed = q.1 }),
            );
          }

  module _ (spare from k : ℕ) (p : Left n s left spare from k) where
    pub guess_over : k ≡ 0 → Guesses n s left None
    unfolding holds
    guess_over z os w few time a d =
        let r = p.rest os w few time in
        let c = (r.same a).1 d in
        true≢false (sym (ap (λ x. each x any a) (sym (at_none r.us k r.many z)) ∙ c.one))

    -- the tries never run out before the children do
    pub guess_late : spare < 3 → Guesses n s left None
    guess_late late os w few time = let r = p.rest os w few time in omega (arith, r.time)

    module _ (nz : k ≡ 0 → ⊥) (size : ℕ) (is : size ≡ size_of (n from)) where
      pub guess_far : question_room < from + size → Guesses n s left None
      guess_far far os w few time a d =
          let r = p.rest os w few time in
          let f = at_more r.us n from k r.many nz r.work.laid in
          omega (arith, sized f.t n from f.laid, f.total, r.work.near)

      -- the first child alone, and the others
      record Child (os : List Tree) : Type 0 where
        r : Rest n s spare from k os
        u : Tree
        others : Forest
        both : r.us ≡ more u others
        work : Work n from (more u none) s.ors (s.many - 1) r.under
        end : from + nodes_all (more u none) ≡ from + size
        work' : Work n (from + size) others s.ors (s.many - 1) r.under
        fewer : count others ≡ k - 1
        total : nodes_all r.us ≡ nodes_all (more u none) + nodes_all others
        some : 1 ≤ nodes_all (more u none)

      child : (os : List Tree) → Waits os n s.ors s.many → bulk os ≤ question_room → 3 * bulk os < left → Child os
      unfolding nodes Laid Named
      child os w few time =
          let r = p.rest os w few time in
          let f = at_more r.us n from k r.many nz r.work.laid in
          let z : from + size ≡ from + nodes f.t = ap (λ x. from + x) (is ∙ sized f.t n from f.laid) in
          let g : NamedAll (more f.t f.us) = subst NamedAll f.forest r.work.named in
          let v = r.work in
          record {
            r = r;
            u = f.t;
            others = f.us;
            both = f.forest;
            work = record
                { laid = (f.laid, tt); named = (g.0, tt); waits = v.waits; near = omega (arith, v.near, f.total); few = omega (arith, v.few, f.total) };
            end = omega arith;
            work' = record {
              laid = subst (LaidAll f.us n) (sym z) f.others;
              named = g.1;
              waits = v.waits;
              near = omega (arith, v.near, f.total);
              few = omega (arith, v.few, f.total);
            };
            fewer = f.many;
            total = omega (arith, f.total);
            some = omega (arith, some_node f.t);
          }

      -- it makes the whole true
      chosen_first : (os : List Tree) (c : Child os) (a : Assignment) → Done s (more c.u none) c.r.under a → Chosen s c.r.us c.r.under a
      unfolding holds
      chosen_first os c a d = record {
        knows = d.knows;
        one = ap (λ x. each x any a) c.both ∙ ap (λ x. x || each c.others any a) (and_parts (holds c.u a) true d.each).0;
        owed = d.owed;
      }

      -- if it can't, the others must
      chosen_rest : (os : List Tree) (c : Child os) → ((a : Assignment) → Done s (more c.u none) c.r.under a → ⊥) →
          (a : Assignment) → Chosen s c.others c.r.under a ↔ Chosen s c.r.us c.r.under a
      unfolding holds
      chosen_rest os c no_one a = (
        (λ d. record { knows = d.knows; one = ap (λ x. each x any a) c.both ∙ more_true (holds c.u a) d.one; owed = d.owed }),
        (λ d. record { knows = d.knows; one = by (holds c.u a) refl d (sym (ap (λ x. each x any a) c.both) ∙ d.one); owed = d.owed }),
      )
        where
          more_true : (v : Bool) → each c.others any a ≡ true → (v || each c.others any a) ≡ true
          more_true true e = refl
          more_true false e = e

          by : (v : Bool) → holds c.u a ≡ v → Chosen s c.r.us c.r.under a → (v || each c.others any a) ≡ true → each c.others any a ≡ true
          by true e d q = absurd (no_one a (record { knows = d.knows; each = and_from _ _ e refl; owed = d.owed }))
          by false e d q = q

      pub guess_found : (f : Found) → Attempts n from (from + size) s (spare - 3) (Some f) → Guesses n s left (Some f)
      guess_found f h os w few time =
          let c = child os w few time in
          (c.r.same _).0 (chosen_first os c _ (h (more c.u none) c.r.under c.work c.end (omega (arith, c.total, c.r.time))))

      pub guess_next : from + size ≤ question_room → (k' : ℕ) → k' ≡ k - 1 → Attempts n from (from + size) s (spare - 3) None →
          Left n s left (spare - 1) (from + size) k'
      guess_next near k' one h = record {
        small = omega arith;
        falls = omega (arith, p.falls);
        rest = λ os w few time.
            let c = child os w few time in
            let no_one = h (more c.u none) c.r.under c.work c.end (omega (arith, c.total, c.r.time)) in
            record {
              us = c.others;
              under = c.r.under;
              work = c.work';
              many = c.fewer ∙ sym one;
              time = omega (arith, c.total, c.r.time, c.some);
              same = λ a. let q = chosen_rest os c no_one a in ((λ d. (c.r.same a).0 (q.0 d)), (λ d. q.1 ((c.r.same a).1 d)));
            };
      }

-- ---- attempt

-- the copy has all that is settled, without the `or` on top
module _ (n : ℕ → Node) (from to : ℕ) (s : Settled) (left : ℕ) (copy : Settled) (ors : copy.ors ≡ s.ors) (many : copy.many ≡ s.many - 1)
    (flags : copy.flags ≡ s.flags) (table : copy.table ≡ s.table) where
  work : (us : Forest) (os : List Tree) → Work n from us s.ors (s.many - 1) os → Work n from us copy.ors copy.many os
  work us os w = rw (ors, many) w

  done : (us : Forest) (os : List Tree) (a : Assignment) → Done copy us os a ↔ Done s us os a
  done us os a = (
    (λ d. record { knows = kept flags table a d.knows; each = d.each; owed = d.owed }),
    (λ d. record { knows = kept (sym flags) (sym table) a d.knows; each = d.each; owed = d.owed }),
  )

  pub attempt_guessed : (s' : Settled) → Settles n from to copy true s' → (r : Option Found) → Guesses n s' left r →
      Attempts n from to s left r
  attempt_guessed s' h r g us os w e time =
      let q = h.goes refl us os (work us os w) e in
      let m = nothing_left q.us' (omega (arith, q.end)) in
      answers_same
      (λ a. (
        (λ d. (done us os a).0 ((q.same a).0 (subst (λ x. Done s' x q.os' a) (sym m) d))),
        (λ d. subst (λ x. Done s' x q.os' a) m ((q.same a).1 ((done us os a).1 d))),
      ))
      r
      (g q.os' q.work.waits (omega (arith, q.work.few)) (omega (arith, q.less, w.few)))

-- ---- find

pub find_none : (n : ℕ → Node) → (size_of (n 0) ≤ question_room → ⊥) → Finds n None
find_none n h = record { right = λ u l few f. absurd (h (omega (arith, sized u n 0 l))) }

module _ (n : ℕ → Node) (s : Settled) (clear : Clear s) where
  -- the whole tree, nothing settled and nothing waiting
  whole : (u : Tree) → Laid u n 0 → nodes u ≤ question_room → Named u → Work n 0 (more u none) s.ors s.many []
  unfolding bulk nodes Waits Laid Named
  whole u l few f = record { laid = (l, tt); named = (f, tt); waits = clear.waits; near = omega arith; few = omega arith }

  end : (u : Tree) (size : ℕ) → Laid u n 0 → size ≡ size_of (n 0) → 0 + nodes_all (more u none) ≡ size
  unfolding nodes
  end u size l e = omega (arith, sized u n 0 l)

  -- an assignment that satisfies the tree is one in range that finishes the work
  done_by : (u : Tree) → Named u → Satisfiable u → (a : Assignment) × Done s (more u none) [] a
  unfolding holds owed
  done_by u f sat =
      let m = small u f sat in (
        m.0,
        record {
          knows = record { flags = record { says = λ p so e. absurd (none-some so (sym (clear.flags p) ∙ e)) }; numbers = (clear.numbers.meets m.0).1 m.1 };
          each = and_from _ _ m.2 refl;
          owed = refl;
        },
      )

  module _ (size : ℕ) (is : size ≡ size_of (n 0)) (s' : Settled) where
    pub find_stopped : Settles n 0 size s false s' → Finds n None
    find_stopped h = record {
      right = λ u l few f sat.
          let d = done_by u f sat in
          h.stops refl (more u none) [] (whole u l few f) (end u size l is) d.0 d.1;
    }

    guessed : Settles n 0 size s true s' → (r : Option Found) (left : ℕ) → 3 * question_room < left → Guesses n s' left r → (u : Tree) → Laid u n 0 →
        nodes u ≤ question_room → Named u → Answers (Done s (more u none) []) r
    unfolding bulk
    guessed h r left enough g u l few f =
        let q = h.goes refl (more u none) [] (whole u l few f) (end u size l is) in
        let m = nothing_left q.us' (omega (arith, q.end, end u size l is)) in
        answers_same
        (λ a. (
          (λ d. (q.same a).0 (subst (λ x. Done s' x q.os' a) (sym m) d)),
          (λ d. subst (λ x. Done s' x q.os' a) m ((q.same a).1 d)),
        ))
        r
        (g q.os' q.work.waits (omega (arith, q.work.few)) (omega (arith, q.work.few)))

    pub find_guessed : Settles n 0 size s true s' → (r : Option Found) (left : ℕ) → 3 * question_room < left → Guesses n s' left r → Finds n r
    unfolding holds
    find_guessed h r left enough g = record { right = λ u l few f. right u f r (guessed h r left enough g u l few f) }
      where
        right : (u : Tree) → Named u → (r : Option Found) → Answers (Done s (more u none) []) r → Right u r
        right u f (Some found) d =
            let a = given found.flags found.numbers in
            ((and_parts (holds u a) true d.each).0, (clear.numbers.meets a).0 d.knows.numbers)
        right u f None d = λ sat. let e = done_by u f sat in d e.0 e.1
