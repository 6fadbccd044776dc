-- What settling one node shows, a law for each kind: an end is worked into what is settled, an `and` is opened, an `or` is put on the
-- stack. In each the same assignments finish the work as before; and what does so step by step does so over a run of nodes.
use Prim.Native.Nat.{ℕ, ◌+◌, ◌-◌, ◌≤◌, ◌<◌}
use mathlib.Core.Path.{◌≡◌, refl, sym, subst, ap, ◌∙◌}
use mathlib.Core.List.{List, [], ◌∷◌}
use mathlib.Core.Logic.{◌↔◌}
use mathlib.Core.Bool.{Bool, true, false, ◌&&◌, true≢false}
use native.Mathlib.Omega.{arith}
use lib.ListN.{length, set}
use lib.Seq.{get_or-set_same, get_or-set_other}
use Rattle.std.specs.Prelude.{Option, Some, None}
use Rattle.std.specs.Bool.{then_some}
use Rattle.std.proofs.lemmas.Bool.{and_parts, and_from}
use Rattle.condition.specs.Meaning.{Assignment, End, all, any, Tree, leaf, join, Forest, more, holds, each}
use Rattle.condition.specs.Satisfying.{Named, NamedAll}
use Rattle.nodes.specs.declared.Node.{Node}
use Rattle.nodes.specs.declared.Node.TheVariants as node
use Rattle.nodes.specs.Laid.{flag_end, bound_end, nodes, nodes_all, Laid, LaidAll}
use Rattle.nodes.proofs.Laws.{some_node, at_plain, at_flag, at_bound, at_join}
use Rattle.settling.specs.declared.settled.Settled.{Settled}
use Rattle.settling.specs.Settled.{Knows, Fixes, Stacks, Or, Stands, Waits, owed, bulk, Work, Done, Reaches, Takes, Settles}
use Rattle.settling.proofs.Forests.{append, append_nodes, append_laid, append_named, append_each, first}

-- ---- the stack

-- as many wait as there are, each with a node or more
pub many_few : (os : List Tree) (n : ℕ → Node) (o : List ℕ) (many : ℕ) → Waits os n o many → many ≤ bulk os
unfolding Waits bulk
many_few [] n o many w = omega arith
many_few (u ∷ os) n o many w = omega (arith, some_node u, many_few os n o (many - 1) w.3)

-- what is put above them leaves them
waits_set : (os : List Tree) (n : ℕ → Node) (o : List ℕ) (m many v : ℕ) → m ≤ many → Waits os n o m → Waits os n (set o many v) m
unfolding Waits
waits_set [] n o m many v h w = w
waits_set (u ∷ os) n o m many v h w = (
  w.0,
  w.1,
  subst (Stands u n) (sym (get_or-set_other o many (m - 1) v 0 (λ e. omega (arith, w.0)))) w.2,
  waits_set os n o
      (m - 1) many v (omega arith) w.3,
)

waits_push : (u : Tree) (os : List Tree) (n : ℕ → Node) (o : List ℕ) (many i : ℕ) → many < length o → Or u → Stands u n i →
    Waits os n o many → Waits (u ∷ os) n (set o many i) (many + 1)
unfolding Waits
waits_push u os n o many i h is s w =
    let e : many + 1 - 1 ≡ many = omega arith in
    (omega arith, is, rw (e, get_or-set_same o many i 0 h) s, rw e (waits_set os n o many many i (omega arith) w))

-- what is known is what is settled of the booleans and of the numbers
pub kept : {s s' : Settled} → s'.flags ≡ s.flags → s'.table ≡ s.table → (a : Assignment) → Knows s' a → Knows s a
kept f t a k = record { flags = rw f at k.flags; numbers = rw t at k.numbers }

-- ---- one node

module _ {n : ℕ → Node} {i : ℕ} {us : Forest} {o : List ℕ} {many : ℕ} {os : List Tree} (w : Work n i us o many os) (u : Tree)
    (rest : Forest) (same : us ≡ more u rest) where
  laid_first : Laid u n i × LaidAll rest n (i + nodes u)
  unfolding Laid
  laid_first = subst (λ x. LaidAll x n i) same w.laid

  named_first : Named u × NamedAll rest
  unfolding Named
  named_first = subst NamedAll same w.named

  size_first : nodes_all us ≡ nodes u + nodes_all rest
  unfolding nodes
  size_first = ap nodes_all same

  each_first : (a : Assignment) → each us all a ≡ (holds u a && each rest all a)
  unfolding holds
  each_first a = ap (λ x. each x all a) same

module _ {n : ℕ → Node} {i : ℕ} {us : Forest} {s : Settled} {os : List Tree} (w : Work n i us s.ors s.many os) (u : Tree)
    (rest : Forest) (same : us ≡ more u rest) where
  -- a node that is done with, and what was learned of it
  end_taken : (s' : Settled) → s'.ors ≡ s.ors → s'.many ≡ s.many → nodes u ≡ 1 →
      ((a : Assignment) → Knows s' a ↔ (Knows s a × (holds u a ≡ true))) → Reaches n i us os s (i + 1) s'
  end_taken s' o m one iff = record {
    us' = rest;
    os' = os;
    work = record {
      laid = subst (λ x. LaidAll rest n (i + x)) one (laid_first w u rest same).1;
      named = (named_first w u rest same).1;
      waits = rw (o, m) w.waits;
      near = omega (arith, w.near, size_first w u rest same);
      few = omega (arith, w.few, size_first w u rest same);
    };
    end = omega (arith, size_first w u rest same);
    less = omega (arith, size_first w u rest same);
    same = λ a. (
      (λ d. let k = (iff a).0 d.knows in record { knows = k.0; each = each_first w u rest same a ∙ and_from _ _ k.1 d.each; owed = d.owed }),
      (λ d. let e = and_parts (holds u a) (each rest all a) (sym (each_first w u rest same a) ∙ d.each) in record
          { knows = (iff a).1 (d.knows, e.0); each = e.1; owed = d.owed }),
    );
  }

  end_stops : ((a : Assignment) → Knows s a → holds u a ≡ true → ⊥) → (a : Assignment) → Done s us os a → ⊥
  end_stops no_one a d = no_one a d.knows (and_parts (holds u a) (each rest all a) (sym (each_first w u rest same a) ∙ d.each)).0

  -- an `and`: its children first
  and_taken : (ts : Forest) → u ≡ join all ts → LaidAll ts n (i + 1) → Reaches n i us os s (i + 1) s
  unfolding nodes holds Named
  and_taken ts e l =
      let z : nodes u ≡ nodes_all ts + 1 = ap nodes e in
      let f : Named (join all ts) = subst Named e (named_first w u rest same).0 in
      let m = append_nodes rest ts in
      let v : (a : Assignment) → each us all a ≡ each (append ts rest) all a = λ a. each_first w u rest same a ∙ ap
      (λ x. holds x a && each rest all a) e ∙ sym (append_each ts rest a) in
      record {
        us' = append ts rest;
        os' = os;
        work = record {
          laid = append_laid rest ts n (i + 1) l (subst (LaidAll rest n) (omega arith) (laid_first w u rest same).1);
          named = append_named rest ts f (named_first w u rest same).1;
          waits = w.waits;
          near = omega (arith, w.near, size_first w u rest same);
          few = omega (arith, w.few, size_first w u rest same);
        };
        end = omega (arith, size_first w u rest same);
        less = omega (arith, size_first w u rest same);
        same = λ a. (
          (λ d. record { knows = d.knows; each = v a ∙ d.each; owed = d.owed }),
          (λ d. record { knows = d.knows; each = sym (v a) ∙ d.each; owed = d.owed }),
        );
      }

  -- an `or` waits
  or_taken : (ts : Forest) (below : ℕ) → u ≡ join any ts → nodes_all ts ≡ below → s.many < length s.ors → (s' : Settled) →
      Stacks s i true s' → Reaches n i us os s (i + 1 + below) s'
  unfolding nodes owed bulk Named
  or_taken ts below e z room s' h =
      let m : nodes u ≡ nodes_all ts + 1 = ap nodes e in
      let f : Named (join any ts) = subst Named e (named_first w u rest same).0 in
      record {
        us' = rest;
        os' = u ∷ os;
        work = record {
          laid = subst (LaidAll rest n) (omega arith) (laid_first w u rest same).1;
          named = (named_first w u rest same).1;
          waits = rw (h.ors refl, h.many refl) (waits_push u os n s.ors s.many i room (record { ts = ts; same = e; named = f })
              (record { laid = (laid_first w u rest same).0; near = omega (arith, w.near, size_first w u rest same) }) w.waits);
          near = omega (arith, w.near, size_first w u rest same);
          few = omega (arith, w.few, size_first w u rest same);
        };
        end = omega (arith, size_first w u rest same);
        less = omega (arith, size_first w u rest same);
        same = λ a. (
          (λ d. let q = and_parts (holds u a) (owed os a) d.owed in record
              { knows = kept h.flags h.table a d.knows; each = each_first w u rest same a ∙ and_from _ _ q.0 d.each; owed = q.1 }),
          (λ d. let q = and_parts (holds u a) (each rest all a) (sym (each_first w u rest same a) ∙ d.each) in record
              { knows = kept (sym h.flags) (sym h.table) a d.knows; each = q.1; owed = and_from _ _ q.0 d.owed }),
        );
      }

-- ---- what `take` shows

module _ (n : ℕ → Node) (i : ℕ) (s : Settled) where
  pub take_plain : (b : Bool) (r : Option ℕ) → n i ≡ node.Plain b → r ≡ then_some b (i + 1) → Takes n i s r s
  unfolding nodes holds
  take_plain true r q e = rw e (
    omega arith,
    λ us os w some.
        let f = first us some in
        let t = at_plain n i f.u true q (laid_first w f.u f.rest f.same).0 in
        end_taken w f.u f.rest f.same s refl refl (ap nodes t) (λ a. ((λ k. (k, ap (λ x. holds x a) t)), (λ k. k.0))),
  )
  take_plain false r q e = rw e (λ us os w some.
      let f = first us some in
      let t = at_plain n i f.u false q (laid_first w f.u f.rest f.same).0 in
      end_stops w f.u f.rest f.same (λ a k y. true≢false (sym y ∙ ap (λ x. holds x a) t)))

  -- a boolean or a bound
  take_end : (e : End) (ok : Bool) (r : Option ℕ) (s' : Settled) → ((t : Tree) → Laid t n i → t ≡ leaf e) → Fixes s e ok s' →
      r ≡ then_some ok (i + 1) → Takes n i s r s'
  unfolding nodes holds Named
  take_end e true r s' is l q = rw q (
    omega arith,
    λ us os w some.
        let f = first us some in
        let t = is f.u (laid_first w f.u f.rest f.same).0 in
        end_taken w f.u f.rest f.same s' l.ors l.many (ap nodes t) (λ a. (
          (λ k. let y = (l.meets refl a).0 k in (y.0, ap (λ x. holds x a) t ∙ y.1)),
          (λ k. (l.meets refl a).1 (k.0, sym (ap (λ x. holds x a) t) ∙ k.1)),
        )),
  )
  take_end e false r s' is l q = rw q (λ us os w some.
      let f = first us some in
      let t = is f.u (laid_first w f.u f.rest f.same).0 in
      end_stops w f.u f.rest f.same
      (λ a k y. l.none refl (subst Named t (named_first w f.u f.rest f.same).0) a k (sym (ap (λ x. holds x a) t) ∙ y)))

  pub take_flag : (so : Bool) (p : ℕ) (ok : Bool) (r : Option ℕ) (s' : Settled) → n i ≡ node.Flag so p → Fixes s (flag_end so p) ok s' →
      r ≡ then_some ok (i + 1) → Takes n i s r s'
  take_flag so p ok r s' q = take_end (flag_end so p) ok r s' (λ t. at_flag n i t so p q)

  pub take_bound : (so : Bool) (x y v : ℕ) (ok : Bool) (r : Option ℕ) (s' : Settled) → n i ≡ node.Bound so x y v →
      Fixes s (bound_end so x y v) ok s' → r ≡ then_some ok (i + 1) → Takes n i s r s'
  take_bound so x y v ok r s' q = take_end (bound_end so x y v) ok r s' (λ t. at_bound n i t so x y v q)

  pub take_and : (k below : ℕ) → n i ≡ node.Join true k below → Takes n i s (Some (i + 1)) s
  take_and k below q = (
    omega arith,
    λ us os w some.
        let f = first us some in
        let j = at_join n i f.u true k below q (laid_first w f.u f.rest f.same).0 in
        and_taken w f.u f.rest f.same j.ts j.tree j.laid,
  )

  pub take_or : (k below : ℕ) (ok : Bool) (r : Option ℕ) (s' : Settled) → n i ≡ node.Join false k below →
      Stacks s i ok s' → r ≡ then_some ok (i + 1 + below) → Takes n i s r s'
  take_or k below true r s' q h e = rw e (
    omega arith,
    λ us os w some.
        let f = first us some in
        let j = at_join n i f.u false k below q (laid_first w f.u f.rest f.same).0 in
        or_taken w f.u f.rest f.same j.ts below j.tree j.below (h.room refl) s' h,
  )
  take_or k below false r s' q h e = rw e (λ us os w some a d. omega (arith, h.full refl, many_few os n s.ors s.many w.waits, w.few))

-- ---- a run of nodes

-- so far
pub record Progress (n : ℕ → Node) (from to : ℕ) (s : Settled) (i : ℕ) (s' : Settled) : Type 0 where
  pub so_far : (us : Forest) (os : List Tree) → Work n from us s.ors s.many os → from + nodes_all us ≡ to → Reaches n from us os s i s'

module _ (n : ℕ → Node) (from to : ℕ) (s : Settled) where
  module _ (i : ℕ) (s₁ : Settled) (p : Progress n from to s i s₁) where
    -- a node is left to take
    left : i < to → (us : Forest) (os : List Tree) (w : Work n from us s.ors s.many os) (e : from + nodes_all us ≡ to) →
        1 ≤ nodes_all (p.so_far us os w e).us'
    left h us os w e = omega (arith, (p.so_far us os w e).end)

    pub progress_more : i < to → (i' : ℕ) (s' : Settled) → Takes n i s₁ (Some i') s' → Progress n from to s i' s'
    progress_more h i' s' k = record {
      so_far = λ us os w e.
          let r = p.so_far us os w e in
          let r' = k.1 r.us' r.os' r.work (left h us os w e) in
          record {
            us' = r'.us';
            os' = r'.os';
            work = r'.work;
            end = r'.end ∙ r.end;
            less = omega (arith, r.less, r'.less);
            same = λ a. ((λ d. (r.same a).0 ((r'.same a).0 d)), (λ d. (r'.same a).1 ((r.same a).1 d)));
          };
    }

    pub settle_stops : i < to → (s' : Settled) → Takes n i s₁ None s' → Settles n from to s false s'
    settle_stops h s' k = record {
      goes = λ bad. absurd (true≢false (sym bad));
      stops = λ e us os w q a d.
          let r = p.so_far us os w q in
          k r.us' r.os' r.work (left h us os w q) a ((r.same a).1 d);
    }
