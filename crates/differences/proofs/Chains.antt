-- "A set of differences is satisfiable exactly if no closed chain of them sums below zero." One way, values along a chain differ by at
-- most its sum, and along a closed one by 0. For the other, names are taken out one at a time, the highest first: of the chains at hand,
-- each to that name is joined with each from it, and values that meet the joined ones leave room for its own, at least each bound from
-- below and at most each from above. So all have values in the end, unless a chain from a name to itself was below zero on the way.
use Prim.Native.Nat.{ℕ, zero, suc, ◌+◌, ◌≤◌, ◌<◌}
use mathlib.Core.Path.{◌≡◌, refl, sym, subst, ◌∙◌}
use mathlib.Core.Logic.{◌↔◌, ◌⊎◌, inl, inr, ⊎_elim, ⊎_map}
use mathlib.Core.List.{List, [], ◌∷◌, Memᴰ}
use mathlib.Core.Bool.{true, false, cond}
use native.Mathlib.Omega.{arith}
use native.Mathlib.Decide.{ℕ_discrete, dec_le}
use lib.Dec.{eqb}
use lib.IntN.{ℤ, pos, negsuc, ◌+ℤ◌, ◌-ℤ◌, +ℤ_assoc}
use lib.Signed.{lt_z}
use borrow.Author.Tests.{ltb-true, eq-eqb, ne_eqb}
use Rattle.condition.specs.Meaning.{Assignment, value, met}
use Rattle.condition.proofs.Negation.{up, down, +ℤ-sides}
use Rattle.condition.proofs.Small.{minus, at_most_lem}
use Rattle.differences.specs.Chains.{Difference, end, Each, SatisfiableAll, Chain, link, more, BelowZero}

each_of : {A : Type 0} (P : A → Type 0) {a : A} {l : List A} → Each P l → Memᴰ a l → P a
each_of P h (Memᴰ.head e) = subst P (sym e) h.0
each_of P h (Memᴰ.tail m) = each_of P h.1 m

each_map : {A : Type 0} (P Q : A → Type 0) → ((a : A) → P a → Q a) → (l : List A) → Each P l → Each Q l
each_map P Q f [] h = tt
each_map P Q f (a ∷ l) h = (f a h.0, each_map P Q f l h.1)

-- a value for each name, the first number less the second
abbrev Values : Type 0
Values = ℕ → ℕ × ℕ

-- p - q <= c
abbrev Held : (p q : ℕ × ℕ) → ℤ → Type 0
Held p q c = p.0 + q.1 + down c ≤ q.0 + p.1 + up c

abbrev sides : Assignment → Values
sides a x = (up (value a x), down (value a x))

-- One way

along_link : {ds : List Difference} (a : Assignment) → Each (λ d. met (end d) a ≡ true) ds → {d : Difference} → Memᴰ d ds →
    Held (sides a d.left) (sides a d.right) d.bound
along_link a h {d} m = (at_most_lem d.left d.right d.bound a).0 (each_of (λ d. met (end d) a ≡ true) h m)

along : {ds : List Difference} (a : Assignment) → Each (λ d. met (end d) a ≡ true) ds → {x y : ℕ} {s : ℤ} → Chain ds x y s →
    Held (sides a x) (sides a y) s
along a h (link m) = along_link a h m
along a h (more {d = d} {sum = s} m k) = omega (arith, along_link a h m, along a h k, +ℤ-sides d.bound s)

below_zero : (s : ℤ) → lt_z s (pos 0) ≡ true → up s < down s
below_zero (pos n) e = omega (arith, ltb-true n 0 e)
below_zero (negsuc n) e = omega arith

no_chain : {ds : List Difference} → SatisfiableAll ds → BelowZero ds → ⊥
no_chain m b = omega (arith, along m.0 m.1 b.closed, below_zero b.sum b.below)

-- The other way

append : {ds : List Difference} {x y z : ℕ} {s t : ℤ} → Chain ds x y s → Chain ds y z t → Chain ds x z (s +ℤ t)
append (link m) l = more m l
append (more m k) l = rw +ℤ_assoc (more m (append k l))

put : ℕ → ℕ × ℕ → Values → Values
put n p v x = cond (eqb x n) p (v x)

put_same : (n : ℕ) (p : ℕ × ℕ) (v : Values) (x : ℕ) → x ≡ n → put n p v x ≡ p
unfolding put
put_same n p v x e = rw (eq-eqb x n e)

put_other : (n : ℕ) (p : ℕ × ℕ) (v : Values) (x : ℕ) → x < n → put n p v x ≡ v x
unfolding put
put_other n p v x l = rw (ne_eqb x n (λ e. omega arith))

-- above every name
beyond : List Difference → ℕ
beyond [] = 0
beyond (d ∷ l) = suc (d.left + d.right + beyond l)

module _ (ds : List Difference) where
  -- a chain of ds, and what is known of its two names
  record Way (P Q : ℕ → Type 0) : Type 0 where
    left : ℕ
    right : ℕ
    sum : ℤ
    first : P left
    last : Q right
    chain : Chain ds left right sum

  abbrev known : {P Q R S : ℕ → Type 0} (w : Way P Q) → R w.left → S w.right → Way R S
  known w first last = record { left = w.left; right = w.right; sum = w.sum; first = first; last = last; chain = w.chain }

  -- both names are below n, or one of them is n
  abbrev Other : ℕ → Type 0
  Other n = Way (λ x. x < n) (λ x. x < n)

  abbrev To : ℕ → Type 0
  To n = Way (λ x. x < n) (λ x. x ≡ n)

  abbrev From : ℕ → Type 0
  From n = Way (λ x. x ≡ n) (λ x. x < n)

  abbrev Meets : {P Q : ℕ → Type 0} → Values → Way P Q → Type 0
  Meets v w = Held (v w.left) (v w.right) w.sum

  joined : {n : ℕ} → To n → From n → Other n
  joined k l = record {
    left = k.left;
    right = l.right;
    sum = k.sum +ℤ l.sum;
    first = k.first;
    last = l.last;
    chain = append k.chain (subst (λ x. Chain ds x l.right l.sum) (l.first ∙ sym k.last) l.chain);
  }

  -- each to n joined with each from n, and the others after them
  beside : {n : ℕ} → To n → List (From n) → List (Other n) → List (Other n)
  beside k [] os = os
  beside k (l ∷ ls) os = joined k l ∷ beside k ls os

  across : {n : ℕ} → List (To n) → List (From n) → List (Other n) → List (Other n)
  across [] ls os = os
  across (k ∷ ks) ls os = beside k ls (across ks ls os)

  each_beside : {n : ℕ} (P : Other n → Type 0) (k : To n) (ls : List (From n)) (os : List (Other n)) → Each P (beside k ls os) →
      Each (λ l. P (joined k l)) ls × Each P os
  unfolding beside
  each_beside P k [] os h = (tt, h)
  each_beside P k (l ∷ ls) os h = let r = each_beside P k ls os h.1 in ((h.0, r.0), r.1)

  each_across : {n : ℕ} (P : Other n → Type 0) (ks : List (To n)) (ls : List (From n)) (os : List (Other n)) →
      Each P (across ks ls os) → Each (λ k. Each (λ l. P (joined k l)) ls) ks × Each P os
  unfolding across
  each_across P [] ls os h = (tt, h)
  each_across P (k ∷ ks) ls os h =
      let r = each_beside P k ls (across ks ls os) h in
      let q = each_across P ks ls os r.1 in
      ((r.0, q.0), q.1)

  module _ {n : ℕ} (v : Values) where
    -- a value at most each bound from above
    least : (ls : List (From n)) → (p : ℕ × ℕ) × Each (λ l. Held p (v l.right) l.sum) ls
    least [] = ((0, 0), tt)
    least (l ∷ ls) =
        let r = least ls in
        let q : ℕ × ℕ = ((v l.right).0 + up l.sum, (v l.right).1 + down l.sum) in
        elim (dec_le (r.0.0 + q.1) (q.0 + r.0.1)) [
          | yes e ↦ (r.0, (omega arith, r.1))
          | no ne ↦ (q, (omega arith, each_map _ _ (λ m h. omega arith) ls r.1))
        ]

    -- and at least each from below
    between : (ks : List (To n)) (ls : List (From n)) → Each (λ k. Each (λ l. Meets v (joined k l)) ls) ks →
        (p : ℕ × ℕ) × Each (λ k. Held (v k.left) p k.sum) ks × Each (λ l. Held p (v l.right) l.sum) ls
    unfolding joined
    between [] ls h = let r = least ls in (r.0, tt, r.1)
    between (k ∷ ks) ls h =
        let r = between ks ls h.1 in
        let q : ℕ × ℕ = ((v k.left).0 + down k.sum, (v k.left).1 + up k.sum) in
        elim (dec_le (q.0 + r.0.1) (r.0.0 + q.1)) [
          | yes e ↦ (r.0, (omega arith, r.1), r.2)
          | no ne ↦ (
            q,
            (omega arith, each_map _ _ (λ m h. omega arith) ks r.1),
            each_map _ _ (λ l h. omega (arith, +ℤ-sides k.sum l.sum)) ls h.0,
          )
        ]

    extended : (ks : List (To n)) (ls : List (From n)) (os : List (Other n)) → Each (Meets v) (across ks ls os) →
        (u : Values) × Each (Meets u) os × Each (Meets u) ks × Each (Meets u) ls
    extended ks ls os h =
        let a = each_across (Meets v) ks ls os h in
        let b = between ks ls a.0 in
        let same = put_same n b.0 v in
        let other = put_other n b.0 v in (
          put n b.0 v,
          each_map _ _ (λ o m. rw (other o.left o.first, other o.right o.last) m) os a.1,
          each_map _ _ (λ k m. rw (other k.left k.first, same k.right k.last) m) ks b.1,
          each_map _ _ (λ l m. rw (same l.left l.first, other l.right l.last) m) ls b.2,
        )

  abbrev Solved : {n : ℕ} → List (Other n) → Type 0
  Solved os = ((v : Values) × Each (Meets v) os) ⊎ BelowZero ds

  -- a chain from a name to itself is below zero, or it holds
  round : {x y : ℕ} (s : ℤ) → Chain ds x y s → x ≡ y → ((v : Values) → Held (v x) (v y) s) ⊎ BelowZero ds
  round (pos m) k e = inl (λ v. rw e (omega arith))
  round {y = y} (negsuc m) k e = inr (record { name = y; sum = negsuc m; closed = subst (λ x. Chain ds x y (negsuc m)) e k; below = refl })

  -- n is taken out of ws: they are told apart, and the others solved with the joined ones
  taken : {n : ℕ} → ((os : List (Other n)) → Solved os) →
      (ws : List (Other (suc n))) (os : List (Other n)) (ks : List (To n)) (ls : List (From n)) →
      ((v : Values) × Each (Meets v) ws × Each (Meets v) os × Each (Meets v) ks × Each (Meets v) ls) ⊎ BelowZero ds
  taken solve [] os ks ls =
      ⊎_map (λ r. let u = extended r.0 ks ls os r.1 in (u.0, tt, u.1, u.2, u.3)) (λ b. b) (solve (across ks ls os))
  taken {n} solve (w ∷ ws) os ks ls =
      elim (ℕ_discrete w.left n) [
        | yes e ↦ elim (ℕ_discrete w.right n) [
          | yes f ↦
              ⊎_elim (λ h. ⊎_map (λ r. (r.0, (h r.0, r.1), r.2, r.3, r.4)) (λ b. b) (taken solve ws os ks ls)) inr
              (round w.sum w.chain (e ∙ sym f))
          | no f ↦
              ⊎_map (λ r. (r.0, (r.4.0, r.1), r.2, r.3, r.4.1)) (λ b. b)
              (taken solve ws os ks (known w e (omega (arith, w.last)) ∷ ls))
        ]
        | no e ↦ elim (ℕ_discrete w.right n) [
          | yes f ↦
              ⊎_map (λ r. (r.0, (r.3.0, r.1), r.2, r.3.1, r.4)) (λ b. b)
              (taken solve ws os (known w (omega (arith, w.first)) f ∷ ks) ls)
          | no f ↦
              ⊎_map (λ r. (r.0, (r.2.0, r.1), r.2.1, r.3, r.4)) (λ b. b)
              (taken solve ws (known w (omega (arith, w.first)) (omega (arith, w.last)) ∷ os) ks ls)
        ]
      ]

  solved : (n : ℕ) (os : List (Other n)) → Solved os
  solved zero [] = inl ((λ x. (0, 0)), tt)
  solved zero (o ∷ os) = absurd (omega (arith, o.first))
  solved (suc n) os = ⊎_map (λ r. (r.0, r.1)) (λ b. b) (taken (λ us. solved n us) os [] [] [])

  -- each difference is a chain of one link
  begun : (n : ℕ) (l : List Difference) → beyond l ≤ n → ((d : Difference) → Memᴰ d l → Memᴰ d ds) →
      (os : List (Other n)) × ((v : Values) → Each (Meets v) os → Each (λ d. Held (v d.left) (v d.right) d.bound) l)
  unfolding beyond
  begun n [] h m = ([], λ v e. tt)
  begun n (d ∷ l) h m =
      let r = begun n l (omega arith) (λ d k. m d (Memᴰ.tail k)) in (
        record {
          left = d.left;
          right = d.right;
          sum = d.bound;
          first = omega arith;
          last = omega arith;
          chain = link (m d (Memᴰ.head refl));
        } ∷ r.0,
        (λ v e. (e.0, r.1 v e.1)),
      )

-- the values, moved so that number 0 is 0
assigned : Values → Assignment
assigned v = record { flag = λ p. false; number = λ x. pos ((v x).0 + (v 0).1) -ℤ pos ((v 0).0 + (v x).1) }

assigned_value : (v : Values) (x : ℕ) → up (value (assigned v) x) + ((v 0).0 + (v x).1) ≡ (v x).0 + (v 0).1 + down (value (assigned v) x)
unfolding assigned value
assigned_value v zero = omega arith
assigned_value v (suc x) = omega (arith, minus ((v (suc x)).0 + (v 0).1) ((v 0).0 + (v (suc x)).1))

assigned_met : (v : Values) (d : Difference) → Held (v d.left) (v d.right) d.bound → met (end d) (assigned v) ≡ true
assigned_met v d h =
    (at_most_lem d.left d.right d.bound (assigned v)).1 (omega (arith, assigned_value v d.left, assigned_value v d.right))

pub chain_or_assignment : (ds : List Difference) → SatisfiableAll ds ⊎ BelowZero ds
chain_or_assignment ds =
    let b = begun ds (beyond ds) ds (omega arith) (λ d m. m) in
    ⊎_map (λ r. (assigned r.0, each_map _ _ (assigned_met r.0) ds (b.1 r.0 r.1))) (λ c. c) (solved ds (beyond ds) b.0)

-- "A set of differences is satisfiable exactly if no closed chain of them sums below zero."
pub chains : (ds : List Difference) → SatisfiableAll ds ↔ (BelowZero ds → ⊥)
chains ds = (no_chain, λ h. ⊎_elim (λ s. s) (λ b. absurd (h b)) (chain_or_assignment ds))
