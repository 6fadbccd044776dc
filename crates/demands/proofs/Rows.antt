-- How a row of the table is proved without trying every assignment. A firm end is shown by assignments that tell the tree from the tree
-- with the end replaced, and these compute; a cut is given with its implication. So each row has its course (`Comes`), to the end of the
-- work or to where the ration stops it, and the count and the result of a course are those of `trimmed`.
use Prim.Native.Nat.{ℕ, zero, suc, ◌+◌, ◌*◌, ◌-◌, ◌<◌}
use mathlib.Core.Path.{◌≡◌, refl, sym, ap, subst, ◌∙◌}
use mathlib.Core.List.{List, [], ◌∷◌}
use mathlib.Core.Bool.{Bool, true, false, not, ◌&&◌, ◌||◌, true≢false, false≢true}
use native.Mathlib.Omega.{arith}
use lib.Dec.{eqb, leb, ltb}
use lib.ListN.{length}
use borrow.Table.Steps.{cases}
use borrow.Author.Tests.{eqb-true, leb-true, ltb-true, ltb-false, not-true}
use Rattle.condition.specs.Meaning.{Assignment, value, met, Tree, plain, holds, ends, given}
use Rattle.condition.specs.Bytes.{groups_of, end_bytes, bytes}
use Rattle.condition.specs.Reading.{number_from, up_to, read_count, read_end, read_join, read_node, read_all, read_tree, tree, read}
use Rattle.condition.specs.Folding.{fold, live}
use Rattle.condition.specs.Critical.{put, Implies, NonConstraining, NonRelaxing, Firm}
use Rattle.condition.specs.Sweep.{Answer, trimmed}
use Rattle.condition.specs.Counting.{FirmBefore}
use Rattle.condition.proofs.Putting.{split}
use Rattle.condition.proofs.Trimmed.{finished_stays}
use Rattle.condition.proofs.Count.{Comes, past_all, up_to_lem, between, after_one, after_two, trimmed_comes}
use Rattle.travelring.specs.Trimming.{ended, fitted, outcome}
use Rattle.travelring.proofs.Outcomes.{by_read, fits}
use Rattle.demands.specs.Worked.{room}

both_true : (x y : Bool) → (x && y) ≡ true → (x ≡ true) × (y ≡ true)
both_true true y e = (refl, e)
both_true false y e = absurd (false≢true e)

-- Firm ends, by a few assignments

-- one of them passes
abbrev pub one_of : List Assignment → (Assignment → Bool) → Bool
one_of [] p = false
one_of (a ∷ few) p = p a || one_of few p

passes : {X : Type 0} (few : List Assignment) (p : Assignment → Bool) → one_of few p ≡ true → ((a : Assignment) → p a ≡ true → X) → X
passes [] p e f = absurd (false≢true e)
passes (a ∷ few) p e f = cases (p a) (f a) (λ q. passes few p (rw q at e) f)

-- t holds there and u doesn't
abbrev pub tells : Tree → Tree → Assignment → Bool
tells t u a = holds t a && not (holds u a)

told : (t u : Tree) (few : List Assignment) → one_of few (tells t u) ≡ true → ¬ Implies t u
told t u few e f =
    passes few (tells t u) e
    (λ a p. let b = both_true (holds t a) _ p in true≢false (sym (f a b.0) ∙ not-true _ b.1))

module _ (t : Tree) (few : List Assignment) where
  abbrev pub constrains : ℕ → Bool
  constrains i = one_of few (tells (fold (put t i (plain true))) t)

  abbrev pub relaxes : ℕ → Bool
  relaxes i = one_of few (tells t (fold (put t i (plain false))))

  abbrev pub firm_below : ℕ → Bool
  firm_below zero = true
  firm_below (suc i) = (constrains i && relaxes i) && firm_below i

  constrains_is : (i : ℕ) → constrains i ≡ true → ¬ NonConstraining t i
  constrains_is i e = told (fold (put t i (plain true))) t few e

  relaxes_is : (i : ℕ) → relaxes i ≡ true → ¬ NonRelaxing t i
  relaxes_is i e = told t (fold (put t i (plain false))) few e

  pub firm_below_lem : (i : ℕ) → firm_below i ≡ true → FirmBefore t i
  firm_below_lem zero e m h = absurd (omega arith)
  firm_below_lem (suc i) e m h =
      let b = both_true (constrains i && relaxes i) _ e in
      let c = both_true (constrains i) (relaxes i) b.0 in
      let firm : Firm t i = (constrains_is i c.0, relaxes_is i c.1) in
      split m i (λ l _. firm_below_lem i b.1 m l) (λ l _. subst (Firm t) (omega arith) firm)

  -- end i is there and those before it are firm; and question one of it is answered no
  abbrev pub firm_to : ℕ → Bool
  firm_to i = ltb i (live t) && firm_below i

  abbrev pub passes_one : ℕ → Bool
  passes_one i = constrains i && firm_to i

  firm_to_lem : (i : ℕ) → firm_to i ≡ true → (i < live t) × FirmBefore t i
  firm_to_lem i e = let b = both_true (ltb i (live t)) _ e in (ltb-true _ _ b.0, firm_below_lem i b.1)

  passes_one_lem : (i : ℕ) → passes_one i ≡ true → (i < live t) × FirmBefore t i × (¬ NonConstraining t i)
  passes_one_lem i e =
      let b = both_true (constrains i) _ e in
      let c = firm_to_lem i b.1 in
      (c.0, c.1, constrains_is i b.0)

-- The courses, with all that is tested in one Boolean: the work over, or stopped before end i or between its questions; and a cut, and on

module _ {t : Tree} (few : List Assignment) where
  pub none_left : firm_below t few (live t) ≡ true → Comes t (2 * live t) t true
  none_left e = past_all (firm_below_lem t few (live t) e)

  pub stop_before : (i : ℕ) → firm_to t few i ≡ true → Comes t (2 * i) t false
  stop_before i e = let c = firm_to_lem t few i e in up_to_lem i c.0 c.1

  pub stop_between : (i : ℕ) → passes_one t few i ≡ true → Comes t (suc (2 * i)) t false
  stop_between i e = let c = passes_one_lem t few i e in between i c.0 c.1 c.2

  module _ {u : Tree} {n : ℕ} {f : Bool} (i : ℕ) where
    pub made_true : firm_to t few i ≡ true → NonConstraining t i → Comes (fold (put t i (plain true))) n u f →
        Comes t (2 * suc i - 1 + n) u f
    made_true e = let c = firm_to_lem t few i e in after_one i c.0 c.1

    pub made_false : passes_one t few i ≡ true → NonRelaxing t i → Comes (fold (put t i (plain false))) n u f → Comes t (2 * suc i + n) u f
    made_false e = let c = passes_one_lem t few i e in after_two i c.0 c.1 c.2

-- The outcome of a course, with a ration that covers it, or that is used up where it stops

abbrev pub answered : Tree → ℕ → Bool → Answer
answered u n f = record { tree = u; asked = n; finished = f }

-- n questions, the work over (or not): the ration r
abbrev pub rationed : Bool → ℕ → ℕ → Bool
rationed true n r = leb n r
rationed false n r = eqb n r

rationed_is : (t u : Tree) (n r : ℕ) (f : Bool) → Comes (fold t) n u f → rationed f n r ≡ true → trimmed t r ≡ answered u n f
rationed_is t u n r true w k =
    let e = trimmed_comes t w in
    finished_stays t n r (ap (λ (a : Answer). a.finished) e) (leb-true n r k) ∙ e
rationed_is t u n r false w k = ap (trimmed t) (sym (eqb-true n r k)) ∙ trimmed_comes t w

abbrev pub long : Tree → Bool
long u = ltb room (length (bytes u))

pub kept : (s : List ℕ) (r : ℕ) (t : Tree) {u : Tree} {n : ℕ} {f : Bool} → read s ≡ tree t → Comes (fold t) n u f →
    (rationed f n r && not (long u)) ≡ true → outcome s r room ≡ ended (answered u n f)
kept s r t {u} {n} {f} e w k =
    let b = both_true (rationed f n r) _ k in
    by_read s r room (tree t) e
    ∙ (ap (fitted room) (rationed_is t u n r f w b.0)
    ∙ fits room (answered u n f) (ltb-false room (length (bytes u)) (not-true _ b.1)))

-- All that a row's tests compute with: to unfold this is to unfold what its line names
unfoldable pub parts : Unit {0}
unfolding read read_tree read_node read_all read_join read_end read_count up_to number_from ends fold live bytes groups_of end_bytes put holds met value given
parts = tt
