-- The count and the result of document 01, sweep by sweep, are those of `trimmed`. Past a firm end the machine asks two questions and
-- goes on; so where end i is the first that isn't, it has asked 2i, then one or two more for the cut, and the rest are those of the tree
-- after it. Every tree has such a course, since whether an end is redundant is decided and each cut leaves fewer ends.
use Prim.Native.Nat.{ℕ, zero, suc, ◌+◌, ◌*◌, ◌-◌, ◌≤◌, ◌<◌}
use mathlib.Core.Path.{◌≡◌, refl, sym, ap, subst, ◌∙◌}
use mathlib.Core.Bool.{Bool, true, false, true≢false}
use native.Mathlib.Omega.{arith}
use borrow.Table.Steps.{cases}
use borrow.Author.Tests.{lt-leb, le-leb}
use Rattle.condition.specs.Meaning.{Tree, plain}
use Rattle.condition.specs.Folding.{fold, live}
use Rattle.condition.specs.Critical.{put, NonConstraining, NonRelaxing, Firm}
use Rattle.condition.specs.Deciding.{sat}
use Rattle.condition.specs.Sweep.{Stage, stage, start, over, cut, on, answer, next, run, sweep, Answer, reported, trimmed, needs}
use Rattle.condition.specs.Counting.{FirmBefore, Sweeps, none_cut, cut_one, cut_two}
use Rattle.condition.proofs.Putting.{split, cut_live}
use Rattle.condition.proofs.Run.{Reached, advance, ahead}
use Rattle.condition.proofs.Sweep.{one_is, two_is}
use Rattle.condition.proofs.Deciding.{sat_is}
use Rattle.condition.proofs.Trimmed.{asked_is, finished_is}

no_of : (b : Bool) → (b ≡ true → ⊥) → b ≡ false
no_of true n = absurd (n refl)
no_of false n = refl

-- What is asked of one tree up to its cut

module _ (t : Tree) where
  abbrev At : ℕ → Stage → Type 0
  At k s = Reached over (next sat) k (start t) s

  at_on : (k i : ℕ) (q : Bool) → At k (stage t i q) → i < live t → answer sat (stage t i q) ≡ false → At (suc k) (on t i q)
  unfolding next
  at_on k i q e h no_answer = rw no_answer at (advance over (next sat) k (start t) (stage t i q) e (lt-leb (live t) i h))

  at_cut : (k i : ℕ) (q : Bool) → At k (stage t i q) → i < live t → answer sat (stage t i q) ≡ true → At (suc k) (cut (stage t i q))
  unfolding next
  at_cut k i q e h yes-answer = rw yes-answer at (advance over (next sat) k (start t) (stage t i q) e (lt-leb (live t) i h))

  no_one : (i : ℕ) → i < live t → (¬ NonConstraining t i) → answer sat (stage t i false) ≡ false
  no_one i h n = no_of _ (λ e. n ((one_is sat sat_is t i h).0 e))

  no_two : (i : ℕ) → i < live t → (¬ NonRelaxing t i) → answer sat (stage t i true) ≡ false
  no_two i h n = no_of _ (λ e. n ((two_is sat sat_is t i h).0 e))

  at_start : At 0 (start t)
  unfolding run
  at_start = refl

  -- 2i questions for i firm ends
  walk : (i : ℕ) → i ≤ live t → FirmBefore t i → At (2 * i) (stage t i false)
  walk zero h f = at_start
  walk (suc i) h f =
      let firm = f i (omega arith) in
      let e : suc (suc (2 * i)) ≡ 2 * suc i = omega arith in
      let one = at_on (2 * i) i false (walk i (omega arith) (λ m l. f m (omega arith))) h (no_one i h firm.0) in
      rw e at (at_on (suc (2 * i)) i true one h (no_two i h firm.1))

  walk_half : (i : ℕ) → i < live t → FirmBefore t i → (¬ NonConstraining t i) → At (suc (2 * i)) (stage t i true)
  walk_half i h f n = at_on (2 * i) i false (walk i (omega arith) f) h (no_one i h n)

  walk_one : (i : ℕ) → i < live t → FirmBefore t i → NonConstraining t i → At (2 * suc i - 1) (cut (stage t i false))
  walk_one i h f c =
      let e : suc (2 * i) ≡ 2 * suc i - 1 = omega arith in
      rw e at (at_cut (2 * i) i false (walk i (omega arith) f) h ((one_is sat sat_is t i h).1 c))

  walk_two : (i : ℕ) → i < live t → FirmBefore t i → (¬ NonConstraining t i) → NonRelaxing t i → At (2 * suc i) (cut (stage t i true))
  walk_two i h f n c =
      let e : suc (suc (2 * i)) ≡ 2 * suc i = omega arith in
      rw e at (at_cut (suc (2 * i)) i true (walk_half i h f n) h ((two_is sat sat_is t i h).1 c))

-- `Comes t n u f`: n questions about the folded tree t come to the tree u, and f says whether the work is over

pub record Comes (t : Tree) (n : ℕ) (u : Tree) (f : Bool) : Type 0 where
  last : Stage
  stepped : Reached over (next sat) n (start t) last
  stops : over last ≡ f
  there : last.tree ≡ u

-- with no cut: past every end; up to end i; and between the two questions of end i
module _ {t : Tree} where
  pub past_all : FirmBefore t (live t) → Comes t (2 * live t) t true
  past_all f =
      record {
        last = stage t (live t) false;
        stepped = walk t (live t) (omega arith) f;
        stops = le-leb (live t) (live t) (omega arith);
        there = refl;
      }

  pub up_to_lem : (i : ℕ) → i < live t → FirmBefore t i → Comes t (2 * i) t false
  up_to_lem i h f =
      record { last = stage t i false; stepped = walk t i (omega arith) f; stops = lt-leb (live t) i h; there = refl }

  pub between : (i : ℕ) → i < live t → FirmBefore t i → (¬ NonConstraining t i) → Comes t (suc (2 * i)) t false
  between i h f n =
      record { last = stage t i true; stepped = walk_half t i h f n; stops = lt-leb (live t) i h; there = refl }

after : {t v u : Tree} {n : ℕ} {f : Bool} (k : ℕ) → Reached over (next sat) k (start t) (start v) → Comes v n u f → Comes t (k + n) u f
after {t} {v} {n = n} k e w =
    record {
      last = w.last;
      stepped = rw w.stepped at (ahead over (next sat) k n (start t) (start v) e);
      stops = w.stops;
      there = w.there;
    }

-- with a cut, and on from there
module _ {t u : Tree} {n : ℕ} {f : Bool} where
  pub after_one : (i : ℕ) → i < live t → FirmBefore t i → NonConstraining t i →
      Comes (fold (put t i (plain true))) n u f → Comes t (2 * suc i - 1 + n) u f
  after_one i h firm c = after (2 * suc i - 1) (walk_one t i h firm c)

  pub after_two : (i : ℕ) → i < live t → FirmBefore t i → (¬ NonConstraining t i) → NonRelaxing t i →
      Comes (fold (put t i (plain false))) n u f → Comes t (2 * suc i + n) u f
  after_two i h firm k c = after (2 * suc i) (walk_two t i h firm k c)

-- a ration of n has come there
pub trimmed_comes : (t : Tree) {u : Tree} {n : ℕ} {f : Bool} → Comes (fold t) n u f →
    trimmed t n ≡ record { tree = u; asked = n; finished = f }
unfolding trimmed sweep
trimmed_comes t {n = n} w = ap reported w.stepped ∙ (λ i. record { tree = w.there i; asked = n; finished = w.stops i })

-- A course is what the machine does

finish : {t u : Tree} {n : ℕ} → Sweeps t n u → Comes t n u true
finish (none_cut f) = past_all f
finish (cut_one i h f c s) = after_one i h f c (finish s)
finish (cut_two i h f k c s) = after_two i h f k c (finish s)

-- Every tree has a course

record Course (t : Tree) : Type 0 where
  asked : ℕ
  result : Tree
  sweeps : Sweeps t asked result

module _ (t : Tree) (smaller : (u : Tree) → live u < live t → Course u) where
  -- the ends before i are firm, and d are left
  search : (d i : ℕ) → i + d ≡ live t → FirmBefore t i → Course t
  search zero i e f =
      let h : i ≡ live t = omega arith in
      record { asked = 2 * live t; result = t; sweeps = none_cut (subst (FirmBefore t) h f) }
  search (suc d) i e f =
      let h : i < live t = omega arith in
      cases (answer sat (stage t i false))
      (λ one. let w = smaller (fold (put t i (plain true))) (cut_live t i true h) in
      record {
        asked = 2 * suc i - 1 + w.asked;
        result = w.result;
        sweeps = cut_one i h f ((one_is sat sat_is t i h).0 one) w.sweeps;
      })
      (λ not-one.
      let firm_one : ¬ NonConstraining t i = λ n. true≢false (sym ((one_is sat sat_is t i h).1 n) ∙ not-one) in
      cases (answer sat (stage t i true))
      (λ two. let w = smaller (fold (put t i (plain false))) (cut_live t i false h) in
      record {
        asked = 2 * suc i + w.asked;
        result = w.result;
        sweeps = cut_two i h f firm_one ((two_is sat sat_is t i h).0 two) w.sweeps;
      })
      (λ not-two.
      let firm : Firm t i = (firm_one, λ n. true≢false (sym ((two_is sat sat_is t i h).1 n) ∙ not-two)) in
      search d (suc i) (omega arith) (λ m l. split m i (λ l' _. f m l') (λ l' _. subst (Firm t) (omega arith) firm))))

course : (k : ℕ) (t : Tree) → live t < k → Course t
course zero t h = absurd (omega arith)
course (suc k) t h = search t (λ u l. course k u (omega arith)) (live t) 0 (omega arith) (λ m l. absurd (omega arith))

-- "The question count is thus fixed"

pub count_fixed : (t : Tree) (n : ℕ) (u : Tree) → Sweeps (fold t) n u → (n ≡ needs t) × ((trimmed t (needs t)).tree ≡ u)
count_fixed t n u s =
    let e = trimmed_comes t (finish s) in
    let same : n ≡ needs t =
    omega (arith, asked_is t n, ap (λ (a : Answer). a.asked) e, (finished_is t n).0 (ap (λ (a : Answer). a.finished) e))
    in
    (same, ap (λ m. (trimmed t m).tree) (sym same) ∙ ap (λ (a : Answer). a.tree) e)

pub counted : (t : Tree) → Sweeps (fold t) (needs t) (trimmed t (needs t)).tree
counted t =
    let w = course (suc (live (fold t))) (fold t) (omega arith) in
    let c = count_fixed t w.asked w.result w.sweeps in
    rw (c.1, ← c.0) w.sweeps
