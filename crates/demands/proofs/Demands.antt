-- The demands hold: what a call may answer is `outcome` of its input, and of a tree that is read that is what the stated sweep reaches, of
-- which condition's laws speak. A call that answers 0 or 10 has read a tree and had the room, as every other answer is another number.
use Prim.Native.Nat.{ℕ, ◌≤◌, min}
use mathlib.Core.Path.{◌≡◌, refl, sym, ap, subst, ◌∙◌}
use mathlib.Core.List.{List}
use mathlib.Core.Logic.{◌↔◌}
use mathlib.Core.Bool.{Bool, true, false, cond}
use native.Mathlib.Omega.{arith}
use native.Mathlib.Decide.{ℕ_discrete}
use lib.Dec.{ltb}
use lib.IntN.{ℤ}
use lib.ListN.{length}
use borrow.Table.Steps.{cases}
use borrow.Author.Tests.{ltb-true, ltb-false, eq-eqb, ne_eqb}
use Rattle.condition.specs.Limits.{last_number}
use Rattle.condition.specs.Answers.{OfReading}
use Rattle.condition.specs.Meaning.{Assignment, Tree, plain, holds, given}
use Rattle.condition.specs.Bytes.{bytes}
use Rattle.condition.specs.Reading.{Read, tree, refusal, read}
use Rattle.condition.specs.Satisfying.{Satisfiable, InRange}
use Rattle.condition.specs.Folding.{live}
use Rattle.condition.specs.Sweep.{trimmed, needs}
use Rattle.condition.proofs.Answers.{apart}
use Rattle.condition.proofs.Reading.{read_written, written_read, refusals}
use Rattle.condition.proofs.Critical.{lemma_4, lemma_5}
use Rattle.condition.proofs.Trimmed.{needs_most, asked_is, finished_is, finished_stays, trimmed_means, trimmed_fewer, trimmed_ends}
use Rattle.condition.proofs.Trimmed.{trimmed_within, trimmed_firm, trimmed_false, trimmed_true}
use Rattle.condition.proofs.Count.{counted, count_fixed}
use Rattle.cursor.proofs.Refusals.{refusal_of, there}
use Rattle.std.specs.Prelude.{Result, Ok, Err}
use Rattle.travelring.specs.declared.JudgeRefusal.{JudgeRefusal}
use Rattle.travelring.specs.declared.JudgeRefusal.TheVariants as judge_refusal
use Rattle.travelring.specs.declared.FindRefusal.{FindRefusal}
use Rattle.travelring.specs.declared.FindRefusal.TheVariants as find_refusal
use Rattle.travelring.specs.declared.Trimmed.{Trimmed}
use Rattle.travelring.specs.declared.TrimRefusal.{TrimRefusal}
use Rattle.travelring.specs.declared.TrimRefusal.TheVariants as trim_refusal
use Rattle.travelring.specs.Judging.{judged_tree, told, judged}
use Rattle.travelring.specs.Finding.{told_found, FindsTree, FindsRead}
use Rattle.travelring.specs.Trimming.{Outcome, refuses, ended, fitted, outcome, told_trimmed, length_told, onto, Trims}
use Rattle.travelring.proofs.Outcomes.{by_read, too_long, fits}
use Rattle.demands.specs.Demands.{TrimCall, JudgeCall, FindCall, said, result, Room, TrimTable, JudgeTable, FindTable}
use Rattle.demands.specs.Demands.{Demand1, Finished, Writes, finished, stopped, Written, Demand2, Demand3}
use Rattle.demands.proofs.Finding.{find_answers}

-- ---- what a call may answer, by what was read

as_is : (c : TrimCall) (o : Outcome) → outcome c.input c.ration (length c.before) ≡ o →
    (said c ≡ o.said) × (c.after ≡ onto o.written c.before)
as_is c o e = (c.allowed.told ∙ ap (λ x. x.said) e, c.allowed.lent ∙ ap (λ x. onto x.written c.before) e)

pub table : (c : TrimCall) → TrimTable c
table c =
    let room = length c.before in
    record {
      refuses = λ n p e. as_is c (refuses n p) (by_read c.input c.ration room (refusal n p) e);
      long = λ t e h. as_is c _ (by_read c.input c.ration room (tree t) e ∙ too_long room (trimmed t c.ration) h);
      ends = λ t e h. as_is c (ended (trimmed t c.ration))
          (by_read c.input c.ration room (tree t) e ∙ fits room (trimmed t c.ration) h);
    }

-- ---- every input has an answer

trims_as : (s : List ℕ) (ration : ℕ) (before : List ℕ) (o : Outcome) → outcome s ration (length before) ≡ o → (r : Result Trimmed TrimRefusal) →
    told_trimmed r ≡ o.said → length_told r ≡ length o.written → (r : Result Trimmed TrimRefusal) × (after : List ℕ) × Trims s ration before r after
trims_as s ration before o e r h l = (
  r,
  onto o.written before,
  record {
    told = h ∙ ap (λ x. x.said) (sym e);
    long = l ∙ ap (λ x. length x.written) (sym e);
    lent = ap (λ x. onto x.written before) (sym e);
  },
)

trim_answers : (s : List ℕ) (ration : ℕ) (before : List ℕ) → (r : Result Trimmed TrimRefusal) × (after : List ℕ) × Trims s ration before r after
trim_answers s ration before = by (read s) refl
  where
    by : (x : Read) → read s ≡ x → (r : Result Trimmed TrimRefusal) × (after : List ℕ) × Trims s ration before r after
    by (refusal n p) e =
        let h = there n p (refusals s n p e) in
        trims_as s ration before (refuses n p) (by_read s ration (length before) (refusal n p) e) (Err (trim_refusal.Bytes (refusal_of n p)))
        (simp (h.0, h.1)) refl
    by (tree t) e =
        let a = trimmed t ration in
        let room = length before in
        let needed = length (bytes a.tree) in
        cases (ltb room needed)
        (λ q. trims_as s ration before _ (by_read s ration room (tree t) e ∙ too_long room a (ltb-true room needed q))
        (Err (trim_refusal.Long needed)) refl refl)
        (λ q. trims_as s ration before _ (by_read s ration room (tree t) e ∙ fits room a (ltb-false room needed q))
        (Ok record { finished = a.finished; questions = a.asked; ends = live a.tree; bytes = needed }) refl refl)

judged_unfit : (s : List ℕ) (flags : ℕ) (numbers : List ℤ) → (length numbers ≡ last_number → ⊥) →
    judged s flags numbers ≡ record { answer = 11; place = 0; value = false }
unfolding judged
judged_unfit s flags numbers h = simp (ne_eqb _ _ h)

judged_as : (s : List ℕ) (flags : ℕ) (numbers : List ℤ) → length numbers ≡ last_number → (x : Read) → read s ≡ x →
    judged s flags numbers ≡ judged_tree x (given flags numbers)
unfolding judged
judged_as s flags numbers fit x e = simp (eq-eqb _ _ fit) (ap (λ y. judged_tree y (given flags numbers)) e)

judge_answers : (s : List ℕ) (flags : ℕ) (numbers : List ℤ) → (r : Result Bool JudgeRefusal) × (told r ≡ judged s flags numbers)
judge_answers s flags numbers = elim (ℕ_discrete (length numbers) last_number) [
  | yes e ↦ by e (read s) refl
  | no h ↦ (Err judge_refusal.Unfit, sym (judged_unfit s flags numbers h))
]
  where
    by : length numbers ≡ last_number → (x : Read) → read s ≡ x → (r : Result Bool JudgeRefusal) × (told r ≡ judged s flags numbers)
    by fit (refusal n p) e =
        let h = there n p (refusals s n p e) in
        (Err (judge_refusal.Bytes (refusal_of n p)), simp (h.0, h.1) (sym (judged_as s flags numbers fit (refusal n p) e)))
    by fit (tree t) e =
        (Ok (holds t (given flags numbers)), sym (judged_as s flags numbers fit (tree t) e))

-- ---- judge's and find's tables

judge_table : (c : JudgeCall) → JudgeTable c
judge_table c =
    let s = c.input in
    record {
      unfit = λ h. c.allowed ∙ judged_unfit s c.flags c.numbers h;
      refuses = λ fit n p e. c.allowed ∙ judged_as s c.flags c.numbers fit (refusal n p) e;
      judges = λ fit t e. c.allowed ∙ judged_as s c.flags c.numbers fit (tree t) e;
    }

-- of a tree that none satisfies, and of one that some does
none_found : (t : Tree) (before : List ℤ) (r : Result ℕ FindRefusal) (after : List ℤ) → FindsTree t before r after → (Satisfiable t → ⊥) →
    (told_found r ≡ record { answer = 12; place = 0; flags = 0 }) × (after ≡ before)
none_found t before (Ok bits) after h n = absurd (n (given bits after, h.0))
none_found t before (Err find_refusal.Nothing) after h n = (refl, h.1)
none_found t before (Err (find_refusal.Bytes why)) after h n = absurd h
none_found t before (Err find_refusal.Unfit) after h n = absurd h

some_found : (t : Tree) (before : List ℤ) (r : Result ℕ FindRefusal) (after : List ℤ) → FindsTree t before r after → Satisfiable t →
    let a = given (told_found r).flags after in
    ((told_found r).answer ≡ 0) × ((told_found r).place ≡ 0) × (holds t a ≡ true) × InRange a × (length after ≡ last_number)
some_found t before (Ok bits) after h w = (refl, refl, h.0, h.1, h.2)
some_found t before (Err find_refusal.Nothing) after h w = absurd (h.0 w)
some_found t before (Err (find_refusal.Bytes why)) after h w = absurd h
some_found t before (Err find_refusal.Unfit) after h w = absurd h

find_table : (c : FindCall) → FindTable c
find_table c =
    let finds = c.allowed in
    let read_as : (x : Read) → read c.input ≡ x → length c.before ≡ last_number → FindsRead x c.before c.answer c.after =
    λ x e fit. subst (λ y. FindsRead y c.before c.answer c.after) e (finds.fit fit)
    in
    record {
      unfit = λ h. ((finds.unfit h).told, (finds.unfit h).kept);
      refuses = λ fit n p e. ((read_as (refusal n p) e fit).told, (read_as (refusal n p) e fit).kept);
      none = λ fit t e n. none_found t c.before c.answer c.after (read_as (tree t) e fit) n;
      finds = λ fit t e w. some_found t c.before c.answer c.after (read_as (tree t) e fit) w;
    }

pub demand_1 : Demand1
demand_1 = record {
  trim_answers = trim_answers;
  judge_answers = judge_answers;
  find_answers = find_answers;
  reads = refusals;
  trim_table = table;
  judge_table = judge_table;
  find_table = find_table;
}

-- ---- demand 2: the call that writes

not_refused : (n : ℕ) → OfReading n → (n ≡ 0 → ⊥) × (n ≡ 10 → ⊥)
not_refused n h = (apart h 0 refl, apart h 10 refl)

-- no other number is 0 or 10
other : (c : TrimCall) (n : ℕ) → (said c).answer ≡ n → (n ≡ 0 → ⊥) × (n ≡ 10 → ⊥) → Writes c → ⊥
other c n e h (finished f) = h.0 (sym e ∙ f)
other c n e h (stopped f) = h.1 (sym e ∙ f)

finished_then : (c : TrimCall) (b : Bool) → (said c).answer ≡ cond b 0 10 → Finished c → b ≡ true
finished_then c true e f = refl
finished_then c false e f = absurd (omega (arith, e, f))

module _ (c : TrimCall) (t : Tree) (e : read c.input ≡ tree t) where
  really : Room c t → Finished c → (trimmed t c.ration).finished ≡ true
  really room f = finished_then c (trimmed t c.ration).finished (ap (λ x. x.answer) ((table c).ends t e room).0) f

  -- what is written of a tree that is read, where there is room
  written : Room c t → Written c
  written room =
      let r = c.ration in
      let within = (read_written c.input t c.octets e).1 in
      record {
        t = t;
        u = result c t;
        was_read = e;
        stands = ((table c).ends t e room).1;
        reads_back = written_read (result c t) (trimmed_within t r within);
        means = trimmed_means t r;
        fewer = trimmed_fewer t r;
        fewer_counted = trimmed_ends t r within.formed;
        firm = λ f. trimmed_firm t r (really room f);
        swept = refl;
        plain_false = λ f. of_result_false t r (trimmed_false t r (really room f));
        plain_true = λ f. of_result_true t r (trimmed_true t r (really room f));
      }
    where
      of_result_false : (t : Tree) (r : ℕ) → ((trimmed t r).tree ≡ plain false) ↔ (Satisfiable t → ⊥) →
          ((trimmed t r).tree ≡ plain false) ↔ (Satisfiable (trimmed t r).tree → ⊥)
      of_result_false t r h = (
        λ q w. h.0 q (w.0, sym (trimmed_means t r w.0) ∙ w.1),
        λ n. h.1 (λ w. n (w.0, trimmed_means t r w.0 ∙ w.1)),
      )

      of_result_true : (t : Tree) (r : ℕ) → ((trimmed t r).tree ≡ plain true) ↔ ((a : Assignment) → holds t a ≡ true) →
          ((trimmed t r).tree ≡ plain true) ↔ ((a : Assignment) → holds (trimmed t r).tree a ≡ true)
      of_result_true t r h = (
        λ q a. trimmed_means t r a ∙ h.0 q a,
        λ v. h.1 (λ a. sym (trimmed_means t r a) ∙ v a),
      )

-- a call that writes has read a tree, and has the room
record Went (c : TrimCall) : Type 0 where
  t : Tree
  was_read : read c.input ≡ tree t
  room : Room c t

went : (c : TrimCall) → Writes c → Went c
went c w = by (read c.input) refl
  where
    by : (x : Read) → read c.input ≡ x → Went c
    by (refusal n p) e =
        absurd (other c n (ap (λ x. x.answer) ((table c).refuses n p e).0) (not_refused n (refusals c.input n p e)) w)
    by (tree t) e =
        let room = length c.before in
        let needed = length (bytes (result c t)) in
        cases (ltb room needed)
        (λ q. absurd (other c 9 (ap (λ x. x.answer) ((table c).long t e (ltb-true room needed q)).0) (omega arith, omega arith) w))
        (λ q. record { t = t; was_read = e; room = ltb-false room needed q })

pub demand_2 : Demand2
demand_2 = record { written = λ c w. let g = went c w in written c g.t g.was_read g.room }

-- ---- demand 3

pub reports : (c : TrimCall) (t : Tree) → read c.input ≡ tree t → Room c t → (said c).questions ≡ min (needs t) c.ration
reports c t e room = ap (λ x. x.questions) ((table c).ends t e room).0 ∙ asked_is t c.ration

pub covers : (c : TrimCall) (t : Tree) → read c.input ≡ tree t → Room c t → Finished c ↔ (needs t ≤ c.ration)
covers c t e room = (
  λ f. (finished_is t c.ration).0 (really c t e room f),
  λ h. ap (λ x. x.answer) ((table c).ends t e room).0 ∙ ap (λ b. cond b 0 10) ((finished_is t c.ration).1 h),
)

stays : (c c' : TrimCall) → c'.input ≡ c.input → c'.before ≡ c.before → c.ration ≤ c'.ration → Finished c →
    (said c' ≡ said c) × (c'.after ≡ c.after)
stays c c' i b h f =
    let g = went c (finished f) in
    let t = g.t in
    let stay : trimmed t c'.ration ≡ trimmed t c.ration =
    finished_stays t c.ration c'.ration (really c t g.was_read g.room f) h
    in
    let same : outcome c'.input c'.ration (length c'.before) ≡ outcome c.input c.ration (length c.before) =
    by_read c'.input c'.ration (length c'.before) (tree t) (ap read i ∙ g.was_read) ∙
    ap (λ l. fitted (length l) (trimmed t c'.ration)) b ∙
    ap (fitted (length c.before)) stay ∙
    sym (by_read c.input c.ration (length c.before) (tree t) g.was_read)
    in (
      (as_is c' _ same).0 ∙ sym c.allowed.told,
      (as_is c' _ same).1 ∙ ap (onto (outcome c.input c.ration (length c.before)).written) b ∙ sym c.allowed.lent,
    )

pub demand_3 : Demand3
demand_3 = record {
  one = λ t i h. swap (lemma_4 t i h);
  two = λ t i h. swap (lemma_5 t i h);
  most = needs_most;
  counted = counted;
  fixed = λ t u n s. (count_fixed t n u s).0;
  reports = reports;
  covers = covers;
  stays = stays;
}
  where
    swap : {A B : Type 0} → A ↔ B → B ↔ A
    swap h = (h.1, h.0)
