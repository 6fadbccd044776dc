-- No useless version meets the contract. What is written is the bytes of one tree, as no tree's bytes begin with another's; so what false,
-- the input or a half-done work would show is refuted by what demand 2 says of the tree written.
use Prim.Native.Nat.{ℕ, ◌≤◌, ◌<◌, min}
use mathlib.Core.Path.{◌≡◌, refl, sym, ap, subst, ◌∙◌}
use mathlib.Core.Bool.{Bool, true, false, cond, true≢false}
use native.Mathlib.Omega.{arith}
use lib.IntN.{pos}
use lib.ListN.{length}
use Rattle.condition.specs.Limits.{longest_tree}
use Rattle.condition.specs.Meaning.{at_most, Tree, plain, leaf, holds, ends, Formed, Within}
use Rattle.condition.specs.Bytes.{bytes}
use Rattle.condition.specs.Reading.{tree, read}
use Rattle.condition.specs.Satisfying.{Satisfiable}
use Rattle.condition.specs.Folding.{live}
use Rattle.condition.specs.Critical.{both, Firm}
use Rattle.condition.specs.Sweep.{trimmed}
use Rattle.condition.proofs.Reading.{read_written, one_start, longest, bytes_octets}
use Rattle.condition.proofs.Trimmed.{needs_most, trimmed_within}
use Rattle.condition.proofs.Count.{count_fixed}
use Rattle.travelring.specs.Trimming.{onto}
use Rattle.demands.specs.Hex.{hex}
use Rattle.demands.specs.Demands.{TrimCall, said, result, Room, Finished, Writes, finished, stopped, Written}
use Rattle.demands.specs.Useless.{Useless}
use Rattle.demands.proofs.Demands.{table, reports, covers, demand_2}
use Rattle.demands.proofs.Rows.{parts}
use Rattle.demands.proofs.Worked.{eight_again}

writes : (c : TrimCall) (b : Bool) → (said c).answer ≡ cond b 0 10 → Writes c
writes c true e = finished e
writes c false e = stopped e

refusing : (c : TrimCall) (t : Tree) → read c.input ≡ tree t → longest_tree ≤ length c.before → Writes c
refusing c t e h =
    let within = trimmed_within t c.ration (read_written c.input t c.octets e).1 in
    let room : Room c t = omega (arith, longest (result c t) within) in
    writes c (trimmed t c.ration).finished (ap (λ x. x.answer) ((table c).ends t e room).0)

-- the tree written is the one whose bytes stand at the output's start
the_one : (c : TrimCall) (w : Written c) (u : Tree) → Within u → c.after ≡ onto (bytes u) c.before → w.u ≡ u
the_one c w u within e =
    let mine = (read_written (bytes w.u) w.u (bytes_octets w.u) w.reads_back).1 in
    one_start w.u u _ _ mine within (sym w.stands ∙ e)

same_tree : (s : Tree) (t : Tree) → tree s ≡ tree t → s ≡ t
same_tree s t e = cc

always_false : (c : TrimCall) → Writes c → (t : Tree) → read c.input ≡ tree t → Satisfiable t →
    c.after ≡ onto (bytes (plain false)) c.before → ⊥
unfolding Formed holds ends
always_false c w t e s q =
    let d = demand_2.written c w in
    let a = s.0 in
    let u = the_one c d (plain false) (record { formed = tt; few = omega arith }) q in
    let was = same_tree d.t t (sym d.was_read ∙ e) in
    true≢false (sym s.1 ∙ ap (λ x. holds x a) (sym was) ∙ sym (d.means a) ∙ ap (λ x. holds x a) u)

handed_back : (c : TrimCall) → Finished c → (t : Tree) → read c.input ≡ tree t → (i : ℕ) → i < live t → (Firm t i → ⊥) →
    c.after ≡ onto c.input c.before → ⊥
handed_back c f t e i h n q =
    let d = demand_2.written c (finished f) in
    let r = read_written c.input t c.octets e in
    let u = the_one c d t r.1 (q ∙ ap (λ s. onto s c.before) r.0) in
    n (subst (λ x. Firm x i) u (d.firm f i (subst (λ x. i < live x) (sym u) h)))

-- what one sweep leaves of tree 8
half : Tree
half = both (leaf (at_most 1 0 (pos 5))) (leaf (at_most 1 0 (pos 3)))

half_within : Within half
unfolding half Formed ends
half_within = record {
  formed = (omega arith, ((omega arith, omega arith, omega arith), ((omega arith, omega arith, omega arith), tt)));
  few = omega arith;
}

half_bytes : bytes half ≡ hex "02 02 06 01 00 0a 06 01 00 06"
unfolding half parts
half_bytes = refl

half_end : 0 < live half
unfolding half live
half_end = omega arith

one_sweep : (c : TrimCall) → Finished c → c.after ≡ onto (hex "02 02 06 01 00 0a 06 01 00 06") c.before → ⊥
unfolding half
one_sweep c f q =
    let d = demand_2.written c (finished f) in
    let u = the_one c d half half_within (q ∙ ap (λ s. onto s c.before) (sym half_bytes)) in
    (subst (λ x. Firm x 0) u (d.firm f 0 (subst (λ x. 0 < live x) (sym u) half_end))).0 eight_again

pub useless : Useless
useless = record {
  refusing_everything = refusing;
  always_false = always_false;
  handed_back = handed_back;
  one_sweep = λ c e f. one_sweep c f;
  always_ten = λ c t e room h. (covers c t e room).1 (omega (arith, needs_most t, h));
  invented_count = λ c t e room n u s. reports c t e room ∙ ap (λ k. min k c.ration) (sym (count_fixed t n u s).0);
}
