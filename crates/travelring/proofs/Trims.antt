-- What each way out of `trim` shows: a refusal of the reading; a result longer than the output; or the sweep's end. The tree read is
-- within the limits, so its result is, so it fits the room of a tree, and what the sweep, the writer and the count of ends say is of it.
use Prim.Native.Nat.{ℕ, ◌≤◌, ◌<◌}
use mathlib.Core.Path.{◌≡◌, refl, subst, ◌∙◌}
use mathlib.Core.List.{List}
use mathlib.Core.Bool.{Bool}
use native.Mathlib.Omega.{arith}
use lib.ListN.{length, get_or}
use Rattle.condition.specs.Limits.{tree_room}
use Rattle.condition.specs.Meaning.{Tree}
use Rattle.condition.specs.Reading.{Read, tree, refusal, read}
use Rattle.condition.specs.Folding.{live}
use Rattle.condition.specs.Sweep.{Answer, trimmed}
use Rattle.condition.proofs.Reading.{octets, read_written}
use Rattle.condition.proofs.Trimmed.{trimmed_within}
use Rattle.cursor.specs.declared.Refusal.{Refusal}
use Rattle.nodes.specs.declared.Node.{Node}
use Rattle.nodes.specs.Memory.{node_at}
use Rattle.nodes.specs.Laid.{nodes}
use Rattle.nodes.proofs.Laws.{nodes_few}
use Rattle.reading.specs.Parts.{Holds}
use Rattle.writing.specs.Written.{Wrote, Written}
use Rattle.asking.specs.Asked.{Lives}
use Rattle.sweeping.specs.Swept.{Says, Sweeps}
use Rattle.std.specs.Prelude.{Result, Ok, Err}
use Rattle.travelring.specs.declared.Trimmed.{Trimmed}
use Rattle.travelring.specs.declared.TrimRefusal.{TrimRefusal}
use Rattle.travelring.specs.declared.TrimRefusal.TheVariants.{Bytes, Long}
use Rattle.travelring.specs.Trimming.{Outcome, fitted, outcome_read, outcome, told_trimmed, length_told, onto, Trims}
use Rattle.travelring.proofs.Outcomes.{too_long, fits}

-- the contract, of an outcome
record Shows (o : Outcome) (out : List ℕ) (r : Result Trimmed TrimRefusal) (out' : List ℕ) : Type 0 where
  told : told_trimmed r ≡ o.said
  long : length_told r ≡ length o.written
  lent : out' ≡ onto o.written out

-- what the result's answer, its tree written and its ends counted show
module _ (a : Answer) (out out' : List ℕ) (needed : ℕ) (wrote : Wrote a.tree out out' needed) where
  too_short : length out < needed → Shows (fitted (length out) a) out (Err (Long needed)) out'
  too_short h =
      let n = wrote.long in
      rw (too_long (length out) a (omega (arith, n, h))) (record { told = simp n; long = refl; lent = wrote.full h })

  done : needed ≤ length out → (r : Trimmed) → r.finished ≡ a.finished → r.questions ≡ a.asked → r.ends ≡ live a.tree →
      r.bytes ≡ needed → Shows (fitted (length out) a) out (Ok r) out'
  done h r f q k b =
      let n = wrote.long in
      rw (fits (length out) a (omega (arith, n, h)))
      (record {
        told = simp (f, q, k);
        long = b ∙ n;
        lent = wrote.here h ∙ simp n;
      })

module _ (s : List ℕ) (ration : ℕ) (out : List ℕ) (x : Result Unit Refusal) (ns : List Node) (held : Holds ns x (read s)) where
  as_read : (r : Result Trimmed TrimRefusal) (out' : List ℕ) → Shows (outcome_read (read s) ration (length out)) out r out' →
      Trims s ration out r out'
  unfolding outcome
  as_read r out' h = record { told = h.told; long = h.long; lent = h.lent }

  pub trim_refuses : (why : Refusal) → x ≡ Err why → Trims s ration out (Err (Bytes why)) out
  trim_refuses why e = as_read (Err (Bytes why)) out (carried (read s) (subst (λ z. Holds ns z (read s)) e held))
    where
      carried : (y : Read) → Holds ns (Err why) y → Shows (outcome_read y ration (length out)) out (Err (Bytes why)) out
      carried (tree t) h = absurd h
      carried (refusal n p) h = record { told = simp (h.0, h.1); long = refl; lent = refl }

  module _ (octet : (i : ℕ) → get_or s i 0 < 256) (u : Unit) (e : x ≡ Ok u) (result : List Node) (asked : ℕ)
      (finished : Bool) (swept : Sweeps (node_at ns) ration result asked finished) where
    -- the tree read, and what is said of its result
    record Reached (t : Tree) : Type 0 where
      says : Says (trimmed t ration) result asked finished
      small : nodes (trimmed t ration).tree ≤ tree_room

    reached : (t : Tree) → read s ≡ tree t → Holds ns (Ok u) (tree t) → Reached t
    reached t same h =
        let within = (read_written s t (octets s octet) same).1 in
        let inside = trimmed_within t ration within in
        let few = nodes_few (trimmed t ration).tree inside.formed in
        record { says = swept.right t h.0 h.1 within; small = omega (arith, few, inside.few) }

    module _ (out' : List ℕ) (needed : ℕ) (written : Written (node_at result) out out' needed) where
      wrote : (t : Tree) → Reached t → Wrote (trimmed t ration).tree out out' needed
      wrote t h = written.tree (trimmed t ration).tree h.says.laid h.small

      by_tree : (r : Result Trimmed TrimRefusal) →
          ((t : Tree) → Reached t → Shows (fitted (length out) (trimmed t ration)) out r out') → Trims s ration out r out'
      by_tree r f = as_read r out' (told (read s) refl (subst (λ z. Holds ns z (read s)) e held))
        where
          told : (y : Read) → read s ≡ y → Holds ns (Ok u) y → Shows (outcome_read y ration (length out)) out r out'
          told (tree t) same h = f t (reached t same h)
          told (refusal m p) same h = absurd h

      pub trim_long : length out < needed → Trims s ration out (Err (Long needed)) out'
      trim_long h = by_tree (Err (Long needed)) (λ t g. too_short (trimmed t ration) out out' needed (wrote t g) h)

      pub trim_ends : needed ≤ length out → (ends : ℕ) → Lives (node_at result) ends → (r : Trimmed) →
          r.finished ≡ finished → r.questions ≡ asked → r.ends ≡ ends → r.bytes ≡ needed → Trims s ration out (Ok r) out'
      trim_ends h ends lives r f q k b = by_tree (Ok r) (λ t g.
          let a = trimmed t ration in
          let counted = lives.right a.tree g.says.laid (omega (arith, g.small)) in
          done a out out' needed (wrote t g) h r (f ∙ g.says.over) (q ∙ g.says.count) (k ∙ counted) b)
