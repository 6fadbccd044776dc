-- The useless versions of trim that document 01 wants shown impossible: no call that the contract allows is one of them.
use Rattle.std.specs.Prelude.{ℕ, ◌+◌, ◌*◌, ◌≤◌, ◌<◌, min, ◌≡◌, false, length}
use Rattle.condition.specs.Limits.{longest_tree}
use Rattle.condition.specs.Meaning.{Tree, plain}
use Rattle.condition.specs.Bytes.{bytes}
use Rattle.condition.specs.Reading.{tree, read}
use Rattle.condition.specs.Satisfying.{Satisfiable}
use Rattle.condition.specs.Folding.{fold, live}
use Rattle.condition.specs.Critical.{Firm}
use Rattle.condition.specs.Counting.{Sweeps}
use Rattle.travelring.specs.Trimming.{onto}
use Rattle.demands.specs.Hex.{hex}
use Rattle.demands.specs.Demands.{TrimCall, said, Room, Finished, Writes}

pub record Useless : Type 0 where
  -- "refusing everything (demand 1, exact refusals)": a tree that reads is not refused, where the output has the longest tree's bytes
  pub refusing_everything : (c : TrimCall) (t : Tree) → read c.input ≡ tree t → longest_tree ≤ length c.before → Writes c
  -- "always false [..] (demand 2, meaning [..])": false is not written for a tree that some assignment satisfies
  pub always_false : (c : TrimCall) → Writes c → (t : Tree) → read c.input ≡ tree t → Satisfiable t →
      c.after ≡ onto (bytes (plain false)) c.before → ⊥
  -- "or the input handed back (demand 2, [..] redundancy)": not as finished, if one of its ends is redundant
  pub handed_back : (c : TrimCall) → Finished c → (t : Tree) → read c.input ≡ tree t → (i : ℕ) → i < live t → (Firm t i → ⊥) →
      c.after ≡ onto c.input c.before → ⊥
  -- "one honest sweep and then a pretence of more (demand 2, tree 8)": one sweep leaves x<=5 and x<=3
  pub one_sweep : (c : TrimCall) → c.input ≡ hex "02 02 06 01 00 0a 03 02 06 01 00 06 07 01 00 0a" → Finished c →
      c.after ≡ onto (hex "02 02 06 01 00 0a 06 01 00 06") c.before → ⊥
  -- "always answer 10 (demand 3, the ration that suffices)"
  pub always_ten : (c : TrimCall) (t : Tree) → read c.input ≡ tree t → Room c t → live (fold t) * (live (fold t) + 1) ≤ c.ration →
      Finished c
  -- "an invented question count (demand 3, the fixed count)"
  pub invented_count : (c : TrimCall) (t : Tree) → read c.input ≡ tree t → Room c t → (n : ℕ) (u : Tree) → Sweeps (fold t) n u →
      (said c).questions ≡ min n c.ration
