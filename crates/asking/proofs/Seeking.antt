-- What each way out of `seek` shows. The trees passed have the ends before the one sought; it is found in the first tree that has more
-- ends than are still to be passed.
use Prim.Native.Nat.{ℕ, ◌+◌, ◌-◌, ◌≤◌, ◌<◌}
use mathlib.Core.Path.{◌≡◌, refl, sym, subst, ap, ◌∙◌}
use native.Mathlib.Omega.{arith}
use Rattle.condition.specs.Meaning.{Forest, none, more}
use Rattle.condition.specs.Folding.{live, live_all}
use Rattle.nodes.specs.declared.Node.{Node}
use Rattle.nodes.specs.Memory.{size_of}
use Rattle.nodes.specs.Laid.{nodes, nodes_all, Laid, LaidAll}
use Rattle.nodes.proofs.Laws.{some_node, sized, rest_laid}
use Rattle.asking.specs.Asked.{ends_from, onto, Among, Sought}
use Rattle.asking.proofs.EndsCounted.{ends_are}
use Rattle.asking.proofs.Onto.{onto_again, onto_nodes, onto_live}

-- the trees `elder` are passed, and `ahead` stand from node `at` on; what is left of m is `end`, an end of those ahead if m is an end
pub record Passed (ts : Forest) (n : ℕ → Node) (last m at end : ℕ) : Type 0 where
  pub elder : Forest
  pub ahead : Forest
  pub parts : ts ≡ onto elder ahead
  pub before : nodes_all elder ≡ at
  pub laid : LaidAll ahead n at
  pub rest : at + nodes_all ahead ≡ last
  pub ended : live_all elder + end ≡ m

pub record Seeking (n : ℕ → Node) (last m at end : ℕ) : Type 0 where
  pub high : at ≤ last
  pub going : (ts : Forest) → LaidAll ts n 0 → nodes_all ts ≡ last → Passed ts n last m at end

module _ {n : ℕ → Node} {last m : ℕ} where
  pub seek_none : Seeking n last m 0 m
  unfolding nodes live
  seek_none = record {
    high = omega arith;
    going = λ ts l e. record {
      elder = none;
      ahead = ts;
      parts = refl;
      before = refl;
      laid = l;
      rest = omega arith;
      ended = omega arith;
    };
  }

  -- where no tree is last, or its nodes are too many, none was sought
  nowhere : {at end : ℕ} → Seeking n last m at end → ((ts : Forest) → Passed ts n last m at end → live_all ts ≤ m) →
      (ts : Forest) → LaidAll ts n 0 → nodes_all ts ≡ last → live_all ts ≤ m
  nowhere w never ts l e = never ts (w.going ts l e)

  ends_in : {at end : ℕ} (ts : Forest) (p : Passed ts n last m at end) → live_all ts ≡ live_all p.elder + live_all p.ahead
  ends_in ts p = ap live_all p.parts ∙ onto_live p.elder p.ahead

  pub seek_over : {at end : ℕ} → last ≤ at → Seeking n last m at end → (ts : Forest) → LaidAll ts n 0 → nodes_all ts ≡ last → live_all ts ≤ m
  unfolding nodes live Laid
  seek_over {at} {end} h w = nowhere w (λ ts p. by ts p p.ahead p.rest (ends_in ts p))
    where
      by : (ts : Forest) (p : Passed ts n last m at end) (us : Forest) → at + nodes_all us ≡ last →
          live_all ts ≡ live_all p.elder + live_all us → live_all ts ≤ m
      by ts p none e q = let x = p.ended in omega arith
      by ts p (more t us) e q = absurd (omega (arith, some_node t))

  module _ {at end s : ℕ} (sz : s ≡ size_of (n at)) (w : Seeking n last m at end) (near : at < last) where
    pub seek_beyond : last - at < s → (ts : Forest) → LaidAll ts n 0 → nodes_all ts ≡ last → live_all ts ≤ m
    unfolding nodes live Laid
    seek_beyond h = nowhere w (λ ts p. absurd (never p.ahead p.laid p.rest))
      where
        never : (us : Forest) → LaidAll us n at → at + nodes_all us ≡ last → ⊥
        never none l e = omega arith
        never (more t us) l e = omega (arith, sized t n at l.0)

    module _ {e : ℕ} (k : ℕ → Node) (from : (x : ℕ) → k x ≡ n (at + x)) (fit : s ≤ last - at) (counted : e ≡ ends_from k 0 s) where
      pub seek_found : end < e → 1 ≤ s → Sought n last m (record { at = at; size = s; end = end })
      unfolding nodes live Laid
      seek_found lt some = record {
        some = some;
        high = omega arith;
        right = λ ts l q. let p = w.going ts l q in found ts p p.ahead p.parts p.laid p.rest;
      }
        where
          found : (ts : Forest) (p : Passed ts n last m at end) (us : Forest) → ts ≡ onto p.elder us → LaidAll us n at →
              at + nodes_all us ≡ last → Among ts m (record { at = at; size = s; end = end })
          found ts p none q l r = absurd (omega arith)
          found ts p (more t us) q l r =
              let same : s ≡ nodes t = sz ∙ sized t n at l.0 in
              let ends : e ≡ live t = counted ∙ ap (ends_from k 0) same ∙ ends_are t k 0 (rest_laid n k at from t l.0) in
              record {
                elder = p.elder;
                t = t;
                younger = us;
                parts = q;
                before = p.before;
                here = sym same;
                ended = p.ended;
                inside = omega arith;
              }

      pub seek_on : e ≤ end → Seeking n last m (at + s) (end - e)
      unfolding nodes live Laid
      seek_on le = record {
        high = omega arith;
        going = λ ts l q. let p = w.going ts l q in on ts p p.ahead p.parts p.laid p.rest;
      }
        where
          on : (ts : Forest) (p : Passed ts n last m at end) (us : Forest) → ts ≡ onto p.elder us → LaidAll us n at →
              at + nodes_all us ≡ last → Passed ts n last m (at + s) (end - e)
          on ts p none q l r = absurd (omega arith)
          on ts p (more t us) q l r =
              let same : s ≡ nodes t = sz ∙ sized t n at l.0 in
              let ends : e ≡ live t = counted ∙ ap (ends_from k 0) same ∙ ends_are t k 0 (rest_laid n k at from t l.0) in
              record {
                elder = onto p.elder (more t none);
                ahead = us;
                parts = q ∙ sym (onto_again p.elder (more t none) us);
                before = omega (arith, onto_nodes p.elder (more t none), p.before);
                laid = subst (λ x. LaidAll us n (at + x)) (sym same) l.1;
                rest = omega arith;
                ended = omega (arith, onto_live p.elder (more t none), p.ended);
              }
