-- A boolean worked into what is settled: one that is settled already stays, and another takes its side.
use Prim.Native.Nat.{ℕ, ◌<◌}
use mathlib.Core.Path.{◌≡◌, refl, sym, ap, ◌∙◌}
use mathlib.Core.Logic.{◌↔◌}
use mathlib.Core.Bool.{Bool, true, false, not, not-not, beq, true≢false}
use native.Mathlib.Decide.{ℕ_discrete}
use lib.ListN.{length, get_or, set}
use lib.Seq.{get_or-set_same, get_or-set_other}
use Rattle.std.specs.Prelude.{Some, None}
use Rattle.std.specs.Cmp.{booleans_Decides}
use Rattle.std.proofs.lemmas.Option.{none-some}
use Rattle.condition.specs.Meaning.{Assignment, met}
use Rattle.nodes.specs.Laid.{flag_end}
use Rattle.settling.specs.declared.settled.Settled.{Settled}
use Rattle.settling.specs.Settled.{Agrees, Fixes}

flag_met : (so : Bool) (p : ℕ) (a : Assignment) → (met (flag_end so p) a ≡ true) ↔ (a.flag p ≡ so)
unfolding met
flag_met true p a = ((λ e. e), (λ e. e))
flag_met false p a = ((λ e. sym (not-not (a.flag p)) ∙ ap not e), (λ e. ap not e))

module _ (s : Settled) (so : Bool) (p : ℕ) where
  -- settled already, one way or the other
  pub mark_known : (b : Bool) → get_or s.flags p None ≡ Some b → Fixes s (flag_end so p) (beq b so) s
  mark_known b h = record {
    ors = refl;
    many = refl;
    meets = λ e a. ((λ k. (k, (flag_met so p a).1 (k.flags.says p b h ∙ (booleans_Decides b so).0 e))), (λ k. k.0));
    none = λ e w a k m. true≢false (sym ((booleans_Decides b so).1 (sym (k.flags.says p b h) ∙ (flag_met so p a).0 m)) ∙ e);
  }

  module _ (new : get_or s.flags p None ≡ None) (few : p < length s.flags) (s' : Settled) (put : s'.flags ≡ set s.flags p (Some so)) where
    here : get_or s'.flags p None ≡ Some so
    here = ap (λ l. get_or l p None) put ∙ get_or-set_same s.flags p (Some so) None few

    elsewhere : (q : ℕ) → (q ≡ p → ⊥) → get_or s'.flags q None ≡ get_or s.flags q None
    elsewhere q ne = ap (λ l. get_or l q None) put ∙ get_or-set_other s.flags p q (Some so) None ne

    agrees : (a : Assignment) → Agrees s'.flags a ↔ (Agrees s.flags a × (met (flag_end so p) a ≡ true))
    agrees a = (
      (λ g. (
        record {
          says = λ q so' e. elim (ℕ_discrete q p) [
            | yes same ↦ absurd (none-some so' (sym new ∙ ap (λ x. get_or s.flags x None) (sym same) ∙ e))
            | no ne ↦ g.says q so' (elsewhere q ne ∙ e)
          ];
        },
        (flag_met so p a).1 (g.says p so here),
      )),
      (λ g. record {
        says = λ q so' e. elim (ℕ_discrete q p) [
          | yes same ↦ ap a.flag same ∙ (flag_met so p a).0 g.1 ∙ side so' (sym here ∙ ap (λ x. get_or s'.flags x None) (sym same) ∙ e)
          | no ne ↦ g.0.says q so' (sym (elsewhere q ne) ∙ e)
        ];
      }),
    )
      where
        side : (so' : Bool) → Some so ≡ Some so' → so ≡ so'
        side so' e = cc

    pub mark_set : s'.ors ≡ s.ors → s'.many ≡ s.many → s'.table ≡ s.table → Fixes s (flag_end so p) true s'
    mark_set o m t = record {
      ors = o;
      many = m;
      meets = λ e a. (
        (λ k. let g = (agrees a).0 k.flags in (record { flags = g.0; numbers = rw t at k.numbers }, g.1)),
        (λ k. record { flags = (agrees a).1 (k.0.flags, k.1); numbers = rw t k.0.numbers }),
      );
      none = λ e. absurd (true≢false e);
    }
