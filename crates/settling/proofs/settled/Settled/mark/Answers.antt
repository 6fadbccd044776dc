-- `settling::Settled::mark` meets its contract: settled before, or settled now (Ends.antt).
use mathlib.Core.Path.{refl}
use native.Mathlib.Omega.{arith}
use Rattle.settling.proofs.Ends as ends
use Rattle.settling.proofs.settled.Settled.mark.Goals as goal

pub returns-in-Some : goal.returns-in-Some
returns-in-Some c = ends.mark_known _ _ _ _ c.in-Some.is

pub returns : goal.returns
returns c = ends.mark_set _ _ _ c.in_default.is (omega arith) _ refl refl refl refl
