-- `settling::Settled::nothing` meets its contract.
use Prim.Native.Nat.{ℕ, zero, suc}
use mathlib.Core.Path.{◌≡◌, refl}
use mathlib.Core.Bool.{Bool}
use lib.ListN.{get_or, replicate}
use Rattle.std.specs.Prelude.{Option, None}
use Rattle.settling.proofs.settled.Settled.nothing.Goals as goal

unset : (n p : ℕ) → get_or (replicate n (let x : Option Bool = None in x)) p None ≡ None
unset zero p = refl
unset (suc n) zero = refl
unset (suc n) (suc p) = unset n p

pub returns : goal.returns
returns c = record { waits = refl; flags = λ p. unset 32 p; numbers = c.start.ensures }
