-- `folding::shut` meets its contract: each way out is a law of Puts.antt.
use native.Mathlib.Omega.{arith}
use mathlib.Core.Path.{ap}
use Rattle.folding.specs.Parts.{size_left}
use Rattle.folding.proofs.Puts.{shut_decided, shut_none, shut_one, shut_more}
use Rattle.folding.proofs.shut.Goals as goal

pub returns-in_default : goal.returns-in_default
returns-in_default c = shut_decided _ _ _ _ _ c.in_default.is c.put_constant.ensures

pub returns-then-left-eq0 : goal.returns-then-left-eq0
returns-then-left-eq0 c =
    shut_none _ _ _ c.in-Some.is _ _ _ c.if-left-eq0.true c.put_constant-then-left-eq0.ensures

pub returns-then-left-eq-ONE_LEFT : goal.returns-then-left-eq-ONE_LEFT
returns-then-left-eq-ONE_LEFT c =
    rw c.copy_within.ensures.after
    (shut_one _ _ _ c.in-Some.is c.args.out.now c.if-left-eq-ONE_LEFT.true (omega (arith, ap size_left c.in-Some.is)))

pub returns : goal.returns
returns c = shut_more _ _ _ c.in-Some.is c.args.out.now c.if-left-eq0.false c.if-left-eq-ONE_LEFT.false (omega arith)
