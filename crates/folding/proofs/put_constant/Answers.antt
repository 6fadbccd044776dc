-- `folding::put_constant` meets its contract (Puts.antt).
use Rattle.folding.proofs.Puts.{constant_put}
use Rattle.folding.proofs.put_constant.Goals as goal

pub returns : goal.returns
returns c = constant_put c.args.out.now c.args.b c.requires
