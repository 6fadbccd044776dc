-- `folding::end` meets its contract: the constant is put where the cut is at this end, the end itself elsewhere.
use Rattle.folding.proofs.Puts.{end_cut, end_kept}
use Rattle.folding.proofs.end.Goals as goal

pub returns-in-Some : goal.returns-in-Some
returns-in-Some c = end_cut _ _ _ c.pass.ensures.after _ _ _ c.in-Some.ensures.first c.put_constant.ensures

pub returns : goal.returns
returns c = end_kept _ _ _ c.pass.ensures.after c.args.out.now c.in_default.ensures.first c.requires
