-- `asking::siblings` meets its contract: the elder siblings, and after them the younger (Gathering.antt).
use mathlib.Core.Path.{◌≡◌}
use native.Mathlib.Omega.{arith}
use lib.ListN.{length, take, length-take, length-drop, length-append}
use Rattle.asking.proofs.Gathering.{siblings_lent}
use Rattle.asking.proofs.siblings.Goals as goal

pub returns : goal.returns
returns c =
    let whole : length (take c.args.c.at c.args.out.now) ≡ c.args.c.at = simp length-take (omega arith) in
    siblings_lent _ _ _ _ _ _ _ _ _ c.args.out.now c.star.new.out c.star-2.new.out c.requires c.rest.ensures c.rest-younger.ensures
    c.star.ensures c.star-2.ensures whole (simp (length-take, length-drop, length-append) (omega arith)) (omega arith) (omega arith)
