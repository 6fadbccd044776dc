-- `asking::star` meets its contract: trees are copied below an `and`, negated below an `or` (Turned.antt).
use Rattle.asking.proofs.Turned.{stars_copied, stars_negated}
use Rattle.asking.proofs.star.Goals as goal

pub returns-then-all : goal.returns-then-all
returns-then-all c = stars_copied _ _ _ _ _ c.if-all.true c.copy.ensures

pub returns-else-all : goal.returns-else-all
returns-else-all c = stars_negated _ _ _ _ _ c.if-all.false c.negate_all.ensures
