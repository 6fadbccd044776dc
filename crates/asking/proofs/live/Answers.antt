-- `asking::live` meets its contract: the ends of a tree are those of its nodes (EndsCounted.antt).
use Rattle.asking.proofs.EndsCounted.{lives, too_large}
use Rattle.asking.proofs.live.Goals as goal

pub returns-then-n-gt-QUESTION_ROOM : goal.returns-then-n-gt-QUESTION_ROOM
returns-then-n-gt-QUESTION_ROOM c = too_large _ _ 0 c.size_at-n.ensures.0 c.if-n-gt-QUESTION_ROOM.true

pub returns : goal.returns
returns c = lives _ _ _ c.size_at-n.ensures.0 c.if-n-gt-QUESTION_ROOM.false c.ends.ensures
