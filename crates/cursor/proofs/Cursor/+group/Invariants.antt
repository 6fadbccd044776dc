-- What falls in the calls of `Cursor::group`; Answers.antt says the argument.
use Rattle.cursor.proofs.Cursor.+group.Given as goal

abbrev pub decreases-group : goal.decreases-group
decreases-group l = l.left
