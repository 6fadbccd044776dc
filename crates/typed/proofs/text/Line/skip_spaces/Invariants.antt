-- `typed::text::Line::skip_spaces` ends: the measure is what is left of the line.
use Rattle.std.proofs.Common.{length}
use Rattle.typed.proofs.text.Line.skip_spaces.Given as goal

abbrev pub decreases-loop-self : goal.decreases-loop-self
decreases-loop-self l = length l.self.rest.now
