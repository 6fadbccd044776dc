-- `typed::text::Line::decimal` meets its contract: what is read so far is at most `most`, so that ten times it and a digit fits.
-- The measure is what is left of the line.
use Rattle.std.proofs.Common.{◌≤◌, length}
use Rattle.typed.proofs.text.Line.decimal.Given as goal

abbrev pub invariant-loop-self : goal.invariant-loop-self
invariant-loop-self l = l.value ≤ l.most

abbrev pub decreases-loop-self : goal.decreases-loop-self
decreases-loop-self l = length l.self.rest.now
