-- `reading::difference` meets its contract: a step that yields no value stops it, and what was read is put at the next free node
-- (Ways.antt).
use Rattle.reading.proofs.Ways as ways
use Rattle.reading.proofs.difference.Goals as goal

pub returns : goal.returns
returns c =
    ways.end_bound _ _ _ _ _ c.requires.0 _ _ _ _ _ _ _ _ c.requires.1 c.in-Ok.ensures c.in-Ok-second.ensures c.in-Ok-bound.ensures
    c.shift.ensures c.put_end.ensures.0 c.put_end.ensures.1
