-- `reading::boolean` meets its contract: a step that yields no value stops it, and what was read is put at the next free node (Ways.antt).
use Rattle.reading.proofs.Ways as ways
use Rattle.reading.proofs.boolean.Goals as goal

pub returns : goal.returns
returns c =
    ways.end_flag _ _ _ _ _ c.requires.0 _ _ _ c.requires.1 c.in-Ok.ensures c.put_end.ensures.0 c.put_end.ensures.1
