-- `writing::put` meets its contract, a cycle of one in which the groups left fall. Each way out is a law of Room.antt.
use Rattle.writing.proofs.Room as room
use Rattle.writing.proofs.+put.Goals as goal

pub returns-then-groups-eq0 : goal.returns-then-groups-eq0
returns-then-groups-eq0 t c = room.put_none _ _ _ c.if-groups-eq0.true

pub returns-then-n-lt-SIZE : goal.returns-then-n-lt-SIZE
returns-then-n-lt-SIZE t c = room.put_short _ _ c.if-groups-eq0.false c.in-Some.ensures.cases.0 c.if-n-lt-SIZE.true

pub returns : goal.returns
returns t c = room.put_long _ _ c.if-groups-eq0.false c.in-Some.ensures.cases.0 c.if-n-lt-SIZE.false c.put.ensures
