-- `writing::own_length` meets its contract: a node's own bytes are written to a room that always holds them.
use Rattle.std.proofs.Common.{refl}
use Rattle.writing.proofs.Own.{own_measured}
use Rattle.writing.proofs.own_length.Goals as goal

pub returns : goal.returns
returns c = own_measured _ refl c.put_own.ensures
