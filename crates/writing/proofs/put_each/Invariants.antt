-- What the loop of `writing::put_each` keeps: the numbers passed stand one after another.
use Rattle.std.proofs.Common.{take}
use Rattle.std.specs.List.{flat_map}
use Rattle.condition.specs.Bytes.{number}
use Rattle.writing.specs.Written.{Put}
use Rattle.writing.proofs.put_each.Given as goal

abbrev pub invariant-loop-n : goal.invariant-loop-n
invariant-loop-n l = Put l.initial.out l.out (flat_map number (take l.n-index l.numbers)) l.at
