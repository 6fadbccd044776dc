-- What contracts see of a table: "the 256 distances" (document 01, "Critical constraint and sweep"), of which Table.antt speaks.
use Rattle.std.specs.Prelude.{ℕ, List}
use Rattle.differences.specs.declared.Table.{Table}

abbrev pub distances : Table → List ℕ
distances t = t.entries
