-- The documents' assignment that the code's gives: "32 boolean bits (boolean p is the bit of weight 2^p) and 15 signed 32-bit numbers".
use Rattle.condition.specs.Meaning.{Assignment, given}
use Rattle.judging.specs.declared.Assignment.{Assignment as Held}

abbrev pub assignment_of : Held → Assignment
assignment_of a = given a.flags a.numbers.now
