-- The answers: document 01, "What each call answers", its table row by row. A number of an answer stands here, and the definitions cite its
-- name; the code is proved to return what they say; docs/check holds the pages, the header and the Rust crate against these rows.
use Rattle.std.specs.Prelude.{ℕ}

-- "finished (trim), judged, or found", at "0"; by all
abbrev pub finished : ℕ
finished = 0

-- "bytes end inside the tree", at "input length"; by all
abbrev pub ended : ℕ
ended = 1

-- "a number's third byte has the top bit, or the form isn't shortest", at "its first byte"; by all
abbrev pub form : ℕ
form = 2

-- "tag above 7", at "the tag"; by all
abbrev pub tag : ℕ
tag = 3

-- "child count 0 or 1", at "the count"; by all
abbrev pub count : ℕ
count = 4

-- "name too high", at "the name"; by all
abbrev pub name : ℕ
name = 5

-- "written c above 2,000,000", at "c"; by all
abbrev pub bound : ℕ
bound = 6

-- "after a child count, ends read plus ends still owed exceed 24", at "the connective's tag"; by all
abbrev pub crowd : ℕ
crowd = 7

-- "bytes follow the tree", at "first of them"; by all
abbrev pub after : ℕ
after = 8

-- "result, a stopped one too, longer than the output buffer", at "bytes needed"; by trim
abbrev pub long : ℕ
long = 9

-- "ration used up before the sweep ended", at "0"; by trim
abbrev pub stopped : ℕ
stopped = 10

-- "assignment buffer isn't 15 numbers", at "0"; by judge, find
abbrev pub unfit : ℕ
unfit = 11

-- "no satisfying assignment (find)", at "0"; by find
abbrev pub nothing : ℕ
nothing = 12

-- a refusal of reading: rows 1 to 8
pub data OfReading : ℕ → Type 0 where
  of_ended : OfReading ended
  of_form : OfReading form
  of_tag : OfReading tag
  of_count : OfReading count
  of_name : OfReading name
  of_bound : OfReading bound
  of_crowd : OfReading crowd
  of_after : OfReading after
