-- Document 01's number and place for each refusal of a reading, and what a step of the cursor says.
use Rattle.std.specs.Prelude.{ℕ, ◌<◌, ◌^◌, List, drop, Result, Ok, Err}
use Rattle.condition.specs.Answers as answers
use Rattle.condition.specs.Limits.{group_size}
use Rattle.condition.specs.Reading.{Reading, got, refused}
use Rattle.cursor.specs.declared.Refusal.{Refusal}
use Rattle.cursor.specs.declared.Refusal.TheVariants.{Ended, Form, Tag, Count, Name, Bound, Crowd, After}
use Rattle.cursor.specs.declared.Cursor.{Cursor}

-- which row of the table each is
abbrev pub answer_of : Refusal → ℕ
answer_of (Ended at) = answers.ended
answer_of (Form at) = answers.form
answer_of (Tag at) = answers.tag
answer_of (Count at) = answers.count
answer_of (Name at) = answers.name
answer_of (Bound at) = answers.bound
answer_of (Crowd at) = answers.crowd
answer_of (After at) = answers.after

abbrev pub place_of : Refusal → ℕ
place_of (Ended at) = at
place_of (Form at) = at
place_of (Tag at) = at
place_of (Count at) = at
place_of (Name at) = at
place_of (Bound at) = at
place_of (Crowd at) = at
place_of (After at) = at

-- the bytes from a place on
unfoldable pub from : List ℕ → ℕ → List ℕ
from s at = drop at s

-- of a step, of the bytes s: a value and the bytes from the next cursor on, or the refusal
abbrev pub said : List ℕ → Result (ℕ × Cursor) Refusal → Reading ℕ
said s (Ok (n, c)) = got n (from s c.at) c.at
said s (Err why) = refused (answer_of why) (place_of why)

-- a value of at most g groups is below group_size ^ g
abbrev pub Small : ℕ → Result (ℕ × Cursor) Refusal → Type 0
Small g (Ok (n, c)) = n < group_size ^ g
Small g (Err why) = Unit {0}
