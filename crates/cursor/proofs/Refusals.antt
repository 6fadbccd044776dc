-- A refusal is read back off its number and place, so an answer that gives both gives the refusal. A row of the table each.
use Prim.Native.Nat.{ℕ}
use mathlib.Core.Path.{◌≡◌, refl}
use mathlib.Core.Bool.{cond}
use lib.Dec.{eqb}
use Rattle.condition.specs.Answers as answers
use Rattle.condition.specs.Answers.{OfReading, of_ended, of_form, of_tag, of_count, of_name, of_bound, of_crowd, of_after}
use Rattle.cursor.specs.declared.Refusal.{Refusal}
use Rattle.cursor.specs.declared.Refusal.TheVariants.{Ended, Form, Tag, Count, Name, Bound, Crowd, After}
use Rattle.cursor.specs.Said.{answer_of, place_of}

pub refusal_of : ℕ → ℕ → Refusal
refusal_of n p =
    cond (eqb n answers.ended) (Ended p)
    (cond (eqb n answers.form) (Form p)
    (cond (eqb n answers.tag) (Tag p)
    (cond (eqb n answers.count) (Count p)
    (cond (eqb n answers.name) (Name p)
    (cond (eqb n answers.bound) (Bound p)
    (cond (eqb n answers.crowd) (Crowd p) (After p)))))))

pub record Back (why : Refusal) : Type 0 where
  pub of : OfReading (answer_of why)
  pub same : refusal_of (answer_of why) (place_of why) ≡ why

pub back : (why : Refusal) → Back why
unfolding refusal_of
back (Ended p) = record { of = of_ended; same = refl }
back (Form p) = record { of = of_form; same = refl }
back (Tag p) = record { of = of_tag; same = refl }
back (Count p) = record { of = of_count; same = refl }
back (Name p) = record { of = of_name; same = refl }
back (Bound p) = record { of = of_bound; same = refl }
back (Crowd p) = record { of = of_crowd; same = refl }
back (After p) = record { of = of_after; same = refl }

-- and each number of reading with each place is some refusal's
pub there : (n p : ℕ) → OfReading n → (answer_of (refusal_of n p) ≡ n) × (place_of (refusal_of n p) ≡ p)
unfolding refusal_of
there n p of_ended = (refl, refl)
there n p of_form = (refl, refl)
there n p of_tag = (refl, refl)
there n p of_count = (refl, refl)
there n p of_name = (refl, refl)
there n p of_bound = (refl, refl)
there n p of_crowd = (refl, refl)
there n p of_after = (refl, refl)
