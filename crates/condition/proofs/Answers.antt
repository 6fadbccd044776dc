-- A refusal of reading is none of the other answers: a test passes the numbers of the one and not those of the others.
use Prim.Native.Nat.{ℕ}
use mathlib.Core.Path.{◌≡◌, refl, sym, ap, ◌∙◌}
use mathlib.Core.Bool.{Bool, true, false, true≢false, ◌&&◌}
use lib.Dec.{leb}
use Rattle.condition.specs.Answers as answers
use Rattle.condition.specs.Answers.{OfReading, of_ended, of_form, of_tag, of_count, of_name, of_bound, of_crowd, of_after}

abbrev pub of_reading : ℕ → Bool
of_reading n = leb answers.ended n && leb n answers.after

passes : (n : ℕ) → OfReading n → of_reading n ≡ true
passes n of_ended = refl
passes n of_form = refl
passes n of_tag = refl
passes n of_count = refl
passes n of_name = refl
passes n of_bound = refl
passes n of_crowd = refl
passes n of_after = refl

pub apart : {n : ℕ} → OfReading n → (m : ℕ) → of_reading m ≡ false → n ≡ m → ⊥
apart {n} h m e q = true≢false (sym (passes n h) ∙ ap of_reading q ∙ e)
