-- The starred worked trees of document 01, "proved, together as a single table under one statement about the definitions".
use Rattle.std.specs.Prelude.{ℕ, ◌≡◌, List, [], ◌∷◌}
use Prim.Native.String.{String}
use Rattle.condition.specs.Limits.{longest_tree}
use Rattle.travelring.specs.Trimming.{outcome}
use Rattle.demands.specs.Hex.{hex}

-- bytes given, and the ration; then the answer, the place, the questions asked, the ends of the result, and the bytes written
pub data Row : Type 0 where
  row : String → (ration answer place questions ends : ℕ) → String → Row

-- "The program takes [..] 190 bytes of output room."
abbrev pub room : ℕ
room = longest_tree

-- what trim answers and writes, exactly
abbrev pub Kept : Row → Type 0
Kept (row s ration answer place questions ends w) =
    outcome (hex s) ration room ≡ record {
      said = record { answer = answer; place = place; questions = questions; ends = ends };
      written = hex w;
    }

-- of every row of a table
infixr 5 ◌then◌
pub data AllKept : List Row → Type 0 where
  no_more : AllKept []
  ◌then◌ : {r : Row} {rs : List Row} → Kept r → AllKept rs → AllKept (r ∷ rs)

-- "Worked trees (hex; questions; result)": bytes, ration (the program's 600 where none is stated), answer, place, questions, ends, result
abbrev pub starred : List Row
starred =
    -- 1. "`01`: 0, `01`, finished at ration 0."
    row "01" 600 0 0 0 0 "01"
    ∷ row "01" 0 0 0 0 0 "01"
    -- 2. "`04 00`: 2, itself. Ration 1: answer 10, 1 asked, itself."
    ∷ row "04 00" 600 0 0 2 1 "04 00"
    ∷ row "04 00" 1 10 0 1 1 "04 00"
    -- 3. "`02 02 01 04 00`: folds to `04 00`; 2." What it folds to is what is left when nothing may be asked
    ∷ row "02 02 01 04 00" 600 0 0 2 1 "04 00"
    ∷ row "02 02 01 04 00" 0 10 0 0 1 "04 00"
    -- 4. "`03 02 04 00 05 00`: 1, `01`."
    ∷ row "03 02 04 00 05 00" 600 0 0 1 0 "01"
    -- 5. "`02 02 04 00 04 00`: 3, `04 00`."
    ∷ row "02 02 04 00 04 00" 600 0 0 3 1 "04 00"
    -- 6. "`06 01 01 00`: 1, `01`. `06 01 01 01`: 2, `00`."
    ∷ row "06 01 01 00" 600 0 0 1 0 "01"
    ∷ row "06 01 01 01" 600 0 0 2 0 "00"
    -- 7. "x<=3 or x<=1, `03 02 06 01 00 06 06 01 00 02`: 6, `06 01 00 06`; the bound n(n+1) is met."
    ∷ row "03 02 06 01 00 06 06 01 00 02" 600 0 0 6 1 "06 01 00 06"
    -- 8. "`02 02 06 01 00 0a 03 02 06 01 00 06 07 01 00 0a` (x<=5 and (x<=3 or not x<=5)): [..] 9, `06 01 00 06`."
    ∷ row "02 02 06 01 00 0a 03 02 06 01 00 06 07 01 00 0a" 600 0 0 9 1 "06 01 00 06"
    -- "6 questions cut the last end": "At the stop, the tree is the one after the last cut", so the fifth has cut nothing
    ∷ row "02 02 06 01 00 0a 03 02 06 01 00 06 07 01 00 0a" 5 10 0 5 3 "02 02 06 01 00 0a 03 02 06 01 00 06 07 01 00 0a"
    ∷ row "02 02 06 01 00 0a 03 02 06 01 00 06 07 01 00 0a" 6 10 0 6 2 "02 02 06 01 00 0a 06 01 00 06"
    -- "1 cuts the first"
    ∷ row "02 02 06 01 00 0a 03 02 06 01 00 06 07 01 00 0a" 7 10 0 7 1 "06 01 00 06"
    -- "2 end it"
    ∷ row "02 02 06 01 00 0a 03 02 06 01 00 06 07 01 00 0a" 8 10 0 8 1 "06 01 00 06"
    ∷ row "02 02 06 01 00 0a 03 02 06 01 00 06 07 01 00 0a" 9 0 0 9 1 "06 01 00 06"
    -- 9. "`02 02 07 01 02 06 07 02 01 07`: x-y>3 with x-y<4: 2, `00`."
    ∷ row "02 02 07 01 02 06 07 02 01 07" 600 0 0 2 0 "00"
    -- 10. "x-y<=1, y-z<=1, z-x<=-3, all: 2, false. With -2 in place of -3: 6, nothing cut.", the names 1, 2 and 3
    ∷ row "02 03 06 01 02 02 06 02 03 02 06 03 01 05" 600 0 0 2 0 "00"
    ∷ row "02 03 06 01 02 02 06 02 03 02 06 03 01 03" 600 0 0 6 3 "02 03 06 01 02 02 06 02 03 02 06 03 01 03"
    ∷ []

-- every row of the table
abbrev pub Worked : Type 0
Worked = AllKept starred
