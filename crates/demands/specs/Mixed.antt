-- 000's Lemma 1 is false: "If a formula φ is in simplified form, replacing any subset of the leaves used in φ by true or false does not
-- result in an equivalent formula." Document 01: "000's Lemma 1 speaks of any mixed replacement of several ends; nothing here rests on it."
use Rattle.std.specs.Prelude.{ℕ, ◌<◌, ◌≡◌, true, false, pos, negsuc}
use Prim.Native.String.{String}
use Rattle.condition.specs.Meaning.{Assignment, is_not, at_most, above, any, Tree, plain, leaf, join, none, more, holds}
use Rattle.condition.specs.Reading.{tree, read}
use Rattle.condition.specs.Folding.{fold, live}
use Rattle.condition.specs.Critical.{put, both, Firm}
use Rattle.demands.specs.Hex.{hex}
use Rattle.demands.specs.Worked.{row, Kept}

abbrev pub either : Tree → Tree → Tree
either t u = join any (more t (more u none))

-- the ends, with x number 1, y number 2 and p boolean 0
abbrev pub not_p : Tree
not_p = leaf (is_not 0)

abbrev pub y<=1 : Tree
y<=1 = leaf (at_most 2 0 (pos 1))

abbrev pub x<=0 : Tree
x<=0 = leaf (at_most 1 0 (pos 0))

abbrev pub x<=3 : Tree
x<=3 = leaf (at_most 1 0 (pos 3))

abbrev pub x>0 : Tree
x>0 = leaf (above 1 0 (pos 0))

abbrev pub x>-3 : Tree
x>-3 = leaf (above 1 0 (negsuc 2))

-- (x > 0 and (y <= 1 or (not p and x <= 3))) or (x <= 0 and (not p or (y <= 1 and x > -3)))
abbrev pub original : Tree
original = either (both x>0 (either y<=1 (both not_p x<=3))) (both x<=0 (either not_p (both y<=1 x>-3)))

abbrev pub written : String
written = "03 02 02 02 07 01 00 00 03 02 06 02 00 02 02 02 05 00 06 01 00 06 02 02 06 01 00 00 03 02 05 00 02 02 06 02 00 02 07 01 00 05"

-- "replacing any subset of the leaves": of its ends, counted from 1, 1 and 5 are made true, 2 and 6 false. `put` counts from 0, and a
-- constant isn't counted, so that the last of them is put first
abbrev pub replaced : Tree
replaced = put (put (put (put original 5 (plain false)) 4 (plain true)) 1 (plain false)) 0 (plain true)

-- the lemma fails for this tree, and so finished is not smallest
pub record Mixed : Type 0 where
  -- the bytes read as the tree
  pub reads_as : read (hex written) ≡ tree original
  -- trim finishes with 16 questions and cuts nothing: 8 ends, and the same bytes
  pub finished : Kept (row written 600 0 0 16 8 written)
  -- "in simplified form": no end is redundant
  pub simplified : (i : ℕ) → i < live original → Firm original i
  -- with the four ends replaced it folds to (not p and x <= 3) or (y <= 1 and x > -3)
  pub shorter : fold replaced ≡ either (both not_p x<=3) (both y<=1 x>-3)
  -- and is "an equivalent formula"
  pub same : (a : Assignment) → holds replaced a ≡ holds original a
