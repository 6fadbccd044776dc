-- What stands at the place of a refusal: document 01, "What each call answers", rows 2 to 8. Reading.antt says where `read` refuses; that
-- there stands what is said here is proved (proofs/Places.antt, proofs/Reading.antt).
use Rattle.std.specs.Prelude.{ℕ, suc, ◌+◌, ◌*◌, ◌^◌, ◌≤◌, ◌<◌, ◌≡◌, List, [], ◌∷◌, ◌++◌, length, take, drop}
use Rattle.condition.specs.Answers as answers
use Rattle.condition.specs.Limits.{most_ends, last_boolean, last_number, largest_bound, last_tag, groups, group_size}
use Rattle.condition.specs.Meaning.{End, Tree, EndWithin, Within}
use Rattle.condition.specs.Bytes.{number, end_bytes, bytes}

-- "A tree is written node first, children in order": `Begun s read owed`, the bytes s are nodes, one after another, with which a tree
-- within the limits begins, of which `read` are ends, and `owed` ends are still owed
pub data Begun : List ℕ → (read owed : ℕ) → Type 0 where
  -- "Ends owed: 1 at the start"
  start : Begun [] 0 1
  -- "a connective with k children adds k - 1"
  connective : {s : List ℕ} {read owed : ℕ} (g k : ℕ) → Begun s read (suc owed) → (2 ≤ g) × (g ≤ 3) → 2 ≤ k →
      read + owed + k ≤ most_ends → Begun (s ++ number g ++ number k) read (owed + k)
  -- "an end read takes 1 away"
  constant : {s : List ℕ} {read owed : ℕ} (g : ℕ) → Begun s read (suc owed) → g ≤ 1 → Begun (s ++ number g) (read + 1) owed
  end : {s : List ℕ} {read owed : ℕ} (e : End) → Begun s read (suc owed) → EndWithin e → Begun (s ++ end_bytes e) (read + 1) owed

-- The table of tags, its columns "tag" and "then": a tag, a child count, a name that is at most `last`, or c
pub data NodePart : Type 0 where
  tag child_count bound : NodePart
  name : (last : ℕ) → NodePart

-- `Awaits part s`: after the bytes s a number comes, and it is that part of a node
pub data Awaits : NodePart → List ℕ → Type 0 where
  tag_next : {s : List ℕ} {read owed : ℕ} → Begun s read (suc owed) → Awaits tag s
  -- "2, 3 | child count"
  count_next : {s : List ℕ} (g : ℕ) → Awaits tag s → (2 ≤ g) × (g ≤ 3) → Awaits child_count (s ++ number g)
  -- "4, 5 | boolean name"
  boolean_next : {s : List ℕ} (g : ℕ) → Awaits tag s → (4 ≤ g) × (g ≤ 5) → Awaits (name last_boolean) (s ++ number g)
  -- "6, 7 | x, y, c"
  x_next : {s : List ℕ} (g : ℕ) → Awaits tag s → (6 ≤ g) × (g ≤ last_tag) → Awaits (name last_number) (s ++ number g)
  y_next : {s : List ℕ} (g x : ℕ) → Awaits tag s → (6 ≤ g) × (g ≤ last_tag) → x ≤ last_number →
      Awaits (name last_number) (s ++ number g ++ number x)
  c_next : {s : List ℕ} (g x y : ℕ) → Awaits tag s → (6 ≤ g) × (g ≤ last_tag) → (x ≤ last_number) × (y ≤ last_number) →
      Awaits bound (s ++ number g ++ number x ++ number y)

-- "a number's third byte has the top bit, or the form isn't shortest": "the last byte of a longer number isn't 00"
pub data Malformed : List ℕ → Type 0 where
  third_byte : {a b c : ℕ} {l : List ℕ} → (group_size ≤ a) × (group_size ≤ b) × (group_size ≤ c) → Malformed (a ∷ b ∷ c ∷ l)
  two_bytes : {a : ℕ} {l : List ℕ} → group_size ≤ a → Malformed (a ∷ 0 ∷ l)
  three_bytes : {a b : ℕ} {l : List ℕ} → (group_size ≤ a) × (group_size ≤ b) → Malformed (a ∷ b ∷ 0 ∷ l)

-- "groups of seven bits, [..] one to three bytes": a number that has a form
abbrev pub Held : ℕ → Type 0
Held n = n < group_size ^ groups

-- `Fault answer s l`: the bytes s are read, and at the first of the bytes l that follow stands what the answer says
pub data Fault : ℕ → (s l : List ℕ) → Type 0 where
  -- 2, at "its first byte"
  malformed : {s l : List ℕ} (part : NodePart) → Awaits part s → Malformed l → Fault answers.form s l
  -- 3: "tag above 7", at "the tag"
  high_tag : {s : List ℕ} (g : ℕ) (l : List ℕ) → Awaits tag s → Held g → last_tag < g → Fault answers.tag s (number g ++ l)
  -- 4: "child count 0 or 1", at "the count"
  low_count : {s : List ℕ} (k : ℕ) (l : List ℕ) → Awaits child_count s → k ≤ 1 → Fault answers.count s (number k ++ l)
  -- 5: "name too high", at "the name"
  high_name : {s : List ℕ} (last x : ℕ) (l : List ℕ) → Awaits (name last) s → Held x → last < x → Fault answers.name s (number x ++ l)
  -- 6: "written c above 2,000,000", at "c"
  high_bound : {s : List ℕ} (w : ℕ) (l : List ℕ) → Awaits bound s → Held w → 2 * largest_bound < w → Fault answers.bound s (number w ++ l)
  -- 7: "after a child count, ends read plus ends still owed exceed 24", at "the connective's tag"
  crowd : {s : List ℕ} {read owed : ℕ} (g k : ℕ) (l : List ℕ) → Begun s read (suc owed) → (2 ≤ g) × (g ≤ 3) → 2 ≤ k → Held k →
      most_ends < read + owed + k → Fault answers.crowd s (number g ++ (number k ++ l))

-- "A place in the bytes counts from 0, and a number's place is its first byte."
pub record FaultAt (s : List ℕ) (answer place : ℕ) : Type 0 where
  pub within : place < length s
  pub fault : Fault answer (take place s) (drop place s)

-- 8: "bytes follow the tree", at the "first of them"
pub record Follows (s : List ℕ) (place : ℕ) : Type 0 where
  pub before : Tree
  pub first : ℕ
  pub later : List ℕ
  pub within : Within before
  pub made : s ≡ bytes before ++ first ∷ later
  pub after : place ≡ length (bytes before)
