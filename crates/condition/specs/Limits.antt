-- The limits of document 01, each named once.
use Rattle.std.specs.Prelude.{ℕ, ◌+◌, ◌-◌, ◌*◌}

-- "A tree has at most 24 ends, constants counted."
abbrev pub most_ends : ℕ
most_ends = 24

-- "So at most 23 connectives, and a tree may nest 23 connectives deep."
abbrev pub deepest : ℕ
deepest = most_ends - 1

-- "Booleans are named 0 to 31."
abbrev pub last_boolean : ℕ
last_boolean = 31

abbrev pub booleans : ℕ
booleans = last_boolean + 1

-- "Numbers are named 0 to 15"
abbrev pub last_number : ℕ
last_number = 15

-- "15 signed 32-bit numbers": the largest
abbrev pub largest_whole : ℕ
largest_whole = 2_147_483_647

-- "c runs from -1,000,000 to 1,000,000."
abbrev pub largest_bound : ℕ
largest_bound = 1_000_000

-- "groups of seven bits, [..] one to three bytes"
abbrev pub groups : ℕ
groups = 3

-- "groups of seven bits": how many values a group has
abbrev pub group_size : ℕ
group_size = 128

-- the table of tags, its last row: "7 | [..] | its negation"
abbrev pub last_tag : ℕ
last_tag = 7

-- "The longest tree has 190 bytes.": of each connective a tag and a child count, of each end a tag, two names and a bound
abbrev pub longest_tree : ℕ
longest_tree = 2 * deepest + most_ends * (3 + groups)

-- ---- room in memory, counted in nodes: a node for each end and each connective

abbrev pub tree_room : ℕ
tree_room = most_ends + deepest

-- a question about an end of a tree is one `and` of what stands beside the end and above it: a node more than the tree
abbrev pub question_room : ℕ
question_room = tree_room + 1
