-- How many connectives a tree has, and how deep they nest: document 01, "Ends, assignments, meaning", its last line.
use Rattle.std.specs.Prelude.{ℕ, suc, ◌+◌, max}
use Rattle.condition.specs.Meaning.{Tree, plain, leaf, join, Forest, none, more}

-- "So at most 23 connectives"
unfoldable mutual
  pub connectives : Tree → ℕ
  connectives (plain b) = 0
  connectives (leaf e) = 0
  connectives (join j ts) = suc (connectives_all ts)

  pub connectives_all : Forest → ℕ
  connectives_all none = 0
  connectives_all (more t ts) = connectives t + connectives_all ts

-- "and a tree may nest 23 connectives deep": one inside the other
unfoldable mutual
  pub deep : Tree → ℕ
  deep (plain b) = 0
  deep (leaf e) = 0
  deep (join j ts) = suc (deep_all ts)

  pub deep_all : Forest → ℕ
  deep_all none = 0
  deep_all (more t ts) = max (deep t) (deep_all ts)
