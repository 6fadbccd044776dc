-- Bytes of a tree: document 01, the section of that name.
use Rattle.std.specs.Prelude.{ℕ, zero, suc, ◌+◌, ◌*◌, ◌/◌, ◌%◌, ◌<◌, List, [], ◌∷◌, ◌++◌, Bool, true, false, cond, ltb, ℤ, pos, negsuc}
use Rattle.condition.specs.Limits.{groups, group_size}
use Rattle.condition.specs.Meaning.{End, is, is_not, at_most, above, Join, all, any, Tree, plain, leaf, join, Forest, none, more, count}

-- A string of bytes
unfoldable pub Octets : List ℕ → Type 0
Octets [] = Unit {0}
Octets (b ∷ l) = (b < 256) × Octets l

-- "variable-length groups of seven bits, low group first, top bit set on every byte but the last, [..] shortest form only",
-- of a number that g groups hold
unfoldable pub groups_of : ℕ → ℕ → List ℕ
groups_of zero n = []
groups_of (suc g) n = cond (ltb n group_size) (n ∷ []) ((group_size + n % group_size) ∷ groups_of g (n / group_size))

-- "All numbers, tags among them"
abbrev pub number : ℕ → List ℕ
number n = groups_of groups n

-- "c is written as 2c when c >= 0 and as -2c - 1 when c < 0, so 0, -1, 1, -2 are 0, 1, 2, 3."
abbrev pub written : ℤ → ℕ
written (pos n) = 2 * n
written (negsuc n) = 2 * n + 1

-- The table of tags, an end's rows
unfoldable pub end_bytes : End → List ℕ
end_bytes (is p) = number 4 ++ number p
end_bytes (is_not p) = number 5 ++ number p
end_bytes (at_most x y c) = number 6 ++ (number x ++ (number y ++ number (written c)))
end_bytes (above x y c) = number 7 ++ (number x ++ (number y ++ number (written c)))

abbrev pub join_tag : Join → ℕ
join_tag all = 2
join_tag any = 3

abbrev pub plain_tag : Bool → ℕ
plain_tag false = 0
plain_tag true = 1

-- "A tree is written node first, children in order"
unfoldable mutual
  pub bytes : Tree → List ℕ
  bytes (plain b) = number (plain_tag b)
  bytes (leaf e) = end_bytes e
  bytes (join j ts) = number (join_tag j) ++ (number (count ts) ++ bytes_all ts)

  pub bytes_all : Forest → List ℕ
  bytes_all none = []
  bytes_all (more t ts) = bytes t ++ bytes_all ts
