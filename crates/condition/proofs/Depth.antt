-- A tree of at most 24 ends has at most 23 connectives, and so nests at most 23 deep: a connective has two children or more, each with an
-- end or more, so there are fewer connectives than ends. One tree has 23, each inside the one before.
use Prim.Native.Nat.{ℕ, zero, suc, ◌+◌, ◌≤◌}
use mathlib.Core.Path.{◌≡◌, refl}
use native.Mathlib.Omega.{arith}
use lib.IntN.{pos}
use Rattle.condition.specs.Limits.{deepest, largest_bound}
use Rattle.condition.specs.Meaning.{at_most, all, Tree, plain, leaf, join, Forest, none, more, ends, ends_all, count}
use Rattle.condition.specs.Meaning.{Formed, FormedAll, Within}
use Rattle.condition.specs.Depth.{connectives, connectives_all, deep, deep_all}

mutual
  unfolding connectives ends Formed

  connectives_few : (t : Tree) → Formed t → connectives t + 1 ≤ ends t
  connectives_few (plain b) f = omega arith
  connectives_few (leaf e) f = omega arith
  connectives_few (join j ts) f = omega (arith, connectives_few_all ts f.1, f.0)

  connectives_few_all : (ts : Forest) → FormedAll ts → connectives_all ts + count ts ≤ ends_all ts
  connectives_few_all none f = omega arith
  connectives_few_all (more t ts) f = omega (arith, connectives_few t f.0, connectives_few_all ts f.1)

mutual
  unfolding connectives deep

  deep_few : (t : Tree) → deep t ≤ connectives t
  deep_few (plain b) = omega arith
  deep_few (leaf e) = omega arith
  deep_few (join j ts) = omega (arith, deep_few_all ts)

  deep_few_all : (ts : Forest) → deep_all ts ≤ connectives_all ts
  deep_few_all none = omega arith
  deep_few_all (more t ts) = omega (arith, deep_few t, deep_few_all ts)

-- "So at most 23 connectives"
pub few_connectives : (t : Tree) → Within t → connectives t ≤ deepest
few_connectives t w = omega (arith, connectives_few t w.formed, w.few)

-- no tree nests deeper than 23
pub not_deeper : (t : Tree) → Within t → deep t ≤ deepest
not_deeper t w = omega (arith, deep_few t, few_connectives t w)

-- one that has 23: n connectives one inside the other, each with one end beside the next
abbrev wide : Tree
wide = leaf (at_most 0 0 (pos largest_bound))

unfoldable pub tall : ℕ → Tree
tall zero = wide
tall (suc n) = join all (more wide (more (tall n) none))

tall_formed : (n : ℕ) → Formed (tall n)
unfolding tall Formed
tall_formed zero = omega arith
tall_formed (suc n) = (omega arith, (omega arith, (tall_formed n, tt)))

pub tall_within : Within (tall deepest)
unfolding tall ends
tall_within = record { formed = tall_formed deepest; few = omega arith }

-- "a tree may nest 23 connectives deep"
pub deepest_met : (t : Tree) × Within t × (connectives t ≡ deepest) × (deep t ≡ deepest)
unfolding tall connectives deep
deepest_met = (tall deepest, tall_within, refl, refl)
