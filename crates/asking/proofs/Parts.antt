-- A part of the output that is lent and back: before it stands what stood there, in it what the borrower left.
use Prim.Native.Nat.{ℕ, ◌+◌, ◌≤◌, ◌<◌}
use mathlib.Core.Path.{◌≡◌, ap, ◌∙◌}
use mathlib.Core.List.{List, ◌++◌}
use native.Mathlib.Omega.{arith}
use lib.ListN.{length, drop}
use borrow.Author.Rules.{rules}
use borrow.Rule.Slice.PartMut.{put_mid}
use Rattle.std.proofs.lemmas.List.{places}
use Rattle.condition.specs.Meaning.{Tree, Forest}
use Rattle.nodes.specs.declared.Node.{Node}
use Rattle.nodes.specs.Memory.{node_at}
use Rattle.nodes.specs.Laid.{Laid, LaidAll}
use Rattle.nodes.proofs.Laws.{move, move_all}

pub in_part : (d k : ℕ) (xs ys : List Node) → d ≤ length xs → (x : ℕ) → x < length ys → node_at (put_mid d k xs ys) (d + x) ≡ node_at ys x
in_part d k xs ys h x lt = search (rules, places)

pub before_part : (d k : ℕ) (xs ys : List Node) → d ≤ length xs → (x : ℕ) → x < d → node_at (put_mid d k xs ys) x ≡ node_at xs x
before_part d k xs ys h x lt = search (rules, places)

-- two parts, one after the other: the first d nodes, then those after them
module _ (d part : ℕ) (xs ys zs : List Node) (fits : d ≤ length xs) (whole : length ys ≡ d) where
  pub in_first : (x : ℕ) → x < d → node_at (put_mid d part (ys ++ drop d xs) zs) x ≡ node_at ys x
  in_first x lt = search (rules, places)

  pub in_second : (x : ℕ) → x < length zs → node_at (put_mid d part (ys ++ drop d xs) zs) (d + x) ≡ node_at zs x
  in_second x lt = search (rules, places)
