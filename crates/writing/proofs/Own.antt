-- A node's own bytes as code writes them, by the kinds of node, and that there are at most twelve: four numbers of three.
use Prim.Native.Nat.{ℕ, ◌*◌, ◌≤◌}
use mathlib.Core.Path.{◌≡◌, ap}
use mathlib.Core.List.{List, [], ◌∷◌, ◌++◌, append-nil}
use Rattle.std.specs.List.{flat_map}
use mir.Val.{bool_byte}
use mathlib.Core.Bool.{Bool, true, false, cond}
use native.Mathlib.Omega.{arith}
use lib.ListN.{length, length-append}
use Rattle.condition.specs.Limits.{groups}
use Rattle.condition.specs.Bytes.{number, written, end_bytes}
use Rattle.condition.proofs.Reading.{number_length}
use Rattle.nodes.specs.declared.Node.{Node}
use Rattle.nodes.specs.declared.Node.TheVariants as node
use Rattle.nodes.specs.Laid.{shifted}
use Rattle.writing.specs.Written.{own, Put}

-- the four kinds' numbers, a tag first
pub plain_own : (b : Bool) → flat_map number (bool_byte b ∷ []) ≡ own (node.Plain b)
unfolding own
plain_own true = append-nil (number 1)
plain_own false = append-nil (number 0)

pub join_own : (b : Bool) (k s : ℕ) → flat_map number (cond b 2 3 ∷ k ∷ []) ≡ own (node.Join b k s)
unfolding own
join_own true k s = ap (λ l. number 2 ++ l) (append-nil (number k))
join_own false k s = ap (λ l. number 3 ++ l) (append-nil (number k))

pub flag_own : (so : Bool) (p : ℕ) → flat_map number (cond so 4 5 ∷ p ∷ []) ≡ own (node.Flag so p)
unfolding own end_bytes
flag_own true p = ap (λ l. number 4 ++ l) (append-nil (number p))
flag_own false p = ap (λ l. number 5 ++ l) (append-nil (number p))

pub bound_own : (so : Bool) (x y w : ℕ)
    → flat_map number (cond so 6 7 ∷ x ∷ y ∷ written (shifted w) ∷ []) ≡ own (node.Bound so x y w)
unfolding own end_bytes
bound_own true x y w = ap (λ l. number 6 ++ (number x ++ (number y ++ l))) (append-nil _)
bound_own false x y w = ap (λ l. number 7 ++ (number x ++ (number y ++ l))) (append-nil _)

-- ---- the ways out of `put_own`: g is the tag, i, j and v are the other numbers

module _ {o o' : List ℕ} {r : ℕ} {m : Node} where
  pub put_plain : {b : Bool} {g : ℕ} → m ≡ node.Plain b → g ≡ bool_byte b → Put o o' (flat_map number (g ∷ [])) r → Put o o' (own m) r
  put_plain {b} e q p = rw (e, ← plain_own b, ← q) p

  pub put_join : {b : Bool} {k s g i : ℕ} → m ≡ node.Join b k s → g ≡ cond b 2 3 → i ≡ k → Put o o' (flat_map number (g ∷ i ∷ [])) r
      → Put o o' (own m) r
  put_join {b} {k = k} {s = s} e q f p = rw (e, ← join_own b k s, ← q, ← f) p

  pub put_flag : {so : Bool} {p g i : ℕ} → m ≡ node.Flag so p → g ≡ cond so 4 5 → i ≡ p → Put o o' (flat_map number (g ∷ i ∷ [])) r
      → Put o o' (own m) r
  put_flag {so} {p = p} e q f h = rw (e, ← flag_own so p, ← q, ← f) h

  pub put_bound : {so : Bool} {x y w g i j v : ℕ} → m ≡ node.Bound so x y w → g ≡ cond so 6 7 → i ≡ x → j ≡ y → v ≡ written (shifted w)
      → Put o o' (flat_map number (g ∷ i ∷ j ∷ v ∷ [])) r → Put o o' (own m) r
  put_bound {so} {x = x} {y = y} {w = w} e q f f' s h = rw (e, ← bound_own so x y w, ← q, ← f, ← f', ← s) h

-- ---- how long a node's own bytes are

numbers_short : (ns : List ℕ) → length (flat_map number ns) ≤ groups * length ns
numbers_short [] = omega arith
numbers_short (n ∷ ns) = omega (arith, length-append (number n) (flat_map number ns), number_length groups n, numbers_short ns)

own_short : (m : Node) → length (own m) ≤ 4 * groups
own_short (node.Plain b) = rw (← plain_own b) (omega (arith, numbers_short (bool_byte b ∷ [])))
own_short (node.Join b k s) = rw (← join_own b k s) (omega (arith, numbers_short (cond b 2 3 ∷ k ∷ [])))
own_short (node.Flag so p) = rw (← flag_own so p) (omega (arith, numbers_short (cond so 4 5 ∷ p ∷ [])))
own_short (node.Bound so x y w) =
    rw (← bound_own so x y w) (omega (arith, numbers_short (cond so 6 7 ∷ x ∷ y ∷ written (shifted w) ∷ [])))

-- in a room of twelve bytes any node's own are written
pub own_measured : {o o' : List ℕ} {r : ℕ} (m : Node) → length o ≡ 4 * groups → Put o o' (own m) r → (r ≡ length (own m)) × (r ≤ 4 * groups)
own_measured m e p = (p.stands.long (omega (arith, own_short m)), omega (arith, p.room))
