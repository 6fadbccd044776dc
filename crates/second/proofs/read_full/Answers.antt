-- A read puts its bytes after those that were there, and leaves these as they were.
use Rattle.std.proofs.Common.{◌≡◌, ℕ, ◌+◌, ◌-◌, ◌≤◌, List, ◌++◌, rules, arith, length, take, subst}
use Rattle.std.proofs.lemmas.Grind.{common_steps}
use Rattle.std.proofs.lemmas.List.{take-append-le}
use Rattle.std.proofs.lemmas.Slice.{overwrites}
use Rattle.std.proofs.Math.Seq.{take-add}
use Rattle.std.specs.Io.KnownBytes.{Consumes}
use Rattle.std.proofs.KnownBytes.{Consumes-trans}
use borrow.Rule.Slice.PartMut.{put_mid}
use Rattle.second.proofs.read_full.Goals as goal

take_on : (a k n : ℕ) (xs ys : List ℕ) → a ≤ length xs → n ≤ length ys → take a xs ++ take n ys ≡ take (a + n) (put_mid a k xs ys)
take_on a k n xs ys within fits = grind (arith, common_steps, overwrites, take-add, take-append-le)

pub loop-n-preserved : goal.loop-n-preserved
loop-n-preserved g c =
    let n = c.loop-n.n in
    let joined = take_on n (length c.loop-n.text - n) c.in_ok-more.more c.loop-n.text c.read.new.buf
    c.loop-n.invariant.0 c.in_ok-more.ensures.bound.0 in
    (search rules, subst (Consumes _ _) joined (Consumes-trans _ _ _ _ _ c.loop-n.invariant.1 c.in_ok-more.ensures.bytes.0))
