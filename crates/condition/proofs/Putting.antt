-- What putting a tree in the place of an end keeps, and with it a cut: a constant put there and folded. By recursion down the path to the
-- end, which at each connective is in the first child or in the rest.
use Prim.Native.Nat.{ℕ, suc, ◌-◌, ◌≤◌, ◌<◌}
use mathlib.Core.Path.{◌≡◌, refl, ap}
use mathlib.Core.Bool.{Bool, true, false}
use native.Mathlib.Omega.{arith}
use lib.Dec.{ltb}
use borrow.Table.Steps.{cases}
use borrow.Author.Tests.{ltb-true, ltb-false}
use Rattle.condition.specs.Limits.{most_ends}
use Rattle.condition.specs.Meaning.{Tree, plain, leaf, join, Forest, none, more, ends, ends_all, count}
use Rattle.condition.specs.Meaning.{EndWithin, Formed, FormedAll, Within}
use Rattle.condition.specs.Folding.{fold, live, live_all}
use Rattle.condition.specs.Critical.{end_at, end_in, put, put_in}
use Rattle.condition.proofs.Folding.{fold_live, Inside, fold_inside}

-- the i-th end of a forest is in its first tree, of n ends, or in the rest
pub split : {X : Type 0} (i n : ℕ) → (i < n → ltb i n ≡ true → X) → (n ≤ i → ltb i n ≡ false → X) → X
split i n f g = cases (ltb i n) (λ e. f (ltb-true i n e) e) (λ e. g (ltb-false i n e) e)

mutual
  unfolding put put_in end_at end_in live live_all

  pub put_same : (t : Tree) (i : ℕ) → i < live t → put t i (leaf (end_at t i)) ≡ t
  put_same (plain b) i h = refl
  put_same (leaf e) i h = refl
  put_same (join j ts) i h = ap (join j) (put_in_same ts i h)

  put_in_same : (ts : Forest) (i : ℕ) → i < live_all ts → put_in ts i (leaf (end_in ts i)) ≡ ts
  put_in_same none i h = refl
  put_in_same (more t ts) i h =
      split i (live t)
      (λ l e. rw e (ap (λ x. more x ts) (put_same t i l)))
      (λ l e. rw e (ap (more t) (put_in_same ts (i - live t) (omega arith))))

mutual
  unfolding put put_in live live_all

  pub put_live : (t : Tree) (i : ℕ) (b : Bool) → i < live t → suc (live (put t i (plain b))) ≡ live t
  put_live (plain c) i b h = omega arith
  put_live (leaf e) i b h = omega arith
  put_live (join j ts) i b h = put_in_live ts i b h

  put_in_live : (ts : Forest) (i : ℕ) (b : Bool) → i < live_all ts → suc (live_all (put_in ts i (plain b))) ≡ live_all ts
  put_in_live none i b h = omega arith
  put_in_live (more t ts) i b h =
      split i (live t)
      (λ l e. rw e (omega (arith, put_live t i b l)))
      (λ l e. rw e (omega (arith, put_in_live ts (i - live t) b (omega arith))))

mutual
  unfolding put put_in ends ends_all

  pub put_ends : (t : Tree) (i : ℕ) (b : Bool) → ends (put t i (plain b)) ≡ ends t
  put_ends (plain c) i b = refl
  put_ends (leaf e) i b = refl
  put_ends (join j ts) i b = put_in_ends ts i b

  put_in_ends : (ts : Forest) (i : ℕ) (b : Bool) → ends_all (put_in ts i (plain b)) ≡ ends_all ts
  put_in_ends none i b = refl
  put_in_ends (more t ts) i b =
      split i (live t)
      (λ l e. rw e (omega (arith, put_ends t i b)))
      (λ l e. rw e (omega (arith, put_in_ends ts (i - live t) b)))

put_in_count : (ts : Forest) (i : ℕ) (u : Tree) → count (put_in ts i u) ≡ count ts
unfolding put_in
put_in_count none i u = refl
put_in_count (more t ts) i u =
    split i (live t)
    (λ l e. rw e refl)
    (λ l e. rw e (ap suc (put_in_count ts (i - live t) u)))

mutual
  unfolding put put_in Formed FormedAll

  pub put_formed : (t : Tree) (i : ℕ) (u : Tree) → Formed t → Formed u → Formed (put t i u)
  put_formed (plain b) i u w k = w
  put_formed (leaf e) i u w k = k
  put_formed (join j ts) i u w k = (omega (arith, put_in_count ts i u, w.0), put_in_formed ts i u w.1 k)

  put_in_formed : (ts : Forest) (i : ℕ) (u : Tree) → FormedAll ts → Formed u → FormedAll (put_in ts i u)
  put_in_formed none i u w k = w
  put_in_formed (more t ts) i u w k =
      split i (live t)
      (λ l e. rw e (put_formed t i u w.0 k, w.1))
      (λ l e. rw e (w.0, put_in_formed ts (i - live t) u w.1 k))

mutual
  unfolding end_at end_in live live_all Formed FormedAll

  pub end_at_within : (t : Tree) (i : ℕ) → i < live t → Formed t → EndWithin (end_at t i)
  end_at_within (plain b) i h w = absurd (omega arith)
  end_at_within (leaf e) i h w = w
  end_at_within (join j ts) i h w = end_in_within ts i h w.1

  end_in_within : (ts : Forest) (i : ℕ) → i < live_all ts → FormedAll ts → EndWithin (end_in ts i)
  end_in_within none i h w = absurd (omega arith)
  end_in_within (more t ts) i h w =
      split i (live t)
      (λ l e. rw e (end_at_within t i l w.0))
      (λ l e. rw e (end_in_within ts (i - live t) (omega arith) w.1))

-- a tree after a cut
pub cut_inside : (m : ℕ) (t : Tree) (i : ℕ) (b : Bool) → Inside m t → Inside m (fold (put t i (plain b)))
unfolding Formed
cut_inside m t i b w =
    fold_inside m (put t i (plain b))
    (record { formed = put_formed t i (plain b) w.formed tt; few = omega (arith, put_ends t i b, w.few) })

pub cut_within : (t : Tree) (i : ℕ) (b : Bool) → Within t → Within (fold (put t i (plain b)))
cut_within t i b w =
    let h = cut_inside most_ends t i b (record { formed = w.formed; few = w.few }) in
    record { formed = h.formed; few = h.few }

pub cut_live : (t : Tree) (i : ℕ) (b : Bool) → i < live t → live (fold (put t i (plain b))) < live t
cut_live t i b h = omega (arith, put_live t i b h, fold_live (put t i (plain b)))
