-- The critical constraint and redundancy: document 01, "Critical constraint and sweep", and document 000, definitions 4, 5 and 7.
use Rattle.std.specs.Prelude.{ℕ, ◌-◌, ◌≡◌, true, false, cond, ltb}
use Rattle.condition.specs.Meaning.{Assignment, End, is, Join, all, any, Tree, plain, leaf, join, Forest, none, more, holds, negate}
use Rattle.condition.specs.Folding.{fold, live}

-- the i-th end from the left, counted from 0, constants aside; past the last it does not matter
unfoldable mutual
  pub end_at : Tree → ℕ → End
  end_at (plain b) i = is 0
  end_at (leaf e) i = e
  end_at (join j ts) i = end_in ts i

  pub end_in : Forest → ℕ → End
  end_in none i = is 0
  end_in (more t ts) i = cond (ltb i (live t)) (end_at t i) (end_in ts (i - live t))

-- the tree with u put in the place of its i-th end
unfoldable mutual
  pub put : Tree → ℕ → Tree → Tree
  put (plain b) i u = plain b
  put (leaf e) i u = u
  put (join j ts) i u = join j (put_in ts i u)

  pub put_in : Forest → ℕ → Tree → Forest
  put_in none i u = none
  put_in (more t ts) i u = cond (ltb i (live t)) (more (put t i u) ts) (more t (put_in ts (i - live t) u))

abbrev pub both : Tree → Tree → Tree
both t u = join all (more t (more u none))

-- 000's star: a sibling under an `and` as it is, under an `or` its negation
abbrev pub star : Join → Tree → Tree
star all t = t
star any t = negate t

-- "A child of an `and` has its parent's constraint and all its siblings; a child of an `or` has its parent's constraint and the negation
-- of every sibling": c is the constraint of the node itself, and star j (join j ts) is all the starred ts
unfoldable mutual
  pub critical_from : Tree → Tree → ℕ → Tree
  critical_from (plain b) c i = c
  critical_from (leaf e) c i = c
  critical_from (join j ts) c i = critical_in ts j c i

  pub critical_in : Forest → Join → Tree → ℕ → Tree
  critical_in none j c i = c
  critical_in (more t ts) j c i =
      cond (ltb i (live t)) (critical_from t (both c (star j (join j ts))) i)
      (critical_in ts j (both c (star j t)) (i - live t))

-- "The root's constraint is true."
unfoldable pub critical : Tree → ℕ → Tree
critical t i = critical_from t (plain true) i

-- one tree's meaning implies another's
abbrev pub Implies : Tree → Tree → Type 0
Implies t u = (a : Assignment) → holds t a ≡ true → holds u a ≡ true

-- 000, definition 4: the end replaced by true, or by false, and folded; definition 5: that leaves the meaning as it was
abbrev pub NonConstraining : Tree → ℕ → Type 0
NonConstraining t i = Implies (fold (put t i (plain true))) t

abbrev pub NonRelaxing : Tree → ℕ → Type 0
NonRelaxing t i = Implies t (fold (put t i (plain false)))

-- "Leaf L is redundant if L is either non-constraining or non-relaxing": an end that isn't
abbrev pub Firm : Tree → ℕ → Type 0
Firm t i = (¬ NonConstraining t i) × (¬ NonRelaxing t i)
