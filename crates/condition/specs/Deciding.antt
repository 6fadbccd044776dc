-- Whether a tree is satisfiable, as a function: by trying every assignment of a box wide enough for the tree. It is there so that the
-- sweep is a function; nobody runs it. proofs/Deciding.antt has `sat_is : (t : Tree) → (sat t ≡ true) ↔ Satisfiable t`, for every tree.
use Rattle.std.specs.Prelude.{ℕ, zero, suc, ◌+◌, ◌*◌, Bool, false, cond, ◌||◌, eqb, ℤ, pos, nat_abs, ◌-ℤ◌}
use Rattle.condition.specs.Meaning.{End, is, is_not, at_most, above, Tree, plain, leaf, join, Forest, none, more, holds}

-- above every name of the tree, and above the size of every bound
abbrev pub reach_end : End → ℕ
reach_end (is p) = suc p
reach_end (is_not p) = suc p
reach_end (at_most x y c) = suc (x + y + nat_abs c)
reach_end (above x y c) = suc (x + y + nat_abs c)

unfoldable mutual
  pub reach : Tree → ℕ
  reach (plain b) = 0
  reach (leaf e) = reach_end e
  reach (join j ts) = reach_all ts

  pub reach_all : Forest → ℕ
  reach_all none = 0
  reach_all (more t ts) = reach t + reach_all ts

-- one of the numbers below n passes
unfoldable pub some_below : ℕ → (ℕ → Bool) → Bool
some_below zero p = false
some_below (suc n) p = p n || some_below n p

-- f, with x in place k
abbrev pub with : {X : Type 0} → (ℕ → X) → ℕ → X → ℕ → X
with f k x m = cond (eqb m k) x (f m)

-- f passes, or passes once its first n places hold values among value 0 to value (size - 1)
unfoldable pub some : {X : Type 0} → (size : ℕ) → (value : ℕ → X) → ℕ → (ℕ → X) → ((ℕ → X) → Bool) → Bool
some size value zero f p = p f
some size value (suc n) f p = some_below size (λ i. some size value n (with f n (value i)) p)

-- some values for the booleans below k, the others false; and for the numbers below k, from -w to w, the others 0
abbrev pub some_flags : (k : ℕ) → ((ℕ → Bool) → Bool) → Bool
some_flags k p = some 2 (λ i. eqb i 1) k (λ m. false) p

abbrev pub some_numbers : (k w : ℕ) → ((ℕ → ℤ) → Bool) → Bool
some_numbers k w p = some (suc (w + w)) (λ i. pos i -ℤ pos w) k (λ m. pos 0) p

unfoldable pub sat : Tree → Bool
sat t = some_flags (reach t) (λ f. some_numbers (reach t) (reach t * reach t) (λ g. holds t (record { flag = f; number = g })))
