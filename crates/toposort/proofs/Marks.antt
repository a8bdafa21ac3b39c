-- Marks after a store, and how many items have none.
use mathlib.Core.Path.{◌≡◌, refl}
use mathlib.Core.Logic.{◌⊎◌, inl, inr}
use mathlib.Core.List.{List, [], ◌∷◌}
use mathlib.Core.Bool.{Bool, true, false}
use Prim.Native.Nat.{ℕ, zero, suc, ◌<◌, ◌≤◌}
use native.Mathlib.Omega.{arith}
use lib.ListN.{length, get_or, set, replicate}
use lib.Seq.{get_or-set_same, get_or-set_other}
use lib.Dec.{eqb}
use borrow.Author.Tests.{eqb-true, eqb-false}
use Rattle.toposort.specs.Adjacency.{unmarked}

-- the mark of j after a store at i
pub set_cases : (m : List ℕ) (i v j : ℕ) → i < length m →
    ((j ≡ i) × (get_or (set m i v) j 0 ≡ v)) ⊎ ((j ≡ i → ⊥) × (get_or (set m i v) j 0 ≡ get_or m j 0))
set_cases m i v j h = go (eqb j i) refl
  where
    go : (b : Bool) → eqb j i ≡ b →
        ((j ≡ i) × (get_or (set m i v) j 0 ≡ v)) ⊎ ((j ≡ i → ⊥) × (get_or (set m i v) j 0 ≡ get_or m j 0))
    go true e = let x : j ≡ i = eqb-true j i e in inl (x, rw x (get_or-set_same m i v 0 h))
    go false e = let x : j ≡ i → ⊥ = eqb-false j i e in inr (x, get_or-set_other m i j v 0 x)

-- a first mark takes one from the count, a second none
pub unmarked_first : (m : List ℕ) (i v : ℕ) → i < length m → get_or m i 0 ≡ 0 →
    suc (unmarked (set m i (suc v))) ≡ unmarked m
unfolding unmarked
unmarked_first [] i v h e = absurd (omega arith)
unmarked_first (zero ∷ m) zero v h e = refl
unmarked_first (suc b ∷ m) zero v h e = absurd (omega arith)
unmarked_first (zero ∷ m) (suc i) v h e = omega (arith, unmarked_first m i v (omega arith) e)
unmarked_first (suc b ∷ m) (suc i) v h e = unmarked_first m i v (omega arith) e

pub unmarked_again : (m : List ℕ) (i v : ℕ) → i < length m → 0 < get_or m i 0 →
    unmarked (set m i (suc v)) ≡ unmarked m
unfolding unmarked
unmarked_again [] i v h e = absurd (omega arith)
unmarked_again (zero ∷ m) zero v h e = absurd (omega arith)
unmarked_again (suc b ∷ m) zero v h e = refl
unmarked_again (zero ∷ m) (suc i) v h e = omega (arith, unmarked_again m i v (omega arith) e)
unmarked_again (suc b ∷ m) (suc i) v h e = unmarked_again m i v (omega arith) e

-- no mark adds to it
pub unmarked_set : (m : List ℕ) (i v : ℕ) → unmarked (set m i (suc v)) ≤ unmarked m
unfolding unmarked
unmarked_set [] i v = omega arith
unmarked_set (zero ∷ m) zero v = omega arith
unmarked_set (suc b ∷ m) zero v = omega arith
unmarked_set (zero ∷ m) (suc i) v = omega (arith, unmarked_set m i v)
unmarked_set (suc b ∷ m) (suc i) v = unmarked_set m i v

pub unmarked_some : (m : List ℕ) (i : ℕ) → i < length m → get_or m i 0 ≡ 0 → 0 < unmarked m
unmarked_some m i h e = omega (arith, unmarked_first m i 0 h e)

pub unmarked_most : (m : List ℕ) → unmarked m ≤ length m
unfolding unmarked
unmarked_most [] = omega arith
unmarked_most (zero ∷ m) = omega (arith, unmarked_most m)
unmarked_most (suc b ∷ m) = omega (arith, unmarked_most m)

-- as the marks start
pub blank : (n j : ℕ) → ◌≡◌ {A = ℕ} (get_or (replicate n 0) j 0) 0
blank zero j = refl
blank (suc n) zero = refl
blank (suc n) (suc j) = blank n j

pub unmarked_blank : (n : ℕ) → unmarked (replicate n 0) ≡ n
unfolding unmarked
unmarked_blank zero = refl
unmarked_blank (suc n) = omega (arith, unmarked_blank n)
