-- Laws of truth values, and of one number among several that passes a test.
use mathlib.Core.Path.{◌≡◌, refl, sym, ap, ap₂, ◌∙◌}
use mathlib.Core.Bool.{Bool, true, false, ◌&&◌, ◌||◌, false≢true}
use Prim.Native.Nat.{ℕ, zero, suc, ◌+◌, ◌-◌, ◌<◌, ◌≤◌}
use native.Mathlib.Omega.{arith}
use lib.Dec.{eqb}
use borrow.Author.Tests.{eqb-true, eqb-false}
use Rattle.lexical.proofs.BoolLaws.{or_right}
use Rattle.marks.specs.Reading.{some_from}

-- ---- truth values

pub same_truth : (a b : Bool) → (a ≡ true → b ≡ true) → (b ≡ true → a ≡ true) → a ≡ b
same_truth true b h k = sym (h refl)
same_truth false true h k = k refl
same_truth false false h k = refl

pub and_or : (a b c : Bool) → (a && (b || c)) ≡ ((a && b) || (a && c))
and_or true b c = refl
and_or false b c = refl

pub and-true : (a : Bool) → (a && true) ≡ a
and-true true = refl
and-true false = refl

pub and-false : (a b : Bool) → b ≡ false → (a && b) ≡ false
and-false true b h = h
and-false false b h = refl

pub or_assoc : (a b c : Bool) → ((a || b) || c) ≡ (a || (b || c))
or_assoc true b c = refl
or_assoc false b c = refl

pub or-false : (a : Bool) → (a || false) ≡ a
or-false true = refl
or-false false = refl

pub or_true : (a : Bool) → true ≡ (a || true)
or_true true = refl
or_true false = refl

or_cross : (a b c d : Bool) → ((a || b) || (c || d)) ≡ ((a || c) || (b || d))
or_cross true b c d = refl
or_cross false true true d = refl
or_cross false true false d = refl
or_cross false false c d = refl

-- ---- one of the numbers from i on

pub some_at : (test : ℕ → Bool) (i k j : ℕ) → i ≤ j → j < i + k → test j ≡ true → some_from test i k ≡ true
unfolding some_from
some_at test i zero j l h e = absurd (omega arith)
some_at test i (suc k) j l h e = by_first (eqb i j) refl (λ m. some_at test (i + 1) k j m (omega arith) e)
  where
    by_first : (b : Bool) → eqb i j ≡ b → (i + 1 ≤ j → some_from test (i + 1) k ≡ true) →
        (test i || some_from test (i + 1) k) ≡ true
    by_first true q later = let z : i ≡ j = eqb-true i j q in rw (z, e)
    by_first false q later =
        let z : i ≡ j → ⊥ = eqb-false i j q in
        or_right (test i) (some_from test (i + 1) k) (later (omega arith))

pub some_is : (test : ℕ → Bool) (i k : ℕ) → some_from test i k ≡ true → (j : ℕ) × (i ≤ j) × (j < i + k) × (test j ≡ true)
unfolding some_from
some_is test i zero e = absurd (false≢true e)
some_is test i (suc k) e = by_test (test i) refl e (λ h. some_is test (i + 1) k h)
  where
    by_test : (a : Bool) → test i ≡ a → (a || some_from test (i + 1) k) ≡ true →
        (some_from test (i + 1) k ≡ true → (j : ℕ) × (i + 1 ≤ j) × (j < i + 1 + k) × (test j ≡ true)) →
        (j : ℕ) × (i ≤ j) × (j < i + suc k) × (test j ≡ true)
    by_test true q e later = (i, omega arith, omega arith, q)
    by_test false q e later =
        let r = later e in
        let l = r.1 in
        let h = r.2 in
        (r.0, omega arith, omega arith, r.3)

pub some_like : (a b : ℕ → Bool) (i k : ℕ) → ((j : ℕ) → j < i + k → a j ≡ b j) → some_from a i k ≡ some_from b i k
unfolding some_from
some_like a b i zero like = refl
some_like a b i (suc k) like =
    ap₂ ◌||◌ (like i (omega arith)) (some_like a b (i + 1) k (λ j h. like j (omega arith)))

pub some_or : (a b : ℕ → Bool) (i k : ℕ) → some_from (λ j. a j || b j) i k ≡ (some_from a i k || some_from b i k)
unfolding some_from
some_or a b i zero = refl
some_or a b i (suc k) =
    ap (λ (x : Bool). (a i || b i) || x) (some_or a b (i + 1) k) ∙
    or_cross (a i) (b i) (some_from a (i + 1) k) (some_from b (i + 1) k)

pub some_none : (a : ℕ → Bool) (i k : ℕ) → ((j : ℕ) → a j ≡ false) → some_from a i k ≡ false
unfolding some_from
some_none a i zero never = refl
some_none a i (suc k) never = rw (never i, some_none a (i + 1) k never)

-- ---- a loop over the numbers

module _ (test : ℕ → Bool) (n i : ℕ) where
  pub some_turn : i < n → test i ≡ false → some_from test i (n - i) ≡ some_from test (i + 1) (n - (i + 1))
  unfolding some_from
  some_turn h e = let z : n - i ≡ suc (n - (i + 1)) = omega arith in rw (z, e)

  pub some_yes : i < n → test i ≡ true → some_from test i (n - i) ≡ true
  unfolding some_from
  some_yes h e = let z : n - i ≡ suc (n - (i + 1)) = omega arith in rw (z, e)

  pub some_end : n ≤ i → some_from test i (n - i) ≡ false
  unfolding some_from
  some_end h = let z : n - i ≡ 0 = omega arith in rw z
