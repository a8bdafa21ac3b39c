-- Laws of searches in a list: `any`, `twice` and `gather`; and of a table that is filled from its front.
use mathlib.Core.Path.{◌≡◌, refl, sym, ap, ap₂, ◌∙◌}
use mathlib.Core.List.{List, [], ◌∷◌, ◌++◌, map}
use mathlib.Core.Bool.{Bool, true, false, ◌||◌, false≢true}
use Prim.Native.Nat.{ℕ, suc, ◌+◌, ◌<◌, ◌≤◌}
use native.Mathlib.Omega.{arith}
use native.Mathlib.Numerals.{add-one}
use lib.Dec.{eqb}
use lib.ListN.{length, get_or, set, drop, drop_of_length-le}
use lib.Seq.{drop-cons, get_or-set_same, get_or-set_other}
use borrow.Author.Tests.{eq-eqb, eqb-true, eqb-false}
use Rattle.lexical.proofs.BoolLaws.{by_cases, or_cases, or_left, or_right, fails_too}
use Rattle.rules.specs.Rules.{any, twice, gather}

-- ---- the whole list

pub any_like : {A : Type 0} (a b : A → Bool) (xs : List A) → ((x : A) → a x ≡ b x) → any a xs ≡ any b xs
unfolding any
any_like a b [] like = refl
any_like a b (x ∷ xs) like = ap₂ ◌||◌ (like x) (any_like a b xs like)

pub any_none : {A : Type 0} (a : A → Bool) (xs : List A) → ((x : A) → a x ≡ false) → any a xs ≡ false
unfolding any
any_none a [] never = refl
any_none a (x ∷ xs) never = rw (never x, any_none a xs never)

or_assoc : (a b c : Bool) → ((a || b) || c) ≡ (a || (b || c))
or_assoc true b c = refl
or_assoc false b c = refl

any_append : {A : Type 0} (test : A → Bool) (xs ys : List A) → any test (xs ++ ys) ≡ (any test xs || any test ys)
unfolding any
any_append test [] ys = refl
any_append test (x ∷ xs) ys =
    ap (λ (b : Bool). test x || b) (any_append test xs ys) ∙ sym (or_assoc (test x) (any test xs) (any test ys))

pub any_gather : {A B : Type 0} (test : B → Bool) (f : A → List B) (xs : List A) →
    any test (gather f xs) ≡ any (λ x. any test (f x)) xs
unfolding any gather
any_gather test f [] = refl
any_gather test f (x ∷ xs) =
    any_append test (f x) (gather f xs) ∙ ap (λ (b : Bool). any test (f x) || b) (any_gather test f xs)

-- ---- from a place on

module _ {A : Type 0} (xs : List A) (i : ℕ) (z : A) (l : i < length xs) where
  next : drop i xs ≡ get_or xs i z ∷ drop (i + 1) xs
  next = rw (add-one i) (drop-cons xs i z l)

  pub any_turn : (test : A → Bool) → test (get_or xs i z) ≡ false → any test (drop i xs) ≡ any test (drop (i + 1) xs)
  unfolding any
  any_turn test h = ap (any test) next ∙ ap (λ (b : Bool). b || any test (drop (i + 1) xs)) h

  pub any_hit : (test : A → Bool) → test (get_or xs i z) ≡ true → any test (drop i xs) ≡ true
  unfolding any
  any_hit test h = ap (any test) next ∙ ap (λ (b : Bool). b || any test (drop (i + 1) xs)) h

  pub twice_turn : (equal : A → A → Bool) → any (equal (get_or xs i z)) (drop (i + 1) xs) ≡ false →
      twice equal (drop i xs) ≡ twice equal (drop (i + 1) xs)
  unfolding twice
  twice_turn equal h = ap (twice equal) next ∙ ap (λ (b : Bool). b || twice equal (drop (i + 1) xs)) h

  pub twice_hit : (equal : A → A → Bool) → any (equal (get_or xs i z)) (drop (i + 1) xs) ≡ true →
      twice equal (drop i xs) ≡ true
  unfolding twice
  twice_hit equal h = ap (twice equal) next ∙ ap (λ (b : Bool). b || twice equal (drop (i + 1) xs)) h

module _ {A : Type 0} (xs : List A) {i : ℕ} (l : length xs ≤ i) where
  pub any_end : (test : A → Bool) → any test (drop i xs) ≡ false
  unfolding any
  any_end test = ap (any test) (drop_of_length-le xs l)

  pub twice_end : (equal : A → A → Bool) → twice equal (drop i xs) ≡ false
  unfolding twice
  twice_end equal = ap (twice equal) (drop_of_length-le xs l)

-- ---- keys: where two entries are equal, so are their keys

-- P holds of each entry
abbrev pub Each : {A : Type 0} → (A → Type 0) → List A → Type 0
Each {A} P xs = (z : A) (i : ℕ) → i < length xs → P (get_or xs i z)

-- for entries of which P holds
module _ {A : Type 0} (P : A → Type 0) (f : A → ℕ) (equal : A → A → Bool)
    (keyed : (x y : A) → P x → P y → equal x y ≡ true → f x ≡ f y) where
  each_first : (x : A) (xs : List A) → Each P (x ∷ xs) → P x
  each_first x xs h = h x 0 (omega arith)

  each_rest : (x : A) (xs : List A) → Each P (x ∷ xs) → Each P xs
  each_rest x xs h z i l = h z (suc i) (omega arith)

  any_keys : (x : A) (xs : List A) → P x → Each P xs → any (equal x) xs ≡ true → any (eqb (f x)) (map f xs) ≡ true
  unfolding any
  any_keys x [] p h e = absurd (false≢true e)
  any_keys x (y ∷ ys) p h e =
      or_cases (equal x y) (any (equal x) ys) e
      (λ q. or_left (eqb (f x) (f y)) (any (eqb (f x)) (map f ys))
      (eq-eqb (f x) (f y) (keyed x y p (each_first y ys h) q)))
      (λ q. or_right (eqb (f x) (f y)) (any (eqb (f x)) (map f ys)) (any_keys x ys p (each_rest y ys h) q))

  pub twice_among : (xs : List A) → Each P xs → twice equal xs ≡ true → twice eqb (map f xs) ≡ true
  unfolding twice
  twice_among [] h e = absurd (false≢true e)
  twice_among (x ∷ xs) h e =
      or_cases (any (equal x) xs) (twice equal xs) e
      (λ q. or_left (any (eqb (f x)) (map f xs)) (twice eqb (map f xs))
      (any_keys x xs (each_first x xs h) (each_rest x xs h) q))
      (λ q. or_right (any (eqb (f x)) (map f xs)) (twice eqb (map f xs)) (twice_among xs (each_rest x xs h) q))

  -- keys that are all different tell the entries apart
  pub apart_among : (xs : List A) → Each P xs → twice eqb (map f xs) ≡ false → twice equal xs ≡ false
  apart_among xs h e = fails_too (twice equal xs) (twice eqb (map f xs)) (twice_among xs h) e

-- for all
module _ {A : Type 0} (f : A → ℕ) (equal : A → A → Bool) (keyed : (x y : A) → equal x y ≡ true → f x ≡ f y) where
  pub apart_keys : (xs : List A) → twice eqb (map f xs) ≡ false → twice equal xs ≡ false
  apart_keys xs = apart_among (λ x. Unit) f equal (λ x y p q. keyed x y) xs (λ z i l. tt)

-- ---- a table that is filled from its front

-- one more entry of the table is as it should be
pub filled_turn : (P : ℕ → ℕ → Type 0) (b : List ℕ) (i : ℕ) {x : ℕ} → i < length b → P i x →
    ((k : ℕ) → k < i → P k (get_or b k 0)) → (k : ℕ) → k < i + 1 → P k (get_or (set b i x) k 0)
filled_turn P b i {x} l p h k m =
    by_cases (eqb k i)
    (λ e. rw (eqb-true k i e, get_or-set_same b i x 0 l) p)
    (λ e. let d : k ≡ i → ⊥ = eqb-false k i e in rw (get_or-set_other b i k x 0 d) (h k (omega arith)))
