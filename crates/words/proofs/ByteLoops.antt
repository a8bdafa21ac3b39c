-- Laws of two lists of bytes: compared entry by entry, and by a loop.
use mathlib.Core.Path.{◌≡◌, refl, ap}
use mathlib.Core.List.{List, [], ◌∷◌}
use mathlib.Core.Bool.{Bool, true, false, ◌&&◌}
use Prim.Native.Nat.{ℕ, suc, ◌+◌, ◌<◌, ◌≤◌}
use native.Mathlib.Numerals.{add-one}
use lib.ListN.{length, get_or, drop, drop_of_length-le}
use lib.Dec.{eqb}
use lib.Pointwise.{pointwise}
use lib.Seq.{drop-cons}
use borrow.Author.Tests.{eq-eqb, ne_eqb}
use Rattle.lexical.specs.Bytes.{same}

pub pointwise_same : (a b : List ℕ) → pointwise eqb a b ≡ same a b
unfolding same
pointwise_same [] [] = refl
pointwise_same [] (y ∷ b) = refl
pointwise_same (x ∷ a) [] = refl
pointwise_same (x ∷ a) (y ∷ b) = ap (λ (r : Bool). eqb x y && r) (pointwise_same a b)

pub same_length_lem : (a b : List ℕ) → (length a ≡ length b → ⊥) → same a b ≡ false
unfolding same
same_length_lem [] [] h = absurd (h refl)
same_length_lem [] (y ∷ ys) h = refl
same_length_lem (x ∷ xs) [] h = refl
same_length_lem (x ∷ xs) (y ∷ ys) h = and_no (eqb x y) (same_length_lem xs ys (λ e. h (ap suc e)))
  where
    and_no : (b : Bool) {c : Bool} → c ≡ false → (b && c) ≡ false
    and_no true e = e
    and_no false e = refl

module _ (a b : List ℕ) (i : ℕ) where
  pub same_turn : i < length a → i < length b → get_or a i 0 ≡ get_or b i 0 →
      same (drop i a) (drop i b) ≡ same (drop (i + 1) a) (drop (i + 1) b)
  unfolding same
  same_turn h l e = rw (add-one, drop-cons a i 0, drop-cons b i 0, eq-eqb _ _ e)

  pub same_no : i < length a → i < length b → (get_or a i 0 ≡ get_or b i 0 → ⊥) → same (drop i a) (drop i b) ≡ false
  unfolding same
  same_no h l e = rw (drop-cons a i 0, drop-cons b i 0, ne_eqb _ _ e)

  pub same_end : length a ≤ i → length b ≤ i → same (drop i a) (drop i b) ≡ true
  unfolding same
  same_end h l = rw (drop_of_length-le a h, drop_of_length-le b l)
