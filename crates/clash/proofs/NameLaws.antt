-- Laws of lists of names that are compared name by name.
use mathlib.Core.Path.{◌≡◌, refl, ap, ap₂, ◌∙◌}
use mathlib.Core.List.{List, [], ◌∷◌}
use mathlib.Core.Bool.{Bool, true, false, ◌&&◌, false≢true}
use Prim.Native.Nat.{ℕ, ◌+◌, ◌<◌, ◌≤◌}
use native.Mathlib.Numerals.{add-one}
use lib.ListN.{length, get_or, drop, drop_of_length-le}
use lib.Seq.{drop-cons}
use Rattle.lexical.specs.Bytes.{same}
use Rattle.lexical.proofs.BoolLaws.{both, by_cases}
use Rattle.lexical.proofs.ByteLaws.{same_eq, same_refl}
use Rattle.format.specs.Sheet.{Name}
use Rattle.clash.specs.Clashes.{same_names}

pub names_eq : (xs ys : List Name) → same_names xs ys ≡ true → xs ≡ ys
unfolding same_names
names_eq [] [] e = refl
names_eq [] (y ∷ ys) e = absurd (false≢true e)
names_eq (x ∷ xs) [] e = absurd (false≢true e)
names_eq (x ∷ xs) (y ∷ ys) e =
    let q = both (same x y) (same_names xs ys) e in
    ap₂ (λ (n : Name) (l : List Name). n ∷ l) (same_eq x y q.0) (names_eq xs ys q.1)

pub names_refl : (xs : List Name) → same_names xs xs ≡ true
unfolding same_names
names_refl [] = refl
names_refl (x ∷ xs) = rw (same_refl x) (names_refl xs)

-- lists of unequal lengths
pub names_unlike : (xs ys : List Name) → (length xs ≡ length ys → ⊥) → same_names xs ys ≡ false
names_unlike xs ys h = by_cases (same_names xs ys) (λ e. absurd (h (ap length (names_eq xs ys e)))) (λ e. e)

-- ---- from a place on

module _ (xs ys : List Name) (d : ℕ) where
  module _ (l : d < length xs) (k : d < length ys) where
    both_next : same_names (drop d xs) (drop d ys) ≡
        (same (get_or xs d []) (get_or ys d []) && same_names (drop (d + 1) xs) (drop (d + 1) ys))
    unfolding same_names
    both_next = rw (add-one d, drop-cons xs d [] l, drop-cons ys d [] k)

    pub names_turn : same (get_or xs d []) (get_or ys d []) ≡ true →
        same_names (drop d xs) (drop d ys) ≡ same_names (drop (d + 1) xs) (drop (d + 1) ys)
    names_turn h = both_next ∙ ap (λ (b : Bool). b && same_names (drop (d + 1) xs) (drop (d + 1) ys)) h

    pub names_differ : same (get_or xs d []) (get_or ys d []) ≡ false → same_names (drop d xs) (drop d ys) ≡ false
    names_differ h = both_next ∙ ap (λ (b : Bool). b && same_names (drop (d + 1) xs) (drop (d + 1) ys)) h

  pub names_end : length xs ≤ d → length ys ≤ d → same_names (drop d xs) (drop d ys) ≡ true
  unfolding same_names
  names_end l k = ap₂ same_names (drop_of_length-le xs l) (drop_of_length-le ys k)
