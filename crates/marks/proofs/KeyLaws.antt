-- Laws of counts of a key, and of a search for two equal keys that marks what it has seen.
use mathlib.Core.Path.{◌≡◌, refl, sym, ap, ap₂, ◌∙◌}
use mathlib.Core.List.{List, [], ◌∷◌, ◌++◌}
use mathlib.Core.Bool.{Bool, true, false, not, ◌&&◌, ◌||◌, false≢true}
use Prim.Native.Nat.{ℕ, ◌+◌, ◌%◌, ◌<◌, ◌≤◌}
use native.Mathlib.Omega.{arith}
use native.Mathlib.Numerals.{add-one}
use lib.ListN.{length, get_or, set, take, drop, drop_of_length-le, take-append-drop}
use lib.Seq.{drop-cons, take_all, take-suc, get_or-set_same, get_or-set_other}
use lib.Dec.{eqb}
use mir.Val.{bool_byte}
use borrow.Author.Tests.{eqb-true, eqb-false, eq-eqb, ne_eqb}
use Rattle.lexical.proofs.BoolLaws.{both, and_of, by_cases, or_cases, or_left, or_right}
use Rattle.rules.specs.Rules.{any, twice}
use Rattle.marks.specs.Keys.{one_if, count_of}
use Rattle.marks.proofs.SomeLaws.{or_assoc, or-false}

-- ---- a loop that counts

module _ (k : ℕ) (xs : List ℕ) where
  pub count_turn : (j : ℕ) → j < length xs →
      count_of k (drop j xs) ≡ one_if (eqb k (get_or xs j 0)) + count_of k (drop (j + 1) xs)
  unfolding count_of
  count_turn j l = rw (add-one j, drop-cons xs j 0 l)

  pub count_end : (j : ℕ) → length xs ≤ j → count_of k (drop j xs) ≡ 0
  unfolding count_of
  count_end j l = ap (count_of k) (drop_of_length-le xs l)

pub one_low : (b : Bool) → one_if b ≤ 1
one_low true = omega arith
one_low false = omega arith

-- what a test counts
pub one_of : (b : Bool) → (bool_byte b ≡ one_if b) × (one_if b ≤ 1)
one_of true = (refl, omega arith)
one_of false = (refl, omega arith)

-- ---- none, or some

pub count_none : (k : ℕ) (xs : List ℕ) → count_of k xs ≡ 0 → any (eqb k) xs ≡ false
unfolding count_of any
count_none k [] e = refl
count_none k (x ∷ xs) e = by_first (eqb k x) e (count_none k xs)
  where
    by_first : (b : Bool) → one_if b + count_of k xs ≡ 0 → (count_of k xs ≡ 0 → any (eqb k) xs ≡ false) →
        (b || any (eqb k) xs) ≡ false
    by_first true e h = absurd (omega arith)
    by_first false e h = h (omega arith)

pub count_some : (k : ℕ) (xs : List ℕ) → (count_of k xs ≡ 0 → ⊥) → any (eqb k) xs ≡ true
unfolding count_of any
count_some k [] e = absurd (e refl)
count_some k (x ∷ xs) e = by_first (eqb k x) e (count_some k xs)
  where
    by_first : (b : Bool) → (one_if b + count_of k xs ≡ 0 → ⊥) → ((count_of k xs ≡ 0 → ⊥) → any (eqb k) xs ≡ true) →
        (b || any (eqb k) xs) ≡ true
    by_first true e h = refl
    by_first false e h = h (λ q. e (omega arith))

-- ---- a key that is asked for where there is a mark

module _ (k m : ℕ) (xs : List ℕ) where
  pub counted : {n : ℕ} → m ≡ 1 → n ≡ count_of k xs → not (eqb n 0) ≡ (eqb m 1 && any (eqb k) xs)
  counted {n} e h =
      by_cases (eqb n 0)
      (λ q. ap not q ∙ sym (count_none k xs (sym h ∙ eqb-true n 0 q)))
      (λ q. ap not q ∙ sym (count_some k xs (λ z. eqb-false n 0 q (h ∙ z))))
      ∙ ap (λ (b : Bool). b && any (eqb k) xs) (sym (eq-eqb m 1 e))

-- ---- one key more

exchange : (a b c d : Bool) → ((a || b) || (c || d)) ≡ ((a || c) || (b || d))
exchange true b c d = refl
exchange false true true d = refl
exchange false true false d = refl
exchange false false c d = refl

eqb_sym : (x y : ℕ) → eqb x y ≡ eqb y x
eqb_sym x y =
    by_cases (eqb x y)
    (λ e. e ∙ sym (eq-eqb y x (sym (eqb-true x y e))))
    (λ e. e ∙ sym (ne_eqb y x (λ q. eqb-false x y e (sym q))))

any_last : (x y : ℕ) (xs : List ℕ) → any (eqb x) (xs ++ (y ∷ [])) ≡ (any (eqb x) xs || eqb x y)
unfolding any
any_last x y [] = or-false (eqb x y)
any_last x y (z ∷ xs) =
    ap (λ (b : Bool). eqb x z || b) (any_last x y xs) ∙ sym (or_assoc (eqb x z) (any (eqb x) xs) (eqb x y))

twice_last : (y : ℕ) (xs : List ℕ) → twice eqb (xs ++ (y ∷ [])) ≡ (twice eqb xs || any (eqb y) xs)
unfolding twice any
twice_last y [] = refl
twice_last y (x ∷ xs) =
    ap₂ ◌||◌ (any_last x y xs) (twice_last y xs)
    ∙ exchange (any (eqb x) xs) (eqb x y) (twice eqb xs) (any (eqb y) xs)
    ∙ ap (λ (b : Bool). (any (eqb x) xs || twice eqb xs) || (b || any (eqb y) xs)) (eqb_sym x y)

any_front : (x : ℕ) (xs ys : List ℕ) → any (eqb x) xs ≡ true → any (eqb x) (xs ++ ys) ≡ true
unfolding any
any_front x [] ys e = absurd (false≢true e)
any_front x (z ∷ xs) ys e =
    or_cases (eqb x z) (any (eqb x) xs) e
    (λ q. or_left (eqb x z) (any (eqb x) (xs ++ ys)) q)
    (λ q. or_right (eqb x z) (any (eqb x) (xs ++ ys)) (any_front x xs ys q))

twice_front : (xs ys : List ℕ) → twice eqb xs ≡ true → twice eqb (xs ++ ys) ≡ true
unfolding twice
twice_front [] ys e = absurd (false≢true e)
twice_front (x ∷ xs) ys e =
    or_cases (any (eqb x) xs) (twice eqb xs) e
    (λ q. or_left (any (eqb x) (xs ++ ys)) (twice eqb (xs ++ ys)) (any_front x xs ys q))
    (λ q. or_right (any (eqb x) (xs ++ ys)) (twice eqb (xs ++ ys)) (twice_front xs ys q))

-- ---- a loop over the keys

-- each of the keys has its mark
abbrev pub Marked : List ℕ → List ℕ → Type 0
Marked seen xs = (x : ℕ) → any (eqb x) xs ≡ true → get_or seen (x % 256) 0 ≡ 1

-- the first i keys are different, and marked
pub record Apart (xs seen : List ℕ) (i : ℕ) : Type 0 where
  pub apart : twice eqb (take i xs) ≡ false
  pub marks : Marked seen (take i xs)

pub apart_none : (xs seen : List ℕ) → Apart xs seen 0
unfolding any twice
apart_none xs seen = record { apart = refl; marks = λ x e. absurd (false≢true e) }

pub apart_all : (xs seen : List ℕ) (i : ℕ) → length xs ≤ i → Apart xs seen i → false ≡ twice eqb xs
apart_all xs seen i l h = sym h.apart ∙ ap (twice eqb) (take_all i xs l)

module _ (xs seen : List ℕ) (i : ℕ) (l : i < length xs) where
  abbrev key : ℕ
  key = get_or xs i 0

  abbrev place : ℕ
  place = key % 256

  abbrev marked : Bool
  marked = eqb (get_or seen place 0) 1

  abbrev among : Bool
  among = any (eqb key) (take i xs)

  next : take (i + 1) xs ≡ take i xs ++ (key ∷ [])
  next = rw (add-one i) (take-suc xs i 0 l)

  twice_next : twice eqb (take (i + 1) xs) ≡ (twice eqb (take i xs) || among)
  twice_next = ap (twice eqb) next ∙ twice_last key (take i xs)

  module _ {r : Bool} (h : r ≡ (marked && among)) where
    pub keys_hit : r ≡ true → true ≡ twice eqb xs
    keys_hit e =
        sym (twice_front (take (i + 1) xs) (drop (i + 1) xs)
        (twice_next ∙ or_right (twice eqb (take i xs)) among (both marked among (sym h ∙ e)).1))
        ∙ ap (twice eqb) (take-append-drop (i + 1) xs)

    pub keys_turn : length seen ≡ 256 → Apart xs seen i → r ≡ false → Apart xs (set seen place 1) (i + 1)
    keys_turn n a e = record { apart = twice_next ∙ ap₂ ◌||◌ a.apart new; marks = marks_next }
      where
        new : among ≡ false
        new =
            by_cases among
            (λ q. absurd (false≢true (sym e ∙ h ∙ and_of marked among (eq-eqb _ 1 (a.marks key q)) q)))
            (λ q. q)

        -- x has the new key's place, or its mark already
        marks_next : Marked (set seen place 1) (take (i + 1) xs)
        marks_next x q =
            by_cases (eqb (x % 256) place)
            (λ t. rw (eqb-true (x % 256) place t) (get_or-set_same seen place 1 0 (omega arith)))
            (λ t. get_or-set_other seen place (x % 256) 1 0 (eqb-false (x % 256) place t)
            ∙ or_cases (any (eqb x) (take i xs)) (eqb x key)
            (sym (any_last x key (take i xs)) ∙ ap (any (eqb x)) (sym next) ∙ q)
            (a.marks x)
            (λ w. absurd (eqb-false (x % 256) place t (ap (λ (y : ℕ). y % 256) (eqb-true x key w)))))
