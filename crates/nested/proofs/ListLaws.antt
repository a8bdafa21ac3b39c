-- Laws of filtered lists, of searches, and of names where they first appear.
use mathlib.Core.Path.{◌≡◌, refl, sym, ap, ◌∙◌}
use mathlib.Core.List.{List, [], ◌∷◌, ◌++◌, append-nil, append_assoc}
use mathlib.Core.Bool.{Bool, true, false, ◌&&◌, ◌||◌, false≢true}
use Prim.Native.Nat.{ℕ, zero, suc, ◌<◌}
use native.Mathlib.Omega.{arith}
use lib.ListN.{length, get_or, take, drop}
use Rattle.lexical.specs.Bytes.{same, member}
use Rattle.lexical.proofs.BoolLaws.{by_cases, neither, or_right}
use Rattle.lexical.proofs.ByteLaws.{same_eq}
use Rattle.format.specs.Decode.{pick}
use Rattle.format.specs.Sheet.{Name, Item}
use Rattle.rules.specs.Rules.{any, gather}
use Rattle.bridge.specs.Nested.{filter, first_name, nth, starts_with, distinct, nth_names}

pub and-true : (b : Bool) → (b && true) ≡ b
and-true true = refl
and-true false = refl

pub and-false : (b : Bool) → (b && false) ≡ false
and-false true = refl
and-false false = refl

pub and_assoc : (a b c : Bool) → ((a && b) && c) ≡ (a && (b && c))
and_assoc true b c = refl
and_assoc false b c = refl

or_assoc : (a b c : Bool) → ((a || b) || c) ≡ (a || (b || c))
or_assoc true b c = refl
or_assoc false b c = refl

or-false : (a : Bool) → (a || false) ≡ a
or-false true = refl
or-false false = refl

or_swap : (a b c : Bool) → ((a || b) || c) ≡ (b || (a || c))
or_swap true true c = refl
or_swap true false c = refl
or_swap false b c = refl

-- what is left out twice
or_known : (a b c : Bool) → (b ≡ true → a ≡ true) → (a || c) ≡ (a || (b || c))
or_known true b c h = refl
or_known false true c h = absurd (false≢true (h refl))
or_known false false c h = refl

-- ---- filter

module _ {A : Type 0} where
  pub filter_append : (test : A → Bool) (xs ys : List A) → filter test (xs ++ ys) ≡ filter test xs ++ filter test ys
  unfolding filter
  filter_append test [] ys = refl
  filter_append test (x ∷ xs) ys =
      by_cases (test x) (λ e. rw e (ap (λ (l : List A). x ∷ l) (filter_append test xs ys)))
      (λ e. rw e (filter_append test xs ys))

  pub filter_same : (test other : A → Bool) → ((x : A) → test x ≡ other x) → (xs : List A) →
      filter test xs ≡ filter other xs
  unfolding filter
  filter_same test other h [] = refl
  filter_same test other h (x ∷ xs) = rw (h x, filter_same test other h xs)

  pub filter_twice : (outer inner : A → Bool) (xs : List A) →
      filter outer (filter inner xs) ≡ filter (λ x. inner x && outer x) xs
  unfolding filter
  filter_twice outer inner [] = refl
  filter_twice outer inner (x ∷ xs) =
      by_cases (inner x)
      (λ e. rw e (ap (λ (l : List A). pick (outer x) (x ∷ l) l) (filter_twice outer inner xs)))
      (λ e. rw e (filter_twice outer inner xs))

  pub filter_none : (test : A → Bool) (xs : List A) → any test xs ≡ false → filter test xs ≡ []
  unfolding filter any
  filter_none test [] h = refl
  filter_none test (x ∷ xs) h =
      let q = neither (test x) (any test xs) h in
      rw q.0 (filter_none test xs q.1)

  pub any_same : (test other : A → Bool) → ((x : A) → test x ≡ other x) → (xs : List A) → any test xs ≡ any other xs
  unfolding any
  any_same test other h [] = refl
  any_same test other h (x ∷ xs) = rw (h x, any_same test other h xs)

  pub any_last : (test : A → Bool) (xs : List A) (x : A) → any test (xs ++ (x ∷ [])) ≡ (any test xs || test x)
  unfolding any
  any_last test [] x = or-false (test x)
  any_last test (y ∷ xs) x = rw (any_last test xs x) (sym (or_assoc (test y) (any test xs) (test x)))

  pub any_there : (test : A → Bool) (xs : List A) (n k : ℕ) (z : A) → k < n → k < length xs →
      test (get_or xs k z) ≡ true → any test (take n xs) ≡ true
  unfolding any
  any_there test [] n k z h l e = absurd (omega arith)
  any_there test (x ∷ xs) zero k z h l e = absurd (omega arith)
  any_there test (x ∷ xs) (suc n) zero z h l e = rw e
  any_there test (x ∷ xs) (suc n) (suc k) z h l e =
      or_right (test x) (any test (take n xs)) (any_there test xs n k z (omega arith) (omega arith) e)

module _ {A B : Type 0} (f : A → List B) where
  pub gather_append : (xs ys : List A) → gather f (xs ++ ys) ≡ gather f xs ++ gather f ys
  unfolding gather
  gather_append [] ys = refl
  gather_append (x ∷ xs) ys = rw (gather_append xs ys) (sym (append_assoc (f x) (gather f xs) (gather f ys)))

  pub gather_last : (xs : List A) (x : A) → gather f (xs ++ (x ∷ [])) ≡ gather f xs ++ f x
  unfolding gather
  gather_last xs x = gather_append xs (x ∷ []) ∙ ap (λ (l : List B). gather f xs ++ l) (append-nil (f x))

-- ---- names

pub names_append : (depth : ℕ) (xs ys : List Item) → nth_names depth (xs ++ ys) ≡ nth_names depth xs ++ nth_names depth ys
unfolding nth_names
names_append depth [] ys = refl
names_append depth (x ∷ xs) ys =
    rw (names_append depth xs ys) (sym (append_assoc (nth depth x) (nth_names depth xs) (nth_names depth ys)))

member_first : (n : Name) (ms rest : List Name) → member n (first_name ms ++ rest) ≡ (starts_with n (first_name ms) || member n rest)
unfolding member
member_first n [] rest = refl
member_first n (m ∷ ms) rest = refl

-- a name is among those of the filtered items where one of them passes both tests
pub member_names : (n : Name) (depth : ℕ) (test : Item → Bool) (xs : List Item) →
    member n (nth_names depth (filter test xs)) ≡ any (λ x. test x && starts_with n (nth depth x)) xs
unfolding filter nth_names any nth member
member_names n depth test [] = refl
member_names n depth test (x ∷ xs) =
    by_cases (test x)
    (λ e. rw e
    (member_first n (drop depth x.namespace) (nth_names depth (filter test xs))
    ∙ ap (λ (b : Bool). starts_with n (nth depth x) || b) (member_names n depth test xs)))
    (λ e. rw e (member_names n depth test xs))

-- a name behind others: it is new, or it was seen
known : (n m : Name) (seen : List Name) → member m seen ≡ true → same n m ≡ true → member n seen ≡ true
known n m seen h e = rw (same_eq n m e) h

pub distinct_last : (seen ns : List Name) (n : Name) →
    distinct seen (ns ++ (n ∷ [])) ≡ distinct seen ns ++ pick (member n seen || member n ns) [] (n ∷ [])
unfolding distinct member
distinct_last seen [] n = rw or-false
distinct_last seen (m ∷ ns) n =
    by_cases (member m seen)
    (λ e. rw (e, distinct_last seen ns n)
    (ap (λ (b : Bool). distinct seen ns ++ pick b [] (n ∷ []))
    (or_known (member n seen) (same n m) (member n ns) (known n m seen e))))
    (λ e. rw (e, distinct_last (m ∷ seen) ns n)
    (ap (λ (b : Bool). m ∷ distinct (m ∷ seen) ns ++ pick b [] (n ∷ []))
    (or_swap (same n m) (member n seen) (member n ns))))
