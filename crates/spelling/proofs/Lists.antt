-- Lists of parts: with a comma between each two, or one after the other.
use Rattle.std.proofs.Common.{◌≡◌, ℕ, ◌+◌, ◌≤◌, Bool, true, false, List, [], ◌∷◌, ◌++◌, map, length, refl, ap, arith, length-append, le-leb}
use Rattle.lexical.specs.Bytes.{every}
use Rattle.lexical.proofs.BoolLaws.{by_cases}
use Rattle.lexical.proofs.ByteLaws.{every_cons}
use Rattle.rules.specs.Rules.{gather}
use Rattle.bridge.specs.Write.{commas}
use Rattle.grammar.specs.Token.{Token}
use Rattle.grammar.specs.Tokens.{each_tokens, comma_tokens, list_tokens}
use Rattle.grammar.specs.Rules.{at_most_one, few_arguments}
use Rattle.spelling.proofs.Spells.{closed, inside, Spells, meets, ◌▷◌, ◌▷⟨◌⟩◌, as_tokens, empty, lit}

-- each text spells the element at its place
pub data SpellsEach {B : Type 0} (tokens : B → List Token → List Token) : List (List ℕ) → List B → Type 0 where
  none : SpellsEach tokens [] []
  more : {s : List ℕ} {x : B} {ss : List (List ℕ)} {xs : List B} → Spells inside s (tokens x) →
      SpellsEach tokens ss xs → SpellsEach tokens (s ∷ ss) (x ∷ xs)

pub each_tokens_append : {B : Type 0} (tokens : B → List Token → List Token) (xs ys : List B) (ts : List Token) →
    each_tokens tokens xs (each_tokens tokens ys ts) ≡ each_tokens tokens (xs ++ ys) ts
each_tokens_append tokens [] ys ts = refl
each_tokens_append tokens (x ∷ xs) ys ts = ap (tokens x) (each_tokens_append tokens xs ys ts)

commas_meet : (ss : List (List ℕ)) → meets inside (commas true ss) inside ≡ true
unfolding commas
commas_meet [] = refl
commas_meet (s ∷ ss) = refl

module _ {B : Type 0} (tokens : B → List Token → List Token) where
  pub each_append : {ss us : List (List ℕ)} {xs ys : List B} → SpellsEach tokens ss xs → SpellsEach tokens us ys →
      SpellsEach tokens (ss ++ us) (xs ++ ys)
  each_append none q = q
  each_append (more p ps) q = more p (each_append ps q)

  comma_spells : {ss : List (List ℕ)} {xs : List B} → SpellsEach tokens ss xs →
      Spells inside (commas true ss) (comma_tokens tokens xs)
  unfolding commas
  comma_spells none = empty
  comma_spells (more {ss = ss} p ps) = lit ", " refl ▷ p ▷⟨ commas_meet ss ⟩ comma_spells ps

  pub list_spells : {ss : List (List ℕ)} {xs : List B} → SpellsEach tokens ss xs →
      Spells inside (commas false ss) (list_tokens tokens xs)
  unfolding commas
  list_spells none = empty
  list_spells (more {ss = ss} p ps) = p ▷⟨ commas_meet ss ⟩ comma_spells ps

  -- over the elements of a list that each pass a test
  module _ {A : Type 0} (test : A → Bool) where
    pub map_spells : (text : A → List ℕ) (tree : A → B) →
        ((x : A) → test x ≡ true → Spells inside (text x) (tokens (tree x))) → (xs : List A) → every test xs ≡ true →
        SpellsEach tokens (map text xs) (map tree xs)
    map_spells text tree each [] h = none
    map_spells text tree each (x ∷ xs) h =
        let q = every_cons test x xs h in more (each x q.0) (map_spells text tree each xs q.1)

    pub gather_spells : (text : A → List ℕ) (trees : A → List B) →
        ((x : A) → test x ≡ true → Spells closed (text x) (each_tokens tokens (trees x))) → (xs : List A) →
        every test xs ≡ true → Spells closed (gather text xs) (each_tokens tokens (gather trees xs))
    unfolding gather
    gather_spells text trees each [] h = empty
    gather_spells text trees each (x ∷ xs) h =
        let q = every_cons test x xs h in
        as_tokens (each_tokens_append tokens (trees x) (gather trees xs))
        (each x q.0 ▷ gather_spells text trees each xs q.1)

    pub gather_map_spells : (text : A → List ℕ) (tree : A → B) →
        ((x : A) → test x ≡ true → Spells closed (text x) (tokens (tree x))) → (xs : List A) → every test xs ≡ true →
        Spells closed (gather text xs) (each_tokens tokens (map tree xs))
    unfolding gather
    gather_map_spells text tree each [] h = empty
    gather_map_spells text tree each (x ∷ xs) h =
        let q = every_cons test x xs h in each x q.0 ▷ gather_map_spells text tree each xs q.1

-- arguments between a receiver or none and a slot or none

module _ {A : Type 0} (test : A → Bool) where
  one_of_front : (xs ys : List A) → at_most_one test xs ≤ at_most_one test (xs ++ ys)
  unfolding at_most_one
  one_of_front [] ys = omega arith
  one_of_front (x ∷ xs) ys = by_cases (test x) (λ e. rw e (omega arith)) (λ e. rw e (one_of_front xs ys))

  one_at_most : (xs : List A) → at_most_one test xs ≤ 1
  unfolding at_most_one
  one_at_most [] = omega arith
  one_at_most (x ∷ xs) = by_cases (test x) (λ e. rw e (omega arith)) (λ e. rw e (one_at_most xs))

  one_of_back : (xs ys : List A) → at_most_one test ys ≤ at_most_one test (xs ++ ys)
  unfolding at_most_one
  one_of_back [] ys = omega arith
  one_of_back (x ∷ xs) ys = by_cases (test x) (λ e. rw e (one_at_most ys)) (λ e. rw e (one_of_back xs ys))

pub few_between : {A : Type 0} (is_receiver is_slot : A → Bool) (front middle back : List A) →
    length front ≤ at_most_one is_receiver front → length middle ≤ 31 → length back ≤ at_most_one is_slot back →
    few_arguments is_receiver is_slot (front ++ middle ++ back) ≡ true
unfolding few_arguments
few_between is_receiver is_slot front middle back f m b =
    let all = front ++ middle ++ back in
    le-leb (length all) (31 + at_most_one is_receiver all + at_most_one is_slot all)
    (omega (
      arith,
      length-append (front ++ middle) back,
      length-append front middle,
      one_of_front is_receiver front middle,
      one_of_front is_receiver (front ++ middle) back,
      one_of_back is_slot (front ++ middle) back,
    ))

-- a list of none or one that passes the test
pub none_or_one : {A B : Type 0} (test : A → Bool) (f : B → A) → ((x : B) → test (f x) ≡ true) → (xs : List B) →
    length xs ≤ 1 → length (map f xs) ≤ at_most_one test (map f xs)
unfolding at_most_one
none_or_one test f h [] l = omega arith
none_or_one test f h (x ∷ []) l = rw (h x) (omega arith)
none_or_one test f h (x ∷ (y ∷ xs)) l = absurd (omega arith)
