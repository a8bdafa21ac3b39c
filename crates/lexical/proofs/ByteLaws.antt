-- Laws of bytes and lists of bytes.
use mathlib.Core.Path.{◌≡◌, refl, sym, ap₂}
use mathlib.Core.List.{List, [], ◌∷◌, ◌++◌, map}
use mathlib.Core.Bool.{Bool, true, false, ◌&&◌, and_assoc, false≢true}
use Prim.Native.Nat.{ℕ}
use lib.Dec.{T, eqb, eqb→eq, eqb_refl}
use Rattle.lexical.specs.Bytes.{elem, every, same, member}
use Rattle.lexical.proofs.BoolLaws.{both, and_of, by_cases, or_right}

pub byte_eq : (c d : ℕ) → eqb c d ≡ true → c ≡ d
byte_eq c d e = eqb→eq c d (rw e tt)

pub byte_refl : (c : ℕ) → eqb c c ≡ true
byte_refl c = go (eqb c c) (eqb_refl c)
  where
    go : (b : Bool) → T b → b ≡ true
    go true t = refl
    go false t = absurd t

pub same_eq : (s t : List ℕ) → same s t ≡ true → s ≡ t
unfolding same
same_eq [] [] e = refl
same_eq [] (d ∷ t) e = absurd (false≢true e)
same_eq (c ∷ s) [] e = absurd (false≢true e)
same_eq (c ∷ s) (d ∷ t) e =
    let q = both (eqb c d) (same s t) e in
    ap₂ (λ (x : ℕ) (y : List ℕ). x ∷ y) (byte_eq c d q.0) (same_eq s t q.1)

pub same_refl : (s : List ℕ) → same s s ≡ true
unfolding same
same_refl [] = refl
same_refl (c ∷ s) = rw (byte_refl c) (same_refl s)

-- each element has the property
abbrev pub Each : {A : Type 0} → (A → Type 0) → List A → Type 0
Each P [] = Unit {0}
Each P (x ∷ xs) = P x × Each P xs

pub each_of : {A : Type 0} (P Q : A → Type 0) → ((x : A) → P x → Q x) → (xs : List A) → Each P xs → Each Q xs
each_of P Q f [] h = tt
each_of P Q f (x ∷ xs) h = (f x h.0, each_of P Q f xs h.1)

pub every_of : {A : Type 0} (P : A → Type 0) (test : A → Bool) → ((x : A) → P x → test x ≡ true) → (xs : List A) →
    Each P xs → every test xs ≡ true
unfolding every
every_of P test f [] h = refl
every_of P test f (x ∷ xs) h = rw (f x h.0) (every_of P test f xs h.1)

pub each_true : {A : Type 0} (test : A → Bool) (xs : List A) → every test xs ≡ true → Each (λ x. test x ≡ true) xs
unfolding every
each_true test [] h = tt
each_true test (x ∷ xs) h = let q = both (test x) (every test xs) h in (q.0, each_true test xs q.1)

-- what holds of each byte of a list holds of every byte that the list has
pub each : (P : ℕ → Type 0) (s : List ℕ) → Each P s → (c : ℕ) → elem c s ≡ true → P c
each P [] h c e = absurd (false≢true e)
each P (d ∷ s) h c e =
    by_cases (eqb c d) (λ q. rw (byte_eq c d q) h.0) (λ q. each P s h.1 c (rw q at e))

-- the same for every byte that passes a test
pub every_each : (test : ℕ → Bool) (s : List ℕ) → every test s ≡ true → (c : ℕ) → elem c s ≡ true → test c ≡ true
unfolding every
every_each test [] h c e = absurd (false≢true e)
every_each test (d ∷ s) h c e =
    let q = both (test d) (every test s) h in
    by_cases (eqb c d) (λ f. rw (byte_eq c d f) q.0) (λ f. every_each test s q.1 c (rw f at e))

module _ {A : Type 0} (test : A → Bool) where
  pub every_cons : (x : A) (xs : List A) → every test (x ∷ xs) ≡ true → (test x ≡ true) × (every test xs ≡ true)
  unfolding every
  every_cons x xs h = both (test x) (every test xs) h

  pub every_both : (xs ys : List A) → every test (xs ++ ys) ≡ (every test xs && every test ys)
  unfolding every
  every_both [] ys = refl
  every_both (x ∷ xs) ys = rw (every_both xs ys) (sym (and_assoc (test x) (every test xs) (every test ys)))

  pub every_append : (xs ys : List A) → every test xs ≡ true → every test ys ≡ true → every test (xs ++ ys) ≡ true
  unfolding every
  every_append [] ys h e = e
  every_append (x ∷ xs) ys h e =
      let q = both (test x) (every test xs) h in rw q.0 (every_append xs ys q.1 e)

  pub every_snoc : (xs : List A) (x : A) → every test xs ≡ true → test x ≡ true → every test (xs ++ (x ∷ [])) ≡ true
  unfolding every
  every_snoc xs x h e = every_append xs (x ∷ []) h (rw e)

  pub every_split : (xs ys : List A) → every test (xs ++ ys) ≡ true → (every test xs ≡ true) × (every test ys ≡ true)
  unfolding every
  every_split [] ys h = (refl, h)
  every_split (x ∷ xs) ys h =
      let q = both (test x) (every test (xs ++ ys)) h in
      let p = every_split xs ys q.1 in
      (and_of (test x) (every test xs) q.0 p.0, p.1)

  -- a weaker test passes too
  pub every_weaken : (weak : A → Bool) → ((x : A) → test x ≡ true → weak x ≡ true) → (xs : List A) →
      every test xs ≡ true → every weak xs ≡ true
  unfolding every
  every_weaken weak f [] h = refl
  every_weaken weak f (x ∷ xs) h =
      let q = both (test x) (every test xs) h in rw (f x q.0) (every_weaken weak f xs q.1)

-- where f takes what passes one test to what passes another, so does `map f`
pub every_map : {A B : Type 0} (test : A → Bool) (good : B → Bool) (f : A → B) →
    ((x : A) → test x ≡ true → good (f x) ≡ true) → (xs : List A) → every test xs ≡ true → every good (map f xs) ≡ true
unfolding every
every_map test good f step [] h = refl
every_map test good f step (x ∷ xs) h =
    let q = both (test x) (every test xs) h in rw (step x q.0) (every_map test good f step xs q.1)

pub member_append_left : (s : List ℕ) (a b : List (List ℕ)) → member s a ≡ true → member s (a ++ b) ≡ true
unfolding member
member_append_left s [] b h = absurd (false≢true h)
member_append_left s (x ∷ a) b h =
    by_cases (same s x) (λ e. rw e) (λ e. rw e (member_append_left s a b (rw e at h)))

pub member_append_right : (s : List ℕ) (a b : List (List ℕ)) → member s b ≡ true → member s (a ++ b) ≡ true
unfolding member
member_append_right s [] b h = h
member_append_right s (x ∷ a) b h = or_right (same s x) (member s (a ++ b)) (member_append_right s a b h)
