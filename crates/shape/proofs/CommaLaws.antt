-- Lists with commas, written element by element, and lists gathered.
use mathlib.Core.Path.{◌≡◌, refl, sym, ap}
use mathlib.Core.List.{List, [], ◌∷◌, ◌++◌, map, append-nil, append_assoc}
use mathlib.Core.Bool.{Bool, true, false, ◌||◌}
use Prim.Native.Nat.{ℕ, zero, suc, ◌+◌, ◌<◌, ◌≤◌}
use native.Mathlib.Omega.{arith}
use native.Mathlib.Numerals.{add-one}
use lib.Dec.{ltb}
use lib.ListN.{length, get_or, take}
use lib.Seq.{take-suc, take_all}
use borrow.Author.Tests.{lt-ltb}
use Rattle.lexical.specs.Bytes.{bytes}
use Rattle.lexical.specs.Decimal.{pick_text}
use Rattle.format.specs.Decode.{pick}
use Rattle.rules.specs.Rules.{gather}
use Rattle.bridge.specs.Write.{commas}
use Rattle.sink.specs.Sink.{Sink, Wrote}
use Rattle.sink.proofs.SinkLaws.{◌▷◌, wrote_nil, wrote_as}

-- whether a list has an element
abbrev pub is_some : {A : Type 0} → List A → Bool
is_some [] = false
is_some (x ∷ xs) = true

module _ {A : Type 0} where
  pub some_map : {B : Type 0} (g : A → B) (xs : List A) → is_some (map g xs) ≡ is_some xs
  some_map g [] = refl
  some_map g (x ∷ xs) = refl

  pub some_append : (xs ys : List A) → is_some (xs ++ ys) ≡ (is_some xs || is_some ys)
  some_append [] ys = refl
  some_append (x ∷ xs) ys = refl

  pub some_count : (xs : List A) {n : ℕ} → length xs ≡ n → is_some xs ≡ ltb 0 n
  some_count [] e = rw (← e)
  some_count (x ∷ xs) e = rw (← e) (sym (lt-ltb 0 (length (x ∷ xs)) (omega arith)))

  pub some_pick : (b : Bool) (x : A) → is_some (pick b (x ∷ []) []) ≡ b
  some_pick true x = refl
  some_pick false x = refl

or_true : (b : Bool) → (b || true) ≡ true
or_true true = refl
or_true false = refl

or-false : (b : Bool) → (b || false) ≡ b
or-false true = refl
or-false false = refl

or_assoc : (a b c : Bool) → ((a || b) || c) ≡ (a || (b || c))
or_assoc true b c = refl
or_assoc false b c = refl

-- ---- commas

pub commas_append : (b : Bool) (xs ys : List (List ℕ)) →
    commas b (xs ++ ys) ≡ commas b xs ++ commas (b || is_some xs) ys
unfolding commas
commas_append b [] ys = rw or-false
commas_append b (x ∷ xs) ys =
    rw (or_true, commas_append true xs ys)
    (sym (append_assoc (pick_text b (bytes ", ") [] ++ x) (commas true xs) (commas true ys)))

-- three lists of parameters, as a declaration and a call have them
pub commas_three : (xs ys zs : List (List ℕ)) →
    commas false (xs ++ ys ++ zs) ≡
    commas false xs ++ commas (is_some xs) ys ++ commas (is_some xs || is_some ys) zs
commas_three xs ys zs = rw (commas_append false (xs ++ ys) zs, commas_append false xs ys, some_append)

-- none or one
pub commas_none : (b : Bool) → commas b [] ≡ []
unfolding commas
commas_none b = refl

pub commas_one : (b : Bool) (x : List ℕ) → commas b (x ∷ []) ≡ pick_text b (bytes ", ") [] ++ x
unfolding commas
commas_one b x = append-nil _

-- where a list has an element, a comma before it stands before all of it
pub commas_behind : (b : Bool) (xs : List (List ℕ)) → (length (commas false xs) ≡ 0 → ⊥) →
    pick_text b (bytes ", ") [] ++ commas false xs ≡ commas b xs
unfolding commas
commas_behind b [] h = absurd (h refl)
commas_behind b (x ∷ xs) h = sym (append_assoc (pick_text b (bytes ", ") []) x (commas true xs))

-- ---- loops: the texts of the first j elements are written

map_snoc : {A B : Type 0} (g : A → B) (xs : List A) (x : A) → map g (xs ++ (x ∷ [])) ≡ map g xs ++ (g x ∷ [])
map_snoc g [] x = refl
map_snoc g (y ∷ xs) x = ap (λ (l : List _). g y ∷ l) (map_snoc g xs x)

some_take : {A : Type 0} (xs : List A) (j : ℕ) → j ≤ length xs → is_some (take j xs) ≡ ltb 0 j
some_take xs zero h = refl
some_take [] (suc j) h = absurd (omega arith)
some_take (x ∷ xs) (suc j) h = sym (lt-ltb 0 (suc j) (omega arith))

module _ {A : Type 0} (g : A → List ℕ) (b : Bool) (xs : List A) where
  -- those of the first j, and whether a comma stands before the next
  pub record Listed (j : ℕ) (comma : Bool) (before now : Sink) : Type 0 where
    pub wrote : Wrote before (commas b (map g (take j xs))) now
    pub next : comma ≡ (b || ltb 0 j)

  pub listed_none : (r : Sink) → Listed 0 b r r
  unfolding commas
  listed_none r = record { wrote = wrote_nil r; next = sym (or-false b) }

  pub listed_turn : {j : ℕ} {comma : Bool} (z : A) {r t u v : Sink} → j < length xs → Listed j comma r t →
      Wrote t (pick_text comma (bytes ", ") []) u → Wrote u (g (get_or xs j z)) v → Listed (j + 1) true r v
  listed_turn {j} {comma} z h p q w = record {
    wrote = (let few : j ≤ length xs = omega arith in
        wrote_as (p.wrote ▷ (q ▷ w))
        (rw (
          add-one,
          take-suc xs j z h,
          map_snoc g (take j xs) (get_or xs j z),
          commas_append b (map g (take j xs)) (g (get_or xs j z) ∷ []),
          commas_one,
          some_map,
          some_take xs j few,
          p.next,
        )));
    next = rw (lt-ltb 0 (j + 1) (omega arith)) (sym (or_true b));
  }

  pub listed_all : {j : ℕ} {comma : Bool} {r t : Sink} → length xs ≤ j → Listed j comma r t →
      Wrote r (commas b (map g xs)) t
  listed_all {j} h p = wrote_as p.wrote (rw (take_all j xs h))

gather_append : {A : Type 0} (g : A → List ℕ) (xs ys : List A) → gather g (xs ++ ys) ≡ gather g xs ++ gather g ys
unfolding gather
gather_append g [] ys = refl
gather_append g (x ∷ xs) ys = rw (gather_append g xs ys) (sym (append_assoc (g x) (gather g xs) (gather g ys)))

module _ {A : Type 0} (g : A → List ℕ) (xs : List A) where
  pub record Gathered (j : ℕ) (before now : Sink) : Type 0 where
    pub wrote : Wrote before (gather g (take j xs)) now

  pub gathered_none : (r : Sink) → Gathered 0 r r
  unfolding gather
  gathered_none r = record { wrote = wrote_nil r }

  pub gathered_turn : {j : ℕ} (z : A) {r t u : Sink} → j < length xs → Gathered j r t → Wrote t (g (get_or xs j z)) u →
      Gathered (j + 1) r u
  unfolding gather
  gathered_turn {j} z h p w = record {
    wrote = wrote_as (p.wrote ▷ w) (rw (add-one, take-suc xs j z h, gather_append g (take j xs) (get_or xs j z ∷ []))
        (rw append-nil));
  }

  pub gathered_all : {j : ℕ} {r t : Sink} → length xs ≤ j → Gathered j r t → Wrote r (gather g xs) t
  gathered_all {j} h p = wrote_as p.wrote (rw (take_all j xs h))

-- a list of none or one
pub gather_none : {A : Type 0} (g : A → List ℕ) → gather g [] ≡ []
unfolding gather
gather_none g = refl

pub gather_one : {A : Type 0} (g : A → List ℕ) (x : A) → gather g (x ∷ []) ≡ g x
unfolding gather
gather_one g x = append-nil (g x)
