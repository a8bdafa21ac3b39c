-- What a walk's marks add to a table, for any test on its places.
use mathlib.Core.Path.{◌≡◌, refl, sym, ap, ◌∙◌}
use mathlib.Core.List.{List, [], ◌∷◌, map}
use mathlib.Core.Bool.{Bool, true, false, ◌&&◌, ◌||◌}
use Prim.Native.Nat.{ℕ, zero, suc, ◌+◌, ◌<◌, ◌≤◌}
use native.Mathlib.Omega.{arith}
use lib.ListN.{length, get_or, set, replicate, length-set, length-replicate}
use lib.Seq.{get_or-set_same, get_or-set_other}
use lib.Dec.{eqb, ltb}
use borrow.Author.Tests.{eqb-true, eqb-false, eq-eqb, ltb-true, ltb-false}
use Rattle.lexical.specs.Bytes.{same}
use Rattle.lexical.proofs.BoolLaws.{both}
use Rattle.format.specs.Types.{Ty, atom, named, template, pointer, str, fn, array, Ret, none, gives, Tys, nil, cons}
use Rattle.format.specs.Sheet.{Form, Argument, Function, Body, struct, enum, cxx_type, rust_type, function, Item}
use Rattle.syntax.specs.Items.{self_type}
use Rattle.rules.specs.Rules.{any, twice, any_named, any_named_ret, any_named_tys, is_method}
use Rattle.marks.specs.Gathering.{each}
use Rattle.marks.specs.Marking.{mark, mark_if, mark_index, mark_ty, mark_ret, mark_tys, mark_form, unfit_now, error_item, mark_error}
use Rattle.marks.specs.Marking.{judge_argument, mark_argument, mark_arguments, mark_function, mark_body, mark_item, mark_items}
use Rattle.marks.specs.Reading.{some_from, marked}
use Rattle.marks.proofs.SomeLaws.{same_truth, and_or, and-false, or_assoc, or-false, or_true, some_at, some_is, some_like, some_or, some_none}

-- some place passes the test and is marked
unfoldable pub any_marked : (ℕ → Bool) → List ℕ → Bool
any_marked test u = some_from (λ k. test k && marked u k) 0 514

marked_set : (u : List ℕ) (m j : ℕ) → j < length u → marked (set u m 1) j ≡ (marked u j || eqb j m)
marked_set u m j h = by_number (eqb j m) refl
  where
    by_number : (b : Bool) → eqb j m ≡ b → marked (set u m 1) j ≡ (marked u j || b)
    by_number true q =
        let z : j ≡ m = eqb-true j m q in
        let l : m < length u = omega arith in
        let g : get_or (set u m 1) j 0 ≡ 1 = ap (λ (y : ℕ). get_or (set u m 1) y 0) z ∙ get_or-set_same u m 1 0 l in
        ap (λ (y : ℕ). eqb y 1) g ∙ or_true (marked u j)
    by_number false q =
        let z : j ≡ m → ⊥ = eqb-false j m q in
        ap (λ (y : ℕ). eqb y 1) (get_or-set_other u m j 1 0 z) ∙ sym (or-false (marked u j))

blank_mark : (k i : ℕ) → ◌≡◌ {A = ℕ} (get_or (replicate k 0) i 0) 0
blank_mark zero i = refl
blank_mark (suc k) zero = refl
blank_mark (suc k) (suc i) = blank_mark k i

-- what a test says of each place
pub record Says (test : ℕ → Bool) (unfit repeated : Bool) (error names : ℕ → Bool) : Type 0 where
  pub inside : (k : ℕ) → test k ≡ true → k < 514
  pub at_unfit : test 0 ≡ unfit
  pub at_repeated : test 1 ≡ repeated
  pub at_error : (i : ℕ) → i < 256 → test (2 + i) ≡ error i
  pub few_errors : (i : ℕ) → error i ≡ true → i < 256
  pub at_named : (i : ℕ) → test (258 + i) ≡ names i

-- ---- what is looked for

module _ (unfit repeated : Bool) (error names : ℕ → Bool) where
  abbrev pub has_argument : Bool → Bool → Argument → Bool
  has_argument method throws a =
      any_named names a.type || ((unfit_now method throws a && unfit) || any error (error_item throws a))

  abbrev pub has_arguments : Bool → Bool → List Argument → Bool
  has_arguments method throws xs =
      any (has_argument method throws) xs || (twice same (map (λ a. a.name) xs) && repeated)

  abbrev pub has_function : Function → Bool
  has_function f =
      any names (self_type f.form) || any_named_ret names f.return ||
      has_arguments (is_method f.form) f.throws f.arguments

  abbrev pub has_body : Body → Bool
  has_body (struct p ts) = any (any_named names) ts
  has_body (enum p a c) = false
  has_body (cxx_type p) = false
  has_body (rust_type p) = false
  has_body (function f) = has_function f

module _ {test : ℕ → Bool} {unfit repeated : Bool} {error names : ℕ → Bool} (says : Says test unfit repeated error names) where
  -- ---- one place

  some_one : (m : ℕ) → some_from (λ j. test j && eqb j m) 0 514 ≡ test m
  some_one m = same_truth (some_from (λ j. test j && eqb j m) 0 514) (test m)
      (λ e.
      let r = some_is (λ j. test j && eqb j m) 0 514 e in
      let b = both (test r.0) (eqb r.0 m) r.3 in
      let z : r.0 ≡ m = eqb-true r.0 m b.1 in
      ap test (sym z) ∙ b.0)
      (λ e.
      let l = says.inside m e in
      some_at (λ j. test j && eqb j m) 0 514 m (omega arith) (omega arith) (rw (e, eq-eqb m m refl)))

  -- with the marks of f one more place passes the test, or not, as `has` says
  pub record Adds (f : List ℕ → List ℕ) (has : Bool) : Type 0 where
    pub adds : (u : List ℕ) → 514 ≤ length u → any_marked test (f u) ≡ (any_marked test u || has)
    pub size : (u : List ℕ) → length (f u) ≡ length u

  pub mark_adds : (m : ℕ) → Adds (λ u. mark m u) (test m)
  unfolding any_marked
  mark_adds m = record {
    adds = λ u l.
        some_like (λ j. test j && marked (set u m 1) j) (λ j. (test j && marked u j) || (test j && eqb j m)) 0 514
        (λ j h. ap (λ (b : Bool). test j && b) (marked_set u m j (omega arith)) ∙ and_or (test j) (marked u j) (eqb j m)) ∙
        (some_or (λ j. test j && marked u j) (λ j. test j && eqb j m) 0 514 ∙
        ap (λ (b : Bool). some_from (λ j. test j && marked u j) 0 514 || b) (some_one m));
    size = λ u. length-set u m 1;
  }

  pub keep_adds : Adds (λ u. u) false
  keep_adds = record {
    adds = λ u l. sym (or-false (any_marked test u));
    size = λ u. refl;
  }

  pub like_adds : {f : List ℕ → List ℕ} {has other : Bool} → has ≡ other → Adds f has → Adds f other
  like_adds {f} e h = rw (← e) h

  -- first f, then g
  pub then_adds : {f g : List ℕ → List ℕ} {has has_b : Bool} → Adds f has → Adds g has_b →
      Adds (λ u. g (f u)) (has || has_b)
  then_adds {f} {g} {has} {has_b} h i = record {
    adds = λ u l.
        let e = h.size u in
        i.adds (f u) (omega arith) ∙ (ap (λ (b : Bool). b || has_b) (h.adds u l) ∙
        or_assoc (any_marked test u) has has_b);
    size = λ u. i.size (f u) ∙ h.size u;
  }

  pub if_adds : (b : Bool) (m : ℕ) → Adds (λ u. mark_if b m u) (b && test m)
  if_adds true m = mark_adds m
  if_adds false m = keep_adds

  pub each_adds : {A : Type 0} {f : A → List ℕ → List ℕ} {has : A → Bool} → ((x : A) → Adds (λ u. f x u) (has x)) →
      (xs : List A) → Adds (λ u. each f xs u) (any has xs)
  unfolding each any
  each_adds one [] = keep_adds
  each_adds one (x ∷ xs) = then_adds (one x) (each_adds one xs)

  -- ---- item indexes

  pub index_adds : (i : ℕ) → Adds (λ u. mark_index i u) (names i)
  index_adds i = like_adds (says.at_named i) (mark_adds (258 + i))

  mutual
    unfolding mark_ty any_named

    pub ty_adds : (t : Ty) → Adds (λ u. mark_ty t u) (any_named names t)
    ty_adds (atom a) = keep_adds
    ty_adds (named i) = index_adds i
    ty_adds (template k t) = ty_adds t
    ty_adds (pointer k m t) = ty_adds t
    ty_adds str = keep_adds
    ty_adds (fn r ts) = then_adds (ret_adds r) (tys_adds ts)
    ty_adds (array t k) = ty_adds t

    pub ret_adds : (r : Ret) → Adds (λ u. mark_ret r u) (any_named_ret names r)
    ret_adds none = keep_adds
    ret_adds (gives t) = ty_adds t

    pub tys_adds : (ts : Tys) → Adds (λ u. mark_tys ts u) (any_named_tys names ts)
    tys_adds nil = keep_adds
    tys_adds (cons t ts) = then_adds (ty_adds t) (tys_adds ts)

  pub form_adds : (f : Form) → Adds (λ u. mark_form f u) (any names (self_type f))
  unfolding mark_form
  form_adds f = each_adds index_adds (self_type f)

  -- ---- arguments

  pub error_adds : (i : ℕ) → Adds (λ u. mark_error i u) (error i)
  error_adds i = like_adds (by_number (ltb i 256) refl) (if_adds (ltb i 256) (2 + i))
    where
      by_number : (b : Bool) → ltb i 256 ≡ b → (ltb i 256 && test (2 + i)) ≡ error i
      by_number true q = rw q (says.at_error i (ltb-true i 256 q))
      by_number false q =
          rw q (by_error (error i) refl (ltb-false i 256 q))
        where
          by_error : (e : Bool) → error i ≡ e → 256 ≤ i → false ≡ e
          by_error true h l = let k = says.few_errors i h in absurd (omega arith)
          by_error false h l = refl

  pub argument_adds : (method throws : Bool) (a : Argument) →
      Adds (λ u. mark_argument method throws a u) (has_argument unfit repeated error names method throws a)
  unfolding mark_argument judge_argument
  argument_adds method throws a =
      then_adds (ty_adds a.type) (then_adds
      (like_adds (ap (λ (b : Bool). unfit_now method throws a && b) says.at_unfit) (if_adds (unfit_now method throws a) 0))
      (each_adds error_adds (error_item throws a)))

  pub arguments_adds : (method throws : Bool) (xs : List Argument) →
      Adds (λ u. mark_arguments method throws xs u) (has_arguments unfit repeated error names method throws xs)
  unfolding mark_arguments
  arguments_adds method throws xs =
      then_adds (each_adds (argument_adds method throws) xs)
      (like_adds (ap (λ (b : Bool). twice same (map (λ a. a.name) xs) && b) says.at_repeated)
      (if_adds (twice same (map (λ a. a.name) xs)) 1))

  -- ---- items

  pub function_adds : (f : Function) → Adds (λ u. mark_function f u) (has_function unfit repeated error names f)
  unfolding mark_function
  function_adds f =
      then_adds (then_adds (form_adds f.form) (ret_adds f.return))
      (arguments_adds (is_method f.form) f.throws f.arguments)

  pub body_adds : (b : Body) → Adds (λ u. mark_body b u) (has_body unfit repeated error names b)
  unfolding mark_body
  body_adds (struct p ts) = each_adds ty_adds ts
  body_adds (enum p a c) = keep_adds
  body_adds (cxx_type p) = keep_adds
  body_adds (rust_type p) = keep_adds
  body_adds (function f) = function_adds f

  pub item_adds : (x : Item) → Adds (λ u. mark_item x u) (has_body unfit repeated error names x.body)
  unfolding mark_item
  item_adds x = body_adds x.body

  -- ---- from a blank table

  blank_none : any_marked test (replicate 514 0) ≡ false
  unfolding any_marked
  blank_none = some_none (λ i. test i && marked (replicate 514 0) i) 0 514
      (λ i. and-false (test i) (marked (replicate 514 0) i) (ap (λ (y : ℕ). eqb y 1) (blank_mark 514 i)))

  pub items_marks : (xs : List Item) →
      any_marked test (mark_items xs (replicate 514 0)) ≡ any (λ x. has_body unfit repeated error names x.body) xs
  items_marks xs =
      let z : length {A = ℕ} (replicate 514 0) ≡ 514 = length-replicate {A = ℕ} 514 0 in
      (each_adds item_adds xs).adds (replicate 514 0) (omega arith) ∙
      ap (λ (b : Bool). b || any (λ x. has_body unfit repeated error names x.body) xs) blank_none
