-- Rules 9, 10 (equal argument names) and 11 are what the table of marks says.
use mathlib.Core.Path.{◌≡◌, refl, sym, ap, ap₂, ◌∙◌}
use mathlib.Core.List.{List, [], map}
use mathlib.Core.Bool.{Bool, true, false, not, ◌&&◌, ◌||◌, false≢true}
use Prim.Native.Nat.{ℕ, ◌+◌, ◌-◌, ◌<◌, ◌≤◌}
use native.Mathlib.Omega.{arith}
use lib.ListN.{length, replicate, get_or-eq_default}
use lib.Dec.{eqb, leb, ltb}
use borrow.Author.Tests.{eqb-true, eq-eqb, ne_eqb, leb-true, le-leb, lt-leb, ltb-true, ltb-false}
use Rattle.lexical.specs.Bytes.{bytes, same}
use Rattle.lexical.proofs.BoolLaws.{both, and_of, or_cases}
use Rattle.format.specs.Decode.{pick}
use Rattle.format.specs.declared.Atom.{Atom}
use Rattle.format.specs.Types.{Ty, atom, named, template, pointer, str, fn, array, Ret, none, gives, Tys, nil, cons}
use Rattle.format.specs.Sheet.{Argument, Function, Body, struct, enum, cxx_type, rust_type, function, Item}
use Rattle.syntax.specs.Items.{item_at, self_type, is_function}
use Rattle.syntax.specs.Types.{pointer_bit, atom_number, is_indirect_template, needs_indirect_abi, is_rust_string}
use Rattle.rules.specs.Rules.{any, twice, function_of, functions, any_named, any_named_ret, any_named_tys, any_index, wrong_part}
use Rattle.rules.specs.Rules.{argument_names, is_cxx_vector, is_method, unfit, unfit_argument}
use Rattle.rules.proofs.SearchLaws.{any_like, any_none, any_gather}
use Rattle.marks.specs.Marking.{is_indirect_now, named_item, is_error, unfit_now, error_item, mark_items}
use Rattle.marks.specs.Reading.{some_from, marked}
use Rattle.marks.proofs.SomeLaws.{same_truth, and-true, and-false, or_assoc, or-false, some_at, some_is, some_like, some_or}
use Rattle.marks.proofs.MarkLaws.{any_marked, Says, has_argument, has_arguments, has_body, items_marks}

-- ---- a test that no number passes

never : ℕ → Bool
never i = false

mutual
  unfolding any_named never

  ty_never : (t : Ty) → any_named never t ≡ false
  ty_never (atom a) = refl
  ty_never (named i) = refl
  ty_never (template k t) = ty_never t
  ty_never (pointer k m t) = ty_never t
  ty_never str = refl
  ty_never (fn r ts) = rw (ret_never r, tys_never ts)
  ty_never (array t k) = ty_never t

  ret_never : (r : Ret) → any_named_ret never r ≡ false
  ret_never none = refl
  ret_never (gives t) = ty_never t

  tys_never : (ts : Tys) → any_named_tys never ts ≡ false
  tys_never nil = refl
  tys_never (cons t ts) = rw (ty_never t, tys_never ts)

-- a function's self type and return type
signature_never : (f : Function) → (any never (self_type f.form) || any_named_ret never f.return) ≡ false
unfolding never
signature_never f = rw (any_none never (self_type f.form) (λ i. refl), ret_never f.return)

-- ---- no item stands past the end

module _ (items : List Item) (test : Body → Bool) (blank : test (cxx_type false) ≡ false) where
  pub item_inside : (i : ℕ) → test (item_at items i).body ≡ true → i < length items
  unfolding item_at
  item_inside i e = by_place (ltb i (length items)) refl
    where
      by_place : (b : Bool) → ltb i (length items) ≡ b → i < length items
      by_place true q = ltb-true i (length items) q
      by_place false q =
          let l : length items ≤ i = ltb-false i (length items) q in
          absurd (false≢true (sym (ap (λ (x : Item). test x.body) (get_or-eq_default items _ l) ∙ blank) ∙ e))

  pub item_past : (i : ℕ) → length items ≤ i → test (item_at items i).body ≡ false
  unfolding item_at
  item_past i l = ap (λ (x : Item). test x.body) (get_or-eq_default items _ l) ∙ blank

-- ---- what is asked of the places

-- the places from `base` on, each for an item
module _ (test : ℕ → Bool) (base : ℕ) where
  abbrev behind : ℕ → Bool
  behind k = leb base k && test (k - base)

  behind_is : (i : ℕ) → behind (base + i) ≡ test i
  behind_is i =
      let z : base + i - base ≡ i = omega arith in
      let l : leb base (base + i) ≡ true = le-leb base (base + i) (omega arith) in
      rw (z, l)

  behind_before : (k : ℕ) → k < base → behind k ≡ false
  behind_before k h = let l : leb base k ≡ false = lt-leb base k h in rw l

  behind_parts : (k : ℕ) → behind k ≡ true → (base ≤ k) × (test (k - base) ≡ true)
  behind_parts k e = let b = both (leb base k) (test (k - base)) e in (leb-true base k b.0, b.1)

  module _ (n : ℕ) (inside : (i : ℕ) → test i ≡ true → i < n) (room : base + n ≤ 514) where
    behind_inside : (k : ℕ) → behind k ≡ true → k < 514
    behind_inside k e =
        let b = behind_parts k e in
        let l = b.0 in
        let h = inside (k - base) b.1 in
        omega arith

    -- a marked place is that of one of the n items
    behind_marked : (u : List ℕ) → any_marked behind u ≡ some_from (λ i. test i && marked u (base + i)) 0 n
    unfolding any_marked
    behind_marked u =
        same_truth (some_from (λ k. behind k && marked u k) 0 514) (some_from (λ i. test i && marked u (base + i)) 0 n)
        (λ e.
        let r = some_is (λ k. behind k && marked u k) 0 514 e in
        let k = r.0 in
        let b = both (behind k) (marked u k) r.3 in
        let p = behind_parts k b.0 in
        let l = p.0 in
        let h = inside (k - base) p.1 in
        let z : base + (k - base) ≡ k = omega arith in
        some_at (λ i. test i && marked u (base + i)) 0 n (k - base) (omega arith) (omega arith)
        (and_of (test (k - base)) (marked u (base + (k - base))) p.1 (ap (marked u) z ∙ b.1)))
        (λ e.
        let r = some_is (λ i. test i && marked u (base + i)) 0 n e in
        let i = r.0 in
        let l = r.2 in
        let b = both (test i) (marked u (base + i)) r.3 in
        some_at (λ k. behind k && marked u k) 0 514 (base + i) (omega arith) (omega arith)
        (and_of (behind (base + i)) (marked u (base + i)) (behind_is i ∙ b.0) b.1))

-- one place alone
module _ (p : ℕ) (room : p < 514) where
  alone_marked : (u : List ℕ) → any_marked (λ k. eqb k p) u ≡ marked u p
  unfolding any_marked
  alone_marked u =
      same_truth (some_from (λ k. eqb k p && marked u k) 0 514) (marked u p)
      (λ e.
      let r = some_is (λ k. eqb k p && marked u k) 0 514 e in
      let b = both (eqb r.0 p) (marked u r.0) r.3 in
      ap (marked u) (sym (eqb-true r.0 p b.0)) ∙ b.1)
      (λ e.
      some_at (λ k. eqb k p && marked u k) 0 514 p (omega arith) (omega arith)
      (and_of (eqb p p) (marked u p) (eq-eqb p p refl) e))

  alone_inside : (k : ℕ) → eqb k p ≡ true → k < 514
  alone_inside k e = let z = eqb-true k p e in omega arith

either_marked : (a b : ℕ → Bool) (u : List ℕ) → any_marked (λ k. a k || b k) u ≡ (any_marked a u || any_marked b u)
unfolding any_marked
either_marked a b u =
    some_like (λ k. (a k || b k) && marked u k) (λ k. (a k && marked u k) || (b k && marked u k)) 0 514
    (λ k h. or_and (a k) (b k) (marked u k)) ∙
    some_or (λ k. a k && marked u k) (λ k. b k && marked u k) 0 514
  where
    or_and : (x y z : Bool) → ((x || y) && z) ≡ ((x && z) || (y && z))
    or_and true true true = refl
    or_and true true false = refl
    or_and true false z = sym (or-false z)
    or_and false y z = refl

-- ---- 9: an item index names a function

module _ (items : List Item) (few : length items ≤ 255) where
  abbrev function_at : ℕ → Bool
  function_at i = is_function (item_at items i).body

  function_inside : (i : ℕ) → function_at i ≡ true → i < length items
  function_inside = item_inside items is_function refl

  wrong_says : Says (behind function_at 258) false false never function_at
  unfolding never
  wrong_says = record {
    inside = behind_inside function_at 258 (length items) function_inside (omega arith);
    at_unfit = refl;
    at_repeated = refl;
    at_error = λ i h. behind_before function_at 258 (2 + i) (omega arith);
    few_errors = λ i e. absurd (false≢true e);
    at_named = behind_is function_at 258;
  }

  wrong_arguments : (method throws : Bool) (xs : List Argument) →
      has_arguments false false never function_at method throws xs ≡ any (λ x. any_named function_at x.type) xs
  unfolding never
  wrong_arguments method throws xs =
      rw (and-false (twice same (map (λ a. a.name) xs)) false refl)
      (or-false (any (has_argument false false never function_at method throws) xs) ∙
      any_like (has_argument false false never function_at method throws) (λ (x : Argument). any_named function_at x.type) xs
      (λ a. rw (and-false (unfit_now method throws a) false refl, any_none never (error_item throws a) (λ i. refl))
      (or-false (any_named function_at a.type))))

  wrong_body : (b : Body) → has_body false false never function_at b ≡ any_index function_at b
  wrong_body (struct p ts) = refl
  wrong_body (enum p a c) = refl
  wrong_body (cxx_type p) = refl
  wrong_body (rust_type p) = refl
  wrong_body (function f) =
      ap (λ (b : Bool). any function_at (self_type f.form) || any_named_ret function_at f.return || b)
      (wrong_arguments (is_method f.form) f.throws f.arguments)

  pub wrong_marks : wrong_part items ≡
      some_from (λ i. is_function (item_at items i).body && marked (mark_items items (replicate 514 0)) (258 + i)) 0 (length items)
  unfolding wrong_part
  wrong_marks =
      sym (any_like (λ (x : Item). has_body false false never function_at x.body)
      (λ (x : Item). any_index function_at x.body) items (λ x. wrong_body x.body)) ∙
      (sym (items_marks wrong_says items) ∙
      behind_marked function_at 258 (length items) function_inside (omega arith) (mark_items items (replicate 514 0)))

-- ---- 10: two arguments of a function have the same name

abbrev at_one : ℕ → Bool
at_one k = eqb k 1

repeated_says : Says at_one false true never never
unfolding never
repeated_says = record {
  inside = alone_inside 1 (omega arith);
  at_unfit = refl;
  at_repeated = refl;
  at_error = λ i h. ne_eqb (2 + i) 1 (λ e. omega arith);
  few_errors = λ i e. absurd (false≢true e);
  at_named = λ i. ne_eqb (258 + i) 1 (λ e. omega arith);
}

repeated_body : (b : Body) →
    has_body false true never never b ≡ any (λ f. twice same (argument_names f)) (function_of b)
unfolding any never
repeated_body (struct p ts) = any_none (any_named never) ts ty_never
repeated_body (enum p a c) = refl
repeated_body (cxx_type p) = refl
repeated_body (rust_type p) = refl
repeated_body (function f) = rw (signature_never f) (by_arguments (is_method f.form) f.throws)
  where
    by_arguments : (method throws : Bool) →
        has_arguments false true never never method throws f.arguments ≡ (twice same (argument_names f) || false)
    by_arguments method throws =
        rw (
          any_none (has_argument false true never never method throws) f.arguments
              (λ a. rw (ty_never a.type, and-false (unfit_now method throws a) false refl, any_none never (error_item throws a) (λ i. refl))),
          and-true (twice same (argument_names f)),
          or-false (twice same (argument_names f)),
        )

pub repeated_marks : (items : List Item) →
    any (λ f. twice same (argument_names f)) (functions items) ≡ marked (mark_items items (replicate 514 0)) 1
repeated_marks items =
    any_gather (λ f. twice same (argument_names f)) (λ (x : Item). function_of x.body) items ∙
    (sym (any_like (λ (x : Item). has_body false true never never x.body)
    (λ (x : Item). any (λ f. twice same (argument_names f)) (function_of x.body)) items (λ x. repeated_body x.body)) ∙
    (sym (items_marks repeated_says items) ∙
    alone_marked 1 (omega arith) (mark_items items (replicate 514 0))))

-- ---- 11: unfit argument

atom_now : (a : Atom) → (leb 14 (atom_number a) && not (eqb (atom_number a) 15)) ≡ eqb (atom_number a) 14
atom_now Atom.Bool = refl
atom_now Atom.Char = refl
atom_now Atom.U8 = refl
atom_now Atom.U16 = refl
atom_now Atom.U32 = refl
atom_now Atom.U64 = refl
atom_now Atom.Usize = refl
atom_now Atom.I8 = refl
atom_now Atom.I16 = refl
atom_now Atom.I32 = refl
atom_now Atom.I64 = refl
atom_now Atom.Isize = refl
atom_now Atom.F32 = refl
atom_now Atom.F64 = refl
atom_now Atom.CxxString = refl
atom_now Atom.RustString = refl

module _ (items : List Item) where
  abbrev pointer_at : ℕ → Bool
  pointer_at i = pointer_bit (item_at items i).body

  -- a type is indirect by itself, or by the item that it names
  indirect_now : (t : Ty) →
      (needs_indirect_abi items t && not (is_rust_string t)) ≡ (is_indirect_now t || any pointer_at (named_item t))
  unfolding needs_indirect_abi any
  indirect_now (atom a) = atom_now a ∙ sym (or-false (eqb (atom_number a) 14))
  indirect_now (named i) = and-true (pointer_at i) ∙ sym (or-false (pointer_at i))
  indirect_now (template k t) = and-true (is_indirect_template k) ∙ sym (or-false (is_indirect_template k))
  indirect_now (pointer k m t) = refl
  indirect_now str = refl
  indirect_now (fn r ts) = refl
  indirect_now (array t n) = refl

  parts : (v m t s r n i : Bool) → (n && not r) ≡ i →
      (v || m || t && s && n && not r) ≡ (v || m || t && s && i)
  parts true m t s r n i e = refl
  parts false true t s r n i e = refl
  parts false false false s r n i e = refl
  parts false false true false r n i e = refl
  parts false false true true r n i e = e

  error_items : (e : Bool) (v m i : Bool) (xs : List ℕ) →
      (v || m || e && (i || any pointer_at xs)) ≡ (((v || m || e && i) && true) || any pointer_at (pick e xs []))
  unfolding any
  error_items true v m i xs =
      sym (or_assoc (v || m) i (any pointer_at xs)) ∙
      ap (λ (b : Bool). b || any pointer_at xs) (sym (and-true (v || m || i)))
  error_items false v m i xs = sym (or-false ((v || m || false) && true) ∙ and-true (v || m || false))

  unfit_parts : (f : Function) (a : Argument) →
      unfit items f a ≡
      ((unfit_now (is_method f.form) f.throws a && true) || any pointer_at (error_item f.throws a))
  unfolding unfit unfit_now error_item
  unfit_parts f a =
      parts (is_cxx_vector a.type) (is_method f.form && same a.name (bytes "self")) f.throws
      (same a.name (bytes "error")) (is_rust_string a.type) (needs_indirect_abi items a.type) _
      (indirect_now a.type) ∙
      error_items (is_error f.throws a) (is_cxx_vector a.type) (is_method f.form && same a.name (bytes "self"))
      (is_indirect_now a.type) (named_item a.type)

  module _ (few : length items ≤ 255) where
    pointer_inside : (i : ℕ) → pointer_at i ≡ true → i < length items
    pointer_inside = item_inside items pointer_bit refl

    abbrev unfit_place : ℕ → Bool
    unfit_place k = eqb k 0 || behind pointer_at 2 k

    unfit_says : Says unfit_place true false pointer_at never
    unfolding never
    unfit_says = record {
      inside = λ k e. or_cases (eqb k 0) (behind pointer_at 2 k) e (alone_inside 0 (omega arith) k)
          (behind_inside pointer_at 2 (length items) pointer_inside (omega arith) k);
      at_unfit = refl;
      at_repeated = refl;
      at_error = λ i h. rw (ne_eqb (2 + i) 0 (λ e. omega arith)) (behind_is pointer_at 2 i);
      few_errors = λ i e. let h = pointer_inside i e in omega arith;
      at_named = λ i.
          let z : 258 + i - 2 ≡ 256 + i = omega arith in
          rw (ne_eqb (258 + i) 0 (λ e. omega arith), z, item_past items pointer_bit refl (256 + i) (omega arith))
          (and-false (leb 2 (258 + i)) false refl);
    }

    unfit_body : (b : Body) →
        has_body true false pointer_at never b ≡ any (λ f. any (unfit items f) f.arguments) (function_of b)
    unfolding any
    unfit_body (struct p ts) = any_none (any_named never) ts ty_never
    unfit_body (enum p a c) = refl
    unfit_body (cxx_type p) = refl
    unfit_body (rust_type p) = refl
    unfit_body (function f) =
        rw (signature_never f, and-false (twice same (argument_names f)) false refl)
        (ap (λ (b : Bool). b || false)
        (sym (any_like (unfit items f) (has_argument true false pointer_at never (is_method f.form) f.throws)
        f.arguments (λ a. rw (ty_never a.type) (unfit_parts f a)))))

    pub unfit_marks : unfit_argument items ≡
        (marked (mark_items items (replicate 514 0)) 0 ||
        some_from (λ i. pointer_bit (item_at items i).body && marked (mark_items items (replicate 514 0)) (2 + i)) 0 (length items))
    unfolding unfit_argument
    unfit_marks =
        any_gather (λ f. any (unfit items f) f.arguments) (λ (x : Item). function_of x.body) items ∙
        (sym (any_like (λ (x : Item). has_body true false pointer_at never x.body)
        (λ (x : Item). any (λ f. any (unfit items f) f.arguments) (function_of x.body)) items
        (λ x. unfit_body x.body)) ∙
        (sym (items_marks unfit_says items) ∙
        (either_marked (λ k. eqb k 0) (behind pointer_at 2) (mark_items items (replicate 514 0)) ∙
        ap₂ ◌||◌ (alone_marked 0 (omega arith) (mark_items items (replicate 514 0)))
        (behind_marked pointer_at 2 (length items) pointer_inside (omega arith) (mark_items items (replicate 514 0))))))
