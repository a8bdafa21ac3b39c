-- Laws of the arguments of a function by number.
use mathlib.Core.Path.{◌≡◌, refl, sym, ap, subst, ◌∙◌}
use mathlib.Core.List.{List, [], ◌∷◌}
use mathlib.Core.Bool.{Bool, true, false}
use Prim.Native.Nat.{ℕ, suc, ◌+◌, ◌*◌, ◌-◌, ◌/◌, ◌%◌, ◌<◌, ◌≤◌}
use native.Mathlib.Omega.{arith}
use native.Mathlib.Numerals.{add-one}
use lib.Dec.{eqb}
use mir.Val.{bool_byte}
use lib.ListN.{length, get_or, drop, set}
use lib.Seq.{drop-cons, get_or-set_same, get_or-set_other}
use borrow.Author.Tests.{eqb-true, eqb-false}
use Rattle.lexical.proofs.BoolLaws.{by_cases}
use Rattle.format.specs.Limits.{most_names}
use Rattle.format.specs.Decode.{got, Dec, many}
use Rattle.format.specs.Bits.{bits, width_of}
use Rattle.format.specs.Types.{str}
use Rattle.format.specs.Sheet.{Argument}
use Rattle.format.specs.Decoding.{name_of, type, argument}
use Rattle.syntax.specs.Types.{needs_indirect_abi, is_rust_string}
use Rattle.cursor.specs.declared.Cursor.{Cursor}
use Rattle.cursor.proofs.CheckLaws.{many_length}
use Rattle.cursor.specs.declared.Found.{Found}
use Rattle.cursor.proofs.YieldLaws.{yields, yielded, in_turn, got_value, got_next}
use Rattle.names.proofs.NameLaws.{Read, name_read}
use Rattle.view.specs.declared.FunctionView.{FunctionView}
use Rattle.view.specs.declared.ArgumentView.{ArgumentView}
use Rattle.view.specs.Values.{next_of, Yields, names_at, items_at, function_at, argument_at, type_here}
use Rattle.view.specs.Views.{Finds, FunctionAt, ArgumentsAt, ArgumentOf, FactsOf, EntryOf, unpacked}
use Rattle.view.specs.Views.{owner_of, kind_of_type}

-- ---- an entry of a table

last_bit : (x k : ℕ) → k < 2 → (x * 2 + k) % 2 ≡ k
last_bit x k h = omega arith

-- a test as a bit
pub bit_of : (b : Bool) {n : ℕ} → n ≡ bool_byte b → (n < 2) × (eqb n 1 ≡ b)
bit_of true e = rw e (omega arith, refl)
bit_of false e = rw e (omega arith, refl)

pub packed : (name : ℕ) (of : Cursor) (owner : ℕ) {indirect string : Bool} (low high : ℕ) → name ≤ most_names →
    owner < 4 → (low < 2) × (eqb low 1 ≡ indirect) → (high < 2) × (eqb high 1 ≡ string) →
    unpacked (of.at * 16384 + name * 16 + owner * 4 + high * 2 + low) ≡
    record { name = name; of = of; owner = owner; indirect = indirect; string = string }
packed name of owner low high h o a b =
    let e = of.at * 16384 + name * 16 + owner * 4 + high * 2 + low in
    let x = of.at * 4096 + name * 4 + owner in
    let n : e / 16 % 1024 ≡ name = omega arith in
    let p : e / 16384 ≡ of.at = omega arith in
    let k : e / 4 % 4 ≡ owner = omega arith in
    let i : e % 2 ≡ low = omega arith in
    let two : e / 2 ≡ x * 2 + high = omega arith in
    let j : e / 2 % 2 ≡ high = rw two (last_bit x high b.0) in
    rw (n, p, k, i, j, a.1, b.1)

pub entry_of : {s names items : List ℕ} {name : ℕ} {of : Cursor} {o : ℕ} {b₁ b₂ : Bool} (e : ℕ) →
    unpacked e ≡ record { name = name; of = of; owner = o; indirect = b₁; string = b₂ } →
    o ≡ owner_of (kind_of_type (type_here (length items) s of.at)) →
    b₁ ≡ needs_indirect_abi (items_at s names items) (type_here (length items) s of.at) →
    b₂ ≡ is_rust_string (type_here (length items) s of.at) → EntryOf s names items name of.at e
entry_of {s} {names} {items} e u h₀ h₁ h₂ = record {
  named = ap (λ (v : ArgumentView). v.name) u;
  of = ap (λ (v : ArgumentView). v.of.at) u;
  facts = subst (λ (v : ArgumentView). FactsOf s names items v) (sym u) (record { owner = h₀; indirect = h₁; string = h₂ });
}

-- ---- values in a row, where all of them are known to be there

module _ {A : Type 0} (d : Dec A) (s : List ℕ) (n : ℕ) (xs : List A) (e : ℕ) where
  next_value : (i : ℕ) (z : A) → i < length xs → drop i xs ≡ get_or xs i z ∷ drop (i + 1) xs
  next_value i z k = rw (add-one i) (drop-cons xs i z k)

  -- value i at the position, and the rest behind it
  ahead : (i at : ℕ) (z : A) → length xs ≡ n → many (n - i) d s at ≡ got (drop i xs) e → i < n →
      (d s at ≡ got (get_or xs i z) (next_of (d s at))) × (many (n - (i + 1)) d s (next_of (d s at)) ≡ got (drop (i + 1) xs) e)
  unfolding many
  ahead i at z q p l =
      let y : n - i ≡ suc (n - (i + 1)) = omega arith in
      let k : i < length xs = omega arith in
      let h : many (suc (n - (i + 1))) d s at ≡ got (get_or xs i z ∷ drop (i + 1) xs) e =
      ap (λ (j : ℕ). many j d s at) (sym y) ∙ p ∙ ap (λ (l : List A). got l e) (next_value i z k) in
      in_turn (d s at) _ h (λ x m e₁ h₁.
      in_turn (many (n - (i + 1)) d s m) _ h₁ (λ ys a e₂ h₂.
      let u : x ∷ ys ≡ get_or xs i z ∷ drop (i + 1) xs = got_value h₂ in
      let v : x ≡ get_or xs i z = cc in
      let w : ys ≡ drop (i + 1) xs = cc in
      (rw (e₁, v), rw (e₁, e₂, w, got_next h₂))))

-- ---- an argument

module _ (s names : List ℕ) (n at : ℕ) {x : Argument} {m w : ℕ} {r : Found}
    (h : argument (names_at s names) n s at ≡ got x m) (z : w ≡ width_of (length names)) (f : Finds (bits w s at) w r) where
  parts : (a : ℕ) × (name_of (names_at s names) s at ≡ got x.name a) × (type n s a ≡ got x.type m)
  unfolding argument
  parts =
      in_turn (name_of (names_at s names) s at) _ h (λ y a e₁ h₁.
      in_turn (type n s a) _ h₁ (λ t b e₂ h₂.
      let q : record { name = y; type = t } ≡ x = got_value h₂ in
      rw (← q, ← got_next h₂) (a, e₁, e₂)))

  name : Read s names x.name parts.0 r
  name = name_read s names at parts.1 (rw z at f)

  typed : type n s r.next.at ≡ got x.type m
  typed = ap (λ (a : ℕ). type n s a) (sym name.next) ∙ parts.2

  argument_of_lem : {a : ArgumentView} → a.name ≡ r.value →
      Yields (type n s a.of.at) (type_here n s r.next.at) → ArgumentOf s names n x a
  unfolding type_here
  argument_of_lem e y = record {
    named = rw e name.there;
    name = rw e name.name;
    of = rw (← yielded str (yields typed)) y;
  }

  type_there : Yields (type n s r.next.at) (type_here n s r.next.at)
  unfolding type_here
  type_there = let y = yields typed in rw (yielded str y) y

  argument_next : {k : ℕ} → k ≡ next_of (type n s r.next.at) → k ≡ next_of (argument (names_at s names) n s at)
  argument_next e = e ∙ ap next_of typed ∙ sym (ap next_of h)

-- ---- the arguments of a function's view

module _ (s names items : List ℕ) (v : FunctionView) where
  abbrev d : Dec Argument
  d = argument (names_at s names) (length items)

  abbrev xs : List Argument
  xs = (function_at s names items v.number).arguments

  -- entry j of the table b holds a view of argument j
  abbrev Entry : List ℕ → ℕ → Type 0
  Entry b j =
      ArgumentOf s names (length items) (argument_at s names items v.number j) (unpacked (get_or b j 0)) ×
      FactsOf s names items (unpacked (get_or b j 0))

  -- views of i arguments stand in b, and the next argument stands at the position
  pub record Arguments (i : ℕ) (b : List ℕ) (at : ℕ) : Type 0 where
    pub each : (j : ℕ) → j < i → Entry b j
    pub rest : many (v.arguments - i) d s at ≡ got (drop i xs) (next_of (many v.arguments d s v.first.at))

  module _ (f : FunctionAt s names items v) where
    count : length xs ≡ v.arguments
    count = many_length d s v.arguments v.first.at f.view.arguments.is

    pub arguments_none : (b : List ℕ) → Arguments 0 b v.first.at
    arguments_none b = record {
      each = λ j h. absurd (omega arith);
      rest = (let z : v.arguments - 0 ≡ v.arguments = omega arith in rw z f.view.arguments.is);
    }

    module _ {i : ℕ} {b : List ℕ} (at : ℕ) {w : ℕ} {r : Found} (p : Arguments i b at) (l : i < v.arguments)
        (z : w ≡ width_of (length names)) (g : Finds (bits w s at) w r) where
      here : (d s at ≡ got (argument_at s names items v.number i) (next_of (d s at))) ×
          (many (v.arguments - (i + 1)) d s (next_of (d s at)) ≡
          got (drop (i + 1) xs) (next_of (many v.arguments d s v.first.at)))
      unfolding argument_at
      here = ahead d s v.arguments xs _ i at (record { name = []; type = str }) count p.rest l

      -- its type, and the index of its name
      pub argument_type : Yields (type (length items) s r.next.at) (type_here (length items) s r.next.at)
      argument_type = type_there s names (length items) at here.0 z g

      pub argument_named : r.value < length names
      argument_named = (name s names (length items) at here.0 z g).there

      -- an entry with its name, and with a position where the same type stands
      pub arguments_turn : {m : ℕ} (e : ℕ) → i < length b → (unpacked e).name ≡ r.value →
          Yields (type (length items) s (unpacked e).of.at) (type_here (length items) s r.next.at) →
          FactsOf s names items (unpacked e) → m ≡ next_of (type (length items) s r.next.at) →
          Arguments (i + 1) (set b i e) m
      arguments_turn e k a y h q = record {
        each = λ j l. by_cases (eqb j i)
            (λ t. let z : j ≡ i = eqb-true j i t in rw (z, get_or-set_same b i e 0 k) (new, h))
            (λ t. rw (get_or-set_other b i j e 0 (eqb-false j i t))
            (p.each j (let z = eqb-false j i t in omega arith)));
        rest = rw (argument_next s names (length items) at here.0 z g q) here.1;
      }
        where
          new : ArgumentOf s names (length items) (argument_at s names items v.number i) (unpacked e)
          new = argument_of_lem s names (length items) at here.0 z g a y

    pub arguments_done : {i : ℕ} {b : List ℕ} (c : Cursor) → Arguments i b c.at → i ≤ v.arguments → v.arguments ≤ i →
        ArgumentsAt s names items v b × (c.at ≡ next_of (many v.arguments d s v.first.at))
    unfolding many
    arguments_done {i} c p l k =
        let y : v.arguments ≡ i = omega arith in
        let z : v.arguments - i ≡ 0 = omega arith in
        (record { count = count; each = rw y p.each }, got_next (rw z at p.rest))
