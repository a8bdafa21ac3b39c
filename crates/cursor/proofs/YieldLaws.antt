-- Laws of what a decoder yields: a decoder's parts yield where the whole does.
use mathlib.Core.Path.{◌≡◌, refl, sym, ap, ◌∙◌}
use mathlib.Core.List.{List}
use mathlib.Core.Bool.{Bool, true, false}
use Prim.Native.Nat.{ℕ, ◌+◌, ◌*◌, ◌≤◌}
use native.Mathlib.Omega.{arith}
use lib.ListN.{length}
use lib.Dec.{leb, eqb}
use lib.Pow.{pow_pos}
use borrow.Author.Tests.{leb-true}
use Rattle.refusal.specs.declared.Refusal.{Refusal}
use Rattle.refusal.specs.declared.Refusal.TheVariants.{CutSheet}
use Rattle.format.specs.Decode.{Got, fault, got, pick, after}
use Rattle.format.specs.Bits.{bits_at, bits, bit}
use Rattle.cursor.specs.declared.Cursor.{Cursor}
use Rattle.cursor.specs.Checking.{Limited, ReadsField, Checks}
use Rattle.cursor.proofs.CheckLaws.{stepped, stopped}
use Rattle.cursor.proofs.FieldLaws.{value, cut, field_lt, field_next}
use Rattle.cursor.proofs.CodeLaws.{bits_whole}
use Rattle.cursor.specs.declared.Found.{Found}
use Rattle.cursor.specs.Yielding.{value_or, next_of, Yields, Finds}
use Rattle.std.specs.Prelude.{Result, Ok, Err}

-- what is read with a known value
pub yields : {A : Type 0} {p : Got A} {x : A} {m : ℕ} → p ≡ got x m → Yields p x
yields e = record { is = e ∙ rw e }

pub yielded : {A : Type 0} (z : A) {p : Got A} {x : A} → Yields p x → value_or z p ≡ x
yielded z y = rw y.is

-- two decoders in a row: what the first gives, and what the second gives behind it
pub in_turn : {A B C : Type 0} (p : Got A) (k : A → ℕ → Got B) {y : B} {m : ℕ} → after p k ≡ got y m →
    ((x : A) (n : ℕ) → p ≡ got x n → k x n ≡ got y m → C) → C
in_turn (fault e) k h c = absurd (let z : ◌≡◌ {A = ℕ} 0 1 = cc in omega arith)
in_turn (got x n) k h c = c x n refl h

-- a test that the decoder passed
pub passed : {A : Type 0} (b : Bool) (p : Got A) (e : Refusal) {y : A} {m : ℕ} → pick b p (fault e) ≡ got y m →
    p ≡ got y m
passed true p e h = h
passed false p e h = absurd (let z : ◌≡◌ {A = ℕ} 0 1 = cc in omega arith)

pub test_passed : {A : Type 0} (b : Bool) (p : Got A) (e : Refusal) {y : A} {m : ℕ} → pick b p (fault e) ≡ got y m →
    b ≡ true
test_passed true p e h = refl
test_passed false p e h = absurd (let z : ◌≡◌ {A = ℕ} 0 1 = cc in omega arith)

pub got_value : {A : Type 0} {x y : A} {n m : ℕ} → got x n ≡ got y m → x ≡ y
got_value h = cc

pub got_next : {A : Type 0} {x y : A} {n m : ℕ} → got x n ≡ got y m → n ≡ m
got_next h = cc

-- ---- fields

module _ (n : ℕ) (s : List ℕ) (at : ℕ) where
  pub field_end : {v m : ℕ} → bits n s at ≡ got v m → m ≤ 8 * length s
  unfolding bits
  field_end {v} {m} e = by_test (leb (at + n) (8 * length s)) refl e
    where
      by_test : (b : Bool) → leb (at + n) (8 * length s) ≡ b →
          pick b (got (bits_at s at n) (at + n)) (fault CutSheet) ≡ got v m → m ≤ 8 * length s
      by_test true t e = let z : at + n ≡ m = cc in omega (arith, leb-true (at + n) (8 * length s) t)
      by_test false t e = absurd (let z : ◌≡◌ {A = ℕ} 0 1 = cc in omega arith)

  -- its value and its end, for code that reads it without a test
  pub bits_there : {v m : ℕ} → bits n s at ≡ got v m → (at + n ≤ 8 * length s) × (v ≡ bits_at s at n) × (m ≡ at + n)
  bits_there {m} e =
      let z : m ≡ at + n = field_next n s at e in
      let l : at + n ≤ 8 * length s = omega (arith, field_end e) in
      (l, got_value (sym e ∙ bits_whole n s at l refl), z)

  pub finds_value : {r : Result Found Refusal} {f : Found} → Limited s → ReadsField (bits n s at) r → r ≡ Ok f →
      Finds (bits n s at) n f
  finds_value l h t =
      let e = value h t in
      let f = field_end e in
      record { value = rw e; next = rw e; low = field_lt n s at e; near = omega arith }

  pub finds_none : {r : Result Found Refusal} {e : Refusal} → ReadsField (bits n s at) r → r ≡ Err e →
      Finds (bits n s at) n (record { value = 0; next = record { at = 0 } })
  finds_none h t =
      let e = cut h t in record { value = rw e; next = rw e; low = pow_pos n; near = omega arith }

-- a field that is there is what was found
pub found : {p : Got ℕ} {n : ℕ} {r : Found} {v m : ℕ} → Finds p n r → p ≡ got v m → p ≡ got r.value r.next.at
found {r} {v} {m} f e =
    let a : r.value ≡ v = f.value ∙ rw e in
    let b : r.next.at ≡ m = f.next ∙ rw e in
    rw (a, b) e

pub found_value : {p : Got ℕ} {n : ℕ} {r : Found} {v m : ℕ} → Finds p n r → p ≡ got v m → v ≡ r.value
found_value f e = got_value (sym e ∙ found f e)

pub found_next : {p : Got ℕ} {n : ℕ} {r : Found} {v m : ℕ} → Finds p n r → p ≡ got v m → m ≡ r.next.at
found_next f e = got_next (sym e ∙ found f e)

-- a field of one bit
module _ (s : List ℕ) (at : ℕ) {b : Bool} {m : ℕ} {r : Found} (e : bit s at ≡ got b m) (f : Finds (bits 1 s at) 1 r) where
  pub bit_value : b ≡ eqb r.value 1
  unfolding bit
  bit_value = in_turn (bits 1 s at) _ e (λ v n g h. sym (got_value h) ∙ ap (λ (k : ℕ). eqb k 1) (found_value f g))

  pub bit_next : m ≡ r.next.at
  unfolding bit
  bit_next = in_turn (bits 1 s at) _ e (λ v n g h. sym (got_next h) ∙ found_next f g)

-- the position behind what a checker checked
module _ {A : Type 0} {p : Got A} {r : Result Cursor Refusal} where
  pub next_at : {c : Cursor} → Checks p r → r ≡ Ok c → c.at ≡ next_of p
  next_at h t = rw (stepped h t).1

  pub next_none : {e : Refusal} → Checks p r → r ≡ Err e → 0 ≡ next_of p
  next_none h t = rw (stopped h t)
