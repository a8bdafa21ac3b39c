-- Laws of a field: where it is cut, its value and the position behind it.
use mathlib.Core.Path.{◌≡◌, sym, ap, ◌∙◌}
use mathlib.Core.List.{List}
use mathlib.Core.Bool.{Bool, true, false}
use Prim.Native.Nat.{ℕ, ◌+◌, ◌*◌, ◌^◌, ◌<◌, ◌≤◌}
use native.Mathlib.Omega.{arith}
use lib.ListN.{length}
use lib.Dec.{leb, eqb}
use borrow.Author.Tests.{le-leb, lt-leb}
use Rattle.refusal.specs.declared.Refusal.{Refusal}
use Rattle.refusal.specs.declared.Refusal.TheVariants.{CutSheet}
use Rattle.format.specs.Limits.{most_bits}
use Rattle.format.specs.Decode.{Got, fault, got, pick}
use Rattle.format.specs.Bits.{bits_at, bits, bit}
use Rattle.cursor.specs.declared.Cursor.{Cursor}
use Rattle.cursor.specs.Checking.{Limited, ReadsField, Checks}
use Rattle.cursor.proofs.BitLaws.{bits_lt}
use Rattle.cursor.proofs.CheckLaws.{tail}
use Rattle.std.specs.Prelude.{Result, Ok, Err}
use Rattle.cursor.specs.declared.Found.{Found}

module _ (n : ℕ) (s : List ℕ) (at : ℕ) where
  -- what the code answers is the field

  pub field_cut : 8 * length s < at + n → ReadsField (bits n s at) (Err CutSheet)
  unfolding bits
  field_cut l = record { field = rw (lt-leb (at + n) (8 * length s) l) }

  pub field_past : Limited s → most_bits < at → ReadsField (bits n s at) (Err CutSheet)
  field_past l h = field_cut (omega arith)

  pub field_whole : {v : ℕ} → at + n ≤ 8 * length s → v ≡ bits_at s at n →
      ReadsField (bits n s at) (Ok (record { value = v; next = record { at = at + n } }))
  unfolding bits
  field_whole l e = record { field = rw (le-leb (at + n) (8 * length s) l, e) }

  -- a field that the definition reads

  pub field_lt : {v m : ℕ} → bits n s at ≡ got v m → v < 2 ^ n
  unfolding bits
  field_lt {v} {m} e = value_of (leb (at + n) (8 * length s)) e
    where
      value_of : (b : Bool) → pick b (got (bits_at s at n) (at + n)) (fault CutSheet) ≡ got v m → v < 2 ^ n
      value_of true e = let z : bits_at s at n ≡ v = cc in rw (← z) (bits_lt s at n)
      value_of false e = absurd (let z : ◌≡◌ {A = ℕ} 0 1 = cc in omega arith)

  pub field_next : {v m : ℕ} → bits n s at ≡ got v m → m ≡ at + n
  unfolding bits
  field_next {v} {m} e = next_of (leb (at + n) (8 * length s)) e
    where
      next_of : (b : Bool) → pick b (got (bits_at s at n) (at + n)) (fault CutSheet) ≡ got v m → m ≡ at + n
      next_of true e = cc
      next_of false e = absurd (let z : ◌≡◌ {A = ℕ} 0 1 = cc in omega arith)

  pub field_fault : {f : Refusal} → bits n s at ≡ fault f → f ≡ CutSheet
  unfolding bits
  field_fault {f} e = fault_of (leb (at + n) (8 * length s)) e
    where
      fault_of : (b : Bool) → pick b (got (bits_at s at n) (at + n)) (fault CutSheet) ≡ fault f → f ≡ CutSheet
      fault_of true e = absurd (let z : ◌≡◌ {A = ℕ} 0 1 = cc in omega arith)
      fault_of false e = cc

-- a field that the code found cut
pub cut : {p : Got ℕ} {r : Result Found Refusal} {e : Refusal} → ReadsField p r → r ≡ Err e → p ≡ fault e
cut {p = fault e} {r} {e = d} h t = let f = h.field in let z : e ≡ d = cc in rw z
cut {p = got x n} {r} h t = let f = h.field in absurd (let z : ◌≡◌ {A = ℕ} 0 1 = cc in omega arith)

-- a field that the code read
pub value : {p : Got ℕ} {r : Result Found Refusal} {f : Found} → ReadsField p r → r ≡ Ok f → p ≡ got f.value f.next.at
value {p = fault e} {r} h t = let f = h.field in absurd (let z : ◌≡◌ {A = ℕ} 0 1 = cc in omega arith)
value {p = got x n} {r} {f} h t =
    let y : Ok (record { value = x; next = record { at = n } }) ≡ Ok f = sym h.field ∙ t in
    let b : record { value = x; next = record { at = n } } ≡ f = cc in
    ap (λ (z : Found). got z.value z.next.at) b

-- ---- a field of one bit

module _ (s : List ℕ) (at : ℕ) where
  pub bit_value : {r : Result Found Refusal} {f : Found} → ReadsField (bits 1 s at) r → r ≡ Ok f →
      bit s at ≡ got (eqb f.value 1) f.next.at
  unfolding bit
  bit_value h t = rw (value h t)

  pub bit_cut : {r : Result Found Refusal} {e : Refusal} → ReadsField (bits 1 s at) r → r ≡ Err e → bit s at ≡ fault e
  unfolding bit
  bit_cut h t = rw (cut h t)

  pub bit_checks : {r : Result Cursor Refusal} → Checks (bits 1 s at) r → Checks (bit s at) r
  unfolding bit
  bit_checks h = tail _ h
