-- Laws of what is chosen by a number or a kind.
use Rattle.std.proofs.Common.{◌≡◌, ℕ, zero, suc, ◌<◌, ◌≤◌, [], sym, refl, ap, arith}
use lib.ListN.{get_or-eq_default}
use Rattle.lexical.specs.Bytes.{bytes}
use Rattle.lexical.specs.Decimal.{pick_text}
use Rattle.format.specs.declared.Atom.TheVariants as Atom
use Rattle.format.specs.declared.Pointer.{Pointer}
use Rattle.format.specs.declared.Pointer.TheVariants.{Ref, Ptr, SliceRef}
use Rattle.format.specs.Decoding.{atoms, atom_of}
use Rattle.bridge.specs.WriteType.{write_atom, pointer_begin, is_slice}

-- ---- atoms

-- a number that is none of 1, 2, .. is 0 or lies above them
pub apart_none : (n : ℕ) → 0 < n → 1 ≤ n
apart_none n h = omega arith

pub apart : (i : ℕ) {n : ℕ} → (0 < n → i ≤ n) → (n ≡ i → ⊥) → 0 < n → i < n
apart i l h p = let k = l p in omega arith

-- at 0 and past the last atom stands the first
pub atom_past : (n : ℕ) → (0 < n → 15 < n) → bytes "bool" ≡ write_atom (atom_of n)
unfolding atom_of
atom_past zero h = refl
atom_past (suc n) h = ap write_atom (sym (get_or-eq_default atoms Atom.Bool (h (omega arith))))

-- ---- pointers

pub begin_is : (k : Pointer) → pick_text (is_slice k) (bytes "::rust::Slice<") [] ≡ pointer_begin k
begin_is Ref = refl
begin_is Ptr = refl
begin_is SliceRef = refl
