-- An atom is read by its number.
use mathlib.Core.Path.{◌≡◌, refl, ◌∙◌}
use mathlib.Core.List.{List, [], ◌∷◌}
use mathlib.Core.Bool.{Bool, true, ◌&&◌}
use Prim.Native.Nat.{ℕ, zero, suc, ◌+◌, ◌<◌}
use native.Mathlib.Omega.{arith}
use lib.ListN.{length, get_or}
use lib.Dec.{eqb}
use borrow.Author.Tests.{eqb-true}
use Rattle.lexical.proofs.BoolLaws.{both}
use Rattle.format.specs.declared.Atom.{Atom}
use Rattle.format.specs.declared.Atom.TheVariants as Atom
use Rattle.format.specs.Decoding.{atoms, atom_of}
use Rattle.syntax.specs.Types.{atom_number}

-- the atoms of a list have the numbers from k on
abbrev numbered : List Atom → ℕ → Bool
numbered [] k = true
numbered (x ∷ xs) k = eqb (atom_number x) k && numbered xs (suc k)

number_at : (xs : List Atom) (k i : ℕ) → numbered xs k ≡ true → i < length xs →
    atom_number (get_or xs i Atom.Bool) ≡ k + i
number_at [] k i h l = absurd (omega arith)
number_at (x ∷ xs) k zero h l = eqb-true _ _ (both (eqb (atom_number x) k) (numbered xs (suc k)) h).0 ∙ omega arith
number_at (x ∷ xs) k (suc i) h l =
    number_at xs (suc k) i (both (eqb (atom_number x) k) (numbered xs (suc k)) h).1 (omega arith) ∙ omega arith

pub atom_number_lem : (a : ℕ) → a < 16 → atom_number (atom_of a) ≡ a
unfolding atom_of
atom_number_lem a l = number_at atoms 0 a refl l ∙ omega arith
