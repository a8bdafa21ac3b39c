-- Sheets that differ in their editions only (document 02, order 13).
use Rattle.std.specs.Prelude.{◌≡◌, List, ℕ, ◌≤◌, length}
use Rattle.format.specs.Bits.{bit_at}

-- as many bytes, and the same bits from a position on
pub record SameFrom (at : ℕ) (s t : List ℕ) : Type 0 where
  pub length : length s ≡ length t
  pub bits : (i : ℕ) → at ≤ i → bit_at s i ≡ bit_at t i

-- the edition is the first four bits
abbrev pub SameButEdition : List ℕ → List ℕ → Type 0
SameButEdition s t = SameFrom 4 s t
