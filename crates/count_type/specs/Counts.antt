-- How long a text is, where that is known.
use Rattle.std.specs.Prelude.{◌≡◌, List, ℕ, length}

-- r is the length of the text, or 0
pub record Counts (text : List ℕ) (r : ℕ) : Type 0 where
  pub exact : (r ≡ 0 → ⊥) → r ≡ length text
