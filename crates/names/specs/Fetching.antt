-- What is promised of a name that is fetched from its position.
use Rattle.std.specs.Prelude.{List, ◌≡◌, ℕ, ◌≤◌, take}
use Rattle.format.specs.Limits.{longest_name}
use Rattle.format.specs.Decode.{Got, got}
use Rattle.format.specs.Sheet.{Name}

-- where the decoder's p is a name, the first n bytes of b are its characters
pub record Fetched (p : Got Name) (n : ℕ) (b : List ℕ) : Type 0 where
  pub short : n ≤ longest_name
  pub chars : (cs : Name) (m : ℕ) → p ≡ got cs m → take n b ≡ cs
