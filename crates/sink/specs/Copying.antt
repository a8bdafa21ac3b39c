-- A text on its way into a buffer.
use Rattle.std.specs.Prelude.{◌≡◌, List, Bool, ℕ, ◌+◌, leb, length, take}

-- b says whether a buffer has room for a text behind a place
pub record Fits (at count size : ℕ) (b : Bool) : Type 0 where
  pub is : b ≡ leb (at + count) size

-- the first i bytes of the text stand in buf, which is as long
pub record Copied (text : List ℕ) (i : ℕ) (buf : List ℕ) : Type 0 where
  pub long : length buf ≡ length text
  pub front : take i buf ≡ take i text
