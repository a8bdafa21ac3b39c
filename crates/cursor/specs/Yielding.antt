-- What a decoder gives, where it gives anything, and what is promised of a field that is read as such.
use Rattle.std.specs.Prelude.{◌≡◌, ℕ, ◌^◌, ◌<◌, ◌≤◌}
use Rattle.format.specs.Limits.{most_bits}
use Rattle.format.specs.Decode.{Got, fault, got}
use Rattle.cursor.specs.declared.Found.{Found}

abbrev pub value_or : {A : Type 0} → A → Got A → A
value_or z (fault e) = z
value_or z (got x n) = x

-- the position behind it
abbrev pub next_of : {A : Type 0} → Got A → ℕ
next_of (fault e) = 0
next_of (got x n) = n

-- the decoder's p is the value x
pub record Yields {A : Type 0} (p : Got A) (x : A) : Type 0 where
  pub is : p ≡ got x (next_of p)

-- a field of n bits that is read as the decoder's p
pub record Finds (p : Got ℕ) (n : ℕ) (r : Found) : Type 0 where
  pub value : r.value ≡ value_or 0 p
  pub next : r.next.at ≡ next_of p
  pub low : r.value < 2 ^ n
  pub near : r.next.at ≤ most_bits
