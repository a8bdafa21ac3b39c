-- Fields of bits, most significant first, and the width of an index (document 01, "The sheet").
use Rattle.std.specs.Prelude.{List, Bool, ℕ, zero, suc, ◌+◌, ◌-◌, ◌*◌, ◌/◌, ◌%◌, ◌^◌, length, get_or, leb, ltb, eqb}
use Rattle.refusal.specs.declared.Refusal.TheVariants.{CutSheet, LooseIndex}
use Rattle.format.specs.Decode.{fault, got, Dec, pick, ◌>>◌, pure, unless}

-- the bit at a position: bit 0 is the highest of byte 0
unfoldable pub bit_at : List ℕ → ℕ → ℕ
bit_at s i = get_or s (i / 8) 0 / 2 ^ (7 - i % 8) % 2

-- the value of n bits
unfoldable pub bits_at : List ℕ → ℕ → ℕ → ℕ
bits_at s at zero = 0
bits_at s at (suc n) = 2 * bits_at s at n + bit_at s (at + n)

-- a field of n bits: 1 if the sheet ends before it is whole
unfoldable pub bits : ℕ → Dec ℕ
bits n s at = pick (leb (at + n) (8 * length s)) (got (bits_at s at n) (at + n)) (fault CutSheet)

-- a field of one bit
unfoldable pub bit : Dec Bool
bit = bits 1 >> λ b. pure (eqb b 1)

-- how many binary digits n has, at most f of them
unfoldable pub bit_length : ℕ → ℕ → ℕ
bit_length zero n = 0
bit_length (suc f) zero = 0
bit_length (suc f) (suc n) = suc (bit_length f (suc n / 2))

-- an index into a table of n entries takes as many bits as n − 1 has in binary, none for n below 2;
-- both tables have fewer than 2 ^ 32 entries
unfoldable pub width_of : ℕ → ℕ
width_of n = bit_length 32 (n - 1)

-- an index into a table of n entries
unfoldable pub index : ℕ → Dec ℕ
index n = bits (width_of n) >> λ i. unless (ltb i n) LooseIndex (pure i)
