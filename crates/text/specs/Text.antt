-- Texts of a sheet: a length, then as many 7-bit characters, that a rule admits.
use Rattle.std.specs.Prelude.{◌≡◌, List, [], ◌∷◌, Bool, ℕ, zero, suc, ◌+◌, ◌^◌, ◌<◌, take, Result, Ok, Err}
use Rattle.refusal.specs.declared.Refusal.{Refusal}
use Rattle.cursor.specs.declared.Found.{Found}
use Rattle.format.specs.Decode.{Got, fault, got, Dec, pick, ◌>>◌, pure, unless, many}
use Rattle.format.specs.Bits.{bits_at, bits}

-- a text with a length of w bits; `name` and `line` of the format are such
unfoldable pub ruled_text : ℕ → (List ℕ → Bool) → Refusal → Dec (List ℕ)
ruled_text w rule e = bits w >> λ n. many n (bits 7) >> λ cs. unless (rule cs) e (pure cs)

-- what r says of it, where the characters were to be put into the front of b
abbrev pub text_of : Result Found Refusal → List ℕ → (List ℕ → Bool) → Refusal → Got (List ℕ)
text_of (Err f) b rule e = fault f
text_of (Ok f) b rule e = pick (rule (take f.value b)) (got (take f.value b) f.next.at) (fault e)

abbrev pub field_length : Result Found Refusal → ℕ
field_length (Err e) = 0
field_length (Ok f) = f.value

-- the text's length is r's, and its characters stand in the front of b, whatever the rule
pub record Spelled (w : ℕ) (s : List ℕ) (at : ℕ) (r : Result Found Refusal) (b : List ℕ) : Type 0 where
  pub text : (rule : List ℕ → Bool) (e : Refusal) → ruled_text w rule e s at ≡ text_of r b rule e
  pub short : field_length r < 2 ^ w

-- the n characters at a position
unfoldable pub chars_at : List ℕ → ℕ → ℕ → List ℕ
chars_at s at zero = []
chars_at s at (suc n) = bits_at s at 7 ∷ chars_at s (at + 7) n

-- the first n of the text at a position stand in the front of b
pub record Holds (s : List ℕ) (at n : ℕ) (b : List ℕ) : Type 0 where
  pub chars : take n b ≡ chars_at s at n
