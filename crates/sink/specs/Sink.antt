-- A buffer with the place of the next byte, and what becomes of both as bytes are written.
use Rattle.std.specs.Prelude.{◌≡◌, List, [], ◌∷◌, Bool, true, false, ℕ, ◌+◌, min, leb, length, replicate, set}

pub record Sink : Type 0 where
  pub buf : List ℕ
  pub at : ℕ

abbrev pub sink : List ℕ → ℕ → Sink
sink buf at = record { buf = buf; at = at }

-- the largest usize, where the place stops
abbrev pub limit : ℕ
limit = 0xffff_ffff_ffff_ffff

-- one byte over the one at the place; past the buffer's end it changes nothing and only counts
abbrev pub step : Sink → ℕ → Sink
step s b = sink (set s.buf s.at b) (min limit (s.at + 1))

-- the bytes of a text, one after the other
unfoldable pub emit : Sink → List ℕ → Sink
emit s [] = s
emit s (b ∷ text) = emit (step s b) text

-- whether the buffer has room for a text behind the place
abbrev pub has_room : Sink → List ℕ → Bool
has_room s text = leb (s.at + length text) (length s.buf)

-- what is promised of a sink: all of it where the text had room, and else its place and the length of its buffer
abbrev pub seen : Bool → Sink → Sink
seen true s = s
seen false s = sink (replicate (length s.buf) 0) s.at

-- a writer of the text that finds `before` leaves `after`
pub record Wrote (before : Sink) (text : List ℕ) (after : Sink) : Type 0 where
  pub is : seen (has_room before text) after ≡ seen (has_room before text) (emit before text)
