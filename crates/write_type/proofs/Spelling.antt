-- What an arm of `write_type` does, by the decoder of what it spells.
use Rattle.std.proofs.Common.{◌≡◌, ℕ, List}
use Rattle.sink.specs.Sink.{Sink, Wrote}
use Rattle.format.specs.Decode.{Got}
use Rattle.view.specs.Values.{value_or, next_of, Yields}

-- the decoder's p gives a value
abbrev pub There : {A : Type 0} → A → Got A → Type 0
There z p = Yields p (value_or z p)

-- the value of the decoder's p was spelled, and m is the position behind it
pub record Spells {A : Type 0} (spell : A → List ℕ) (z : A) (p : Got A) (before after : Sink) (m : ℕ) : Type 0 where
  pub wrote : Wrote before (spell (value_or z p)) after
  pub next : m ≡ next_of p
