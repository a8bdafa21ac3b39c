-- What stands behind an operand's name, by what an argument's view says of its type's kind.
use Rattle.std.specs.Prelude.{ℕ, zero, suc, Bool, List, []}
use Rattle.lexical.specs.Bytes.{bytes}
use Rattle.lexical.specs.Decimal.{pick_text}

-- `operand_end` of bridge's Write; 1 is a RustBox, 2 a UniquePtr (`owner_of` of view's Views)
abbrev pub owner_end : ℕ → Bool → List ℕ
owner_end zero held = pick_text held (bytes "$.value") []
owner_end (suc zero) held = bytes ".into_raw()"
owner_end (suc (suc zero)) held = bytes ".release()"
owner_end (suc (suc (suc k))) held = pick_text held (bytes "$.value") []
