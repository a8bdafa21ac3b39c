-- What is promised of the list of a sheet's structs, where rules 1 to 11 hold.
use Rattle.std.specs.Prelude.{◌≡◌, List, ℕ, length, Result, Err}
use Rattle.refusal.specs.declared.Refusal.{Refusal}
use Rattle.refusal.specs.declared.Refusal.TheVariants.{Ring}
use Rattle.format.specs.Decode.{got, pick}
use Rattle.format.specs.Sheet.{Item, Sheet}
use Rattle.format.specs.Decoding.{decode}
use Rattle.view.specs.Values.{items_at, Ready}
use Rattle.toposort.specs.Sort.{order}
use Rattle.rules.specs.Rules.{held_structs, structs, ring}
use Rattle.judge.specs.Marked.{Marked}
use Rattle.services.specs.Services.{fitted, overlaid}

-- the structs in order, by item number
abbrev pub order_of : List Item → List ℕ
order_of items = order (held_structs items) (length items) (structs items)

-- 12, else 13, else the list, and every byte of the buffer
pub record Lists (items : List Item) (buffer : List ℕ) (answer : Result ℕ Refusal) (after : List ℕ) : Type 0 where
  pub answers : answer ≡ pick (ring items) (Err Ring) (fitted (order_of items) (length buffer))
  pub leaves : after ≡ pick (ring items) buffer (overlaid (order_of items) buffer)

-- the sheet s is decoded, and its items are those that the tables give
pub record Decodes (s names items digests marks : List ℕ) : Type 0 where
  pub ready : Ready s names items digests
  pub marked : Marked s names items marks
  pub sheet : Sheet
  pub end : ℕ
  pub decoded : decode s ≡ got sheet end
  pub same : items_at s names items ≡ sheet.items
