-- What is promised of a decoded sheet: its value, where its names and its items stand, and the digests of its names.
use Rattle.std.specs.Prelude.{◌≡◌, List, map, Bool, ℕ, ◌≤◌, length, take, Result, Ok, Err}
use Rattle.refusal.specs.declared.Refusal.{Refusal}
use Rattle.format.specs.declared.Outline.{Outline}
use Rattle.format.specs.Limits.{most_names, most_items}
use Rattle.format.specs.Decode.{Got, fault, got, Dec, ◌>>◌}
use Rattle.format.specs.Sheet.{Name, Sheet}
use Rattle.format.specs.Decoding.{name, item, name_table, item_table, tail}
use Rattle.cursor.specs.Checking.{Table}
use Rattle.names.specs.Digests.{digest}
use Rattle.marks.specs.Marking.{mark_items}

-- what stands behind the name table, in a sheet with the header bit h and the Doxygen bit d
unfoldable pub behind_names : Bool → Bool → List Name → Dec Sheet
behind_names h d names = item_table names >> λ is. tail (record { header = h; doxygen = d; items = is })

-- what stands behind both bits, where these words are no names
unfoldable pub behind_bits : List (List ℕ) → Bool → Bool → Dec Sheet
behind_bits words h d = name_table words >> λ names. behind_names h d names

-- the decoder's p is a sheet, its items read with these names, offsets tells where each item stands, and their marks
-- made v of u
pub record Items (s : List ℕ) (names : List Name) (p : Got Sheet) (o : Outline) (offsets u v : List ℕ) : Type 0 where
  pub sheet : Sheet
  pub end : ℕ
  pub decoded : p ≡ got sheet end
  pub header : o.header ≡ sheet.header
  pub doxygen : o.doxygen ≡ sheet.doxygen
  pub named : o.names ≡ length names
  pub few : o.items ≤ most_items
  pub table : Table (item names o.items) s o.items offsets sheet.items
  pub marked : v ≡ mark_items sheet.items u

-- and name_offsets tells where each of the names stands, and digests begins with their digests
pub record Tables (s : List ℕ) (p : Got Sheet) (o : Outline) (name_offsets item_offsets digests u v : List ℕ)
    : Type 0 where
  pub names : List Name
  pub few : o.names ≤ most_names
  pub table : Table name s o.names name_offsets names
  pub digested : take o.names digests ≡ map digest names
  pub items : Items s names p o item_offsets u v

-- what an answer says of the decoder's p, where a decoded sheet is to be as P says
abbrev pub says_of : (Outline → Type 0) → Got Sheet → Result Outline Refusal → Type 0
says_of P p (Ok o) = P o
says_of P p (Err e) = p ≡ fault e

-- the answer to what stands behind the names
pub record AnswersItems (s : List ℕ) (names : List Name) (p : Got Sheet) (r : Result Outline Refusal)
    (offsets u v : List ℕ) : Type 0 where
  pub says : says_of (λ o. Items s names p o offsets u v) p r

-- the answer to a sheet: its refusal, or the three tables of the decoded sheet and its marks
pub record Answers (s : List ℕ) (p : Got Sheet) (r : Result Outline Refusal)
    (name_offsets item_offsets digests u v : List ℕ) : Type 0 where
  pub says : says_of (λ o. Tables s p o name_offsets item_offsets digests u v) p r
