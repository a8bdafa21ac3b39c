-- The three services' answers, for every input: the number and every byte of the buffer afterwards. A check's answer is
-- `check` of rules/specs/Judge.antt.
-- "Check a sheet (0 if accepted), write its text, list its struct order (one byte per item number, counted from 0)".
use Rattle.std.specs.Prelude.{◌≡◌, List, ◌++◌, ℕ, leb, length, drop, ℤ, pos, neg_ℤ, Result, Ok, Err}
use Rattle.refusal.specs.declared.Refusal.{Refusal}
use Rattle.refusal.specs.declared.Refusal.TheVariants.{Overrun}
use Rattle.refusal.specs.Refusal.{number_of}
use Rattle.format.specs.Decode.{pick}
use Rattle.format.specs.Sheet.{Sheet}
use Rattle.toposort.specs.Sort.{order}
use Rattle.rules.specs.Rules.{held_structs, structs}
use Rattle.rules.specs.Judge.{Judged, refused, accepted, judge}
use Rattle.bridge.specs.Write.{text}

-- the struct order of an accepted sheet: `sort` of toposort.rs
unfoldable pub struct_order : Sheet → List ℕ
struct_order x = order (held_structs x.items) (length x.items) (structs x.items)

-- 13: "the answer is longer than the buffer"
abbrev pub fitted : List ℕ → ℕ → Result ℕ Refusal
fitted answer room = pick (leb (length answer) room) (Ok (length answer)) (Err Overrun)

-- what a service answers whose bytes for an accepted sheet are f's, with so much room
abbrev pub answer_of : (Sheet → List ℕ) → Judged → ℕ → Result ℕ Refusal
answer_of f (refused e) room = Err e
answer_of f (accepted x) room = fitted (f x) room

-- the answer over the front of the buffer; a refusal leaves the buffer as it was
abbrev pub overlaid : List ℕ → List ℕ → List ℕ
overlaid answer buffer = pick (leb (length answer) (length buffer)) (answer ++ drop (length answer) buffer) buffer

abbrev pub buffer_of : (Sheet → List ℕ) → Judged → List ℕ → List ℕ
buffer_of f (refused e) buffer = buffer
buffer_of f (accepted x) buffer = overlaid (f x) buffer

-- the promise of a service that writes bytes
pub record Serves (f : Sheet → List ℕ) (sheet buffer : List ℕ) (answer : Result ℕ Refusal) (after : List ℕ)
    : Type 0 where
  pub answers : answer ≡ answer_of f (judge sheet) (length buffer)
  pub leaves : after ≡ buffer_of f (judge sheet) buffer

-- write a sheet's text
abbrev pub Writes : List ℕ → List ℕ → Result ℕ Refusal → List ℕ → Type 0
Writes sheet buffer answer after = Serves text sheet buffer answer after

-- list a sheet's struct order
abbrev pub Orders : List ℕ → List ℕ → Result ℕ Refusal → List ℕ → Type 0
Orders sheet buffer answer after = Serves struct_order sheet buffer answer after

-- "across C linkage a refusal is its number negated"
abbrev pub written_code : Result ℕ Refusal → ℤ
written_code (Ok n) = pos n
written_code (Err e) = neg_ℤ (pos (number_of e))

abbrev pub checked_code : Result Unit Refusal → ℤ
checked_code (Ok u) = pos 0
checked_code (Err e) = neg_ℤ (pos (number_of e))
