-- From the promise of the write service across C linkage to demand 3 of the bytes at the front of the buffer.
use mathlib.Core.Path.{◌≡◌, refl, sym, ap, ◌∙◌}
use mathlib.Core.List.{List, ◌++◌}
use mathlib.Core.Bool.{Bool, true, false}
use Prim.Native.Nat.{ℕ, ◌≤◌}
use native.Mathlib.Omega.{arith}
use lib.Dec.{leb}
use lib.ListN.{length, take, drop, length-append, length-drop}
use lib.Seq.{drop-append_seam, length-take-le}
use borrow.Author.Tests.{le-leb}
use lib.IntN.{ℤ, pos, negsuc, neg_ℤ}
use Rattle.lexical.specs.Bytes.{every}
use Rattle.lexical.specs.Names.{table_of, sheet_name}
use Rattle.refusal.specs.declared.Refusal.{Refusal}
use Rattle.refusal.specs.declared.Refusal.TheVariants.{CutSheet, Edition, BadName, LooseIndex, BadKind, TooDeep}
use Rattle.refusal.specs.declared.Refusal.TheVariants.{BadComment, Tail, WrongPart, Taken, UnfitArgument, Ring}
use Rattle.refusal.specs.declared.Refusal.TheVariants.{Overrun}
use Rattle.refusal.specs.Refusal.{number_of}
use Rattle.format.specs.Decode.{pick}
use Rattle.format.specs.Sheet.{Sheet}
use Rattle.format.specs.Decoding.{edition_of}
use Rattle.rules.specs.Judge.{Judged, refused, accepted, judge}
use Rattle.decoded.specs.Editions.{SameButEdition}
use Rattle.decoded.proofs.Accepted.{older_accepted}
use Rattle.bridge.specs.Write.{text}
use Rattle.grammar.specs.Tree.{Text}
use Rattle.grammar.specs.Reading.{Reading, OneReading}
use Rattle.agreement.specs.Agreement.{Agrees}
use Rattle.agreement.specs.Names.{names_of}
use Rattle.std.specs.Prelude.{Result, Ok, Err}
use Rattle.services.specs.Services.{answer_of, buffer_of, Writes, written_code}
use Rattle.struct_order.proofs.ServeLaws.{served_inside}
use Rattle.write_sheet.proofs.WrittenLaws.{written_text}
use Rattle.demand3.proofs.Demand3.{accepted_demand_3}
use Rattle.demand3.proofs.Names.{accepted_names}
use Rattle.demand3.proofs.Editions.{same_text}
use Rattle.exports.specs.Codes.{Codes, WritesCode}
use Rattle.end_to_end.specs.TextAtFront.{TextAtFront}

-- ---- a length

-- the answer lies over the front of the buffer
module _ {sheet buffer after : List ℕ} {n : ℕ} {s : Sheet} (w : Writes sheet buffer (Ok n) after)
    (e : judge sheet ≡ accepted s) where
  unchanged : (drop n after ≡ drop n buffer) × (length after ≡ length buffer)
  unchanged = go (leb (length (text s)) (length buffer)) (rw e at w.answers) (rw e at w.leaves)
    where
      go : (fits : Bool) →
          ◌≡◌ {A = Result ℕ Refusal} (Ok n) (pick fits (Ok (length (text s))) (Err Overrun)) →
          after ≡ pick fits (text s ++ drop (length (text s)) buffer) buffer →
          (drop n after ≡ drop n buffer) × (length after ≡ length buffer)
      go true a b =
          let z : n ≡ length (text s) = cc in
          let rest = drop (length (text s)) buffer in (
            rw (z, b) (drop-append_seam (text s) rest),
            omega (
              arith,
              served_inside w refl,
              z,
              ap length b,
              length-append (text s) rest,
              length-drop (length (text s)) buffer,
            ),
          )
      go false a b = absurd (let z : ◌≡◌ {A = ℕ} 0 1 = cc in omega arith)

  front : s.header ≡ false → (r : OneReading (take n after)) × Agrees s.items r.tree
  front h =
      let d = accepted_demand_3 sheet s e h in
      rw (written_text w e) (d.reading, d.agrees)

  front_names : s.header ≡ false → (tree : Text) → Reading tree (take n after) →
      every (sheet_name (table_of (edition_of sheet))) (names_of tree) ≡ true
  front_names h tree r = accepted_names sheet s e h tree (rw (written_text w e) at r)

pub text_at_front : {sheet buffer after : List ℕ} {n : ℕ} → Writes sheet buffer (Ok n) after →
    TextAtFront sheet buffer n after
text_at_front {sheet} {buffer} {after} {n} w = go (judge sheet) refl
  where
    go : (j : Judged) → judge sheet ≡ j → TextAtFront sheet buffer n after
    go (refused r) e =
        let a : ◌≡◌ {A = Result ℕ Refusal} (Ok n) (Err r) = rw e at w.answers in
        absurd (let z : ◌≡◌ {A = ℕ} 0 1 = cc in omega arith)
    go (accepted s) e = record {
      value = s;
      accepts = e;
      demand3 = front w e;
      names = front_names w e;
      inside = served_inside w refl;
      behind = (unchanged w e).0;
      same_length = (unchanged w e).1;
    }

-- ---- across C linkage

-- a refusal's number is not 0, so that its negation is below every length
refusal_negative : (r : Refusal) → (k : ℕ) × (neg_ℤ (pos (number_of r)) ≡ negsuc k)
refusal_negative CutSheet = (0, refl)
refusal_negative Edition = (1, refl)
refusal_negative BadName = (2, refl)
refusal_negative LooseIndex = (3, refl)
refusal_negative BadKind = (4, refl)
refusal_negative TooDeep = (5, refl)
refusal_negative BadComment = (6, refl)
refusal_negative Tail = (7, refl)
refusal_negative WrongPart = (8, refl)
refusal_negative Taken = (9, refl)
refusal_negative UnfitArgument = (10, refl)
refusal_negative Ring = (11, refl)
refusal_negative Overrun = (12, refl)

-- a number that is not negative is a length
length_of_lem : (w : Result ℕ Refusal) {n : ℕ} → pos n ≡ written_code w → Ok n ≡ w
length_of_lem (Ok m) {n} e = let z : n ≡ m = cc in ap Ok z
length_of_lem (Err r) {n} e =
    let q : pos n ≡ negsuc (refusal_negative r).0 = e ∙ (refusal_negative r).1 in
    absurd (let z : ◌≡◌ {A = ℕ} 0 1 = cc in omega arith)

length_written : {sheet buffer after : List ℕ} {n : ℕ} → WritesCode sheet buffer (pos n) after →
    Writes sheet buffer (Ok n) after
length_written {sheet} {buffer} w =
    record { answers = length_of_lem (answer_of text (judge sheet) (length buffer)) w.answers; leaves = w.leaves }

-- the write service's answer n, which is no refusal: demand 3 of the n bytes at the front of the buffer
pub delivered_demand_3 : {sheet buffer after : List ℕ} {n : ℕ} → WritesCode sheet buffer (pos n) after →
    TextAtFront sheet buffer n after
delivered_demand_3 w = text_at_front (length_written w)

-- which is the answer for every accepted sheet whose text the buffer can hold
pub accepted_answer : {sheet buffer after : List ℕ} {code : ℤ} {s : Sheet} → WritesCode sheet buffer code after →
    judge sheet ≡ accepted s → length (text s) ≤ length buffer → code ≡ pos (length (text s))
accepted_answer {sheet} {buffer} {after} {code} {s} w e h =
    let t = le-leb (length (text s)) (length buffer) h in rw (e, t) at w.answers

-- any other answer is negative, and leaves the buffer as it was
pub refused_leaves : {sheet buffer after : List ℕ} {k : ℕ} → WritesCode sheet buffer (negsuc k) after → after ≡ buffer
refused_leaves {sheet} {buffer} {after} {k} w = go (judge sheet) w.answers w.leaves
  where
    measured : (s : Sheet) (fits : Bool) →
        negsuc k ≡ written_code (pick fits (Ok (length (text s))) (Err Overrun)) →
        after ≡ pick fits (text s ++ drop (length (text s)) buffer) buffer → after ≡ buffer
    measured s true a b = absurd (let z : ◌≡◌ {A = ℕ} 0 1 = cc in omega arith)
    measured s false a b = b

    go : (j : Judged) → negsuc k ≡ written_code (answer_of text j (length buffer)) → after ≡ buffer_of text j buffer →
        after ≡ buffer
    go (refused r) a b = b
    go (accepted s) a b = measured s (leb (length (text s)) (length buffer)) a b

-- ---- editions

-- sheets that differ in their editions only leave the same text, where both are written
pub delivered_same_text : (s t : List ℕ) → SameButEdition s t → {buffer after buffer' after' : List ℕ} {n m : ℕ} →
    WritesCode s buffer (pos n) after → WritesCode t buffer' (pos m) after' → (n ≡ m) × (take n after ≡ take m after')
delivered_same_text s t same v w =
    let x = delivered_demand_3 v in
    let y = delivered_demand_3 w in
    let e =
    written_text (length_written v) x.accepts
    ∙ same_text s t same x.value y.value x.accepts y.accepts
    ∙ sym (written_text (length_written w) y.accepts) in
    (sym (front_length x) ∙ ap length e ∙ front_length y, e)
  where
    front_length : {sheet buffer after : List ℕ} {n : ℕ} → TextAtFront sheet buffer n after → length (take n after) ≡ n
    front_length {after = after} {n} x = length-take-le n after (omega (arith, x.inside, x.same_length))

-- both services that fill a buffer answer an accepted sheet in edition 1 as they answer it in its own
pub older_answers : (f : Sheet → List ℕ) (s t : List ℕ) → SameButEdition s t → edition_of t ≡ 1 → (x : Sheet) →
    judge s ≡ accepted x → {buffer after : List ℕ} {code : ℤ} → Codes f s buffer code after → Codes f t buffer code after
older_answers f s t same older x p w =
    let e : judge s ≡ judge t = p ∙ sym (older_accepted s t same older x p) in
    record { answers = rw e at w.answers; leaves = rw e at w.leaves }
