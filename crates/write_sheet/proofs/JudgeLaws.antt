-- From the rules, and from the decoded sheet, to the promise of the service.
use mathlib.Core.Path.{◌≡◌, refl, sym, ap, ◌∙◌}
use mathlib.Core.List.{List}
use mathlib.Core.Bool.{Bool, true, false}
use Prim.Native.Nat.{ℕ, ◌≤◌}
use native.Mathlib.Nat.{le_trans}
use lib.ListN.{length, take, replicate}
use Rattle.refusal.specs.declared.Refusal.{Refusal}
use Rattle.refusal.specs.declared.Refusal.TheVariants.{WrongPart, Taken, UnfitArgument, Ring}
use Rattle.format.specs.Decode.{fault, got, pick}
use Rattle.format.specs.Sheet.{Sheet}
use Rattle.format.specs.Decoding.{decode}
use Rattle.format.specs.declared.Outline.{Outline}
use Rattle.marks.specs.Marking.{places}
use Rattle.decode.specs.Tables.{Tables}
use Rattle.view.specs.Values.{items_at}
use Rattle.view.proofs.WholeLaws.{items_are_lem}
use Rattle.std.specs.Prelude.{Result, Ok, Err, IsErrAnd}
use Rattle.rules.specs.Rules.{wrong_part, taken, unfit_argument, ring}
use Rattle.rules.specs.Judge.{refused, accepted, ruled, judge}
use Rattle.bridge.specs.Write.{text}
use Rattle.services.specs.Services.{Writes}
use Rattle.check_sheet.specs.Ruled.{ruled_parts, else_checked, ruled_items}
use Rattle.sections.specs.Runs.{sheet_of}
use Rattle.deliver.specs.Delivers.{Delivers}
use Rattle.write_sheet.specs.Judges.{JudgedBy, Judges}

-- ---- the rules

pub judged_refused : {x : Sheet} (buffer : List ℕ) {e : Refusal} {c : Result Unit Refusal} {r : Result ℕ Refusal} →
    IsErrAnd r (λ d. d ≡ e) → c ≡ ruled_items x.items → c ≡ Err e → Judges x buffer r buffer
judged_refused buffer {r = Ok n} i a b = absurd i
judged_refused buffer {r = Err d} i a b = record { is = rw (sym a ∙ b) (ap Err i, refl) }

pub judged_accepted : {x : Sheet} {buffer after : List ℕ} {r : Result ℕ Refusal} {c : Result Unit Refusal} {u : Unit} → c ≡ ruled_items x.items →
    c ≡ Ok u → Delivers (text x) buffer r after → Judges x buffer r after
judged_accepted a b d = record { is = rw (sym a ∙ b) d }

-- ---- the sheet

pub writes_refused : (s buffer : List ℕ) {e : Refusal} → decode s ≡ fault e → Writes s buffer (Err e) buffer
unfolding judge
writes_refused s buffer h = record { answers = rw h; leaves = rw h }

by_rules : (a b c d : Bool) (x : Sheet) {buffer after : List ℕ} {r : Result ℕ Refusal} →
    JudgedBy (else_checked
    (pick a (Err WrongPart) (pick b (Err Taken) (pick c (Err UnfitArgument) (Ok tt))))
    (pick d (Err Ring) (Ok tt))) x buffer r after →
    (s : List ℕ) → judge s ≡ pick a (refused WrongPart) (pick b (refused Taken) (pick c (refused UnfitArgument)
    (pick d (refused Ring) (accepted x)))) → Writes s buffer r after
by_rules true b c d x h s e = record { answers = rw e h.0; leaves = rw e h.1 }
by_rules false true c d x h s e = record { answers = rw e h.0; leaves = rw e h.1 }
by_rules false false true d x h s e = record { answers = rw e h.0; leaves = rw e h.1 }
by_rules false false false true x h s e = record { answers = rw e h.0; leaves = rw e h.1 }
by_rules false false false false x h s e = record { answers = rw e h.answers; leaves = rw e h.leaves }

pub writes_judged : (s : List ℕ) {x : Sheet} {n : ℕ} {buffer after : List ℕ} {r : Result ℕ Refusal} → decode s ≡ got x n →
    Judges x buffer r after → Writes s buffer r after
unfolding judge ruled ruled_items ruled_parts
writes_judged s {x} h j =
    by_rules (wrong_part x.items) (taken x.items) (unfit_argument x.items) (ring x.items) x j.is s (rw h)

-- a decoded sheet is that of its outline and its tables
pub writes_tables : (s : List ℕ) {o : Outline} {names items digests marks buffer after : List ℕ} {r : Result ℕ Refusal} →
    Tables s (decode s) o names items digests (replicate places 0) marks → 1023 ≤ length names → 255 ≤ length items →
    Judges (sheet_of o.header o.doxygen (items_at s (take o.names names) (take o.items items))) buffer r after →
    Writes s buffer r after
writes_tables s {o} {names} {items} {digests} {marks} {buffer} {after} {r} t a b j =
    writes_judged s t.items.decoded
    (rw (
      t.items.header,
      t.items.doxygen,
      items_are_lem t (le_trans t.few a) (le_trans t.items.few b),
    ) at j)
