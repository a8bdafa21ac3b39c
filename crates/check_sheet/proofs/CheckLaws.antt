-- The answer to a sheet, from its decoding and the rules 9 to 12 on its items.
use mathlib.Core.Path.{◌≡◌, refl, sym, ap, ◌∙◌}
use mathlib.Core.List.{List}
use mathlib.Core.Bool.{Bool, true, false}
use Prim.Native.Nat.{ℕ, ◌≤◌}
use native.Mathlib.Nat.{le_trans}
use lib.ListN.{length, take, replicate}
use Rattle.refusal.specs.declared.Refusal.{Refusal}
use Rattle.refusal.specs.declared.Refusal.TheVariants.{WrongPart, Taken, UnfitArgument, Ring}
use Rattle.format.specs.Limits.{most_names, most_items}
use Rattle.format.specs.Decode.{fault, got, pick}
use Rattle.format.specs.Sheet.{Item, Sheet}
use Rattle.format.specs.Decoding.{decode}
use Rattle.format.specs.declared.Outline.{Outline}
use Rattle.decode.specs.Tables.{Tables}
use Rattle.decode.proofs.AnswerLaws.{decoded_limited}
use Rattle.marks.specs.Marking.{places}
use Rattle.judge.specs.Marked.{Marked}
use Rattle.view.specs.Values.{items_at, Ready}
use Rattle.view.proofs.WholeLaws.{ready, items_are_lem}
use Rattle.std.specs.Prelude.{Result, Ok, Err, IsErrAnd}
use Rattle.rules.specs.Rules.{wrong_part, taken, unfit_argument, ring}
use Rattle.rules.specs.Judge as Judge
use Rattle.rules.specs.Judge.{ruled, checked_of, check}
use Rattle.check_sheet.specs.Ruled.{else_checked, ruled_parts, ruled_items}

-- a refusal of 9 to 11 is handed on
pub refused_parts : (items : List Item) {r c : Result Unit Refusal} {e : Refusal} → IsErrAnd r (λ d. d ≡ e) →
    c ≡ ruled_parts items → c ≡ Err e → r ≡ ruled_items items
unfolding ruled_items
refused_parts items {r = Ok u} i a b = absurd i
refused_parts items {r = Err d} i a b = rw (sym a ∙ b) (ap Err i)

pub check_refused : (s : List ℕ) {e : Refusal} → decode s ≡ fault e → Err e ≡ check s
unfolding check Judge.judge
check_refused s h = rw h

by_rules : (a b c d : Bool) (x : Sheet) →
    checked_of (pick a (Judge.refused WrongPart) (pick b (Judge.refused Taken)
    (pick c (Judge.refused UnfitArgument) (pick d (Judge.refused Ring) (Judge.accepted x))))) ≡
    else_checked (pick a (Err WrongPart) (pick b (Err Taken) (pick c (Err UnfitArgument) (Ok tt))))
    (pick d (Err Ring) (Ok tt))
by_rules true b c d x = refl
by_rules false true c d x = refl
by_rules false false true d x = refl
by_rules false false false true x = refl
by_rules false false false false x = refl

pub check_decoded : (s : List ℕ) {x : Sheet} {m : ℕ} → decode s ≡ got x m → check s ≡ ruled_items x.items
unfolding check Judge.judge ruled ruled_items ruled_parts
check_decoded s {x} h =
    rw h (by_rules (wrong_part x.items) (taken x.items) (unfit_argument x.items) (ring x.items) x)

-- a decoded sheet's items are those that its tables give
module _ (s : List ℕ) {o : Outline} {names items digests marks : List ℕ}
    (t : Tables s (decode s) o names items digests (replicate places 0) marks) (a : most_names ≤ length names)
    (b : most_items ≤ length items) where
  pub check_tables : {r : Result Unit Refusal} → r ≡ ruled_items (items_at s (take o.names names) (take o.items items)) →
      r ≡ check s
  check_tables e =
      e ∙ ap ruled_items (items_are_lem t (le_trans t.few a) (le_trans t.items.few b)) ∙
      sym (check_decoded s t.items.decoded)

  pub ready_tables : Ready s (take o.names names) (take o.items items) (take o.names digests)
  ready_tables =
      ready t (le_trans t.few a) (le_trans t.items.few b) (decoded_limited s t.items.decoded)

  pub marked_tables : Marked s (take o.names names) (take o.items items) marks
  marked_tables = record {
    is = rw (items_are_lem t (le_trans t.few a) (le_trans t.items.few b)) t.items.marked;
  }
