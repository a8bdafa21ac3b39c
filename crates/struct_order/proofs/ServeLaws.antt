-- From the parts of a check to the promise of the service.
use mathlib.Core.Path.{◌≡◌, refl, sym, ap, ◌∙◌}
use mathlib.Core.List.{List}
use mathlib.Core.Bool.{Bool, true, false}
use Prim.Native.Nat.{ℕ, ◌≤◌}
use native.Mathlib.Nat.{le_trans}
use native.Mathlib.Omega.{arith}
use lib.Dec.{leb}
use lib.ListN.{length, take, replicate}
use borrow.Author.Tests.{leb-true}
use Rattle.refusal.specs.declared.Refusal.{Refusal}
use Rattle.refusal.specs.declared.Refusal.TheVariants.{WrongPart, Taken, UnfitArgument, Ring, Overrun}
use Rattle.format.specs.Limits.{most_names, most_items}
use Rattle.format.specs.Decode.{fault, pick}
use Rattle.format.specs.Sheet.{Sheet}
use Rattle.format.specs.Decoding.{decode}
use Rattle.format.specs.declared.Outline.{Outline}
use Rattle.decode.specs.Tables.{Tables}
use Rattle.view.specs.Values.{items_at}
use Rattle.view.proofs.WholeLaws.{items_are_lem}
use Rattle.std.specs.Prelude.{Result, Ok, Err, IsErrAnd}
use Rattle.rules.specs.Rules.{wrong_part, taken, unfit_argument, ring}
use Rattle.rules.specs.Judge.{Judged, refused, accepted, ruled, judged, judge}
use Rattle.marks.specs.Marking.{places}
use Rattle.check_sheet.specs.Ruled.{ruled_parts}
use Rattle.check_sheet.proofs.CheckLaws.{ready_tables, marked_tables}
use Rattle.services.specs.Services.{struct_order, fitted, answer_of, buffer_of, Serves, Orders}
use Rattle.struct_order.specs.Lists.{Lists, Decodes}

-- ---- a sheet that was decoded, with its tables cut to their lengths

pub decodes : (s : List ℕ) {o : Outline} {names items digests marks : List ℕ} → Tables s (decode s) o names items digests (replicate places 0) marks →
    most_names ≤ length names → most_items ≤ length items →
    Decodes s (take o.names names) (take o.items items) (take o.names digests) marks
decodes s t a b = record {
  ready = ready_tables s t a b;
  marked = marked_tables s t a b;
  sheet = t.items.sheet;
  end = t.items.end;
  decoded = t.items.decoded;
  same = items_are_lem t (le_trans t.few a) (le_trans t.items.few b);
}

-- ---- refusals

orders_refused : (s buffer : List ℕ) {e : Refusal} → judge s ≡ refused e → Orders s buffer (Err e) buffer
orders_refused s buffer h = record { answers = rw h; leaves = rw h }

-- 1 to 8
pub orders_undecoded : (s buffer : List ℕ) {e : Refusal} → decode s ≡ fault e →
    Orders s buffer (Err e) buffer
unfolding judge
orders_undecoded s buffer d = orders_refused s buffer (ap judged d)

-- 9 to 11, else the next
abbrev else_judged : Result Unit Refusal → Judged → Judged
else_judged (Err e) next = refused e
else_judged (Ok u) next = next

module _ (s : List ℕ) {names items digests marks : List ℕ} (d : Decodes s names items digests marks) where
  abbrev by_ring : Judged
  by_ring = pick (ring d.sheet.items) (refused Ring) (accepted d.sheet)

  judge_parts : judge s ≡ else_judged (ruled_parts d.sheet.items) by_ring
  unfolding judge ruled ruled_parts
  judge_parts =
      let x = d.sheet.items in ap judged d.decoded ∙ by_rules (wrong_part x) (taken x) (unfit_argument x) by_ring
    where
      by_rules : (a b c : Bool) (next : Judged) →
          pick a (refused WrongPart) (pick b (refused Taken) (pick c (refused UnfitArgument) next)) ≡
          else_judged (pick a (Err WrongPart)
          (pick b (Err Taken) (pick c (Err UnfitArgument) (Ok tt)))) next
      by_rules true b c next = refl
      by_rules false true c next = refl
      by_rules false false true next = refl
      by_rules false false false next = refl

  module _ (buffer : List ℕ) {r : Result Unit Refusal} (p : r ≡ ruled_parts (items_at s names items)) where
    -- r is the answer of rules 9 to 11
    judge_answered : judge s ≡ else_judged r by_ring
    judge_answered = judge_parts ∙ ap (λ (c : Result Unit Refusal). else_judged c by_ring) (sym (p ∙ ap ruled_parts d.same))

    pub orders_unruled : {e : Refusal} {w : Result ℕ Refusal} → IsErrAnd w (λ d. d ≡ e) → r ≡ Err e → Orders s buffer w buffer
    orders_unruled {w = Ok n} i e = absurd i
    orders_unruled {w = Err d} i e = rw i (orders_refused s buffer (judge_answered ∙ ap (λ (c : Result Unit Refusal). else_judged c by_ring) e))

    -- rules 1 to 11 hold, and the list is written
    pub orders_listed : {after : List ℕ} {w : Result ℕ Refusal} {u : Unit} → r ≡ Ok u →
        Lists (items_at s names items) buffer w after → Orders s buffer w after
    unfolding struct_order
    orders_listed {after} {w} e l =
        let x = d.sheet in
        let j : judge s ≡ by_ring = judge_answered ∙ ap (λ (c : Result Unit Refusal). else_judged c by_ring) e in
        let m : Lists x.items buffer w after = rw d.same at l in
        record {
          answers = rw j (m.answers ∙ (by_ring_lem (ring x.items)).0);
          leaves = rw j (m.leaves ∙ (by_ring_lem (ring x.items)).1);
        }
      where
        by_ring_lem : (t : Bool) →
            (pick t (Err Ring) (answer_of struct_order (accepted d.sheet) (length buffer)) ≡
            answer_of struct_order (pick t (refused Ring) (accepted d.sheet)) (length buffer)) ×
            (pick t buffer (buffer_of struct_order (accepted d.sheet) buffer) ≡
            buffer_of struct_order (pick t (refused Ring) (accepted d.sheet)) buffer)
        by_ring_lem true = (refl, refl)
        by_ring_lem false = (refl, refl)

-- ---- an answered length is at most the buffer's

fitted_inside : (answer : List ℕ) (room : ℕ) {n : ℕ} → fitted answer room ≡ Ok n → n ≤ room
fitted_inside answer room {n} e = go (leb (length answer) room) refl e
  where
    go : (t : Bool) → leb (length answer) room ≡ t →
        ◌≡◌ {A = Result ℕ Refusal} (pick t (Ok (length answer)) (Err Overrun)) (Ok n) → n ≤ room
    go true h q = let z : length answer ≡ n = cc in omega (arith, leb-true (length answer) room h)
    go false h q = absurd (let z : ◌≡◌ {A = ℕ} 0 1 = cc in omega arith)

answer_inside : (f : Sheet → List ℕ) (j : Judged) (room : ℕ) {n : ℕ} → answer_of f j room ≡ Ok n → n ≤ room
answer_inside f (refused e) room q = absurd (let z : ◌≡◌ {A = ℕ} 0 1 = cc in omega arith)
answer_inside f (accepted x) room q = fitted_inside (f x) room q

pub served_inside : {f : Sheet → List ℕ} {sheet buffer after : List ℕ} {w : Result ℕ Refusal} {n : ℕ} →
    Serves f sheet buffer w after → w ≡ Ok n → n ≤ length buffer
served_inside {f} {sheet} {buffer} v e = answer_inside f (judge sheet) (length buffer) (sym v.answers ∙ e)
