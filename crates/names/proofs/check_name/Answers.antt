use native.Mathlib.Omega.{arith}
use mathlib.Core.Path.{◌≡◌, refl}
use mathlib.Core.List.{List}
use Prim.Native.Nat.{ℕ}
use Rattle.std.specs.Prelude.{Result, Err}
use Rattle.refusal.specs.declared.Refusal.{Refusal}
use Rattle.refusal.specs.declared.Refusal.TheVariants.{CutSheet}
use Rattle.lexical.specs.Names.{table_of, sheet_name}
use Rattle.format.specs.Decoding.{name_by}
use Rattle.format.specs.Bits.{bits}
use Rattle.cursor.specs.declared.Found.{Found}
use Rattle.cursor.specs.Checking.{ReadsField}
use Rattle.cursor.proofs.FieldLaws.{value, cut, field_lt, field_fault}
use Rattle.text.proofs.CharLaws.{field_end}
use Rattle.names.proofs.DigestLaws.{unread, name_short, name_good, name_bad}
use Rattle.names.proofs.JudgeLaws.{told_good, told_bad}
use Rattle.names.proofs.check_name.Goals as goal

-- a field's one refusal
cut_only : (n : ℕ) (s : List ℕ) (at : ℕ) {r : Result Found Refusal} → ReadsField (bits n s at) r →
    (e : Refusal) → r ≡ Err e → e ≡ CutSheet
cut_only n s at h e g = field_fault n s at (cut h g)

-- What was read is found by `grind`, here and below, and not by the name of what `?` is asked of: an edit may put another
-- value there, and is refused where that value is wrong.
pub returns-in_err-length : goal.returns-in_err-length
unfolding name_by
returns-in_err-length c =
    let g : c.read.result ≡ Err c.in_err-length.field-0.0 = grind (arith, cut_only _ _ _ c.read.ensures) in
    unread c.from_residual.ensures.1 (rw (cut c.read.ensures g) refl)

pub overflow_mul-behind : goal.overflow_mul-behind
overflow_mul-behind c =
    let e = value {f = c.in_ok-length.length} c.read.ensures (grind arith) in
    omega (arith, field_lt 6 _ _ e)

pub overflow_add-behind : goal.overflow_add-behind
overflow_add-behind c =
    let e = value {f = c.in_ok-length.length} c.read.ensures (grind arith) in
    omega (arith, field_lt 6 _ _ e, field_end 6 _ _ e)

pub returns-then-end_of-behind : goal.returns-then-end_of-behind
returns-then-end_of-behind c =
    let e = value {f = c.in_ok-length.length} c.read.ensures (grind arith) in
    name_short (sheet_name (table_of c.args.edition)) _ _ e (omega arith)

pub returns-in-Some : goal.returns-in-Some
returns-in-Some c =
    let e = value {f = c.in_ok-length.length} c.read.ensures (grind arith) in
    let q = told_good _ _ c.judge_name.ensures c.in-Some.is in
    name_good (sheet_name (table_of c.args.edition)) _ _ e (omega arith) q.0 q.1

pub returns-in-None : goal.returns-in-None
returns-in-None c =
    let e = value {f = c.in_ok-length.length} c.read.ensures (grind arith) in
    name_bad (sheet_name (table_of c.args.edition)) _ _ e (omega arith) (told_bad _ _ c.judge_name.ensures c.in-None.is)
