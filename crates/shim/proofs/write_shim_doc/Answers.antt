use native.Mathlib.Omega.{arith}
use mathlib.Core.Path.{◌≡◌, refl, sym}
use mathlib.Core.List.{List, []}
use Prim.Native.Nat.{ℕ}
use Rattle.std.specs.Prelude.{Option, None, Some}
use Rattle.lexical.specs.Decimal.{pick_text}
use Rattle.bridge.specs.Write.{is_free}
use Rattle.sink.specs.Sink.{Sink, Wrote}
use Rattle.view.specs.declared.FunctionView.{FunctionView}
use Rattle.view.specs.Values.{function_at}
use Rattle.view.specs.Views.{FunctionAt, self_number}
use Rattle.shim.proofs.ShimLaws.{comment_yields, comment_written, comment_none}
use Rattle.shim.proofs.write_shim_doc.Goals as goal

-- a member's comment is not written
comment_member : {s names items : List ℕ} {f : FunctionView} → FunctionAt s names items f → (x : List ℕ) (r : Sink) →
    (self_number f.form ≡ None → ⊥) → Wrote r (pick_text (is_free (function_at s names items f.number).form) x []) r
comment_member {s} {names} {items} {f} a x r h = by_number (self_number f.form) refl
  where
    by_number : (o : Option ℕ) → o ≡ self_number f.form →
        Wrote r (pick_text (is_free (function_at s names items f.number).form) x []) r
    by_number None e = absurd (h (sym e))
    by_number (Some i) e = comment_none a x r e refl

pub write_doc-requires : goal.write_doc-requires
write_doc-requires c = (c.requires.0.tabled.whole.named.limited, comment_yields c.requires.1 _ c.requires.2)

-- Whether the form has a self type is found by `grind`, here and below, and not by the name of what is matched: an edit may
-- match another value, and is refused where that value is wrong.
pub returns-in-None : goal.returns-in-None
returns-in-None c = comment_written c.requires.1 _ c.requires.2 _ refl (grind arith) c.write_doc.ensures

pub returns-in-Some : goal.returns-in-Some
returns-in-Some c = comment_member c.requires.1 _ _ (λ e. grind arith)
