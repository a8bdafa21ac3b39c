-- Laws of a shim's parts.
use mathlib.Core.Path.{◌≡◌, refl, sym, ap, ◌∙◌}
use mathlib.Core.List.{List, [], ◌++◌}
use mathlib.Core.Bool.{Bool, true, false, not, ◌&&◌}
use Prim.Native.Nat.{ℕ}
use lib.ListN.{length}
use Rattle.lexical.specs.Bytes.{bytes}
use Rattle.lexical.specs.Decimal.{pick_text}
use Rattle.lexical.proofs.BoolLaws.{by_cases, both}
use Rattle.format.specs.Types.{Ty}
use Rattle.format.specs.Sheet.{Function, Item, Sheet}
use Rattle.format.specs.Decoding.{type}
use Rattle.std.specs.Prelude.{Option, None, Some, ◌∷◌}
use Rattle.syntax.specs.Items.{self_type}
use Rattle.format.specs.Sheet.{Form, free, const_method, mut_method, associated}
use Rattle.view.specs.Views.{self_number}
use Rattle.view.proofs.FormLaws.{free_form, self_there}
use Rattle.syntax.specs.Mangle.{extern_fn}
use Rattle.rules.specs.Rules.{gather}
use Rattle.bridge.specs.Write.{shape, slot_type, slot, direct, held_local, call_begin, call_end, commas, operands}
use Rattle.bridge.specs.Write.{indirect_return, slot_return, is_free, shim_decl, shim_body, write_doc, function_shim}
use Rattle.sink.specs.Sink.{Sink, Wrote}
use Rattle.sink.proofs.SinkLaws.{◌▷◌, wrote_nil, wrote_as}
use Rattle.view.specs.declared.FunctionView.{FunctionView}
use Rattle.view.specs.Values.{value_or, Yields, items_at, function_at, type_here}
use Rattle.view.specs.Views.{comment_lines, FunctionAt}
use Rattle.cursor.proofs.YieldLaws.{yielded}
use Rattle.shape.proofs.FunctionLaws.{returned, indirect_returns, slot_some, slot_empty, direct_some, direct_slot, direct_none}
use Rattle.shape.proofs.CommaLaws.{gather_none, gather_one}

-- ---- the body

module _ {s names items : List ℕ} {f : FunctionView} (a : FunctionAt s names items f) {indirect : Bool}
    (i : indirect ≡ indirect_return (items_at s names items) (function_at s names items f.number)
    (function_at s names items f.number).return) where
  abbrev this : Function
  this = function_at s names items f.number

  abbrev all : List Item
  all = items_at s names items

  -- the type that it returns
  abbrev result : Ty
  result = type_here (length items) s f.result.at

  pub slot_yields : indirect ≡ true → Yields (type (length items) s f.result.at) result
  slot_yields e = (returned a (indirect_returns a i e)).1

  where_throws : (x : List ℕ) {r t : Sink} → Wrote r (pick_text f.throws x []) t →
      Wrote r (pick_text this.throws x []) t
  where_throws x p = wrote_as p (ap (λ (b : Bool). pick_text b x []) a.view.throws)

  -- what stands for the slot
  slot_is : (g : Ty → List ℕ) → pick_text indirect (g result) [] ≡ gather g (slot all this)
  slot_is g =
      by_cases indirect
      (λ e. rw (e, slot_some a i e, gather_one g))
      (λ e. rw (e, slot_empty a i e, gather_none g))

  module _ {direct' : Bool} (d : direct' ≡ (f.returns && not indirect)) where
    direct_both : direct' ≡ true → (f.returns ≡ true) × (not indirect ≡ true)
    direct_both e = both f.returns (not indirect) (sym d ∙ e)

    pub direct_yields : direct' ≡ true → Yields (type (length items) s f.result.at) result
    direct_yields e = (returned a (direct_both e).0).1

    -- what stands for a direct return
    direct_is : (g : Ty → List ℕ) → pick_text direct' (g result) [] ≡ gather g (direct all this)
    direct_is g =
        by_cases f.returns
        (λ q.
        by_cases indirect
        (λ e. rw (d, q, e, direct_slot a i e, gather_none g))
        (λ e. rw (d, q, e, direct_some a i e q, gather_one g)))
        (λ q. rw (d, q, direct_none a q, gather_none g))

    pub body_written : (x : Item) {r₀ r₁ r₂ r₃ r₄ r₅ r₆ r₇ r₈ r₉ r₁₀ r₁₁ r₁₂ r₁₃ r₁₄ r₁₅ : Sink} →
        Wrote r₀ (bytes " {\n") r₁ → Wrote r₁ (gather (held_local all) this.arguments) r₂ →
        Wrote r₂ (bytes "  ") r₃ →
        Wrote r₃ (pick_text indirect
        (bytes "::rust::MaybeUninit<" ++ slot_type all result (shape result) ++ bytes "> return$;\n" ++ bytes "  ") []) r₄ →
        Wrote r₄ (pick_text direct' (bytes "return " ++ call_begin all result (shape result)) []) r₅ →
        Wrote r₅ (pick_text f.throws (bytes "::rust::repr::PtrLen error$ = ") []) r₆ →
        Wrote r₆ (extern_fn all x.namespace this) r₇ → Wrote r₇ (bytes "(") r₈ →
        Wrote r₈ (commas false (operands all this)) r₉ → Wrote r₉ (bytes ")") r₁₀ →
        Wrote r₁₀ (pick_text direct' (call_end (shape result)) []) r₁₁ → Wrote r₁₁ (bytes ";\n") r₁₂ →
        Wrote r₁₂ (pick_text f.throws
        (bytes "  if (error$.ptr) {\n    throw ::rust::impl<::rust::Error>::error(error$);\n  }\n") []) r₁₃ →
        Wrote r₁₃ (pick_text indirect (bytes "  return " ++ slot_return (shape result) ++ bytes ";\n") []) r₁₄ →
        Wrote r₁₄ (bytes "}\n") r₁₅ → Wrote r₀ (shim_body all x this) r₁₅
    unfolding shim_body
    body_written x p₁ p₂ p₃ p₄ p₅ p₆ p₇ p₈ p₉ p₁₀ p₁₁ p₁₂ p₁₃ p₁₄ p₁₅ =
        p₁ ▷ p₂ ▷ p₃ ▷
        wrote_as p₄
        (slot_is (λ t. bytes "::rust::MaybeUninit<" ++ slot_type all t (shape t) ++ bytes "> return$;\n" ++ bytes "  ")) ▷
        wrote_as p₅ (direct_is (λ t. bytes "return " ++ call_begin all t (shape t))) ▷
        where_throws _ p₆ ▷ p₇ ▷ p₈ ▷ p₉ ▷ p₁₀ ▷ wrote_as p₁₁ (direct_is (λ t. call_end (shape t))) ▷ p₁₂ ▷
        where_throws _ p₁₃ ▷
        wrote_as p₁₄ (slot_is (λ t. bytes "  return " ++ slot_return (shape t) ++ bytes ";\n")) ▷ p₁₅

-- ---- the comment

module _ {s names items : List ℕ} {f : FunctionView} (a : FunctionAt s names items f) where
  module _ (at : ℕ) (comment_there : Yields (comment_lines s at) (function_at s names items f.number).comment) where
    pub comment_yields : Yields (comment_lines s at) (value_or [] (comment_lines s at))
    comment_yields = rw (yielded [] comment_there) comment_there

    pub comment_written : (doxygen : Bool) {o : Option ℕ} {r t : Sink} → o ≡ self_number f.form → o ≡ None →
        Wrote r (write_doc doxygen (value_or [] (comment_lines s at))) t →
        Wrote r (pick_text (is_free (function_at s names items f.number).form)
        (write_doc doxygen (function_at s names items f.number).comment) []) t
    comment_written doxygen e h p = wrote_as p (rw (free_form a.view.form e h, yielded [] comment_there))

  member : (x : Form) {i : ℕ} → self_type x ≡ i ∷ [] → is_free x ≡ false
  member free h = absurd (cons_none h)
    where
      cons_none : {i : ℕ} → [] ≡ i ∷ [] → ⊥
      cons_none h = cc
  member (const_method j) h = refl
  member (mut_method j) h = refl
  member (associated j) h = refl

  pub comment_none : (x : List ℕ) (r : Sink) {o : Option ℕ} {i : ℕ} → o ≡ self_number f.form → o ≡ Some i →
      Wrote r (pick_text (is_free (function_at s names items f.number).form) x []) r
  comment_none x r e h = rw (member _ (self_there a.view.form e h)) (wrote_nil r)

-- ---- the shim

pub shim_written : (sheet : Sheet) (x : Item) (f : Function) {r t u v : Sink} →
    Wrote r (pick_text (is_free f.form) (write_doc sheet.doxygen f.comment) []) t →
    Wrote t (shim_decl sheet.items x f) u →
    Wrote u (pick_text sheet.header (bytes ";\n") (shim_body sheet.items x f)) v →
    Wrote r (function_shim sheet x f) v
unfolding function_shim
shim_written sheet x f p q z = p ▷ q ▷ z
