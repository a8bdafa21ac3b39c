-- Laws of the parameters of a declaration.
use mathlib.Core.Path.{◌≡◌, refl, sym, ap, ◌∙◌}
use mathlib.Core.List.{List, [], ◌++◌, map, append-nil}
use mathlib.Core.Bool.{Bool, true, false, ◌||◌, false≢true}
use Prim.Native.Nat.{ℕ, zero, suc}
use lib.Dec.{eqb, ltb}
use lib.ListN.{length}
use Rattle.lexical.specs.Bytes.{bytes}
use Rattle.lexical.specs.Decimal.{pick_text}
use Rattle.format.specs.Types.{Ty}
use Rattle.format.specs.Sheet.{Form, free, const_method, mut_method, associated, Function, Item}
use Rattle.format.specs.declared.TypeKind.{TypeKind}
use Rattle.syntax.specs.Items.{item_at, full_name}
use Rattle.rules.specs.Rules.{is_method}
use Rattle.bridge.specs.Write.{commas, indirect_return, shape, extern_arg}
use Rattle.bridge.specs.Write.{receiver, slot_type, slot, extern_parameters}
use Rattle.sink.specs.Sink.{Sink, Wrote}
use Rattle.sink.proofs.SinkLaws.{◌▷◌, wrote_nil, wrote_as}
use Rattle.view.specs.declared.FunctionView.{FunctionView}
use Rattle.view.specs.Values.{items_at, function_at, type_here}
use Rattle.view.specs.declared.FormView.{FormView}
use Rattle.view.specs.declared.FormView.TheVariants.{Free, ConstMethod, MutMethod, Associated}
use Rattle.std.specs.Prelude.{◌<◌, Some}
use Rattle.view.specs.Views.{form_of, form_view, self_number, FunctionAt, ArgumentsAt, kind_of_type}
use Rattle.write_atom.specs.Texts.{space_of_kind}
use Rattle.write_type.proofs.TypeLaws.{space_is}
use Rattle.shape.proofs.FunctionLaws.{slot_some, slot_empty, method_is, arguments_count}
use Rattle.shape.proofs.CommaLaws.{is_some, some_map, some_count, commas_three, commas_none, commas_one}
use Rattle.parameters.specs.Parts.{slot_parameter}

-- ---- the parts of a function

module _ {s names items : List ℕ} {f : FunctionView} (a : FunctionAt s names items f) where
  abbrev this : Function
  this = function_at s names items f.number

  abbrev all : List Item
  all = items_at s names items

  abbrev result : Ty
  result = type_here (length items) s f.result.at

  -- ---- the receiver

  module _ {b : Bool} (h : b ≡ is_method (form_of f.form)) where
    -- by the number of its form, and its self type's item
    pub receiver_some : (k i : ℕ) → f.form ≡ form_view k i → b ≡ true →
        full_name (item_at all i) ++ pick_text (eqb k 1) (bytes " const") [] ++ bytes " &self" ≡
        commas false (receiver all this.form)
    receiver_some k i v e = rw (a.view.form.form, v) (by_form k i (rw v at (sym h ∙ e)))
      where
        by_form : (k i : ℕ) → is_method (form_of (form_view k i)) ≡ true →
            full_name (item_at all i) ++ pick_text (eqb k 1) (bytes " const") [] ++ bytes " &self" ≡
            commas false (receiver all (form_of (form_view k i)))
        by_form zero i q = absurd (false≢true q)
        by_form (suc zero) i q = sym (commas_one false _)
        by_form (suc (suc zero)) i q = rw append-nil (sym (commas_one false _))
        by_form (suc (suc (suc k))) i q = absurd (false≢true q)

    pub receiver_none : b ≡ false → [] ≡ commas false (receiver all this.form)
    receiver_none e = rw a.view.form.form (by_form f.form (sym h ∙ e))
      where
        by_form : (x : FormView) → is_method (form_of x) ≡ false → [] ≡ commas false (receiver all (form_of x))
        by_form Free q = sym (commas_none false)
        by_form (ConstMethod i) q = absurd (false≢true (sym q))
        by_form (MutMethod i) q = absurd (false≢true (sym q))
        by_form (Associated i) q = sym (commas_none false)

    pub receiver_owner : b ≡ true → f.form ≡ Free → ⊥
    receiver_owner e z = false≢true (rw z at (sym h ∙ e))

  module _ {i : ℕ} where
    pub receiver_const : f.form ≡ ConstMethod i →
        full_name (item_at all i) ++ bytes " const" ++ bytes " &self" ≡ commas false (receiver all this.form)
    receiver_const e = rw (a.view.form.form, e) (sym (commas_one false _))

    pub receiver_mut : f.form ≡ MutMethod i →
        full_name (item_at all i) ++ bytes " &self" ≡ commas false (receiver all this.form)
    receiver_mut e = rw (a.view.form.form, e) (sym (commas_one false _))

    pub receiver_associated : f.form ≡ Associated i → [] ≡ commas false (receiver all this.form)
    receiver_associated e = rw (a.view.form.form, e) (sym (commas_none false))

    -- the number of its self type's item
    pub self_below : self_number f.form ≡ Some i → i < length items
    self_below e = rw e at a.view.form.owner

  pub receiver_free : f.form ≡ Free → [] ≡ commas false (receiver all this.form)
  receiver_free e = rw (a.view.form.form, e) (sym (commas_none false))

  receiver_count : (x : Form) → is_some (receiver all x) ≡ is_method x
  receiver_count free = refl
  receiver_count (const_method i) = refl
  receiver_count (mut_method i) = refl
  receiver_count (associated i) = refl

  -- ---- the slot

  module _ {b : Bool} (h : b ≡ indirect_return all this this.return) (comma : Bool) where
    pub slot_written : {k : TypeKind} {r t u v w : Sink} → b ≡ true → Wrote r (pick_text comma (bytes ", ") []) t →
        Wrote t (slot_type all result (shape result)) u → k ≡ kind_of_type result → Wrote u (space_of_kind k) v →
        Wrote v (bytes "*return$") w → Wrote r (commas comma (map (slot_parameter all) (slot all this))) w
    slot_written e p q z x y =
        let space = wrote_as x (ap space_of_kind z ∙ sym (space_is result)) in
        wrote_as (p ▷ (q ▷ space ▷ y)) (rw (slot_some a h e) (sym (commas_one comma (slot_parameter all result))))

    pub slot_left : (r : Sink) → b ≡ false → Wrote r (commas comma (map (slot_parameter all) (slot all this))) r
    slot_left r e = wrote_as (wrote_nil r) (rw (slot_empty a h e) (sym (commas_none comma)))

  -- ---- the parameters

  module _ {offsets : List ℕ} (g : ArgumentsAt s names items f offsets) {b : Bool}
      (h : b ≡ is_method (form_of f.form)) {c : Bool} (d : c ≡ (b || ltb 0 f.arguments)) where
    pub parameters : {r t u v : Sink} → Wrote r (commas false (receiver all this.form)) t →
        Wrote t (commas b (map (extern_arg all) this.arguments)) u →
        Wrote u (commas c (map (slot_parameter all) (slot all this))) v →
        Wrote r (commas false (extern_parameters all this)) v
    unfolding extern_parameters
    parameters p q w =
        let one : is_some (receiver all this.form) ≡ b = receiver_count this.form ∙ sym (method_is a h) in
        let two : is_some (map (extern_arg all) this.arguments) ≡ ltb 0 f.arguments =
        some_map (extern_arg all) this.arguments ∙ some_count this.arguments (arguments_count g) in
        wrote_as (p ▷ q ▷ w)
        (sym (commas_three (receiver all this.form) (map (extern_arg all) this.arguments) _ ∙ rw (one, two, ← d)))
