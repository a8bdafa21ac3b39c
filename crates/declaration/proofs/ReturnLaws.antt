-- Laws of a declaration: its return type, and its parts in a row.
use Rattle.std.proofs.Common.{◌≡◌, ℕ, Bool, true, false, List, length, sym, ap, ◌∙◌}
use Rattle.lexical.specs.Bytes.{bytes}
use Rattle.format.specs.Types.{Ty, Ret}
use Rattle.format.specs.Sheet.{Function, Item}
use Rattle.syntax.specs.Items.{item_at}
use Rattle.syntax.specs.Mangle.{extern_fn}
use Rattle.bridge.specs.Write.{commas, indirect_return, shape, direct_return, direct_return_of, extern_return}
use Rattle.bridge.specs.Write.{extern_parameters, function_decl}
use Rattle.sink.specs.Sink.{Sink, Wrote}
use Rattle.sink.proofs.SinkLaws.{◌▷◌, wrote_as}
use Rattle.view.specs.declared.FunctionView.{FunctionView}
use Rattle.view.specs.Values.{items_at, function_at, type_here}
use Rattle.view.specs.Views.{FunctionAt}
use Rattle.write_type.specs.TypeAt.{ty_at}
use Rattle.shape.specs.declared.ShapeKind.{ShapeKind}
use Rattle.shape.specs.declared.ShapeView.{ShapeView}
use Rattle.shape.specs.Shapes.{shape_with, ShapeOf}
use Rattle.shape.proofs.ShapeLaws.{by_shape}
use Rattle.shape.proofs.FunctionLaws.{returned, returned_none}

-- ---- types by their shapes

module _ (s names items : List ℕ) (at : ℕ) where
  abbrev here : Ty
  here = type_here (length items) s at

  module _ {v : ShapeView} (o : ShapeOf (length items) s (shape here) v) {k : ShapeKind} (e : v.kind ≡ k)
      {r t : Sink} where
    pub direct_return_lem :
        Wrote r (direct_return (items_at s names items) here
        (shape_with k v.mutable (ty_at (length items) 7 s v.inner.at))) t →
        Wrote r (direct_return (items_at s names items) here (shape here)) t
    direct_return_lem p = by_shape o e (λ x. direct_return (items_at s names items) here x) p

-- ---- the return type

throwing : (items : List Item) (f : Function) → f.throws ≡ true → extern_return items f ≡ bytes "::rust::repr::PtrLen "
unfolding extern_return
throwing items f e = rw e

indirect : (items : List Item) (f : Function) → f.throws ≡ false → indirect_return items f f.return ≡ true →
    extern_return items f ≡ bytes "void "
unfolding extern_return
indirect items f e h = rw (h, e)

direct : (items : List Item) (f : Function) → f.throws ≡ false → indirect_return items f f.return ≡ false →
    extern_return items f ≡ direct_return_of items f.return
unfolding extern_return
direct items f e h = rw (h, e)

module _ {s names items : List ℕ} {f : FunctionView} (a : FunctionAt s names items f) where
  abbrev this : Function
  this = function_at s names items f.number

  abbrev all : List Item
  all = items_at s names items

  abbrev result : Ty
  result = type_here (length items) s f.result.at

  pub return_throws : f.throws ≡ true → bytes "::rust::repr::PtrLen " ≡ extern_return all this
  return_throws e = sym (throwing all this (sym a.view.throws ∙ e))

  module _ (e : f.throws ≡ false) {b : Bool} (h : b ≡ indirect_return all this this.return) where
    pub return_indirect : b ≡ true → bytes "void " ≡ extern_return all this
    return_indirect q = sym (indirect all this (sym a.view.throws ∙ e) (sym h ∙ q))

    directly : b ≡ false → extern_return all this ≡ direct_return_of all this.return
    directly q = direct all this (sym a.view.throws ∙ e) (sym h ∙ q)

    pub return_direct : b ≡ false → f.returns ≡ true → direct_return all result (shape result) ≡ extern_return all this
    return_direct q z = sym (directly q ∙ ap (λ (y : Ret). direct_return_of all y) (returned a z).0)

    pub return_none : b ≡ false → f.returns ≡ false → bytes "void " ≡ extern_return all this
    return_none q z = sym (directly q ∙ ap (λ (y : Ret). direct_return_of all y) (returned_none a z))

-- ---- the declaration

module _ (s names items : List ℕ) {i k : ℕ} (e : k ≡ i) where
  pub declared : {r t u v w z : Sink} → Wrote r (extern_return (items_at s names items) (function_at s names items k)) t →
      Wrote t (extern_fn (items_at s names items) (item_at (items_at s names items) i).namespace
      (function_at s names items k)) u →
      Wrote u (bytes "(") v →
      Wrote v (commas false (extern_parameters (items_at s names items) (function_at s names items k))) w →
      Wrote w (bytes ") noexcept;\n") z →
      Wrote r (function_decl (items_at s names items) (item_at (items_at s names items) i) (function_at s names items i)) z
  unfolding function_decl
  declared a b c d h = wrote_as (a ▷ b ▷ c ▷ d ▷ h) (rw e)
