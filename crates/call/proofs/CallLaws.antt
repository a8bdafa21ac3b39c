-- Laws of what stands around a call, by the kind of the type that it returns.
use Rattle.std.proofs.Common.{◌≡◌, ℕ, Bool, List, [], ◌++◌, refl}
use Rattle.lexical.specs.Bytes.{bytes}
use Rattle.lexical.specs.Decimal.{pick_text}
use Rattle.format.specs.Types.{Ty}
use Rattle.format.specs.Sheet.{Item}
use Rattle.bridge.specs.Write.{Shape, call_begin, call_end, slot_return}
use Rattle.sink.specs.Sink.{Sink, Wrote}
use Rattle.sink.proofs.SinkLaws.{◌▷◌, wrote_as}
use Rattle.write_type.specs.TypeAt.{ty_at}
use Rattle.shape.specs.declared.ShapeKind.{ShapeKind}
use Rattle.shape.specs.declared.ShapeKind.TheVariants.{RustBox, UniquePtr, Ref, Str, SliceRef, Other}
use Rattle.shape.specs.declared.ShapeView.{ShapeView}
use Rattle.shape.specs.Shapes.{shape_with, is_ref, ShapeOf}
use Rattle.shape.proofs.ShapeLaws.{by_shape}
use Rattle.call.specs.Calls.{is_closed}

-- ---- by kind

end_of : (k : ShapeKind) (m : Bool) (t : Ty) → call_end (shape_with k m t) ≡ pick_text (is_closed k) (bytes ")") []
end_of RustBox m t = refl
end_of UniquePtr m t = refl
end_of Ref m t = refl
end_of Str m t = refl
end_of SliceRef m t = refl
end_of Other m t = refl

slot_of : (k : ShapeKind) (m : Bool) (t : Ty) →
    slot_return (shape_with k m t) ≡ pick_text (is_ref k) (bytes "*return$.value") (bytes "::std::move(return$.value)")
slot_of RustBox m t = refl
slot_of UniquePtr m t = refl
slot_of Ref m t = refl
slot_of Str m t = refl
slot_of SliceRef m t = refl
slot_of Other m t = refl

module _ {n : ℕ} {s : List ℕ} {x : Shape} {v : ShapeView} (o : ShapeOf n s x v) where
  pub begin_written : (items : List Item) (t : Ty) {k : ShapeKind} {r u : Sink} → v.kind ≡ k →
      Wrote r (call_begin items t (shape_with k v.mutable (ty_at n 7 s v.inner.at))) u →
      Wrote r (call_begin items t x) u
  begin_written items t e p = by_shape o e (call_begin items t) p

  pub end_written : {closed : Bool} {r t : Sink} → closed ≡ is_closed v.kind →
      Wrote r (pick_text closed (bytes ")") []) t → Wrote r (call_end x) t
  end_written e p = wrote_as p (rw (e, o.is, end_of v.kind v.mutable (ty_at n 7 s v.inner.at)))

  pub slot_return_written : {reference : Bool} {r t u w : Sink} → reference ≡ is_ref v.kind →
      Wrote r (bytes "  return ") t →
      Wrote t (pick_text reference (bytes "*return$.value") (bytes "::std::move(return$.value)")) u →
      Wrote u (bytes ";\n") w → Wrote r (bytes "  return " ++ slot_return x ++ bytes ";\n") w
  slot_return_written {t = t} {u} e p q z =
      let y : Wrote t (slot_return x) u =
      wrote_as q (rw (e, o.is, slot_of v.kind v.mutable (ty_at n 7 s v.inner.at))) in
      p ▷ y ▷ z
