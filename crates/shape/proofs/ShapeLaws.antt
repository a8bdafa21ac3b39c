-- The shape of a type, by what stands behind its kind.
use mathlib.Core.Path.{◌≡◌, refl, sym, ap, ◌∙◌}
use mathlib.Core.List.{List}
use mathlib.Core.Bool.{Bool, true, false, false≢true}
use Prim.Native.Nat.{ℕ}
use native.Mathlib.Omega.{arith}
use lib.Dec.{eqb}
use lib.ListN.{length}
use Rattle.format.specs.Decode.{got, many}
use Rattle.format.specs.Bits.{bits, bit, index}
use Rattle.format.specs.Types.{Ty, template}
use Rattle.format.specs.Decoding.{kind_of, optional, type_body, type_at, type}
use Rattle.format.specs.declared.Template.{Template}
use Rattle.format.specs.declared.Pointer.{Pointer}
use Rattle.format.specs.declared.TypeKind.{TypeKind}
use Rattle.format.specs.declared.TypeKind.TheVariants as Kind
use Rattle.bridge.specs.Write.{Shape, other, shape, slot_type}
use Rattle.sink.specs.Sink.{Sink, Wrote}
use Rattle.sink.proofs.SinkLaws.{wrote_as}
use Rattle.cursor.specs.declared.Cursor.{Cursor}
use Rattle.cursor.specs.declared.Found.{Found}
use Rattle.view.specs.Values.{next_of, Yields, type_here, items_at}
use Rattle.view.specs.Views.{Finds}
use Rattle.cursor.proofs.YieldLaws.{in_turn, got_value, yields, bit_value, bit_next}
use Rattle.view.proofs.TypeLaws.{type_body_lem}
use Rattle.write_type.specs.TypeAt.{ty_at}
use Rattle.shape.specs.declared.ShapeKind.{ShapeKind}
use Rattle.shape.specs.declared.ShapeKind.TheVariants.{Other}
use Rattle.shape.specs.declared.ShapeView.{ShapeView}
use Rattle.shape.specs.Shapes.{template_kind, shape_kind, shape_with, is_ref, has_inner, ShapeOf}
use Rattle.write_type.proofs.TypeLaws.{type_is, type_yields}

module _ (n : ℕ) (s : List ℕ) where
  -- no shape of its own
  plain : {c : Cursor} → ShapeOf n s other (record { kind = Other; mutable = true; inner = c })
  plain = record { is = refl; inner = λ h. absurd (false≢true h); owned = λ h. absurd (false≢true h) }

  template_shape_lem : (k : Template) {c : Cursor} {t : Ty} {m : ℕ} → type_at n 7 s c.at ≡ got t m →
      ShapeOf n s (shape (template k t)) (record { kind = template_kind k; mutable = true; inner = c })
  template_shape_lem Template.RustBox e =
      record { is = rw (type_is n 7 s _ (yields e)); inner = λ h. type_yields n 7 s _ (yields e); owned = λ h. refl }
  template_shape_lem Template.UniquePtr e =
      record { is = rw (type_is n 7 s _ (yields e)); inner = λ h. type_yields n 7 s _ (yields e); owned = λ h. refl }
  template_shape_lem Template.RustVec e = plain
  template_shape_lem Template.SharedPtr e = plain
  template_shape_lem Template.WeakPtr e = plain
  template_shape_lem Template.CxxVector e = plain

  -- any but a reference, at the position behind its kind
  body_shape : (k : TypeKind) {c : Cursor} {t : Ty} {m : ℕ} → type_body k n (type_at n 7) s c.at ≡ got t m →
      is_ref (shape_kind k) ≡ false → ShapeOf n s (shape t) (record { kind = shape_kind k; mutable = true; inner = c })
  body_shape (Kind.Template k) {c} h z =
      in_turn (type_at n 7 s c.at) _ h (λ u a e h₁. rw (← got_value h₁) (template_shape_lem k e))
  body_shape (Kind.Pointer Pointer.Ref) h z = absurd (false≢true (sym z))
  body_shape (Kind.Pointer Pointer.Ptr) {c} h z =
      in_turn (bit s c.at) _ h (λ b a e h₁. in_turn (type_at n 7 s a) _ h₁ (λ u d f h₂. rw (← got_value h₂) plain))
  body_shape (Kind.Pointer Pointer.SliceRef) {c} h z =
      in_turn (bit s c.at) _ h (λ b a e h₁. in_turn (type_at n 7 s a) _ h₁ (λ u d f h₂.
      rw (← got_value h₂) record { is = refl; inner = λ h. absurd (false≢true h); owned = λ h. absurd (false≢true h) }))
  body_shape Kind.Str h z =
      rw (← got_value h) record { is = refl; inner = λ h. absurd (false≢true h); owned = λ h. absurd (false≢true h) }
  body_shape Kind.Atom {c} h z = in_turn (bits 4 s c.at) _ h (λ a b e h₁. rw (← got_value h₁) plain)
  body_shape Kind.Named {c} h z = in_turn (index n s c.at) _ h (λ a b e h₁. rw (← got_value h₁) plain)
  body_shape Kind.Fn {c} h z =
      in_turn (optional (type_at n 7) s c.at) _ h (λ r a e h₁.
      in_turn (bits 4 s a) _ h₁ (λ k b e₂ h₂.
      in_turn (many k (type_at n 7) s b) _ h₂ (λ ts d e₃ h₃. rw (← got_value h₃) plain)))
  body_shape Kind.Array {c} h z =
      in_turn (type_at n 7 s c.at) _ h (λ a b e h₁.
      in_turn (bits 32 s b) _ h₁ (λ d f e₂ h₂. rw (← got_value h₂) plain))
  body_shape Kind.Bad h z = absurd (let y : ◌≡◌ {A = ℕ} 0 1 = cc in omega arith)

  -- a reference: its bit stands behind the kind
  body_reference : (k : TypeKind) (at : ℕ) {r : Found} {t : Ty} {m : ℕ} →
      type_body k n (type_at n 7) s at ≡ got t m → Finds (bits 1 s at) 1 r → is_ref (shape_kind k) ≡ true →
      ShapeOf n s (shape t) (record { kind = shape_kind k; mutable = eqb r.value 1; inner = r.next })
  body_reference (Kind.Pointer Pointer.Ref) at {r} h f z =
      in_turn (bit s at) _ h (λ b a e h₁. in_turn (type_at n 7 s a) _ h₁ (λ u d g h₂.
      let there : type_at n 7 s r.next.at ≡ got u d = rw (← bit_next s at e f) g in
      rw (← got_value h₂) record {
        is = rw (type_is n 7 s _ (yields there), bit_value s at e f);
        inner = λ q. type_yields n 7 s _ (yields there);
        owned = λ q. absurd (false≢true q);
      }))
  body_reference (Kind.Pointer Pointer.Ptr) at h f z = absurd (false≢true z)
  body_reference (Kind.Pointer Pointer.SliceRef) at h f z = absurd (false≢true z)
  body_reference (Kind.Template Template.RustBox) at h f z = absurd (false≢true z)
  body_reference (Kind.Template Template.UniquePtr) at h f z = absurd (false≢true z)
  body_reference (Kind.Template Template.RustVec) at h f z = absurd (false≢true z)
  body_reference (Kind.Template Template.SharedPtr) at h f z = absurd (false≢true z)
  body_reference (Kind.Template Template.WeakPtr) at h f z = absurd (false≢true z)
  body_reference (Kind.Template Template.CxxVector) at h f z = absurd (false≢true z)
  body_reference Kind.Str at h f z = absurd (false≢true z)
  body_reference Kind.Atom at h f z = absurd (false≢true z)
  body_reference Kind.Named at h f z = absurd (false≢true z)
  body_reference Kind.Fn at h f z = absurd (false≢true z)
  body_reference Kind.Array at h f z = absurd (false≢true z)
  body_reference Kind.Bad at h f z = absurd (false≢true z)

  -- ---- what was read of the type at a position

  module _ (at : ℕ) {t : Ty} {k : Found} (y : Yields (type n s at) t) (f : Finds (bits 4 s at) 4 k)
      {j : TypeKind} (read : j ≡ kind_of k.value) {kind : ShapeKind} (known : kind ≡ shape_kind j)
      {b : Bool} (test : b ≡ is_ref kind) where
    body : type_body j n (type_at n 7) s k.next.at ≡ got t (next_of (type n s at))
    body = rw read (type_body_lem n s at y f)

    pub shape_plain : b ≡ false → ShapeOf n s (shape t) (record { kind = kind; mutable = true; inner = k.next })
    shape_plain h = rw known (body_shape j body (rw (← known) (sym test ∙ h)))

    pub shape_reference : {r : Found} → b ≡ true → Finds (bits 1 s k.next.at) 1 r →
        ShapeOf n s (shape t) (record { kind = kind; mutable = eqb r.value 1; inner = r.next })
    shape_reference h g = rw known (body_reference j k.next.at body g (rw (← known) (sym test ∙ h)))

-- ---- what is written by a view's kind

module _ {n : ℕ} {s : List ℕ} {x : Shape} {v : ShapeView} (o : ShapeOf n s x v) {k : ShapeKind} (e : v.kind ≡ k) where
  pub shape_as : x ≡ shape_with k v.mutable (ty_at n 7 s v.inner.at)
  shape_as = o.is ∙ rw e

  -- a text for each shape
  pub by_shape : (table : Shape → List ℕ) {r t : Sink} →
      Wrote r (table (shape_with k v.mutable (ty_at n 7 s v.inner.at))) t → Wrote r (table x) t
  by_shape table p = wrote_as p (ap table (sym shape_as))

  pub has_inner_lem : has_inner k ≡ true → Yields (type_at n 7 s v.inner.at) (ty_at n 7 s v.inner.at)
  has_inner_lem h = o.inner (rw e h)

module _ (s names items : List ℕ) (at : ℕ) where
  abbrev here : Ty
  here = type_here (length items) s at

  pub slot_type_lem : {v : ShapeView} {k : ShapeKind} {r t : Sink} → ShapeOf (length items) s (shape here) v → v.kind ≡ k →
      Wrote r (slot_type (items_at s names items) here
      (shape_with k v.mutable (ty_at (length items) 7 s v.inner.at))) t →
      Wrote r (slot_type (items_at s names items) here (shape here)) t
  slot_type_lem o e p = by_shape o e (λ x. slot_type (items_at s names items) here x) p
