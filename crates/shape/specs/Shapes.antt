-- The shapes of bridge's Write as the code holds them: a kind, a mutable bit and a position.
use Rattle.std.specs.Prelude.{◌≡◌, List, Bool, true, false, ℕ, ◌-◌}
use Rattle.format.specs.Limits.{most_levels}
use Rattle.format.specs.Types.{Ty}
use Rattle.format.specs.Decoding.{type_at}
use Rattle.format.specs.declared.Template.{Template}
use Rattle.format.specs.declared.Pointer.{Pointer}
use Rattle.format.specs.declared.TypeKind.{TypeKind}
use Rattle.format.specs.declared.TypeKind.TheVariants as Kind
use Rattle.bridge.specs.Write.{Shape, rust_box, unique_ptr, ref, str, slice_ref, other}
use Rattle.view.specs.Values.{Yields}
use Rattle.write_type.specs.TypeAt.{ty_at}
use Rattle.shape.specs.declared.ShapeKind.{ShapeKind}
use Rattle.shape.specs.declared.ShapeKind.TheVariants.{RustBox, UniquePtr, Ref, Str, SliceRef, Other}
use Rattle.shape.specs.declared.ShapeView.{ShapeView}

-- ---- the kind of a type's shape, by the type's kind

abbrev pub template_kind : Template → ShapeKind
template_kind Template.RustBox = RustBox
template_kind Template.UniquePtr = UniquePtr
template_kind Template.RustVec = Other
template_kind Template.SharedPtr = Other
template_kind Template.WeakPtr = Other
template_kind Template.CxxVector = Other

abbrev pub pointer_kind : Pointer → ShapeKind
pointer_kind Pointer.Ref = Ref
pointer_kind Pointer.Ptr = Other
pointer_kind Pointer.SliceRef = SliceRef

abbrev pub shape_kind : TypeKind → ShapeKind
shape_kind (Kind.Template k) = template_kind k
shape_kind (Kind.Pointer k) = pointer_kind k
shape_kind Kind.Str = Str
shape_kind Kind.Atom = Other
shape_kind Kind.Named = Other
shape_kind Kind.Fn = Other
shape_kind Kind.Array = Other
shape_kind Kind.Bad = Other

-- ---- shapes

-- the shape of a kind, with its mutable bit and its inner type where it has them
abbrev pub shape_with : ShapeKind → Bool → Ty → Shape
shape_with RustBox m t = rust_box t
shape_with UniquePtr m t = unique_ptr t
shape_with Ref m t = ref m t
shape_with Str m t = str
shape_with SliceRef m t = slice_ref
shape_with Other m t = other

abbrev pub is_ref : ShapeKind → Bool
is_ref Ref = true
is_ref RustBox = false
is_ref UniquePtr = false
is_ref Str = false
is_ref SliceRef = false
is_ref Other = false

-- a kind that owns its inner type
abbrev pub is_owner : ShapeKind → Bool
is_owner RustBox = true
is_owner UniquePtr = true
is_owner Ref = false
is_owner Str = false
is_owner SliceRef = false
is_owner Other = false

-- a kind with an inner type
abbrev pub has_inner : ShapeKind → Bool
has_inner RustBox = true
has_inner UniquePtr = true
has_inner Ref = true
has_inner Str = false
has_inner SliceRef = false
has_inner Other = false

-- the levels left inside an outermost type
abbrev pub inner_levels : ℕ
inner_levels = most_levels - 1

-- v is a view of the shape x, in a sheet of n items
pub record ShapeOf (n : ℕ) (s : List ℕ) (x : Shape) (v : ShapeView) : Type 0 where
  pub is : x ≡ shape_with v.kind v.mutable (ty_at n inner_levels s v.inner.at)
  pub inner :
      has_inner v.kind ≡ true →
      Yields (type_at n inner_levels s v.inner.at) (ty_at n inner_levels s v.inner.at)
  pub owned : is_owner v.kind ≡ true → v.mutable ≡ true
