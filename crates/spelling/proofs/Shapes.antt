-- The types that a call treats in a way of their own, told apart once.
use Rattle.std.proofs.Common.{◌≡◌, Bool, refl}
use Rattle.format.specs.declared.Template.TheVariants.{RustBox, RustVec, UniquePtr, SharedPtr, WeakPtr, CxxVector}
use Rattle.format.specs.declared.Pointer.TheVariants.{Ref, Ptr, SliceRef}
use Rattle.format.specs.Types.{Ty, atom, named, template, pointer, str, fn, array}
use Rattle.bridge.specs.Write as Write
use Rattle.bridge.specs.Write.{Shape, shape}
use Rattle.agreement.specs.Agreement.{Passing, owner_passing}

pub data Shaped : Ty → Shape → Type 0 where
  is_box : (t : Ty) → Shaped (template RustBox t) (Write.rust_box t)
  is_unique_ptr : (t : Ty) → Shaped (template UniquePtr t) (Write.unique_ptr t)
  is_ref : (m : Bool) (t : Ty) → Shaped (pointer Ref m t) (Write.ref m t)
  is_str : Shaped str Write.str
  is_slice : (m : Bool) (t : Ty) → Shaped (pointer SliceRef m t) Write.slice_ref
  is_other : (t : Ty) → ((p : Passing) → owner_passing t p ≡ p) → Shaped t Write.other  -- no Box and no UniquePtr

pub shaped : (t : Ty) → Shaped t (shape t)
shaped (atom a) = is_other (atom a) (λ p. refl)
shaped (named i) = is_other (named i) (λ p. refl)
shaped (template RustBox t) = is_box t
shaped (template RustVec t) = is_other (template RustVec t) (λ p. refl)
shaped (template UniquePtr t) = is_unique_ptr t
shaped (template SharedPtr t) = is_other (template SharedPtr t) (λ p. refl)
shaped (template WeakPtr t) = is_other (template WeakPtr t) (λ p. refl)
shaped (template CxxVector t) = is_other (template CxxVector t) (λ p. refl)
shaped (pointer Ref m t) = is_ref m t
shaped (pointer Ptr m t) = is_other (pointer Ptr m t) (λ p. refl)
shaped (pointer SliceRef m t) = is_slice m t
shaped str = is_str
shaped (fn r ts) = is_other (fn r ts) (λ p. refl)
shaped (array t n) = is_other (array t n) (λ p. refl)
