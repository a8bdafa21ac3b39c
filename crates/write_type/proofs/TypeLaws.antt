-- Laws for whoever has a type written: where a decoder yields a type, it is the type at that position; and the space
-- behind a type.
use Rattle.std.proofs.Common.{◌≡◌, ℕ, List, refl}
use Rattle.format.specs.Types.{Ty, atom, named, template, pointer, str, fn, array}
use Rattle.format.specs.Decoding.{type_at, type}
use Rattle.bridge.specs.WriteType.{space_after_type}
use Rattle.view.specs.Values.{Yields}
use Rattle.view.specs.Views.{kind_of_type}
use Rattle.cursor.proofs.YieldLaws.{yielded}
use Rattle.write_atom.specs.Texts.{space_of_kind}
use Rattle.write_type.specs.TypeAt.{ty_at}

module _ (n levels : ℕ) (s : List ℕ) (at : ℕ) {t : Ty} (h : Yields (type_at n levels s at) t) where
  pub type_is : ty_at n levels s at ≡ t
  unfolding ty_at
  type_is = yielded str h

  pub type_yields : Yields (type_at n levels s at) (ty_at n levels s at)
  type_yields = rw type_is h

-- an outermost type
module _ (n : ℕ) (s : List ℕ) (at : ℕ) {t : Ty} (h : Yields (type n s at) t) where
  pub outermost_yields : Yields (type_at n 8 s at) (ty_at n 8 s at)
  unfolding type
  outermost_yields = type_yields n 8 s at h

-- the space behind a type depends on its kind alone
pub space_is : (t : Ty) → space_after_type t ≡ space_of_kind (kind_of_type t)
space_is (atom a) = refl
space_is (named i) = refl
space_is (template k t) = refl
space_is (pointer k m t) = refl
space_is str = refl
space_is (fn r ts) = refl
space_is (array t n) = refl
