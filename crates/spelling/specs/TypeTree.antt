-- The grammar's tree of each type of a sheet.
use Rattle.std.specs.Prelude.{Bool, not, List, [], ◌∷◌, ◌++◌}
use Rattle.format.specs.declared.Template.{Template}
use Rattle.format.specs.declared.Template.TheVariants.{RustBox, RustVec, UniquePtr, SharedPtr, WeakPtr, CxxVector}
use Rattle.format.specs.declared.Pointer.{Pointer}
use Rattle.format.specs.declared.Pointer.TheVariants.{Ref, Ptr, SliceRef}
use Rattle.format.specs.Types.{Ty, atom, named, template, pointer, str, fn, array, Ret, none, gives, Tys, nil, cons}
use Rattle.format.specs.Sheet.{Name, Item}
use Rattle.syntax.specs.Items.{item_at}
use Rattle.grammar.specs.Types as Cxx
use Rattle.grammar.specs.Types.{CxxType, suffixed, CxxTypes, Base, Suffix}
use Rattle.agreement.specs.Atoms.{atom_tree}

abbrev pub template_tree : Template → Cxx.Template
template_tree RustBox = Cxx.box
template_tree RustVec = Cxx.vec
template_tree UniquePtr = Cxx.unique_ptr
template_tree SharedPtr = Cxx.shared_ptr
template_tree WeakPtr = Cxx.weak_ptr
template_tree CxxVector = Cxx.vector

-- the namespaces and the C++ name
abbrev pub item_path : Item → List Name
item_path x = x.namespace ++ (x.cxx ∷ [])

-- with one more `&` or `*` behind it
abbrev pub with_suffix : Suffix → CxxType → CxxType
with_suffix s (suffixed base suffixes) = suffixed base (suffixes ++ (s ∷ []))

abbrev pub pointer_to : Bool → CxxType → CxxType
pointer_to mutable x = with_suffix (Cxx.pointer (not mutable)) x

abbrev pub pointer_tree : Pointer → Bool → CxxType → CxxType
pointer_tree Ref mutable x = with_suffix (Cxx.reference (not mutable)) x
pointer_tree Ptr mutable x = pointer_to mutable x
pointer_tree SliceRef mutable x = suffixed (Cxx.slice x (not mutable)) []

unfoldable mutual
  pub cxx_type : List Item → Ty → CxxType
  cxx_type items (atom a) = suffixed (Cxx.atom (atom_tree a)) []
  cxx_type items (named i) = suffixed (Cxx.full (item_path (item_at items i))) []
  cxx_type items (template k t) = suffixed (Cxx.template (template_tree k) (cxx_type items t)) []
  cxx_type items (pointer k m t) = pointer_tree k m (cxx_type items t)
  cxx_type items str = suffixed Cxx.str []
  cxx_type items (fn r ts) = suffixed (fn_tree items r (cxx_types items ts)) []
  cxx_type items (array t n) = suffixed (Cxx.array (cxx_type items t) n) []

  pub fn_tree : List Item → Ret → CxxTypes → Base
  fn_tree items none xs = Cxx.void_fn xs
  fn_tree items (gives t) xs = Cxx.fn (cxx_type items t) xs

  pub cxx_types : List Item → Tys → CxxTypes
  cxx_types items nil = Cxx.nil
  cxx_types items (cons t ts) = Cxx.cons (cxx_type items t) (cxx_types items ts)
