-- bridge/write.rs: how types are spelled.
use Rattle.std.specs.Prelude.{ℕ, Bool, true, false, List, [], ◌++◌}
use Rattle.lexical.specs.Bytes.{bytes}
use Rattle.lexical.specs.Decimal.{pick_text, decimal}
use Rattle.format.specs.declared.Atom.{Atom}
use Rattle.format.specs.declared.Atom.TheVariants as Atom
use Rattle.format.specs.declared.Template.{Template}
use Rattle.format.specs.declared.Template.TheVariants.{RustBox, RustVec, UniquePtr, SharedPtr, WeakPtr, CxxVector}
use Rattle.format.specs.declared.Pointer.{Pointer}
use Rattle.format.specs.declared.Pointer.TheVariants.{Ref, Ptr, SliceRef}
use Rattle.format.specs.Types.{Ty, atom, named, template, pointer, str, fn, array, Ret, none, gives, Tys, nil, cons}
use Rattle.format.specs.Sheet.{Item}
use Rattle.syntax.specs.Items.{item_at, full_name}

abbrev pub write_atom : Atom → List ℕ
write_atom Atom.Bool = bytes "bool"
write_atom Atom.Char = bytes "char"
write_atom Atom.U8 = bytes "::std::uint8_t"
write_atom Atom.U16 = bytes "::std::uint16_t"
write_atom Atom.U32 = bytes "::std::uint32_t"
write_atom Atom.U64 = bytes "::std::uint64_t"
write_atom Atom.Usize = bytes "::std::size_t"
write_atom Atom.I8 = bytes "::std::int8_t"
write_atom Atom.I16 = bytes "::std::int16_t"
write_atom Atom.I32 = bytes "::std::int32_t"
write_atom Atom.I64 = bytes "::std::int64_t"
write_atom Atom.Isize = bytes "::rust::isize"
write_atom Atom.F32 = bytes "float"
write_atom Atom.F64 = bytes "double"
write_atom Atom.CxxString = bytes "::std::string"
write_atom Atom.RustString = bytes "::rust::String"

abbrev pub template_name : Template → List ℕ
template_name RustBox = bytes "::rust::Box<"
template_name RustVec = bytes "::rust::Vec<"
template_name UniquePtr = bytes "::std::unique_ptr<"
template_name SharedPtr = bytes "::std::shared_ptr<"
template_name WeakPtr = bytes "::std::weak_ptr<"
template_name CxxVector = bytes "::std::vector<"

-- what stands behind the inner type of a pointer, and whether it is mutable
abbrev pub const_unless : Bool → List ℕ → List ℕ
const_unless mutable s = pick_text mutable [] s

abbrev pub pointer_begin : Pointer → List ℕ
pointer_begin Ref = []
pointer_begin Ptr = []
pointer_begin SliceRef = bytes "::rust::Slice<"

abbrev pub pointer_end : Pointer → Bool → List ℕ
pointer_end Ref mutable = const_unless mutable (bytes "const ") ++ bytes "&"
pointer_end Ptr mutable = const_unless mutable (bytes "const ") ++ bytes "*"
pointer_end SliceRef mutable = const_unless mutable (bytes "const") ++ bytes ">"

abbrev pub is_slice : Pointer → Bool
is_slice Ref = false
is_slice Ptr = false
is_slice SliceRef = true

-- `write_space_after_type`
abbrev pub space_after_type : Ty → List ℕ
space_after_type (atom a) = bytes " "
space_after_type (named i) = bytes " "
space_after_type (template k t) = bytes " "
space_after_type (pointer k m t) = pick_text (is_slice k) (bytes " ") []
space_after_type str = bytes " "
space_after_type (fn r ts) = bytes " "
space_after_type (array t n) = bytes " "

-- `write_type_to_generic_writer`, with that of `write_type_space_to_generic_writer` in its cycle
unfoldable mutual
  pub write_type : List Item → Ty → List ℕ
  write_type items (atom a) = write_atom a
  write_type items (named i) = full_name (item_at items i)
  write_type items (template k t) = template_name k ++ write_type items t ++ bytes ">"
  write_type items (pointer k m t) = pointer_begin k ++ (write_type items t ++ space_after_type t) ++ pointer_end k m
  write_type items str = bytes "::rust::Str"
  write_type items (fn r ts) =
      bytes "::rust::Fn<" ++ write_ret items r ++ bytes "(" ++ write_types items false ts ++ bytes ")>"
  write_type items (array t n) = bytes "::std::array<" ++ write_type items t ++ bytes ", " ++ decimal n ++ bytes ">"

  pub write_ret : List Item → Ret → List ℕ
  write_ret items none = bytes "void"
  write_ret items (gives t) = write_type items t

  -- a comma before each but the first
  pub write_types : List Item → Bool → Tys → List ℕ
  write_types items needs_comma nil = []
  write_types items needs_comma (cons t ts) =
      pick_text needs_comma (bytes ", ") [] ++ write_type items t ++ write_types items true ts

-- `write_type_space`
unfoldable pub write_type_space : List Item → Ty → List ℕ
write_type_space items t = write_type items t ++ space_after_type t

-- `write_return_type`
abbrev pub write_return_type : List Item → Ret → List ℕ
write_return_type items none = bytes "void "
write_return_type items (gives t) = write_type_space items t
