-- syntax/types.rs `needs_indirect_abi`, as document 01 gives it: "The pointer bit is `needs_indirect_abi`'s answer
-- for that name, taken as given. The rest of that rule: ..."
use Rattle.std.specs.Prelude.{List, Bool, true, false, ℕ, leb, eqb}
use Rattle.format.specs.declared.Atom.{Atom}
use Rattle.format.specs.declared.Atom.TheVariants as Atom
use Rattle.format.specs.declared.Template.{Template}
use Rattle.format.specs.declared.Template.TheVariants.{RustBox, RustVec, UniquePtr, SharedPtr, WeakPtr, CxxVector}
use Rattle.format.specs.Types.{Ty, atom, named, template, pointer, str, fn, array}
use Rattle.format.specs.Sheet.{Body, struct, enum, cxx_type, rust_type, function, Item}
use Rattle.syntax.specs.Items.{item_at}

abbrev pub pointer_bit : Body → Bool
pointer_bit (struct p ts) = p
pointer_bit (enum p a c) = p
pointer_bit (cxx_type p) = p
pointer_bit (rust_type p) = p
pointer_bit (function f) = false

-- `Atom`'s order from 0
abbrev pub atom_number : Atom → ℕ
atom_number Atom.Bool = 0
atom_number Atom.Char = 1
atom_number Atom.U8 = 2
atom_number Atom.U16 = 3
atom_number Atom.U32 = 4
atom_number Atom.U64 = 5
atom_number Atom.Usize = 6
atom_number Atom.I8 = 7
atom_number Atom.I16 = 8
atom_number Atom.I32 = 9
atom_number Atom.I64 = 10
atom_number Atom.Isize = 11
atom_number Atom.F32 = 12
atom_number Atom.F64 = 13
atom_number Atom.CxxString = 14
atom_number Atom.RustString = 15

abbrev pub is_indirect_template : Template → Bool
is_indirect_template RustBox = false
is_indirect_template RustVec = true
is_indirect_template UniquePtr = false
is_indirect_template SharedPtr = true
is_indirect_template WeakPtr = true
is_indirect_template CxxVector = true

-- both string atoms are the last two
unfoldable pub needs_indirect_abi : List Item → Ty → Bool
needs_indirect_abi items (atom a) = leb 14 (atom_number a)
needs_indirect_abi items (named i) = pointer_bit (item_at items i).body
needs_indirect_abi items (template k t) = is_indirect_template k
needs_indirect_abi items (pointer k m t) = false
needs_indirect_abi items str = false
needs_indirect_abi items (fn r ts) = false
needs_indirect_abi items (array t n) = true

abbrev pub is_rust_string : Ty → Bool
is_rust_string (atom a) = eqb (atom_number a) 15
is_rust_string (named i) = false
is_rust_string (template k t) = false
is_rust_string (pointer k m t) = false
is_rust_string str = false
is_rust_string (fn r ts) = false
is_rust_string (array t n) = false
