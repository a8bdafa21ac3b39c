-- The grammar's atom of each atom of a sheet. Demand 3 does not need it; the trees of a sheet's parts do.
use Rattle.format.specs.declared.Atom.{Atom}
use Rattle.format.specs.declared.Atom.TheVariants as Atom
use Rattle.grammar.specs.Types as Cxx

abbrev pub atom_tree : Atom → Cxx.Atom
atom_tree Atom.Bool = Cxx.bool
atom_tree Atom.Char = Cxx.char
atom_tree Atom.U8 = Cxx.u8
atom_tree Atom.U16 = Cxx.u16
atom_tree Atom.U32 = Cxx.u32
atom_tree Atom.U64 = Cxx.u64
atom_tree Atom.Usize = Cxx.usize
atom_tree Atom.I8 = Cxx.i8
atom_tree Atom.I16 = Cxx.i16
atom_tree Atom.I32 = Cxx.i32
atom_tree Atom.I64 = Cxx.i64
atom_tree Atom.Isize = Cxx.isize
atom_tree Atom.F32 = Cxx.f32
atom_tree Atom.F64 = Cxx.f64
atom_tree Atom.CxxString = Cxx.cxx_string
atom_tree Atom.RustString = Cxx.rust_string
