-- The types of the grammar: "an atom, `::rust::Str`, full name or template, then any number of `&` or `*`".
use Rattle.std.specs.Prelude.{ℕ, Bool, List}

abbrev pub Name : Type 0
Name = List ℕ

pub data Atom : Type 0 where
  bool char u8 u16 u32 u64 usize i8 i16 i32 i64 isize f32 f64 cxx_string rust_string : Atom

-- the templates of one type
pub data Template : Type 0 where
  box vec unique_ptr shared_ptr weak_ptr vector : Template

-- `&` or `*`, "each with or without `const` before it"
pub data Suffix : Type 0 where
  reference pointer : Bool → Suffix

mutual
  pub data CxxType : Type 0 where
    suffixed : Base → List Suffix → CxxType

  pub data Base : Type 0 where
    atom : Atom → Base
    str : Base
    full : List Name → Base  -- `::` before each part
    template : Template → CxxType → Base
    slice : CxxType → Bool → Base  -- "may end in one more `const`"
    array : CxxType → ℕ → Base
    void_fn : CxxTypes → Base  -- ::rust::Fn<void(A, ...)>
    fn : CxxType → CxxTypes → Base  -- ::rust::Fn<R(A, ...)>

  pub data CxxTypes : Type 0 where
    nil : CxxTypes
    cons : CxxType → CxxTypes → CxxTypes
