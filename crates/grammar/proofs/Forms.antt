-- A text with every form of the grammar, and its tree.
use Rattle.std.proofs.Common.{ℕ, Bool, true, false, List, [], ◌∷◌, ◌++◌, refl}
use Prim.Native.String.{String}
use Rattle.lexical.specs.Bytes.{bytes, same}
use Rattle.grammar.specs.Types.{bool, char, u8, u16, u32, u64, usize, i8, i16, i32, i64, isize}
use Rattle.grammar.specs.Types.{f32, f64, cxx_string, rust_string, box, vec, unique_ptr, shared_ptr}
use Rattle.grammar.specs.Types.{weak_ptr, vector, reference, pointer, CxxType, suffixed, Base, atom, str, full}
use Rattle.grammar.specs.Types.{template, slice, array, void_fn, fn, nil, cons}
use Rattle.grammar.specs.Tree.{Result, void, ptr_len, fat, int, value, Parameter, named, slot, size, align, free}
use Rattle.grammar.specs.Tree.{method, held, room, receiver, direct, into_raw, release, address, held_address}
use Rattle.grammar.specs.Tree.{slot_address, CallForm, Call, bare, error, returned, dereferenced, in_from_raw, in_unique_ptr}
use Rattle.grammar.specs.Tree.{in_new_unchecked, in_slice, no_return, return_slot, move_slot, Item, declares}
use Rattle.grammar.specs.Tree.{defines, shim, namespace, extern_c, body_end, item, block, struct_line, enum_line}
use Rattle.grammar.specs.Tree.{using_line, forward_end, line, bare_namespace, Text, text}
use Rattle.grammar.specs.Tokens.{Closings}
use Rattle.grammar.proofs.Checked.{closing}

abbrev plain : Base → CxxType
plain b = suffixed b []

abbrev named_x : CxxType → List Parameter
named_x x = named x (bytes "x") ∷ []

abbrev declared : Result → String → List Parameter → Bool → Item
declared t s ps e = declares (record { result = t; symbol = bytes s; parameters = ps; noexcept = e })

-- a parameter of each template, and of each atom in a Fn
abbrev of_each : List Parameter
of_each =
    named (plain (template box (plain str))) (bytes "a")
    ∷ named (plain (template vec (plain (full (bytes "S" ∷ []))))) (bytes "b")
    ∷ named (plain (template unique_ptr (plain (full (bytes "std" ∷ []))))) (bytes "c")
    ∷ named (plain (template shared_ptr (plain (full (bytes "a" ∷ bytes "b" ∷ bytes "S" ∷ []))))) (bytes "d")
    ∷ named (plain (template weak_ptr (suffixed str (reference true ∷ pointer false ∷ pointer true ∷ reference false ∷ [])))) (bytes "e")
    ∷ named (plain (template vector (plain (slice (plain (atom f64)) true)))) (bytes "f")
    ∷ named (plain (array (plain (slice (suffixed (atom f64) (pointer true ∷ [])) true)) 4294967295)) (bytes "g")
    ∷ named (plain (array (plain (slice (plain (atom f32)) false)) 0)) (bytes "h")
    ∷ named (plain (void_fn nil)) (bytes "self")
    ∷ slot (suffixed (void_fn (cons (plain (atom bool)) nil)) (pointer false ∷ []))
    ∷ named (plain (fn (plain (atom char)) (cons (plain (atom u8)) (cons (plain (atom u16)) (cons (plain (atom u32))
    (cons (plain (atom u64)) (cons (plain (atom usize)) (cons (plain (atom i8)) (cons (plain (atom i16))
    (cons (plain (atom i32)) (cons (plain (atom i64)) (cons (plain (atom isize)) (cons (plain (atom cxx_string))
    (cons (plain (atom rust_string)) nil)))))))))))))) (bytes "i")
    ∷ []

abbrev each : List ℕ
each =
    bytes "::rust::Box<::rust::Str> a, ::rust::Vec<::S>b,::std::unique_ptr<::std> c, ::std::shared_ptr<::a::b::S> d, " ++
    bytes "::std::weak_ptr<::rust::Str const &* const*& > e, ::std::vector< ::rust :: Slice <double const> >\n f, " ++
    bytes "::std::array<::rust::Slice<double const *const>, 4294967295> g, ::std::array<::rust::Slice<float>,0>h, " ++
    bytes "::rust::Fn<void()> self, ::rust::Fn<void(bool)> *return$, ::rust::Fn<char(::std::uint8_t, ::std::uint16_t, " ++
    bytes "::std::uint32_t, ::std::uint64_t, ::std::size_t, ::std::int8_t, ::std::int16_t, ::std::int32_t, " ++
    bytes "::std::int64_t, ::rust::isize, ::std::string, ::rust::String)> i"

-- a function f that makes the call and nothing else
abbrev pub plain_shim : List (List ℕ) → List Parameter → Call → Item
plain_shim comments parameters call =
    shim (record {
      comments = comments;
      result = void;
      head = free (bytes "f");
      parameters = parameters;
      is_const = false;
      noexcept = false;
      locals = [];
      call = call;
      error_test = false;
      ending = no_return;
    })

abbrev calls : CallForm → Item
calls form = plain_shim [] [] (record { form = form; symbol = bytes "g"; operands = [] })

abbrev method_shim : Item
method_shim =
    shim (record {
      comments = bytes " one" ∷ [] ∷ bytes " extern \"C\"" ∷ [];
      result = value (plain (full (bytes "S" ∷ [])));
      head = method (bytes "S") (bytes "m");
      parameters = named_x (suffixed (atom bool) (reference false ∷ reference false ∷ []));
      is_const = true;
      noexcept = false;
      locals = room (plain (atom u8)) ∷ held (plain str) (bytes "x") ∷ held (plain (atom char)) (bytes "y") ∷ [];
      call = record {
        form = error;
        symbol = bytes "$";
        operands = slot_address ∷ receiver ∷ direct (bytes "x") ∷ into_raw (bytes "x") ∷ release (bytes "x") ∷ address (bytes "x")
            ∷ held_address (bytes "x") ∷ receiver ∷ [];
      };
      error_test = true;
      ending = move_slot;
    })

abbrev main_shim : Item
main_shim =
    shim (record {
      comments = [];
      result = int;
      head = free (bytes "main");
      parameters = [];
      is_const = false;
      noexcept = true;
      locals = [];
      call = record { form = bare; symbol = bytes "main"; operands = [] };
      error_test = false;
      ending = return_slot;
    })

abbrev pub forms_tree : Text
forms_tree =
    text
    (line (using_line (bytes "A") (bytes "a" ∷ bytes "b" ∷ []))
    (bare_namespace (bytes "a")
    (bare_namespace (bytes "b") (line (enum_line (bytes "E") u8) forward_end) (line (struct_line (bytes "S")) forward_end))
    (line (enum_line (bytes "E") char) forward_end)))
    (block extern_c
    (item (declared void "f$" of_each true)
    (block (namespace (bytes "a"))
    (item (declared ptr_len "$" [] false) (block extern_c (item (declared fat "_" [] true) body_end) body_end))
    (item (declared int "main" [] false)
    body_end)))
    (item main_shim
    (block (namespace (bytes "a"))
    (item (defines (record { owner = bytes "S"; measure = align; symbol = bytes "$" }))
    (item method_shim
    (item (defines (record { owner = bytes "S"; measure = size; symbol = bytes "$" }))
    body_end)))
    (item (calls bare) (item (calls returned) (item (calls dereferenced) (item (calls (in_from_raw (plain str)))
    (item (calls (in_unique_ptr (plain str))) (item (calls (in_new_unchecked (plain str))) (item (calls (in_slice (plain str)))
    body_end))))))))))

-- in other spacing than the crate's
abbrev pub forms_closings : Closings forms_tree
unfolding same
forms_closings = (
  closing extern_c "  extern  \"C\" " refl,
  (closing (namespace (bytes "a")) "namespace a" refl, (closing extern_c "extern\"C\"" refl, tt, tt), tt),
  (closing (namespace (bytes "a")) " namespace a" refl, tt, tt),
)

abbrev pub forms : List ℕ
forms =
    bytes "using A = ::a::b;\nnamespace a { namespace b { enum class E : ::std::uint8_t; } struct S; } enum class E:char;\n" ++
    bytes "extern \"C\" {\nvoid f$(" ++ each ++ bytes ") noexcept;\n" ++
    bytes "namespace a {\n::rust::repr::PtrLen $();\nextern \"C\"{::rust::repr::Fat _()noexcept;}//extern\"C\"\n}" ++
    bytes "//namespace a\nint main();\n} //  extern  \"C\" \n" ++
    bytes "int main() noexcept { main(); return *return$.value; }\n" ++
    bytes "namespace a {\n::std::size_t S::layout::align() noexcept {\n  return $();\n}\n" ++
    bytes "// one\n//\n// extern \"C\"\n::S S::m(bool &&x) const {\n  ::rust::MaybeUninit<::std::uint8_t> return$;\n" ++
    bytes "  ::rust::ManuallyDrop<::rust::Str> x$(::std::move(x));\n  ::rust::ManuallyDrop<char> y$(::std::move(y));\n" ++
    bytes "  ::rust::repr::PtrLen error$ = $(&return$.value, *this, x, x.into_raw(), x.release(), &x, &x$.value, *this);\n" ++
    bytes "  if (error$.ptr) {\n    throw ::rust::impl<::rust::Error>::error(error$);\n  }\n" ++
    bytes "  return ::std::move(return$.value);\n}\n::std::size_t S::layout::size() noexcept { return $(); }\n} // namespace a\n" ++
    bytes "void f() { g(); }\nvoid f() { return g(); }\nvoid f() { return *g(); }\n" ++
    bytes "void f() { return ::rust::Box<::rust::Str>::from_raw(g()); }\n" ++
    bytes "void f() { return ::std::unique_ptr<::rust::Str>(g()); }\n" ++
    bytes "void f() { return ::rust::impl<::rust::Str>::new_unchecked(g()); }\n" ++
    bytes "void f() { return ::rust::impl<::rust::Str>::slice(g()); }\n"
