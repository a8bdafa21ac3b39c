-- Texts at a choice of docs/GRAMMAR.md: read in one way, or in none.
use Rattle.std.proofs.Common.{◌≡◌, ℕ, true, false, List, [], ◌∷◌, ◌++◌, refl}
use Prim.Native.String.{String}
use Rattle.lexical.specs.Bytes.{bytes}
use Rattle.grammar.specs.Types.{suffixed, full}
use Rattle.grammar.specs.Tree.{void, named, free, held, bare, no_return, declares, shim, namespace, extern_c}
use Rattle.grammar.specs.Tree.{body_end, item, block, forward_end, Text, text}
use Rattle.grammar.specs.Tokens.{block_tokens, Closings}
use Rattle.grammar.specs.Reading.{OneReading}
use Rattle.grammar.proofs.Lexer.{lex}
use Rattle.grammar.proofs.SameTokens.{same_tokens}
use Rattle.grammar.proofs.Checked.{closing, reads_test, checked}
use Rattle.grammar.proofs.Computing.{computes}
use Rattle.grammar.proofs.Forms.{plain_shim}
use Rattle.grammar.proofs.Unique.{one_reading, NotRead, not_read}

-- ---- closing comments

abbrev in_namespace : String → List ℕ
in_namespace end = bytes "namespace a {\nvoid f() {\n  g();\n}\n}" ++ bytes end

abbrev namespace_tree : Text
namespace_tree =
    text forward_end
    (block (namespace (bytes "a"))
    (item (plain_shim [] [] (record { form = bare; symbol = bytes "g"; operands = [] })) body_end) body_end)

-- where the characters between `//` and the line's end repeat the head
in_namespace_lem : (s : List ℕ) (characters : String)
    (h : same_tokens (lex (bytes characters)) (block_tokens (namespace (bytes "a")) []) ≡ true) →
    reads_test namespace_tree (closing (namespace (bytes "a")) characters h, tt, tt) s ≡ true → OneReading s
in_namespace_lem s characters h e =
    let closings : Closings namespace_tree = (closing (namespace (bytes "a")) characters h, tt, tt) in
    one_reading namespace_tree s (checked namespace_tree closings s e) refl

abbrev in_extern_c : String → List ℕ
in_extern_c end = bytes "extern \"C\" {\nvoid f();\n}" ++ bytes end

abbrev extern_ctree : Text
extern_ctree =
    text forward_end
    (block extern_c
    (item (declares (record { result = void; symbol = bytes "f"; parameters = []; noexcept = false })) body_end) body_end)

in_extern_c_lem : (s : List ℕ) (characters : String) (h : same_tokens (lex (bytes characters)) (block_tokens extern_c []) ≡ true) →
    reads_test extern_ctree (closing extern_c characters h, tt, tt) s ≡ true → OneReading s
in_extern_c_lem s characters h e =
    let closings : Closings extern_ctree = (closing extern_c characters h, tt, tt) in
    one_reading extern_ctree s (checked extern_ctree closings s e) refl

-- the head's tokens, in any spacing within the line
pub closing_comments :
    OneReading (in_namespace " // namespace a\n")
    × OneReading (in_namespace "//namespace a")
    × OneReading (in_namespace "\n  //  namespace   a \n")
    × OneReading (in_extern_c " // extern \"C\"\n")
    × OneReading (in_extern_c "//extern\"C\"")
    × OneReading (in_extern_c " //  extern\"C\" \n")
unfolding computes
closing_comments = (
  in_namespace_lem _ " namespace a" refl refl,
  in_namespace_lem _ "namespace a" refl refl,
  in_namespace_lem _ "  namespace   a " refl refl,
  in_extern_c_lem _ " extern \"C\"" refl refl,
  in_extern_c_lem _ "extern\"C\"" refl refl,
  in_extern_c_lem _ "  extern\"C\" " refl refl,
)

-- none, an empty one, another head, more words, words joined, two lines, a line spliced to the next
pub other_closing_comments :
    NotRead
    (in_namespace "\n" ∷ in_namespace " //\n" ∷ in_namespace " // namespace b\n" ∷ in_namespace " // extern \"C\"\n"
    ∷ in_namespace " // end of namespace a\n" ∷ in_namespace " // namespace a {\n" ∷ in_namespace " // namespacea\n"
    ∷ in_namespace " // namespace\n// a\n" ∷ in_namespace " // namespace a\\\n"
    ∷ in_extern_c "\n" ∷ in_extern_c " //\n" ∷ in_extern_c " // namespace a\n" ∷ in_extern_c " // extern \"D\"\n"
    ∷ in_extern_c " // end of extern \"C\"\n" ∷ in_extern_c " // extern \"C\" {\n" ∷ in_extern_c " // externC\n"
    ∷ in_extern_c " // extern\n\"C\"\n" ∷ in_extern_c " // extern \"C\"\\\n" ∷ [])
unfolding computes
other_closing_comments = not_read 9 refl (λ n. refl)

-- ---- held locals

abbrev with_local : String → List ℕ
with_local local = bytes "void f(::S x, ::S y) {\n  ::rust::ManuallyDrop<::S> " ++ bytes local ++ bytes "\n  g();\n}\n"

abbrev local_tree : Text
local_tree =
    text forward_end
    (item (shim (record {
      comments = [];
      result = void;
      head = free (bytes "f");
      parameters =
          named (suffixed (full (bytes "S" ∷ [])) []) (bytes "x") ∷ named (suffixed (full (bytes "S" ∷ [])) []) (bytes "y") ∷ [];
      is_const = false;
      noexcept = false;
      locals = held (suffixed (full (bytes "S" ∷ [])) []) (bytes "x") ∷ [];
      call = record { form = bare; symbol = bytes "g"; operands = [] };
      error_test = false;
      ending = no_return;
    }))
    body_end)

-- a held local takes the parameter that it is called after
pub held_locals : OneReading (with_local "x$(::std::move(x));")
unfolding computes
held_locals = one_reading local_tree _ (checked local_tree tt _ refl) refl

pub other_held_locals :
    NotRead (with_local "x$(::std::move(y));" ∷ with_local "x(::std::move(x));" ∷ with_local "x$(x);" ∷ [])
unfolding computes
other_held_locals = not_read 9 refl (λ n. refl)

-- ---- other forms of ISO C++

pub other_blanks : NotRead (bytes "struct\tX;" ∷ bytes "struct X; // one\n" ∷ bytes "struct X; /* one */" ∷ [])
unfolding computes
other_blanks = not_read 9 refl (λ n. refl)

pub other_forward_parts :
    NotRead
    (bytes "enum class X;" ∷ bytes "enum X : ::std::uint8_t;" ∷ bytes "enum class X : ::S;" ∷ bytes "using X = S;"
    ∷ bytes "using X = ::std::string;" ∷ bytes "namespace a::b { struct X; }" ∷ bytes "namespace { struct X; }"
    ∷ bytes "namespace class { struct X; }" ∷ [])
unfolding computes
other_forward_parts = not_read 9 refl (λ n. refl)

abbrev declared : String → List ℕ
declared declaration = bytes "extern \"C\" {\n" ++ bytes declaration ++ bytes "\n} // extern \"C\"\n"

pub other_bodies :
    NotRead (bytes "void f();" ∷ bytes "extern \"C\" void f();" ∷ declared "void f() { g(); }"
    ∷ bytes "void T::layout::size() noexcept { return g(); }" ∷ bytes "::std::size_t T::layout::length() noexcept { return g(); }"
    ∷ bytes "// one\n::std::size_t T::layout::size() noexcept { return g(); }" ∷ bytes "void f() { g(); } struct X;" ∷ [])
unfolding computes
other_bodies = not_read 9 refl (λ n. refl)

pub other_declarations :
    NotRead
    (declared "void f(const ::S &x);" ∷ declared "void f(::S const x);" ∷ declared "void f(S x);"
    ∷ declared "void f(::std::S x);" ∷ declared "void f(::rust::Fn<void(void)> x);" ∷ declared "void f(void);"
    ∷ declared "void f(::S);" ∷ declared "void f(::S x, );" ∷ declared "void f(::S x$);" ∷ declared "void *f();"
    ∷ declared "int f();" ∷ declared "void f() const;" ∷ declared "void T::f();" ∷ declared "// one\nvoid f();"
    ∷ declared "void f(::std::array<bool, 01> x);" ∷ declared "void f(::std::array<bool, 0x1> x);" ∷ [])
unfolding computes
other_declarations = not_read 9 refl (λ n. refl)

pub other_shims :
    NotRead
    (bytes "void f(::S *return$) { g(); }" ∷ bytes "void f() noexcept(true) { g(); }" ∷ bytes "void f() { return; }"
    ∷ bytes "void f() { g(); g(); }" ∷ bytes "void f() { error$ = g(); }" ∷ bytes "void f() { g(this); }"
    ∷ bytes "void f() { g(x.get()); }" ∷ bytes "void f() { g(&x$); }" ∷ bytes "void f() {\n// one\ng(); }" ∷ [])
unfolding computes
other_shims = not_read 9 refl (λ n. refl)
