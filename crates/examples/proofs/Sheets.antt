-- Five sheets and their texts, each as cxx-build 1.0.205 writes it (vectors/examples).
use Rattle.std.proofs.Common.{◌≡◌, ℕ, List, [], ◌∷◌, ◌++◌, refl}
use Rattle.lexical.specs.Bytes.{bytes}
use Rattle.rules.specs.Judge.{Judged, refused, accepted, judge}
use Rattle.bridge.specs.Write.{text}
use Rattle.examples.proofs.Computing.{computes}

-- the text of an accepted sheet
abbrev pub text_of : Judged → List ℕ
text_of (refused e) = []
text_of (accepted x) = text x

-- header bit 1: free functions with their comments, no methods
abbrev header : List ℕ
header =
    0x18 ∷ 0x0f ∷ 0x13 ∷ 0x9e ∷ 0x8d ∷ 0xfc ∷ 0x05 ∷ 0x9f ∷ 0xcb ∷ 0x26 ∷ 0x5e ∷ 0x42 ∷ 0xd1 ∷ 0xeb ∷ 0x97 ∷ 0xae ∷
    0x51 ∷ 0x61 ∷ 0xec ∷ 0xdf ∷ 0x8f ∷ 0x58 ∷ 0xb4 ∷ 0xfa ∷ 0x61 ∷ 0xe9 ∷ 0x94 ∷ 0x59 ∷ 0x99 ∷ 0x7b ∷ 0x65 ∷ 0xd8 ∷
    0x3f ∷ 0x7c ∷ 0x3a ∷ 0x7a ∷ 0x69 ∷ 0xdd ∷ 0x9c ∷ 0x5e ∷ 0x3d ∷ 0x72 ∷ 0xf5 ∷ 0xca ∷ 0x27 ∷ 0x0e ∷ 0xbc ∷ 0xf4 ∷
    0x0b ∷ 0xbf ∷ 0x96 ∷ 0x4c ∷ 0xbc ∷ 0x84 ∷ 0xdf ∷ 0xc3 ∷ 0x2e ∷ 0xe2 ∷ 0xb7 ∷ 0xf0 ∷ 0xcb ∷ 0xba ∷ 0xff ∷ 0x1e ∷
    0xb9 ∷ 0x7a ∷ 0xe5 ∷ 0x13 ∷ 0x76 ∷ 0x5f ∷ 0x1d ∷ 0x05 ∷ 0xe7 ∷ 0xd3 ∷ 0x0f ∷ 0x4c ∷ 0xa2 ∷ 0x6d ∷ 0xc3 ∷ 0xa7 ∷
    0x70 ∷ 0x50 ∷ 0x20 ∷ 0x30 ∷ 0x81 ∷ 0x03 ∷ 0xd9 ∷ 0x02 ∷ 0xa2 ∷ 0x06 ∷ 0x24 ∷ 0x10 ∷ 0x42 ∷ 0x41 ∷ 0x51 ∷ 0x84 ∷
    0x19 ∷ 0x84 ∷ 0x18 ∷ 0x2e ∷ 0xe1 ∷ 0x10 ∷ 0x90 ∷ 0x41 ∷ 0x2b ∷ 0x7e ∷ 0x2e ∷ 0x68 ∷ 0x3a ∷ 0x68 ∷ 0xc3 ∷ 0xd1 ∷
    0x07 ∷ 0x7c ∷ 0x3a ∷ 0x7a ∷ 0x2e ∷ 0x84 ∷ 0x22 ∷ 0x21 ∷ 0x03 ∷ 0x22 ∷ 0x01 ∷ 0x46 ∷ 0x82 ∷ 0x0a ∷ 0x0d ∷ 0xb9 ∷
    0x7a ∷ 0x68 ∷ 0xdf ∷ 0x91 ∷ 0x3f ∷ 0x34 ∷ 0x18 ∷ 0xf7 ∷ 0xed ∷ 0xdb ∷ 0x97 ∷ 0x77 ∷ 0x44 ∷ 0x1a ∷ 0x79 ∷ 0xa0 ∷
    0xdd ∷ 0xbf ∷ 0xa2 ∷ 0x0e ∷ 0xfc ∷ 0xb4 ∷ 0xf4 ∷ 0xe9 ∷ 0x97 ∷ 0x72 ∷ 0xe8 ∷ 0x42 ∷ 0xaf ∷ 0x14 ∷ 0x84 ∷ 0x40 ∷
    0x08 ∷ 0x43 ∷ 0x30 ∷ 0xc4 ∷ 0x04 ∷ 0xe4 ∷ 0x23 ∷ 0xa2 ∷ 0x60 ∷ 0x83 ∷ 0xb8 ∷ 0x00 ∷ 0x00 ∷ []

abbrev header_text : List ℕ
header_text =
    bytes "namespace shop {\n"
    ++ bytes "  struct Order;\n"
    ++ bytes "  struct Queue;\n"
    ++ bytes "  using Clock = ::shop::Clock;\n"
    ++ bytes "  enum class State : ::std::uint8_t;\n"
    ++ bytes "}\n"
    ++ bytes "\n"
    ++ bytes "namespace shop {\n"
    ++ bytes "// Jobs that wait.\n"
    ++ bytes "::std::size_t waiting(::shop::Queue const &queue) noexcept;\n"
    ++ bytes "\n"
    ++ bytes "::shop::Order next(::rust::Box<::shop::Queue> queue, ::shop::State state);\n"
    ++ bytes "} // namespace shop\n"
    ++ bytes "\n"
    ++ bytes "int main() noexcept;\n"

-- Doxygen and one comment line
abbrev doxygen1 : List ℕ
doxygen1 =
    0x14 ∷ 0x05 ∷ 0x12 ∷ 0x66 ∷ 0x1d ∷ 0xbc ∷ 0x05 ∷ 0xd9 ∷ 0xa7 ∷ 0x3e ∷ 0x8e ∷ 0x82 ∷ 0x6c ∷ 0xc3 ∷ 0xb7 ∷ 0x80 ∷
    0x79 ∷ 0x34 ∷ 0xed ∷ 0x0b ∷ 0x17 ∷ 0x90 ∷ 0x36 ∷ 0x02 ∷ 0x02 ∷ 0x40 ∷ 0x29 ∷ 0xe2 ∷ 0x04 ∷ 0x8a ∷ 0x09 ∷ 0x9a ∷
    0x73 ∷ 0xe8 ∷ 0xe9 ∷ 0xcd ∷ 0x07 ∷ 0x4d ∷ 0x19 ∷ 0x50 ∷ 0x6c ∷ 0xc3 ∷ 0xb7 ∷ 0x82 ∷ 0xe8 ∷ 0x1b ∷ 0x80 ∷ 0x30 ∷
    0x30 ∷ 0x28 ∷ 0x10 ∷ 0x4f ∷ 0xcc ∷ 0x83 ∷ 0x0a ∷ 0x0d ∷ 0xb9 ∷ 0x7a ∷ 0x68 ∷ 0xdf ∷ 0x91 ∷ 0x06 ∷ 0xed ∷ 0xfd ∷
    0x34 ∷ 0x69 ∷ 0xdd ∷ 0x9d ∷ 0x06 ∷ 0x9e ∷ 0x68 ∷ 0x3b ∷ 0xf2 ∷ 0xd3 ∷ 0xd3 ∷ 0xa6 ∷ 0x5d ∷ 0xcb ∷ 0x80 ∷ []

abbrev doxygen1_text : List ℕ
doxygen1_text =
    bytes "struct Lamp;\n"
    ++ bytes "\n"
    ++ bytes "extern \"C\" {\n"
    ++ bytes "::std::size_t cxxbridge1$205$Lamp$operator$sizeof() noexcept;\n"
    ++ bytes "::std::size_t cxxbridge1$205$Lamp$operator$alignof() noexcept;\n"
    ++ bytes "\n"
    ++ bytes "void cxxbridge1$205$light(::Lamp &lamp) noexcept;\n"
    ++ bytes "\n"
    ++ bytes "void cxxbridge1$205$Lamp$dim(::Lamp &self, float by) noexcept;\n"
    ++ bytes "} // extern \"C\"\n"
    ++ bytes "\n"
    ++ bytes "::std::size_t Lamp::layout::size() noexcept {\n"
    ++ bytes "  return cxxbridge1$205$Lamp$operator$sizeof();\n"
    ++ bytes "}\n"
    ++ bytes "\n"
    ++ bytes "::std::size_t Lamp::layout::align() noexcept {\n"
    ++ bytes "  return cxxbridge1$205$Lamp$operator$alignof();\n"
    ++ bytes "}\n"
    ++ bytes "\n"
    ++ bytes "/// Lights the lamp.\n"
    ++ bytes "///\n"
    ++ bytes "void light(::Lamp &lamp) noexcept {\n"
    ++ bytes "  cxxbridge1$205$light(lamp);\n"
    ++ bytes "}\n"
    ++ bytes "\n"
    ++ bytes "void Lamp::dim(float by) noexcept {\n"
    ++ bytes "  cxxbridge1$205$Lamp$dim(*this, by);\n"
    ++ bytes "}\n"

-- Doxygen and more lines
abbrev doxygen2 : List ℕ
doxygen2 =
    0x14 ∷ 0x03 ∷ 0x0f ∷ 0x66 ∷ 0x9e ∷ 0x82 ∷ 0xe3 ∷ 0xdf ∷ 0xd7 ∷ 0x77 ∷ 0x41 ∷ 0x76 ∷ 0x61 ∷ 0xdb ∷ 0xc3 ∷ 0x98 ∷
    0x14 ∷ 0x00 ∷ 0x20 ∷ 0x00 ∷ 0x11 ∷ 0x24 ∷ 0x15 ∷ 0x34 ∷ 0x65 ∷ 0x41 ∷ 0xb3 ∷ 0x0e ∷ 0xde ∷ 0x09 ∷ 0xf9 ∷ 0xa0 ∷
    0xe7 ∷ 0xd3 ∷ 0x0f ∷ 0x4c ∷ 0xab ∷ 0x0a ∷ 0xa0 ∷ 0xc3 ∷ 0xcd ∷ 0x06 ∷ 0x9e ∷ 0x88 ∷ 0x3b ∷ 0xe1 ∷ 0xe6 ∷ 0x83 ∷
    0x66 ∷ 0x1e ∷ 0x7d ∷ 0x10 ∷ 0x73 ∷ 0xcb ∷ 0x97 ∷ 0x72 ∷ 0xe8 ∷ 0x14 ∷ 0x41 ∷ 0x43 ∷ 0x68 ∷ 0x00 ∷ 0x61 ∷ 0x90 ∷
    0x54 ∷ 0xd1 ∷ 0xcb ∷ 0x2e ∷ 0x50 ∷ 0xc8 ∷ 0x36 ∷ 0x69 ∷ 0xdd ∷ 0x97 ∷ 0x98 ∷ 0x7c ∷ 0xdb ∷ 0xf6 ∷ 0x6c ∷ 0xdf ∷
    0xdd ∷ 0x70 ∷ []

abbrev doxygen2_text : List ℕ
doxygen2_text =
    bytes "extern \"C\" {\n"
    ++ bytes "bool cxxbridge1$205$lit() noexcept;\n"
    ++ bytes "\n"
    ++ bytes "::std::uint64_t cxxbridge1$205$count(::rust::Slice<bool const> lamps) noexcept;\n"
    ++ bytes "} // extern \"C\"\n"
    ++ bytes "\n"
    ++ bytes "/// The lamp's state,\n"
    ++ bytes "/// as it was last seen.\n"
    ++ bytes "bool lit() noexcept {\n"
    ++ bytes "  return cxxbridge1$205$lit();\n"
    ++ bytes "}\n"
    ++ bytes "\n"
    ++ bytes "/// Three\n"
    ++ bytes "/// lines\n"
    ++ bytes "///follow.\n"
    ++ bytes "::std::uint64_t count(::rust::Slice<bool const> lamps) noexcept {\n"
    ++ bytes "  return cxxbridge1$205$count(lamps);\n"
    ++ bytes "}\n"

-- a throwing method on a type of another namespace, with indirect arguments and an indirect return
abbrev method : List ℕ
method =
    0x10 ∷ 0x09 ∷ 0x13 ∷ 0x26 ∷ 0x9e ∷ 0x78 ∷ 0xc6 ∷ 0xa5 ∷ 0x97 ∷ 0x0e ∷ 0x4c ∷ 0xbc ∷ 0x85 ∷ 0xa9 ∷ 0xcb ∷ 0x0e ∷
    0x3d ∷ 0x62 ∷ 0x6d ∷ 0xd3 ∷ 0xb3 ∷ 0x60 ∷ 0x9c ∷ 0xb2 ∷ 0xe1 ∷ 0xc8 ∷ 0x57 ∷ 0x2c ∷ 0xb8 ∷ 0x72 ∷ 0x5f ∷ 0xe9 ∷
    0xcb ∷ 0x0e ∷ 0x3d ∷ 0x62 ∷ 0xf4 ∷ 0xe5 ∷ 0x87 ∷ 0x1e ∷ 0xb1 ∷ 0x76 ∷ 0x61 ∷ 0xc5 ∷ 0x97 ∷ 0x60 ∷ 0x9b ∷ 0xb2 ∷
    0xf8 ∷ 0xe8 ∷ 0x06 ∷ 0xc8 ∷ 0x0d ∷ 0x10 ∷ 0x2c ∷ 0x26 ∷ 0x8a ∷ 0x99 ∷ 0x81 ∷ 0x0d ∷ 0x85 ∷ 0x70 ∷ 0xf8 ∷ 0x21 ∷
    0x00 ∷ []

abbrev method_text : List ℕ
method_text =
    bytes "namespace disc {\n"
    ++ bytes "  struct Reader;\n"
    ++ bytes "  using Track = ::disc::Track;\n"
    ++ bytes "}\n"
    ++ bytes "\n"
    ++ bytes "namespace disc {\n"
    ++ bytes "extern \"C\" {\n"
    ++ bytes "::std::size_t disc$cxxbridge1$205$Reader$operator$sizeof() noexcept;\n"
    ++ bytes "::std::size_t disc$cxxbridge1$205$Reader$operator$alignof() noexcept;\n"
    ++ bytes "} // extern \"C\"\n"
    ++ bytes "} // namespace disc\n"
    ++ bytes "\n"
    ++ bytes "namespace mill {\n"
    ++ bytes "extern \"C\" {\n"
    ++ bytes "::rust::repr::PtrLen mill$cxxbridge1$205$Reader$read_track(::disc::Reader const &self, ::disc::Track *track, ::rust::String *label, ::disc::Reader *next, ::rust::Vec<::std::uint8_t> *return$) noexcept;\n"
    ++ bytes "} // extern \"C\"\n"
    ++ bytes "} // namespace mill\n"
    ++ bytes "\n"
    ++ bytes "namespace disc {\n"
    ++ bytes "::std::size_t Reader::layout::size() noexcept {\n"
    ++ bytes "  return disc$cxxbridge1$205$Reader$operator$sizeof();\n"
    ++ bytes "}\n"
    ++ bytes "\n"
    ++ bytes "::std::size_t Reader::layout::align() noexcept {\n"
    ++ bytes "  return disc$cxxbridge1$205$Reader$operator$alignof();\n"
    ++ bytes "}\n"
    ++ bytes "} // namespace disc\n"
    ++ bytes "\n"
    ++ bytes "namespace mill {\n"
    ++ bytes "::rust::Vec<::std::uint8_t> Reader::read(::disc::Track track, ::rust::String label, ::rust::Box<::disc::Reader> next) const {\n"
    ++ bytes "  ::rust::ManuallyDrop<::disc::Track> track$(::std::move(track));\n"
    ++ bytes "  ::rust::MaybeUninit<::rust::Vec<::std::uint8_t>> return$;\n"
    ++ bytes "  ::rust::repr::PtrLen error$ = mill$cxxbridge1$205$Reader$read_track(*this, &track$.value, &label, next.into_raw(), &return$.value);\n"
    ++ bytes "  if (error$.ptr) {\n"
    ++ bytes "    throw ::rust::impl<::rust::Error>::error(error$);\n"
    ++ bytes "  }\n"
    ++ bytes "  return ::std::move(return$.value);\n"
    ++ bytes "}\n"
    ++ bytes "} // namespace mill\n"

-- namespaces that are left and opened again
abbrev reopen : List ℕ
reopen =
    0x10 ∷ 0x0d ∷ 0x07 ∷ 0x08 ∷ 0x73 ∷ 0xf7 ∷ 0x65 ∷ 0x0f ∷ 0xa7 ∷ 0x7d ∷ 0xe1 ∷ 0xef ∷ 0xdd ∷ 0x94 ∷ 0x1c ∷ 0x42 ∷
    0xf4 ∷ 0xd1 ∷ 0xcb ∷ 0x2e ∷ 0x50 ∷ 0x7c ∷ 0x09 ∷ 0x9b ∷ 0x7f ∷ 0x5e ∷ 0x42 ∷ 0x66 ∷ 0xd3 ∷ 0xdb ∷ 0x28 ∷ 0x39 ∷
    0x83 ∷ 0xa7 ∷ 0xa7 ∷ 0xc0 ∷ 0xb4 ∷ 0xf2 ∷ 0xf6 ∷ 0xcb ∷ 0xb8 ∷ 0x5c ∷ 0xba ∷ 0x73 ∷ 0xe8 ∷ 0xe8 ∷ 0x10 ∷ 0x08 ∷
    0x08 ∷ 0x10 ∷ 0x28 ∷ 0x40 ∷ 0x88 ∷ 0x02 ∷ 0x6e ∷ 0x10 ∷ 0x08 ∷ 0x81 ∷ 0x15 ∷ 0x47 ∷ 0x40 ∷ 0x41 ∷ 0x69 ∷ 0x04 ∷
    0x20 ∷ 0xee ∷ 0x00 ∷ 0x04 ∷ 0x11 ∷ 0x00 ∷ 0x19 ∷ 0xb8 ∷ 0x01 ∷ 0x01 ∷ 0x68 ∷ 0x08 ∷ 0x05 ∷ 0x02 ∷ 0x52 ∷ 0x40 ∷
    0x58 ∷ 0x11 ∷ 0x11 ∷ 0x02 ∷ 0x66 ∷ 0x08 ∷ 0xd0 ∷ 0x00 ∷ []

abbrev reopen_text : List ℕ
reopen_text =
    bytes "struct Seven;\n"
    ++ bytes "namespace a {\n"
    ++ bytes "  struct One;\n"
    ++ bytes "  namespace b {\n"
    ++ bytes "    enum class Six : ::std::int32_t;\n"
    ++ bytes "  }\n"
    ++ bytes "}\n"
    ++ bytes "\n"
    ++ bytes "namespace a {\n"
    ++ bytes "extern \"C\" {\n"
    ++ bytes "void a$cxxbridge1$205$two(::a::One const &one) noexcept;\n"
    ++ bytes "} // extern \"C\"\n"
    ++ bytes "\n"
    ++ bytes "namespace b {\n"
    ++ bytes "extern \"C\" {\n"
    ++ bytes "::rust::repr::Fat a$b$cxxbridge1$205$three(::rust::Str x) noexcept;\n"
    ++ bytes "} // extern \"C\"\n"
    ++ bytes "} // namespace b\n"
    ++ bytes "\n"
    ++ bytes "extern \"C\" {\n"
    ++ bytes "void a$cxxbridge1$205$four() noexcept;\n"
    ++ bytes "} // extern \"C\"\n"
    ++ bytes "} // namespace a\n"
    ++ bytes "\n"
    ++ bytes "extern \"C\" {\n"
    ++ bytes "void cxxbridge1$205$five(::rust::Fn<bool(::std::uint8_t, ::rust::Slice<::std::uint8_t const>)> f) noexcept;\n"
    ++ bytes "} // extern \"C\"\n"
    ++ bytes "\n"
    ++ bytes "namespace a {\n"
    ++ bytes "namespace b {\n"
    ++ bytes "extern \"C\" {\n"
    ++ bytes "::a::b::Six a$b$cxxbridge1$205$eight() noexcept;\n"
    ++ bytes "} // extern \"C\"\n"
    ++ bytes "} // namespace b\n"
    ++ bytes "\n"
    ++ bytes "void two(::a::One const &one) noexcept {\n"
    ++ bytes "  a$cxxbridge1$205$two(one);\n"
    ++ bytes "}\n"
    ++ bytes "\n"
    ++ bytes "namespace b {\n"
    ++ bytes "::rust::Slice<::std::uint8_t const> three(::rust::Str x) noexcept {\n"
    ++ bytes "  return ::rust::impl<::rust::Slice<::std::uint8_t const>>::slice(a$b$cxxbridge1$205$three(x));\n"
    ++ bytes "}\n"
    ++ bytes "} // namespace b\n"
    ++ bytes "\n"
    ++ bytes "void four() noexcept {\n"
    ++ bytes "  a$cxxbridge1$205$four();\n"
    ++ bytes "}\n"
    ++ bytes "} // namespace a\n"
    ++ bytes "\n"
    ++ bytes "void five(::rust::Fn<bool(::std::uint8_t, ::rust::Slice<::std::uint8_t const>)> f) noexcept {\n"
    ++ bytes "  cxxbridge1$205$five(f);\n"
    ++ bytes "}\n"
    ++ bytes "\n"
    ++ bytes "namespace a {\n"
    ++ bytes "namespace b {\n"
    ++ bytes "::a::b::Six eight() noexcept {\n"
    ++ bytes "  return a$b$cxxbridge1$205$eight();\n"
    ++ bytes "}\n"
    ++ bytes "} // namespace b\n"
    ++ bytes "} // namespace a\n"

pub sheet_texts :
    (text_of (judge header) ≡ header_text)
    × (text_of (judge doxygen1) ≡ doxygen1_text)
    × (text_of (judge doxygen2) ≡ doxygen2_text)
    × (text_of (judge method) ≡ method_text)
    × (text_of (judge reopen) ≡ reopen_text)
unfolding computes
sheet_texts = (refl, refl, refl, refl, refl)
