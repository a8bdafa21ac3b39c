-- Document 01's example: an opaque Rust type `Job` and a function `count(job: &Job) -> u32`, both in `mill`.
use Rattle.std.proofs.Common.{◌≡◌, ℕ, ◌*◌, false, List, [], ◌∷◌, refl}
use Rattle.lexical.specs.Bytes.{bytes}
use Rattle.format.specs.declared.Atom.TheVariants.{U32}
use Rattle.format.specs.declared.Pointer.TheVariants.{Ref}
use Rattle.format.specs.Types.{atom, named, pointer, gives}
use Rattle.format.specs.Sheet.{free, Argument, rust_type, function, Item, Sheet}
use Rattle.rules.specs.Judge.{accepted, judge}
use Rattle.decoded.specs.Editions.{SameButEdition}
use Rattle.decoded.proofs.Extends.{same_but_edition}
use Rattle.bridge.specs.Write.{text}
use Rattle.examples.proofs.Computing.{computes}

-- in an edition
abbrev mill : ℕ → List ℕ
mill edition =
    16 * edition ∷ 0x04 ∷ 0x13 ∷ 0x6e ∷ 0x9d ∷ 0x9b ∷ 0x03 ∷ 0x95 ∷ 0xbf ∷ 0x10 ∷ 0xb8 ∷ 0xf7 ∷ 0xf5 ∷ 0xdd ∷ 0xd0 ∷ 0x3d ∷ 0x5b ∷ 0xf1 ∷ 0x01 ∷ 0x32 ∷ 0x28 ∷ 0x4a ∷ 0x10 ∷ 0x40 ∷ 0xee ∷ 0x10 ∷ 0x00 ∷ []

-- the items, with more arguments of the function
abbrev pub mill_items : List Argument → List Item
mill_items more =
    record { namespace = bytes "mill" ∷ []; cxx = bytes "Job"; body = rust_type false }
    ∷ record {
      namespace = bytes "mill" ∷ [];
      cxx = bytes "count";
      body = function (record {
        rust = bytes "count";
        form = free;
        throws = false;
        return = gives (atom U32);
        arguments = record { name = bytes "job"; type = pointer Ref false (named 0) } ∷ more;
        comment = [];
      });
    }
    ∷ []

abbrev pub value : Sheet
value = record { header = false; doxygen = false; items = mill_items [] }

pub mill_decodes : (judge (mill 1) ≡ accepted value) × (judge (mill 2) ≡ accepted value)
unfolding computes
mill_decodes = (refl, refl)

-- the two sheets are of those that `same_text` of demand3 speaks of
pub mill_editions : SameButEdition (mill 1) (mill 2)
mill_editions = same_but_edition 16 32 _ refl

pub mill_text :
    text value ≡ bytes
    "namespace mill {\n  struct Job;\n}\n\nnamespace mill {\nextern \"C\" {\n::std::size_t mill$cxxbridge1$205$Job$operator$sizeof() noexcept;\n::std::size_t mill$cxxbridge1$205$Job$operator$alignof() noexcept;\n\n::std::uint32_t mill$cxxbridge1$205$count(::mill::Job const &job) noexcept;\n} // extern \"C\"\n\n::std::size_t Job::layout::size() noexcept {\n  return mill$cxxbridge1$205$Job$operator$sizeof();\n}\n\n::std::size_t Job::layout::align() noexcept {\n  return mill$cxxbridge1$205$Job$operator$alignof();\n}\n\n::std::uint32_t count(::mill::Job const &job) noexcept {\n  return mill$cxxbridge1$205$count(job);\n}\n} // namespace mill\n"
unfolding computes
mill_text = refl
