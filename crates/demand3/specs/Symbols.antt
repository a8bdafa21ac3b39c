-- The symbols of a sheet: of its functions, and of the sizes and alignments of its Rust types.
use Rattle.std.specs.Prelude.{List, [], ◌∷◌, ℕ}
use Rattle.lexical.specs.Bytes.{bytes}
use Rattle.format.specs.Sheet.{Body, struct, enum, cxx_type, rust_type, function, Item}
use Rattle.syntax.specs.Mangle.{extern_fn, operator}
use Rattle.rules.specs.Rules.{gather}

abbrev pub item_symbols : List Item → Item → Body → List (List ℕ)
item_symbols items x (struct p ts) = []
item_symbols items x (enum p a c) = []
item_symbols items x (cxx_type p) = []
item_symbols items x (rust_type p) = operator x (bytes "sizeof") ∷ operator x (bytes "alignof") ∷ []
item_symbols items x (function f) = extern_fn items x.namespace f ∷ []

unfoldable pub symbols_of : List Item → List (List ℕ)
symbols_of items = gather (λ x. item_symbols items x x.body) items
