-- syntax/mangle.rs: the symbols of functions and of a type's layout.
use Rattle.std.specs.Prelude.{List, [], ◌∷◌, ◌++◌, map, ℕ}
use Rattle.lexical.specs.Bytes.{bytes}
use Rattle.format.specs.Sheet.{Name, Function, Item}
use Rattle.syntax.specs.Items.{item_at, self_type}
use Rattle.syntax.specs.Symbol.{join}

-- CXXBRIDGE and CXXVERSION
abbrev pub version : List (List ℕ)
version = bytes "cxxbridge1" ∷ bytes "205" ∷ []

-- "the function's namespace, `cxxbridge1`, `205`, the self type's C++ name if any, the Rust name"
unfoldable pub extern_fn : List Item → List Name → Function → List ℕ
extern_fn items namespace f =
    join (namespace ++ version ++ map (λ i. (item_at items i).cxx) (self_type f.form) ++ (f.rust ∷ []))

-- "Layout symbols end in the type's C++ name, `operator` and `sizeof` or `alignof`"
unfoldable pub operator : Item → List ℕ → List ℕ
operator type name = join (type.namespace ++ version ++ (type.cxx ∷ bytes "operator" ∷ name ∷ []))
