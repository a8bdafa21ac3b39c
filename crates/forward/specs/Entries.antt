-- The text of a group, level by level.
use Rattle.std.specs.Prelude.{List, ◌++◌, ℕ, ◌+◌, ◌-◌, take}
use Rattle.lexical.specs.Bytes.{bytes}
use Rattle.format.specs.Limits.{most_namespaces}
use Rattle.format.specs.Sheet.{Name, Item}
use Rattle.rules.specs.Rules.{gather}
use Rattle.bridge.specs.Nested.{nested_content}
use Rattle.bridge.specs.Write.{forward_line, indent, write_direct, write_entries}
use Rattle.nested.specs.Groups.{members, names_before}

-- an own entry of a level
abbrev pub entry : ℕ → Item → List ℕ
entry depth x = indent depth ++ forward_line x x.body

-- the own entries of the group among the items before item i
unfoldable pub direct_before : List Item → Item → ℕ → ℕ → List ℕ
direct_before items leader depth i = write_direct depth (members leader depth (take i items))

-- an inner namespace
unfoldable pub namespace_text : ℕ → List Item → Name → List ℕ
namespace_text depth apis name =
    indent depth ++ bytes "namespace " ++ name ++ bytes " {\n"
    ++ write_entries (most_namespaces - (depth + 1)) (depth + 1) (nested_content depth name apis) ++ indent depth
    ++ bytes "}\n"

-- the inner namespaces of the group that open before item i
unfoldable pub namespaces_before : List Item → Item → ℕ → ℕ → List ℕ
namespaces_before items leader depth i =
    gather (namespace_text depth (members leader depth items)) (names_before items leader depth i)
