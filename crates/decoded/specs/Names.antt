-- The names that a sheet's value holds.
use Rattle.std.specs.Prelude.{List, ◌∷◌, ◌++◌, Bool}
use Rattle.lexical.specs.Bytes.{every}
use Rattle.format.specs.Sheet.{Name, Body, Item}
use Rattle.rules.specs.Rules.{gather, function_of, argument_names}

-- a function's Rust name and the names of its arguments
unfoldable pub body_names : Body → List Name
body_names b = gather (λ f. f.rust ∷ argument_names f) (function_of b)

unfoldable pub item_names : Item → List Name
item_names x = x.namespace ++ (x.cxx ∷ body_names x.body)

-- each name of each item keeps the rule
unfoldable pub names_keep : (Name → Bool) → List Item → Bool
names_keep rule items = every (λ x. every rule (item_names x)) items
