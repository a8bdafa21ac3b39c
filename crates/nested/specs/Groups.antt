-- bridge/nested.rs without its lists. A group is named by one of its items, the leader, and a depth: its members need
-- a forward declaration and lie in the leader's first so many namespaces.
use Rattle.std.specs.Prelude.{◌≡◌, List, [], ◌∷◌, Bool, true, false, not, ◌&&◌, ℕ, zero, suc, ◌+◌, ◌<◌, ◌≤◌, ltb, eqb}
use Rattle.std.specs.Prelude.{length, take}
use Rattle.lexical.specs.Bytes.{same}
use Rattle.format.specs.Sheet.{Name, Body, enum, Item}
use Rattle.format.specs.Decoding.{atom_of}
use Rattle.syntax.specs.Items.{item_at}
use Rattle.rules.specs.Rules.{any}
use Rattle.bridge.specs.Nested.{filter, nested_names}
use Rattle.bridge.specs.Write.{needs_forward_declaration}
use Rattle.nested.specs.declared.EnumView.{EnumView}

-- v is a view of an enum
pub record EnumOf (body : Body) (v : EnumView) : Type 0 where
  pub pointer : Bool
  pub is : body ≡ enum pointer (atom_of v.atom) v.owned

-- both have so many namespaces, and these are the same
unfoldable pub shared : ℕ → List Name → List Name → Bool
shared zero ms ns = true
shared (suc depth) [] ns = false
shared (suc depth) (m ∷ ms) [] = false
shared (suc depth) (m ∷ ms) (n ∷ ns) = same m n && shared depth ms ns

-- x is a member of the leader's group at this depth
unfoldable pub belongs : Item → ℕ → Item → Bool
belongs leader depth x = needs_forward_declaration x.body && shared depth leader.namespace x.namespace

unfoldable pub members : Item → ℕ → List Item → List Item
members leader depth items = filter (belongs leader depth) items

-- x is one of the group's own entries
unfoldable pub is_direct : Item → ℕ → Item → Bool
is_direct leader depth x = belongs leader depth x && eqb (length x.namespace) depth

-- no item before item i is in its group at this depth
unfoldable pub is_first : List Item → ℕ → ℕ → Bool
is_first items depth i = not (any (belongs (item_at items i) depth) (take i items))

-- item i is a member, and the first of an inner namespace
unfoldable pub opens : List Item → Item → ℕ → ℕ → Bool
opens items leader depth i =
    belongs leader depth (item_at items i) && ltb depth (length (item_at items i).namespace)
    && is_first items (depth + 1) i

-- the inner namespaces of the members before item i
unfoldable pub names_before : List Item → Item → ℕ → ℕ → List Name
names_before items leader depth i = nested_names depth (members leader depth (take i items))

-- from an item on, r is the first that opens an inner namespace, or the number of all items
pub record Next (items : List Item) (leader : Item) (depth from r : ℕ) : Type 0 where
  pub least : from ≤ r
  pub most : r ≤ length items
  pub none : names_before items leader depth r ≡ names_before items leader depth from
  pub found : r < length items → opens items leader depth r ≡ true
