-- The entries of a sheet with header bit 0, over the trees of its items: they are spelled by the sheet's pieces, keep
-- the rules, and declare and define in sheet order.
use mathlib.Core.Path.{◌≡◌, refl, sym, ap, ap₂, ◌∙◌}
use mathlib.Core.List.{List, [], ◌∷◌, ◌++◌, map, append_assoc, append-nil}
use mathlib.Core.Bool.{Bool, true, false, not, ◌&&◌, false≢true}
use lib.ListN.{length}
use Rattle.lexical.specs.Bytes.{bytes, every}
use Rattle.lexical.proofs.ByteLaws.{Each, every_cons, every_append}
use Rattle.format.specs.Decode.{pick}
use Rattle.format.specs.Sheet.{Name, Function, Body, struct, enum, cxx_type, rust_type, function, Item, Sheet}
use Rattle.rules.specs.Rules.{gather}
use Rattle.rules.proofs.EveryLaws.{every_gather}
use Rattle.grammar.specs.Tree as Tree
use Rattle.grammar.specs.Tree.{Declaration, LayoutDefinition, Shim, Measure, size, align, declares, defines, shim}
use Rattle.grammar.specs.Rules.{item_ok}
use Rattle.agreement.specs.Agreement.{Declared, Defined, declarations, shims}
use Rattle.bridge.specs.Block.{Block, user_defined_namespace, extern_c}
use Rattle.bridge.specs.Write.{function_decl, layout_decl, layout_definition, function_shim, is_free}
use Rattle.pieces.specs.Pieces.{Piece, namespaces, declaration_pieces, definition_pieces, pieces}
use Rattle.pieces.proofs.BodyTree.{Entry, body_of}
use Rattle.pieces.proofs.BodyFacts.{names_of, has_extern_c, entry_ok, in_entries, declared_by, defined_by}
use Rattle.pieces.proofs.BodyFacts.{body_declarations, body_shims}
use Rattle.pieces.proofs.BodyLayout.{SpellsItem, SpellAll}
use Rattle.pieces.proofs.ForwardTree.{item_named, named_item_lem}

-- ---- lists of lists

gather_append : {A B : Type 0} (f : A → List B) (xs ys : List A) → gather f (xs ++ ys) ≡ gather f xs ++ gather f ys
unfolding gather
gather_append f [] ys = refl
gather_append f (x ∷ xs) ys =
    ap (λ (z : List _). f x ++ z) (gather_append f xs ys) ∙ sym (append_assoc (f x) (gather f xs) (gather f ys))

gather_gather : {A B C : Type 0} (f : B → List C) (g : A → List B) (xs : List A) →
    gather f (gather g xs) ≡ gather (λ x. gather f (g x)) xs
unfolding gather
gather_gather f g [] = refl
gather_gather f g (x ∷ xs) =
    gather_append f (g x) (gather g xs) ∙ ap (λ (z : List _). gather f (g x) ++ z) (gather_gather f g xs)

gather_same : {A B : Type 0} (f g : A → List B) → ((x : A) → f x ≡ g x) → (xs : List A) → gather f xs ≡ gather g xs
unfolding gather
gather_same f g h [] = refl
gather_same f g h (x ∷ xs) = rw (h x, gather_same f g h xs)

gather_none : {A B : Type 0} (f : A → List B) → ((x : A) → f x ≡ []) → (xs : List A) → gather f xs ≡ []
unfolding gather
gather_none f h [] = refl
gather_none f h (x ∷ xs) = rw (h x) (gather_none f h xs)

spell_append : (ps qs : List Piece) (es fs : List Entry) → SpellAll ps es → SpellAll qs fs →
    SpellAll (ps ++ qs) (es ++ fs)
spell_append [] qs [] fs a b = b
spell_append [] qs (e ∷ es) fs a b = absurd a
spell_append (p ∷ ps) qs [] fs a b = absurd a
spell_append (p ∷ ps) qs (e ∷ es) fs a b = (a.0, spell_append ps qs es fs a.1 b)

module _ {A : Type 0} (P : A → Type 0) where
  spell_gather : (f : A → List Piece) (g : A → List Entry) → ((x : A) → P x → SpellAll (f x) (g x)) → (xs : List A) →
      Each P xs → SpellAll (gather f xs) (gather g xs)
  unfolding gather
  spell_gather f g step [] h = tt
  spell_gather f g step (x ∷ xs) h =
      spell_append (f x) (gather f xs) (g x) (gather g xs) (step x h.0) (spell_gather f g step xs h.1)

with_test : {A : Type 0} (test : A → Bool) (P : A → Type 0) (xs : List A) → every test xs ≡ true → Each P xs →
    Each (λ x. (test x ≡ true) × P x) xs
with_test test P [] h p = tt
with_test test P (x ∷ xs) h p =
    let q = every_cons test x xs h in ((q.0, p.0), with_test test P xs q.1 p.1)

-- ---- the entries

-- a tree for each part of an item's text
pub record Trees : Type 0 where
  pub layout_declared : Item → Measure → Declaration
  pub function_declared : Item → Function → Declaration
  pub layout_defined : Item → Measure → LayoutDefinition
  pub function_defined : Item → Function → Shim

abbrev declared_entry : Item → Declaration → Entry
declared_entry x d = (namespaces x ++ (extern_c ∷ []), declares d)

abbrev pub declared_entries : Trees → Item → Body → List Entry
declared_entries trees x (struct p ts) = []
declared_entries trees x (enum p a cxx) = []
declared_entries trees x (cxx_type p) = []
declared_entries trees x (rust_type p) =
    declared_entry x (trees.layout_declared x size) ∷ declared_entry x (trees.layout_declared x align) ∷ []
declared_entries trees x (function f) = declared_entry x (trees.function_declared x f) ∷ []

abbrev pub defined_entries : Trees → Item → Body → List Entry
defined_entries trees x (struct p ts) = []
defined_entries trees x (enum p a cxx) = []
defined_entries trees x (cxx_type p) = []
defined_entries trees x (rust_type p) =
    (namespaces x, defines (trees.layout_defined x size)) ∷ (namespaces x, defines (trees.layout_defined x align)) ∷ []
defined_entries trees x (function f) = (namespaces x, shim (trees.function_defined x f)) ∷ []

pub entries_of : Trees → List Item → List Entry
entries_of trees items =
    gather (λ x. declared_entries trees x x.body) items ++ gather (λ x. defined_entries trees x x.body) items

-- what holds of the entries of each item holds of the sheet's entries
pub entries_every : (test : Entry → Bool) (keep : Item → Bool) (P : Item → Type 0) (trees : Trees) →
    ((x : Item) → keep x ≡ true → P x →
    (every test (declared_entries trees x x.body) ≡ true) × (every test (defined_entries trees x x.body) ≡ true)) →
    (items : List Item) → every keep items ≡ true → Each P items → every test (entries_of trees items) ≡ true
unfolding entries_of
entries_every test keep P trees step items n h =
    let k = with_test keep P items n h in
    every_append test (gather (λ x. declared_entries trees x x.body) items) _
    (every_gather (λ x. (keep x ≡ true) × P x) test _ (λ x k. (step x k.0 k.1).0) items k)
    (every_gather (λ x. (keep x ≡ true) × P x) test _ (λ x k. (step x k.0 k.1).1) items k)

-- ---- what the trees of an item must be

abbrev pub Spelled : Trees → Sheet → Item → Body → Type 0
Spelled trees s x (struct p ts) = Unit {0}
Spelled trees s x (enum p a cxx) = Unit {0}
Spelled trees s x (cxx_type p) = Unit {0}
Spelled trees s x (rust_type p) =
    SpellsItem (layout_decl x (bytes "sizeof")) (declares (trees.layout_declared x size)) ×
    SpellsItem (layout_decl x (bytes "alignof")) (declares (trees.layout_declared x align)) ×
    SpellsItem (layout_definition x (bytes "size") (bytes "sizeof")) (defines (trees.layout_defined x size)) ×
    SpellsItem (layout_definition x (bytes "align") (bytes "alignof")) (defines (trees.layout_defined x align))
Spelled trees s x (function f) =
    SpellsItem (function_decl s.items x f) (declares (trees.function_declared x f)) ×
    SpellsItem (function_shim s x f) (shim (trees.function_defined x f))

-- the rules of a declaration and of a definition, in the item's namespaces
abbrev pub declared_ok : Item → Declaration → Bool
declared_ok x d = item_ok (length x.namespace) true (declares d)

abbrev pub defined_ok : Item → Tree.Item → Bool
defined_ok x i = item_ok (length x.namespace) false i

abbrev pub RulesKept : Trees → Item → Body → Type 0
RulesKept trees x (struct p ts) = Unit {0}
RulesKept trees x (enum p a cxx) = Unit {0}
RulesKept trees x (cxx_type p) = Unit {0}
RulesKept trees x (rust_type p) =
    (declared_ok x (trees.layout_declared x size) ≡ true) × (declared_ok x (trees.layout_declared x align) ≡ true) ×
    (defined_ok x (defines (trees.layout_defined x size)) ≡ true) ×
    (defined_ok x (defines (trees.layout_defined x align)) ≡ true)
RulesKept trees x (function f) =
    (declared_ok x (trees.function_declared x f) ≡ true) × (defined_ok x (shim (trees.function_defined x f)) ≡ true)

-- ---- spelled by the pieces

declared_spelled : (trees : Trees) (s : Sheet) (x : Item) (b : Body) → Spelled trees s x b →
    SpellAll (declaration_pieces s.items x b) (declared_entries trees x b)
declared_spelled trees s x (struct p ts) h = tt
declared_spelled trees s x (enum p a cxx) h = tt
declared_spelled trees s x (cxx_type p) h = tt
declared_spelled trees s x (rust_type p) h =
    (record { around = refl; spells = h.0 }, (record { around = refl; spells = h.1 }, tt))
declared_spelled trees s x (function f) h = (record { around = refl; spells = h.0 }, tt)

picked : {A : Type 0} (b : Bool) (x y : A) → b ≡ false → pick b x y ≡ y
picked true x y e = absurd (false≢true (sym e))
picked false x y e = refl

shown : (header method : Bool) → header ≡ false → (header && method) ≡ false
shown true method e = absurd (false≢true (sym e))
shown false method e = refl

defined_spelled : (trees : Trees) (s : Sheet) (x : Item) (b : Body) → s.header ≡ false → Spelled trees s x b →
    SpellAll (definition_pieces s x b) (defined_entries trees x b)
defined_spelled trees s x (struct p ts) e h = tt
defined_spelled trees s x (enum p a cxx) e h = tt
defined_spelled trees s x (cxx_type p) e h = tt
defined_spelled trees s x (rust_type p) e h =
    rw e (record { around = refl; spells = h.2 }, (record { around = refl; spells = h.3 }, tt))
defined_spelled trees s x (function f) e h =
    rw (shown s.header (not (is_free f.form)) e) (record { around = refl; spells = h.1 }, tt)

pub entries_spelled : (trees : Trees) (s : Sheet) → s.header ≡ false →
    Each (λ x. Spelled trees s x x.body) s.items → SpellAll (pieces s) (entries_of trees s.items)
unfolding pieces entries_of
entries_spelled trees s e h =
    rw (picked s.header [] (gather (λ x. declaration_pieces s.items x x.body) s.items) e)
    (spell_append (gather (λ x. declaration_pieces s.items x x.body) s.items) _
    (gather (λ x. declared_entries trees x x.body) s.items) _
    (spell_gather (λ x. Spelled trees s x x.body) _ _ (λ x. declared_spelled trees s x x.body) s.items h)
    (spell_gather (λ x. Spelled trees s x x.body) _ _ (λ x. defined_spelled trees s x x.body e) s.items h))

-- ---- the rules

names_of_lem : (ns : List Name) (bs : List Block) → names_of (map user_defined_namespace ns ++ bs) ≡ ns ++ names_of bs
names_of_lem [] bs = refl
names_of_lem (n ∷ ns) bs = ap (λ (z : List Name). n ∷ z) (names_of_lem ns bs)

has_extern_c_lem : (ns : List Name) (bs : List Block) → has_extern_c (map user_defined_namespace ns ++ bs) ≡ has_extern_c bs
has_extern_c_lem [] bs = refl
has_extern_c_lem (n ∷ ns) bs = has_extern_c_lem ns bs

pub declared_names : (x : Item) → names_of (namespaces x ++ (extern_c ∷ [])) ≡ x.namespace
unfolding namespaces
declared_names x = names_of_lem x.namespace (extern_c ∷ []) ∙ append-nil x.namespace

pub defined_names : (x : Item) → names_of (namespaces x) ≡ x.namespace
unfolding namespaces
defined_names x =
    ap names_of (sym (append-nil (map user_defined_namespace x.namespace))) ∙ names_of_lem x.namespace []
    ∙ append-nil x.namespace

in_extern_c_lem : (x : Item) → has_extern_c (namespaces x ++ (extern_c ∷ [])) ≡ true
unfolding namespaces
in_extern_c_lem x = has_extern_c_lem x.namespace (extern_c ∷ [])

not_in_extern_c : (x : Item) → has_extern_c (namespaces x) ≡ false
unfolding namespaces
not_in_extern_c x =
    ap has_extern_c (sym (append-nil (map user_defined_namespace x.namespace))) ∙ has_extern_c_lem x.namespace []

module _ (x : Item) (named : item_named x ≡ true) where
  declared_ok_lem : (i : Tree.Item) → item_ok (length x.namespace) true i ≡ true →
      entry_ok (namespaces x ++ (extern_c ∷ []), i) ≡ true
  unfolding entry_ok
  declared_ok_lem i h =
      let n = named_item_lem x named in
      rw (declared_names x, in_extern_c_lem x, n.namespaces, n.shallow) h

  defined_ok_lem : (i : Tree.Item) → item_ok (length x.namespace) false i ≡ true → entry_ok (namespaces x, i) ≡ true
  unfolding entry_ok
  defined_ok_lem i h =
      let n = named_item_lem x named in
      rw (defined_names x, not_in_extern_c x, n.namespaces, n.shallow) h

  declared_entries_ok : (trees : Trees) (b : Body) → RulesKept trees x b →
      every entry_ok (declared_entries trees x b) ≡ true
  unfolding every
  declared_entries_ok trees (struct p ts) h = refl
  declared_entries_ok trees (enum p a cxx) h = refl
  declared_entries_ok trees (cxx_type p) h = refl
  declared_entries_ok trees (rust_type p) h = rw (declared_ok_lem _ h.0, declared_ok_lem _ h.1)
  declared_entries_ok trees (function f) h = rw (declared_ok_lem _ h.0)

  defined_entries_ok : (trees : Trees) (b : Body) → RulesKept trees x b →
      every entry_ok (defined_entries trees x b) ≡ true
  unfolding every
  defined_entries_ok trees (struct p ts) h = refl
  defined_entries_ok trees (enum p a cxx) h = refl
  defined_entries_ok trees (cxx_type p) h = refl
  defined_entries_ok trees (rust_type p) h = rw (defined_ok_lem _ h.2, defined_ok_lem _ h.3)
  defined_entries_ok trees (function f) h = rw (defined_ok_lem _ h.1)

pub entries_ok : (trees : Trees) (items : List Item) → every item_named items ≡ true →
    Each (λ x. RulesKept trees x x.body) items → every entry_ok (entries_of trees items) ≡ true
entries_ok trees =
    entries_every entry_ok item_named (λ x. RulesKept trees x x.body) trees
    (λ x n h. (declared_entries_ok x n trees x.body h, defined_entries_ok x n trees x.body h))

-- ---- declared and defined in sheet order

abbrev declared_in : Item → Declaration → Declared
declared_in x d = record { namespace = x.namespace; declaration = d }

abbrev pub declared_of : Trees → Item → Body → List Declared
declared_of trees x (struct p ts) = []
declared_of trees x (enum p a cxx) = []
declared_of trees x (cxx_type p) = []
declared_of trees x (rust_type p) =
    declared_in x (trees.layout_declared x size) ∷ declared_in x (trees.layout_declared x align) ∷ []
declared_of trees x (function f) = declared_in x (trees.function_declared x f) ∷ []

abbrev pub defined_of : Trees → Item → Body → List Defined
defined_of trees x (struct p ts) = []
defined_of trees x (enum p a cxx) = []
defined_of trees x (cxx_type p) = []
defined_of trees x (rust_type p) = []
defined_of trees x (function f) = record { namespace = x.namespace; shim = trees.function_defined x f } ∷ []

declared_declared : (trees : Trees) (x : Item) (b : Body) →
    in_entries declared_by (declared_entries trees x b) ≡ declared_of trees x b
unfolding gather
declared_declared trees x (struct p ts) = refl
declared_declared trees x (enum p a cxx) = refl
declared_declared trees x (cxx_type p) = refl
declared_declared trees x (rust_type p) = rw (declared_names x)
declared_declared trees x (function f) = rw (declared_names x)

defined_declared : (trees : Trees) (x : Item) (b : Body) → in_entries declared_by (defined_entries trees x b) ≡ []
unfolding gather
defined_declared trees x (struct p ts) = refl
defined_declared trees x (enum p a cxx) = refl
defined_declared trees x (cxx_type p) = refl
defined_declared trees x (rust_type p) = refl
defined_declared trees x (function f) = refl

declared_defined : (trees : Trees) (x : Item) (b : Body) → in_entries defined_by (declared_entries trees x b) ≡ []
unfolding gather
declared_defined trees x (struct p ts) = refl
declared_defined trees x (enum p a cxx) = refl
declared_defined trees x (cxx_type p) = refl
declared_defined trees x (rust_type p) = refl
declared_defined trees x (function f) = refl

defined_defined : (trees : Trees) (x : Item) (b : Body) →
    in_entries defined_by (defined_entries trees x b) ≡ defined_of trees x b
unfolding gather
defined_defined trees x (struct p ts) = refl
defined_defined trees x (enum p a cxx) = refl
defined_defined trees x (cxx_type p) = refl
defined_defined trees x (rust_type p) = refl
defined_defined trees x (function f) = rw (defined_names x)

module _ {D : Type 0} (found : List Name → Tree.Item → List D) (trees : Trees) (items : List Item) where
  in_sheet : in_entries found (entries_of trees items)
      ≡ gather (λ x. in_entries found (declared_entries trees x x.body)) items
      ++ gather (λ x. in_entries found (defined_entries trees x x.body)) items
  unfolding entries_of
  in_sheet =
      let one : Entry → List D = λ e. found (names_of e.0) e.1 in
      gather_append one (gather (λ x. declared_entries trees x x.body) items)
      (gather (λ x. defined_entries trees x x.body) items) ∙
      ap₂ (λ (a b : List D). a ++ b) (gather_gather one (λ x. declared_entries trees x x.body) items)
      (gather_gather one (λ x. defined_entries trees x x.body) items)

pub sheet_declarations : (trees : Trees) (items : List Item) →
    declarations [] (body_of (entries_of trees items)) ≡ gather (λ x. declared_of trees x x.body) items
sheet_declarations trees items =
    body_declarations (entries_of trees items) ∙ in_sheet declared_by trees items ∙
    ap₂ (λ (a b : List Declared). a ++ b)
    (gather_same _ (λ x. declared_of trees x x.body) (λ x. declared_declared trees x x.body) items)
    (gather_none _ (λ x. defined_declared trees x x.body) items) ∙ append-nil _

pub sheet_shims : (trees : Trees) (items : List Item) →
    shims [] (body_of (entries_of trees items)) ≡ gather (λ x. defined_of trees x x.body) items
sheet_shims trees items =
    body_shims (entries_of trees items) ∙ in_sheet defined_by trees items ∙
    ap₂ (λ (a b : List Defined). a ++ b) (gather_none _ (λ x. declared_defined trees x x.body) items)
    (gather_same _ (λ x. defined_of trees x x.body) (λ x. defined_defined trees x x.body) items)
