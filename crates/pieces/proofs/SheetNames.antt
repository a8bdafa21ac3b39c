-- The names of the tree of a sheet's text keep any rule that the sheet's names and the trees of its items keep.
use mathlib.Core.Path.{◌≡◌, refl}
use mathlib.Core.List.{List, [], ◌∷◌, ◌++◌, append_assoc, append-nil}
use mathlib.Core.Bool.{Bool, true, ◌&&◌}
use Prim.Native.Nat.{ℕ, zero, suc, ◌+◌}
use Rattle.lexical.specs.Bytes.{every}
use Rattle.lexical.proofs.BoolLaws.{both}
use Rattle.lexical.proofs.ByteLaws.{Each, every_cons, every_append, every_split, every_weaken}
use Rattle.format.specs.Sheet.{Name, Body, struct, enum, cxx_type, rust_type, function, Item, Sheet}
use Rattle.grammar.specs.Tree as Tree
use Rattle.grammar.specs.Tree.{Forward, forward_end, Text, size, align, body_end, item}
use Rattle.grammar.specs.Reading.{Reading}
use Rattle.agreement.specs.Names.{names_of_declaration, names_of_layout, names_of_shim, names_of_item, names_of_block}
use Rattle.agreement.specs.Names.{names_of_body, names_of_forward, names_of}
use Rattle.bridge.specs.Block.{Block, user_defined_namespace, extern_c}
use Rattle.bridge.specs.Nested.{nested_content}
use Rattle.bridge.specs.Write.{text}
use Rattle.pieces.proofs.BodyTree.{Entry, body_of, fold_body, opens, fold_entries, fold_body_of}
use Rattle.pieces.proofs.BodyFacts as Facts
use Rattle.pieces.proofs.ForwardTree.{line_tree, lines_tree, namespaces_tree, entries_tree, forward_of, every_filter}
use Rattle.pieces.proofs.ForwardTree.{nested_kept, direct_every, inner_every}
use Rattle.pieces.proofs.SheetEntries.{Trees, declared_entries, defined_entries, entries_of, entries_every}
use Rattle.pieces.proofs.SheetEntries.{entries_spelled, declared_names, defined_names, entries_ok}
use Rattle.pieces.proofs.SheetReading.{tree_of, sheet_reads}
use Rattle.pieces.proofs.SheetAgreement.{TreesFit, demand_3}

-- the names of the trees of an item keep the rule
abbrev pub NamesKept : (Name → Bool) → Trees → Item → Body → Type 0
NamesKept rule trees x (struct p ts) = Unit {0}
NamesKept rule trees x (enum p a cxx) = Unit {0}
NamesKept rule trees x (cxx_type p) = Unit {0}
NamesKept rule trees x (rust_type p) =
    (every rule (names_of_declaration (trees.layout_declared x size)) ≡ true) ×
    (every rule (names_of_declaration (trees.layout_declared x align)) ≡ true) ×
    (every rule (names_of_layout (trees.layout_defined x size)) ≡ true) ×
    (every rule (names_of_layout (trees.layout_defined x align)) ≡ true)
NamesKept rule trees x (function f) =
    (every rule (names_of_declaration (trees.function_declared x f)) ≡ true) ×
    (every rule (names_of_shim (trees.function_defined x f)) ≡ true)

-- ---- the names of a body as a fold

abbrev on_block : Unit {0} → Tree.Block → List Name → List Name
on_block c b r = names_of_block b ++ r

abbrev on_item : Unit {0} → Tree.Item → List Name → List Name
on_item c i r = names_of_item i ++ r

names_fold : (b : Tree.Body) (r : List Name) →
    names_of_body b ++ r ≡ fold_body (λ c b. c) on_block (λ c b r. r) on_item tt b r
unfolding names_of_body
names_fold body_end r = refl
names_fold (item i next) r = rw (← names_fold next r) (append_assoc (names_of_item i) (names_of_body next) r)
names_fold (Tree.block b inside next) r = rw (← names_fold next r, ← names_fold inside _) (simp append_assoc)

module _ (rule : Name → Bool) where
  abbrev Kept : List Name → Type 0
  Kept ns = every rule ns ≡ true

  abbrev item_kept : Item → Bool
  item_kept x = every rule (x.namespace ++ (x.cxx ∷ []))

  item_names_lem : (x : Item) → item_kept x ≡ true → Kept x.namespace × (rule x.cxx ≡ true)
  item_names_lem x h =
      let q = every_split rule x.namespace (x.cxx ∷ []) h in (q.0, (every_cons rule x.cxx [] q.1).0)

  -- ---- the forward declarations

  line_kept : (x : Item) (b : Body) (next : Forward) → item_kept x ≡ true → Kept (names_of_forward next) →
      Kept (names_of_forward (line_tree x b next))
  unfolding names_of_forward every
  line_kept x (struct p ts) next n h = rw (item_names_lem x n).1 h
  line_kept x (enum p a cxx) next n h = rw (item_names_lem x n).1 h
  line_kept x (cxx_type p) next n h =
      rw (item_names_lem x n).1 (every_append rule (x.namespace ++ (x.cxx ∷ [])) (names_of_forward next) n h)
  line_kept x (rust_type p) next n h = rw (item_names_lem x n).1 h
  line_kept x (function f) next n h = h

  lines_kept : (xs : List Item) (next : Forward) → every item_kept xs ≡ true → Kept (names_of_forward next) →
      Kept (names_of_forward (lines_tree xs next))
  unfolding lines_tree
  lines_kept [] next h e = e
  lines_kept (x ∷ xs) next h e =
      let q = every_cons item_kept x xs h in
      line_kept x x.body (lines_tree xs next) q.0 (lines_kept xs next q.1 e)

  namespaces_kept : (tree : Name → Forward) → ((name : Name) → Kept (names_of_forward (tree name))) →
      (ns : List Name) → Kept ns → Kept (names_of_forward (namespaces_tree tree ns))
  unfolding namespaces_tree names_of_forward every
  namespaces_kept tree step [] h = refl
  namespaces_kept tree step (n ∷ ns) h =
      let q = every_cons rule n ns h in
      rw q.0 (every_append rule (names_of_forward (tree n)) _ (step n) (namespaces_kept tree step ns q.1))

  levels_kept : (levels depth : ℕ) (apis : List Item) → every item_kept apis ≡ true →
      Kept (names_of_forward (entries_tree levels depth apis))
  unfolding entries_tree names_of_forward every
  levels_kept zero depth apis h = lines_kept _ forward_end (direct_every item_kept depth apis h) refl
  levels_kept (suc levels) depth apis h =
      lines_kept _ _ (direct_every item_kept depth apis h)
      (namespaces_kept _
      (λ name. levels_kept levels (depth + 1) (nested_content depth name apis) (inner_every item_kept depth name apis h))
      _ (nested_kept rule depth apis (every_weaken item_kept _ (λ x e. (item_names_lem x e).0) apis h)))

  -- ---- the body

  opens_kept : (Q : List Block) (r : List Name) → Kept (Facts.names_of Q) → Kept r →
      Kept (opens (λ c b. c) on_block (λ c b r. r) tt Q r)
  unfolding every
  opens_kept [] r h e = e
  opens_kept (user_defined_namespace n ∷ Q) r h e =
      let q = every_cons rule n (Facts.names_of Q) h in rw q.0 (opens_kept Q r q.1 e)
  opens_kept (extern_c ∷ Q) r h e = opens_kept Q r h e

  inside_kept : (b : Block) (Q : List Block) → Kept (Facts.names_of (b ∷ Q)) → Kept (Facts.names_of Q)
  inside_kept (user_defined_namespace n) Q h = (every_cons rule n (Facts.names_of Q) h).1
  inside_kept extern_c Q h = h

  abbrev entry_kept : Entry → Bool
  entry_kept e = every rule (Facts.names_of e.0) && every rule (names_of_item e.1)

  entries_kept : (P : List Block) (es : List Entry) → every entry_kept es ≡ true →
      Kept (fold_entries (λ c b. c) on_block (λ c b r. r) on_item tt P es [])
  unfolding every
  entries_kept P [] h = rw (Facts.nothing_closed (λ c b. c) on_block tt P [])
  entries_kept P (e ∷ es) h =
      let q = every_cons entry_kept e es h in
      let n = both (every rule (Facts.names_of e.0)) (every rule (names_of_item e.1)) q.0 in
      Facts.moves_keep (λ c b. c) on_block (λ c Q. Kept (Facts.names_of Q)) Kept (λ c. inside_kept) (λ c. opens_kept) tt P
      e.0 _ n.0 (every_append rule (names_of_item e.1) _ n.1 (entries_kept e.0 es q.1))

  body_kept : (es : List Entry) → every entry_kept es ≡ true → Kept (names_of_body (body_of es))
  body_kept es h =
      rw (← append-nil (names_of_body (body_of es)), names_fold (body_of es) [])
      (rw (fold_body_of (λ c b. c) on_block (λ c b r. r) on_item tt es []) (entries_kept [] es h))

  -- ---- the sheet

  item_kept_lem : (trees : Trees) (x : Item) (b : Body) → item_kept x ≡ true → NamesKept rule trees x b →
      (every entry_kept (declared_entries trees x b) ≡ true) × (every entry_kept (defined_entries trees x b) ≡ true)
  unfolding every
  item_kept_lem trees x (struct p ts) n h = (refl, refl)
  item_kept_lem trees x (enum p a cxx) n h = (refl, refl)
  item_kept_lem trees x (cxx_type p) n h = (refl, refl)
  item_kept_lem trees x (rust_type p) n h =
      (rw (declared_names x, (item_names_lem x n).0, h.0, h.1), rw (defined_names x, (item_names_lem x n).0, h.2, h.3))
  item_kept_lem trees x (function f) n h =
      (rw (declared_names x, (item_names_lem x n).0, h.0), rw (defined_names x, (item_names_lem x n).0, h.1))

  pub sheet_names : (s : Sheet) (trees : Trees) →
      every (λ x. every rule (x.namespace ++ (x.cxx ∷ []))) s.items ≡ true →
      Each (λ x. NamesKept rule trees x x.body) s.items →
      every rule (names_of (tree_of s (entries_of trees s.items))) ≡ true
  unfolding names_of forward_of
  sheet_names s trees n h =
      every_append rule _ _ (levels_kept 7 0 _ (every_filter item_kept _ s.items n))
      (body_kept _ (entries_every entry_kept item_kept (λ x. NamesKept rule trees x x.body) trees
      (λ x. item_kept_lem trees x x.body) s.items n h))

  -- the text has no other reading
  pub reading_names : (s : Sheet) (trees : Trees) → TreesFit s trees →
      every (λ x. every rule (x.namespace ++ (x.cxx ∷ []))) s.items ≡ true →
      Each (λ x. NamesKept rule trees x x.body) s.items →
      (tree : Text) → Reading tree (text s) → every rule (names_of tree) ≡ true
  reading_names s trees f n h tree r =
      let reads = sheet_reads s (entries_of trees s.items) (entries_spelled trees s f.no_header f.spelled)
      (entries_ok trees s.items f.named f.kept) f.named in
      rw ((demand_3 s trees f).reading.equal tree (tree_of s (entries_of trees s.items)) r reads)
      (sheet_names s trees n h)
