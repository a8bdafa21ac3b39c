-- The tree of a sheet's forward declarations, level by level as nested.rs groups them, and its text as a layout.
use mathlib.Core.Path.{◌≡◌, refl, ap, ◌∙◌}
use mathlib.Core.List.{List, [], ◌∷◌, ◌++◌, append_assoc}
use mathlib.Core.Bool.{Bool, true, not, ◌&&◌}
use Prim.Native.Nat.{ℕ, zero, suc, ◌+◌, ◌*◌}
use lib.Dec.{leb}
use lib.ListN.{length, drop, replicate}
use Rattle.lexical.specs.Bytes.{bytes, every, member}
use Rattle.lexical.specs.Names.{is_name}
use Rattle.lexical.proofs.BoolLaws.{both, by_cases}
use Rattle.lexical.proofs.ByteLaws.{every_cons, every_append, every_snoc, every_weaken}
use Rattle.format.specs.declared.Atom.{Atom}
use Rattle.format.specs.declared.Atom.TheVariants as Atom
use Rattle.format.specs.Sheet.{Name, Body, struct, enum, cxx_type, rust_type, function, Item}
use Rattle.syntax.specs.Items.{path, full_name}
use Rattle.rules.specs.Rules.{gather, reserved_namespace}
use Rattle.bridge.specs.Nested.{filter, first_name, nth, direct_content, nested_content, distinct, nth_names, nested_names}
use Rattle.bridge.specs.WriteType.{write_atom}
use Rattle.bridge.specs.Write.{needs_forward_declaration, forward_line, indent, write_direct, write_entries}
use Rattle.bridge.specs.Write.{forward_declarations}
use Rattle.grammar.specs.Token.{Token}
use Rattle.grammar.specs.Layout.{Layout, blank, no_word_char}
use Rattle.grammar.specs.Types as Cxx
use Rattle.grammar.specs.Tree as Tree
use Rattle.grammar.specs.Tree.{Forward, forward_end, line, bare_namespace}
use Rattle.grammar.specs.Tokens.{atom_tokens, line_tokens, forward_tokens}
use Rattle.grammar.proofs.Literal.{literal}
use Rattle.grammar.proofs.Pieces.{name_laid, path_bytes, path_laid, atom_laid}
use Rattle.agreement.specs.Atoms.{atom_tree}

-- ---- the tree

-- an item's line, in front of others; a function has none
abbrev pub line_tree : Item → Body → Forward → Forward
line_tree x (struct p ts) next = line (Tree.struct_line x.cxx) next
line_tree x (enum p a cxx) next = line (Tree.enum_line x.cxx (atom_tree a)) next
line_tree x (cxx_type p) next = line (Tree.using_line x.cxx (x.namespace ++ (x.cxx ∷ []))) next
line_tree x (rust_type p) next = line (Tree.struct_line x.cxx) next
line_tree x (function f) next = next

unfoldable pub lines_tree : List Item → Forward → Forward
lines_tree [] next = next
lines_tree (x ∷ xs) next = line_tree x x.body (lines_tree xs next)

unfoldable pub namespaces_tree : (Name → Forward) → List Name → Forward
namespaces_tree inside [] = forward_end
namespaces_tree inside (name ∷ names) = bare_namespace name (inside name) (namespaces_tree inside names)

unfoldable pub entries_tree : ℕ → ℕ → List Item → Forward
entries_tree zero depth apis = lines_tree (direct_content depth apis) forward_end
entries_tree (suc levels) depth apis =
    lines_tree (direct_content depth apis)
    (namespaces_tree (λ name. entries_tree levels (depth + 1) (nested_content depth name apis)) (nested_names depth apis))

unfoldable pub forward_of : List Item → Forward
forward_of items = entries_tree 7 0 (filter (λ x. needs_forward_declaration x.body) items)

-- ---- the hypothesis on an item

-- at most 7 namespaces, names that keep the name rule, and a full name that does not begin with std or rust
unfoldable pub item_named : Item → Bool
item_named x =
    leb (length x.namespace) 7 && (every is_name x.namespace && (is_name x.cxx &&
    not (reserved_namespace x.namespace)))

pub record Named (x : Item) : Type 0 where
  pub shallow : leb (length x.namespace) 7 ≡ true
  pub namespaces : every is_name x.namespace ≡ true
  pub cxx : is_name x.cxx ≡ true
  pub unreserved : not (reserved_namespace x.namespace) ≡ true

pub named_item_lem : (x : Item) → item_named x ≡ true → Named x
unfolding item_named
named_item_lem x h =
    let a = both (leb (length x.namespace) 7) _ h in
    let b = both (every is_name x.namespace) _ a.1 in
    let c = both (is_name x.cxx) (not (reserved_namespace x.namespace)) b.1 in
    record { shallow = a.0; namespaces = b.0; cxx = c.0; unreserved = c.1 }

-- ---- filtered lists

pub every_filter : {A : Type 0} (test keep : A → Bool) (xs : List A) → every test xs ≡ true →
    every test (filter keep xs) ≡ true
unfolding every filter
every_filter test keep [] h = refl
every_filter test keep (x ∷ xs) h =
    let q = every_cons test x xs h in
    by_cases (keep x) (λ e. rw (e, q.0) (every_filter test keep xs q.1))
    (λ e. rw e (every_filter test keep xs q.1))

pub direct_every : (test : Item → Bool) (depth : ℕ) (xs : List Item) → every test xs ≡ true →
    every test (direct_content depth xs) ≡ true
unfolding direct_content
direct_every test depth xs h = every_filter test _ xs h

pub inner_every : (test : Item → Bool) (depth : ℕ) (name : Name) (xs : List Item) → every test xs ≡ true →
    every test (nested_content depth name xs) ≡ true
unfolding nested_content
inner_every test depth name xs h = every_filter test _ xs h

-- ---- lines

path_bytes_lem : (parts : List Name) (r : List ℕ) → path parts ++ r ≡ path_bytes parts r
unfolding path
path_bytes_lem [] r = refl
path_bytes_lem (part ∷ parts) r =
    ap (λ (s : List ℕ). bytes "::" ++ s)
    (append_assoc part (path parts) r ∙ ap (λ (s : List ℕ). part ++ s) (path_bytes_lem parts r))

indent_laid : (n : ℕ) {ts : List Token} {r : List ℕ} → Layout ts r → Layout ts (replicate n 32 ++ r)
indent_laid zero d = d
indent_laid (suc n) d = blank refl (indent_laid n d)

written_atom : (a : Atom) {ts : List Token} {r : List ℕ} → no_word_char r ≡ true → Layout ts r →
    Layout (atom_tokens (atom_tree a) ts) (write_atom a ++ r)
written_atom Atom.Bool e d = atom_laid Cxx.bool e d
written_atom Atom.Char e d = atom_laid Cxx.char e d
written_atom Atom.U8 e d = atom_laid Cxx.u8 e d
written_atom Atom.U16 e d = atom_laid Cxx.u16 e d
written_atom Atom.U32 e d = atom_laid Cxx.u32 e d
written_atom Atom.U64 e d = atom_laid Cxx.u64 e d
written_atom Atom.Usize e d = atom_laid Cxx.usize e d
written_atom Atom.I8 e d = atom_laid Cxx.i8 e d
written_atom Atom.I16 e d = atom_laid Cxx.i16 e d
written_atom Atom.I32 e d = atom_laid Cxx.i32 e d
written_atom Atom.I64 e d = atom_laid Cxx.i64 e d
written_atom Atom.Isize e d = atom_laid Cxx.isize e d
written_atom Atom.F32 e d = atom_laid Cxx.f32 e d
written_atom Atom.F64 e d = atom_laid Cxx.f64 e d
written_atom Atom.CxxString e d = atom_laid Cxx.cxx_string e d
written_atom Atom.RustString e d = atom_laid Cxx.rust_string e d

struct_laid : (x : Name) {ts : List Token} {r : List ℕ} → is_name x ≡ true → Layout ts r →
    Layout (line_tokens (Tree.struct_line x) ts) ((bytes "struct " ++ x ++ bytes ";\n") ++ r)
struct_laid x {ts} {r} h d =
    rw (append_assoc x (bytes ";\n") r)
    (literal (bytes "struct ") refl refl (name_laid x h refl (literal (bytes ";\n") refl refl d)))

line_laid : (x : Item) (b : Body) (next : Forward) (ts : List Token) (r : List ℕ) → Named x →
    Layout (forward_tokens next ts) r → Layout (forward_tokens (line_tree x b next) ts) (forward_line x b ++ r)
unfolding full_name
line_laid x (struct p fields) next ts r n d = struct_laid x.cxx n.cxx d
line_laid x (enum p a cxx) next ts r n d =
    simp append_assoc
    (literal (bytes "enum class ") refl refl
    (name_laid x.cxx n.cxx refl
    (literal (bytes " : ") refl refl (written_atom a refl (literal (bytes ";\n") refl refl d)))))
line_laid x (cxx_type p) next ts r n d =
    simp append_assoc
    (rw (path_bytes_lem (x.namespace ++ (x.cxx ∷ [])) (bytes ";\n" ++ r))
    (literal (bytes "using ") refl refl
    (name_laid x.cxx n.cxx refl
    (literal (bytes " = ") refl refl
    (path_laid (x.namespace ++ (x.cxx ∷ [])) (every_snoc is_name x.namespace x.cxx n.namespaces n.cxx) refl
    (literal (bytes ";\n") refl refl d))))))
line_laid x (rust_type p) next ts r n d = struct_laid x.cxx n.cxx d
line_laid x (function f) next ts r n d = d

lines_laid : (depth : ℕ) (xs : List Item) (next : Forward) (ts : List Token) (r : List ℕ) →
    every item_named xs ≡ true → Layout (forward_tokens next ts) r →
    Layout (forward_tokens (lines_tree xs next) ts) (gather (λ x. indent depth ++ forward_line x x.body) xs ++ r)
unfolding lines_tree gather
lines_laid depth [] next ts r h d = d
lines_laid depth (x ∷ xs) next ts r h d =
    let q = every_cons item_named x xs h in
    let rest = gather (λ x. indent depth ++ forward_line x x.body) xs ++ r in
    rw (
      append_assoc (indent depth ++ forward_line x x.body) (gather (λ x. indent depth ++ forward_line x x.body) xs) r,
      append_assoc (indent depth) (forward_line x x.body) rest,
    )
    (indent_laid (2 * depth)
    (line_laid x x.body (lines_tree xs next) ts rest (named_item_lem x q.0) (lines_laid depth xs next ts r q.1 d)))

-- ---- namespaces

namespace_regroup : (a name s r : List ℕ) →
    (a ++ bytes "namespace " ++ name ++ bytes " {\n" ++ s ++ a ++ bytes "}\n") ++ r
    ≡ a ++ (bytes "namespace " ++ (name ++ (bytes " {\n" ++ (s ++ (a ++ (bytes "}\n" ++ r))))))
namespace_regroup a name s r = simp append_assoc

module _ (depth : ℕ) (tree : Name → Forward) (spelled : Name → List ℕ)
    (step : (name : Name) (ts : List Token) (r : List ℕ) → Layout ts r →
    Layout (forward_tokens (tree name) ts) (spelled name ++ r)) where
  abbrev written : Name → List ℕ
  written name =
      indent depth ++ bytes "namespace " ++ name ++ bytes " {\n" ++ spelled name ++ indent depth ++ bytes "}\n"

  namespaces_laid : (names : List Name) (ts : List Token) (r : List ℕ) → every is_name names ≡ true → Layout ts r →
      Layout (forward_tokens (namespaces_tree tree names) ts) (gather written names ++ r)
  unfolding namespaces_tree gather
  namespaces_laid [] ts r h d = d
  namespaces_laid (name ∷ names) ts r h d =
      let q = every_cons is_name name names h in
      rw (
        append_assoc (written name) (gather written names) r,
        namespace_regroup (indent depth) name (spelled name) (gather written names ++ r),
      )
      (indent_laid (2 * depth)
      (literal (bytes "namespace ") refl refl
      (name_laid name q.0 refl
      (literal (bytes " {\n") refl refl
      (step name _ _ (indent_laid (2 * depth) (literal (bytes "}\n") refl refl (namespaces_laid names ts r q.1 d))))))))

-- ---- the names of a level

-- what holds of each name holds of each distinct one
pub distinct_every : (test : Name → Bool) (seen ns : List Name) → every test ns ≡ true →
    every test (distinct seen ns) ≡ true
unfolding every distinct
distinct_every test seen [] h = refl
distinct_every test seen (n ∷ ns) h =
    let q = every_cons test n ns h in
    by_cases (member n seen) (λ e. rw e (distinct_every test seen ns q.1))
    (λ e. rw (e, q.0) (distinct_every test (n ∷ seen) ns q.1))

module _ (rule : Name → Bool) where
  drop_kept : (n : ℕ) (ns : List Name) → every rule ns ≡ true → every rule (drop n ns) ≡ true
  drop_kept zero ns h = h
  drop_kept (suc n) [] h = h
  drop_kept (suc n) (x ∷ ns) h = drop_kept n ns (every_cons rule x ns h).1

  first_kept : (ns : List Name) → every rule ns ≡ true → every rule (first_name ns) ≡ true
  unfolding every
  first_kept [] h = refl
  first_kept (x ∷ ns) h = rw (every_cons rule x ns h).0

  names_kept : (depth : ℕ) (xs : List Item) → every (λ x. every rule x.namespace) xs ≡ true →
      every rule (nth_names depth xs) ≡ true
  unfolding every nth_names nth
  names_kept depth [] h = refl
  names_kept depth (x ∷ xs) h =
      let q = every_cons (λ x. every rule x.namespace) x xs h in
      every_append rule (nth depth x) (nth_names depth xs)
      (first_kept (drop depth x.namespace) (drop_kept depth x.namespace q.0)) (names_kept depth xs q.1)

  pub nested_kept : (depth : ℕ) (xs : List Item) → every (λ x. every rule x.namespace) xs ≡ true →
      every rule (nested_names depth xs) ≡ true
  unfolding nested_names
  nested_kept depth xs h = distinct_every rule [] (nth_names depth xs) (names_kept depth xs h)

pub nested_named : (depth : ℕ) (xs : List Item) → every item_named xs ≡ true → every is_name (nested_names depth xs) ≡ true
nested_named depth xs h =
    nested_kept is_name depth xs
    (every_weaken item_named (λ x. every is_name x.namespace) (λ x e. (named_item_lem x e).namespaces) xs h)

-- ---- the layout

entries_laid : (levels depth : ℕ) (apis : List Item) (ts : List Token) (r : List ℕ) → every item_named apis ≡ true →
    Layout ts r → Layout (forward_tokens (entries_tree levels depth apis) ts) (write_entries levels depth apis ++ r)
unfolding entries_tree write_entries write_direct
entries_laid zero depth apis ts r h d =
    lines_laid depth (direct_content depth apis) forward_end ts r (direct_every item_named depth apis h) d
entries_laid (suc levels) depth apis ts r h d =
    let tree : Name → Forward = λ name. entries_tree levels (depth + 1) (nested_content depth name apis) in
    let spelled : Name → List ℕ = λ name. write_entries levels (depth + 1) (nested_content depth name apis) in
    let step : (name : Name) (ts : List Token) (r : List ℕ) → Layout ts r →
    Layout (forward_tokens (tree name) ts) (spelled name ++ r)
    = λ name ts r d. entries_laid levels (depth + 1) (nested_content depth name apis) ts r
    (inner_every item_named depth name apis h) d in
    rw (append_assoc (write_direct depth apis) (gather (written depth tree spelled step) (nested_names depth apis)) r)
    (lines_laid depth (direct_content depth apis) (namespaces_tree tree (nested_names depth apis)) ts
    (gather (written depth tree spelled step) (nested_names depth apis) ++ r) (direct_every item_named depth apis h)
    (namespaces_laid depth tree spelled step (nested_names depth apis) ts r (nested_named depth apis h) d))

pub forward_laid : (items : List Item) (ts : List Token) (r : List ℕ) → every item_named items ≡ true → Layout ts r →
    Layout (forward_tokens (forward_of items) ts) (forward_declarations items ++ r)
unfolding forward_of forward_declarations
forward_laid items ts r h d =
    entries_laid 7 0 (filter (λ x. needs_forward_declaration x.body) items) ts r
    (every_filter item_named (λ x. needs_forward_declaration x.body) items h) d
