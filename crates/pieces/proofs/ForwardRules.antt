-- The tree of a sheet's forward declarations keeps the rules, and each namespace in it has a line.
use mathlib.Core.Path.{◌≡◌, refl, ◌∙◌}
use mathlib.Core.List.{List, [], ◌∷◌, ◌++◌}
use mathlib.Core.Bool.{Bool, true, false, not, false≢true}
use Prim.Native.Nat.{ℕ, zero, suc, ◌+◌, ◌≤◌, ◌<◌}
use native.Mathlib.Omega.{arith}
use native.Mathlib.Numerals.{add-one}
use borrow.Author.Tests.{leb-true, lt-ltb, le-leb}
use lib.Dec.{leb}
use lib.ListN.{length, drop, length-append}
use Rattle.lexical.specs.Bytes.{within, every, same, member}
use Rattle.lexical.specs.Names.{is_name}
use Rattle.lexical.proofs.BoolLaws.{and_of, by_cases, or_left, or_right}
use Rattle.lexical.proofs.ByteLaws.{same_refl, every_cons, every_snoc}
use Rattle.format.specs.Sheet.{Name, Body, struct, enum, cxx_type, rust_type, function, Item}
use Rattle.rules.specs.Rules.{reserved_namespace}
use Rattle.bridge.specs.Nested as Nested
use Rattle.bridge.specs.Nested.{filter, first_name, nth, direct_content, nested_content, distinct, nth_names, nested_names}
use Rattle.bridge.specs.Write.{needs_forward_declaration}
use Rattle.grammar.specs.Tree.{Forward, forward_end}
use Rattle.grammar.specs.Rules.{of_std_or_rust, full_name_ok, forward_line_ok, forward_ok}
use Rattle.grammar.proofs.TextBack.{has_lines, forward_filled}
use Rattle.pieces.proofs.ForwardTree.{line_tree, lines_tree, namespaces_tree, entries_tree, forward_of, item_named, Named}
use Rattle.pieces.proofs.ForwardTree.{named_item_lem, every_filter, distinct_every, direct_every, inner_every}
use Rattle.pieces.proofs.ForwardTree.{nested_named}

-- ---- the rules

unreserved_path : (ns : List Name) (x : Name) → not (reserved_namespace ns) ≡ true →
    not (of_std_or_rust (ns ++ (x ∷ []))) ≡ true
unreserved_path [] x h = refl
unreserved_path (n ∷ []) x h = h
unreserved_path (n ∷ (m ∷ ns)) x h = h

full_name_ok_lem : (x : Item) → Named x → full_name_ok (x.namespace ++ (x.cxx ∷ [])) ≡ true
unfolding full_name_ok
full_name_ok_lem x n =
    let path = x.namespace ++ (x.cxx ∷ []) in
    let l : length path ≡ length x.namespace + 1 = length-append x.namespace (x.cxx ∷ []) in
    let few : length x.namespace ≤ 7 = leb-true (length x.namespace) 7 n.shallow in
    and_of (within 1 8 (length path)) _
    (and_of (leb 1 (length path)) (leb (length path) 8) (le-leb 1 (length path) (omega arith))
    (le-leb (length path) 8 (omega arith)))
    (and_of (every is_name path) (not (of_std_or_rust path))
    (every_snoc is_name x.namespace x.cxx n.namespaces n.cxx)
    (unreserved_path x.namespace x.cxx n.unreserved))

line_ok_lem : (x : Item) (b : Body) (depth : ℕ) (next : Forward) → Named x → forward_ok depth next ≡ true →
    forward_ok depth (line_tree x b next) ≡ true
unfolding forward_ok forward_line_ok
line_ok_lem x (struct p ts) depth next n h = rw n.cxx h
line_ok_lem x (enum p a cxx) depth next n h = rw n.cxx h
line_ok_lem x (cxx_type p) depth next n h = rw (n.cxx, full_name_ok_lem x n) h
line_ok_lem x (rust_type p) depth next n h = rw n.cxx h
line_ok_lem x (function f) depth next n h = h

lines_ok : (depth : ℕ) (xs : List Item) (next : Forward) → every item_named xs ≡ true → forward_ok depth next ≡ true →
    forward_ok depth (lines_tree xs next) ≡ true
unfolding lines_tree
lines_ok depth [] next h e = e
lines_ok depth (x ∷ xs) next h e =
    let q = every_cons item_named x xs h in
    line_ok_lem x x.body depth (lines_tree xs next) (named_item_lem x q.0) (lines_ok depth xs next q.1 e)

namespaces_ok : (depth : ℕ) (tree : Name → Forward) → ((name : Name) → forward_ok (suc depth) (tree name) ≡ true) →
    depth < 7 → (ns : List Name) → every is_name ns ≡ true → forward_ok depth (namespaces_tree tree ns) ≡ true
unfolding namespaces_tree forward_ok
namespaces_ok depth tree step l [] h = refl
namespaces_ok depth tree step l (n ∷ ns) h =
    let q = every_cons is_name n ns h in
    rw (q.0, lt-ltb depth 7 l, step n) (namespaces_ok depth tree step l ns q.1)

entries_ok : (levels depth : ℕ) (apis : List Item) → depth + levels ≤ 7 → every item_named apis ≡ true →
    forward_ok depth (entries_tree levels depth apis) ≡ true
unfolding entries_tree forward_ok
entries_ok zero depth apis l h =
    lines_ok depth (direct_content depth apis) forward_end (direct_every item_named depth apis h) refl
entries_ok (suc levels) depth apis l h =
    lines_ok depth (direct_content depth apis) _ (direct_every item_named depth apis h)
    (namespaces_ok depth (λ name. entries_tree levels (depth + 1) (nested_content depth name apis))
    (λ name. rw (← add-one depth)
    (entries_ok levels (depth + 1) (nested_content depth name apis) (omega arith)
    (inner_every item_named depth name apis h)))
    (omega arith) (nested_names depth apis) (nested_named depth apis h))

pub forward_ok_lem : (items : List Item) → every item_named items ≡ true → forward_ok 0 (forward_of items) ≡ true
unfolding forward_of
forward_ok_lem items h =
    entries_ok 7 0 (filter (λ x. needs_forward_declaration x.body) items) (omega arith)
    (every_filter item_named (λ x. needs_forward_declaration x.body) items h)

-- ---- each namespace has a line

abbrev needs : Item → Bool
needs x = needs_forward_declaration x.body

kept : {A : Type 0} (keep : A → Bool) (xs : List A) → every keep (filter keep xs) ≡ true
unfolding every filter
kept keep [] = refl
kept keep (x ∷ xs) = by_cases (keep x) (λ e. rw (e, e) (kept keep xs)) (λ e. rw e (kept keep xs))

line_has : (x : Item) (b : Body) (next : Forward) → needs_forward_declaration b ≡ true → has_lines (line_tree x b next) ≡ true
line_has x (struct p ts) next h = refl
line_has x (enum p a cxx) next h = refl
line_has x (cxx_type p) next h = refl
line_has x (rust_type p) next h = refl
line_has x (function f) next h = absurd (false≢true h)

-- a level's own entries, or else what follows
lines_have : (xs : List Item) (next : Forward) → every needs xs ≡ true → has_lines next ≡ true →
    has_lines (lines_tree xs next) ≡ true
unfolding lines_tree
lines_have [] next h e = e
lines_have (x ∷ xs) next h e = line_has x x.body (lines_tree xs next) (every_cons needs x xs h).0

drop_all : (n : ℕ) (ns : List Name) → length ns ≤ n → drop n ns ≡ []
drop_all zero [] h = refl
drop_all zero (x ∷ ns) h = absurd (omega arith)
drop_all (suc n) [] h = refl
drop_all (suc n) (x ∷ ns) h = drop_all n ns (omega arith)

outside : (depth : ℕ) (x : Item) → length x.namespace ≤ depth → nth depth x ≡ []
unfolding nth
outside depth x h = rw (drop_all depth x.namespace h)

-- the items that a namespace of the level holds

direct_begins : (depth : ℕ) (x : Item) (xs : List Item) → nth depth x ≡ [] →
    direct_content depth (x ∷ xs) ≡ x ∷ direct_content depth xs
unfolding direct_content filter
direct_begins depth x xs e = rw e

nested_begins : (depth : ℕ) (x : Item) (xs : List Item) (n : Name) (ns : List Name) → nth depth x ≡ n ∷ ns →
    nested_names depth (x ∷ xs) ≡ n ∷ distinct (n ∷ []) (ns ++ nth_names depth xs)
unfolding nested_names nth_names distinct member
nested_begins depth x xs n ns e = rw e

inner_begins : (depth : ℕ) (n : Name) (x : Item) (xs : List Item) → Nested.starts_with n (nth depth x) ≡ true →
    nested_content depth n (x ∷ xs) ≡ x ∷ nested_content depth n xs
unfolding nested_content filter
inner_begins depth n x xs e = rw e

inner_passes : (depth : ℕ) (n : Name) (x : Item) (xs : List Item) → Nested.starts_with n (nth depth x) ≡ false →
    nested_content depth n (x ∷ xs) ≡ nested_content depth n xs
unfolding nested_content filter
inner_passes depth n x xs e = rw e

-- a level with an item has its line, or a namespace where levels are left
entries_have : (levels depth : ℕ) (x : Item) (xs : List Item) → depth + levels ≡ 7 →
    every item_named (x ∷ xs) ≡ true → every needs (x ∷ xs) ≡ true → has_lines (entries_tree levels depth (x ∷ xs)) ≡ true
unfolding entries_tree lines_tree namespaces_tree
entries_have zero depth x xs l h g =
    let few : length x.namespace ≤ 7
    = leb-true (length x.namespace) 7 (named_item_lem x (every_cons item_named x xs h).0).shallow in
    rw (direct_begins depth x xs (outside depth x (omega arith)))
    (line_has x x.body _ (every_cons needs x xs g).0)
entries_have (suc levels) depth x xs l h g = go (nth depth x) refl
  where
    tree : Name → Forward
    tree name = entries_tree levels (depth + 1) (nested_content depth name (x ∷ xs))

    go : (ns : List Name) → nth depth x ≡ ns →
        has_lines (lines_tree (direct_content depth (x ∷ xs)) (namespaces_tree tree (nested_names depth (x ∷ xs)))) ≡ true
    go [] e = rw (direct_begins depth x xs e) (line_has x x.body _ (every_cons needs x xs g).0)
    go (n ∷ ns) e =
        lines_have (direct_content depth (x ∷ xs)) _ (direct_every needs depth (x ∷ xs) g)
        (rw (nested_begins depth x xs n ns e))

-- ---- and so has each namespace inside

line_filled : (x : Item) (b : Body) (next : Forward) → forward_filled next ≡ true → forward_filled (line_tree x b next) ≡ true
line_filled x (struct p ts) next h = h
line_filled x (enum p a cxx) next h = h
line_filled x (cxx_type p) next h = h
line_filled x (rust_type p) next h = h
line_filled x (function f) next h = h

lines_filled : (xs : List Item) (next : Forward) → forward_filled next ≡ true → forward_filled (lines_tree xs next) ≡ true
unfolding lines_tree
lines_filled [] next h = h
lines_filled (x ∷ xs) next h = line_filled x x.body (lines_tree xs next) (lines_filled xs next h)

namespaces_filled : (tree : Name → Forward) (among : Name → Bool) →
    ((name : Name) → among name ≡ true → (has_lines (tree name) ≡ true) × (forward_filled (tree name) ≡ true)) →
    (ns : List Name) → every among ns ≡ true → forward_filled (namespaces_tree tree ns) ≡ true
unfolding namespaces_tree
namespaces_filled tree among step [] h = refl
namespaces_filled tree among step (n ∷ ns) h =
    let q = every_cons among n ns h in
    let s = step n q.0 in
    rw (s.0, s.1) (namespaces_filled tree among step ns q.1)

members : (ns all : List Name) → ((n : Name) → member n ns ≡ true → member n all ≡ true) →
    every (λ n. member n all) ns ≡ true
unfolding every member
members [] all h = refl
members (n ∷ ns) all h =
    rw (h n (or_left (same n n) (member n ns) (same_refl n)))
    (members ns all (λ m e. h m (or_right (same m n) (member m ns) e)))

nested_among : (depth : ℕ) (xs : List Item) → every (λ n. member n (nth_names depth xs)) (nested_names depth xs) ≡ true
unfolding nested_names
nested_among depth xs =
    let all = nth_names depth xs in distinct_every (λ n. member n all) [] all (members all all (λ n e. e))

-- a name of the level is some item's
pub record Holds (xs : List Item) : Type 0 where
  pub one : Item
  pub others : List Item
  pub are : xs ≡ one ∷ others

passed : (n : Name) (l rest : List Name) → Nested.starts_with n (first_name l) ≡ false → member n (first_name l ++ rest) ≡ true →
    member n rest ≡ true
unfolding member
passed n [] rest e h = h
passed n (m ∷ l) rest e h = rw e at h

inner_holds : (depth : ℕ) (n : Name) (xs : List Item) → member n (nth_names depth xs) ≡ true → Holds (nested_content depth n xs)
unfolding nth_names nth member
inner_holds depth n [] h = absurd (false≢true h)
inner_holds depth n (x ∷ xs) h =
    by_cases (Nested.starts_with n (nth depth x))
    (λ e. record { one = x; others = nested_content depth n xs; are = inner_begins depth n x xs e })
    (λ e.
    let k = inner_holds depth n xs (passed n (drop depth x.namespace) (nth_names depth xs) e h) in
    record { one = k.one; others = k.others; are = inner_passes depth n x xs e ∙ k.are })

entries_filled : (levels depth : ℕ) (apis : List Item) → depth + levels ≡ 7 → every item_named apis ≡ true →
    every needs apis ≡ true → forward_filled (entries_tree levels depth apis) ≡ true
unfolding entries_tree
entries_filled zero depth apis l h g = lines_filled (direct_content depth apis) forward_end refl
entries_filled (suc levels) depth apis l h g =
    lines_filled (direct_content depth apis) _
    (namespaces_filled (λ name. entries_tree levels (depth + 1) (nested_content depth name apis)) (λ n. member n (nth_names depth apis))
    (λ n e.
    let named = inner_every item_named depth n apis h in
    let needed = inner_every needs depth n apis g in
    let k = inner_holds depth n apis e in
    let q = k.are in (
      rw q (entries_have levels (depth + 1) k.one k.others (omega arith) (rw q at named) (rw q at needed)),
      entries_filled levels (depth + 1) (nested_content depth n apis) (omega arith) named needed,
    ))
    (nested_names depth apis) (nested_among depth apis))

pub forward_filled_lem : (items : List Item) → every item_named items ≡ true → forward_filled (forward_of items) ≡ true
unfolding forward_of
forward_filled_lem items h =
    entries_filled 7 0 (filter needs items) refl (every_filter item_named needs items h) (kept needs items)
