-- Laws of a group's text: its own entries, then its inner namespaces.
use mathlib.Core.Path.{◌≡◌, refl, sym, ◌∙◌}
use mathlib.Core.List.{List, [], ◌∷◌, ◌++◌, append-nil, append_assoc}
use mathlib.Core.Bool.{true}
use Prim.Native.Nat.{ℕ, suc, ◌+◌, ◌-◌, ◌<◌, ◌≤◌}
use native.Mathlib.Omega.{arith}
use lib.ListN.{length, get_or, take}
use lib.Seq.{take_all}
use Rattle.lexical.specs.Bytes.{bytes}
use Rattle.lexical.specs.Decimal.{pick_text}
use Rattle.lexical.proofs.BoolLaws.{by_cases}
use Rattle.sink.specs.Sink.{Sink, Wrote}
use Rattle.sink.proofs.SinkLaws.{◌▷◌, wrote_nil, wrote_as}
use Rattle.format.specs.Limits.{most_namespaces}
use Rattle.format.specs.Sheet.{Item}
use Rattle.syntax.specs.Items.{item_at}
use Rattle.rules.specs.Rules.{any, gather}
use Rattle.bridge.specs.Nested.{filter, direct_content, distinct, nth_names, nested_names}
use Rattle.bridge.specs.Write.{indent, write_direct, write_entries, forward_declarations}
use Rattle.view.specs.declared.ItemView.{ItemView}
use Rattle.view.specs.Values.{items_at}
use Rattle.view.specs.Views.{ItemAt}
use Rattle.nested.specs.Groups.{members, is_direct, is_first, opens, names_before, Next}
use Rattle.nested.proofs.ListLaws.{filter_append, gather_append, gather_last}
use Rattle.nested.proofs.GroupLaws.{take_next, all_members, first_members, direct_members, opens_deep, opens_first}
use Rattle.nested.proofs.GroupLaws.{opens_one, opens_inner}
use Rattle.nested.proofs.ViewLaws.{count}
use Rattle.forward.specs.Entries.{entry, direct_before, namespace_text, namespaces_before}

-- ---- the group's own entries

module _ (items : List Item) (depth : ℕ) where
  direct_none : (k : ℕ) → is_first items depth k ≡ true → direct_before items (item_at items k) depth k ≡ []
  unfolding direct_before write_direct direct_content filter gather
  direct_none k h = rw (first_members items depth k h)

  pub direct_begin : (k : ℕ) (r : Sink) → is_first items depth k ≡ true →
      Wrote r (direct_before items (item_at items k) depth k) r
  direct_begin k r h = wrote_as (wrote_nil r) (sym (direct_none k h))

  module _ (leader : Item) where
    one : (x : Item) → gather (entry depth) (filter (is_direct leader depth) (x ∷ [])) ≡
        pick_text (is_direct leader depth x) (entry depth x) []
    unfolding gather filter
    one x = by_cases (is_direct leader depth x) (λ e. rw e (append-nil (entry depth x))) (λ e. rw e)

    direct_is : (i : ℕ) →
        direct_before items leader depth i ≡ gather (entry depth) (filter (is_direct leader depth) (take i items))
    unfolding direct_before write_direct
    direct_is i = rw (direct_members leader depth (take i items))

    direct_next : (i : ℕ) → i < length items → direct_before items leader depth (i + 1) ≡
        direct_before items leader depth i
        ++ pick_text (is_direct leader depth (item_at items i)) (entry depth (item_at items i)) []
    direct_next i l =
        direct_is (i + 1) ∙
        rw (
          take_next items i l,
          filter_append (is_direct leader depth) (take i items) (item_at items i ∷ []),
          gather_append (entry depth) (filter (is_direct leader depth) (take i items))
              (filter (is_direct leader depth) (item_at items i ∷ [])),
          one (item_at items i),
          direct_is i,
        )

    pub direct_turn : {i : ℕ} {r t u : Sink} → i < length items → Wrote r (direct_before items leader depth i) t →
        Wrote t (pick_text (is_direct leader depth (item_at items i)) (entry depth (item_at items i)) []) u →
        Wrote r (direct_before items leader depth (i + 1)) u
    direct_turn {i} l p q = wrote_as (p ▷ q) (sym (direct_next i l))

    pub direct_end : {i : ℕ} {r t : Sink} → length items ≤ i → Wrote r (direct_before items leader depth i) t →
        Wrote r (write_direct depth (members leader depth items)) t
    unfolding direct_before
    direct_end {i} l p = wrote_as p (rw (take_all i items l))

-- ---- its inner namespaces

module _ (items : List Item) (depth : ℕ) where
  spaces_none : (k : ℕ) → is_first items depth k ≡ true → names_before items (item_at items k) depth k ≡ []
  unfolding names_before nested_names nth_names distinct
  spaces_none k h = rw (first_members items depth k h)

  pub spaces_begin : {k i : ℕ} (r : Sink) → is_first items depth k ≡ true → Next items (item_at items k) depth k i →
      Wrote r (namespaces_before items (item_at items k) depth i) r
  unfolding namespaces_before gather
  spaces_begin {k} r h n = wrote_as (wrote_nil r) (rw (n.none, spaces_none k h))

  module _ (leader : Item) where
    space_next : (i : ℕ) → i < length items → opens items leader depth i ≡ true →
        namespaces_before items leader depth (i + 1) ≡ namespaces_before items leader depth i
        ++ namespace_text depth (members leader depth items) (get_or (item_at items i).namespace depth [])
    unfolding namespaces_before
    space_next i l e =
        rw (opens_one leader depth items i l e)
        (gather_last (namespace_text depth (members leader depth items)) (names_before items leader depth i)
        (get_or (item_at items i).namespace depth []))

    one_text : (i : ℕ) → i < length items → opens items leader depth i ≡ true →
        indent depth ++ bytes "namespace " ++ get_or (item_at items i).namespace depth [] ++ bytes " {\n"
        ++ write_entries (most_namespaces - (depth + 1)) (depth + 1) (members (item_at items i) (depth + 1) items)
        ++ (indent depth ++ bytes "}\n")
        ≡ namespace_text depth (members leader depth items) (get_or (item_at items i).namespace depth [])
    unfolding namespace_text
    one_text i l e =
        rw (opens_inner leader depth items i l e items)
        (sym (append_assoc
        (indent depth ++ bytes "namespace " ++ get_or (item_at items i).namespace depth [] ++ bytes " {\n"
        ++ write_entries (most_namespaces - (depth + 1)) (depth + 1) (members (item_at items i) (depth + 1) items))
        (indent depth) (bytes "}\n")))

    -- item k, which is item i, opens one
    pub spaces_turn : {i j k : ℕ} {r t u v w : Sink} → k ≡ i → i < length items → opens items leader depth i ≡ true →
        Wrote r (namespaces_before items leader depth i) t →
        Wrote t (indent depth ++ bytes "namespace " ++ get_or (item_at items k).namespace depth [] ++ bytes " {\n") u →
        Wrote u (write_entries (most_namespaces - (depth + 1)) (depth + 1) (members (item_at items k) (depth + 1) items)) v →
        Wrote v (indent depth ++ bytes "}\n") w → Next items leader depth (i + 1) j →
        Wrote r (namespaces_before items leader depth j) w
    unfolding namespaces_before
    spaces_turn {i} {j} {k} {r} {t} {u} {v} {w} d l e p a b c n =
        let o : opens items leader depth k ≡ true = rw d e in
        let q : Wrote t (namespace_text depth (members leader depth items) (get_or (item_at items i).namespace depth [])) w
        = rw (← d) (wrote_as (a ▷ b ▷ c) (one_text k (rw d l) o)) in
        rw n.none (wrote_as (p ▷ q) (sym (space_next i l e)))

    -- ---- both

    entries_split : (apis : List Item) → depth < most_namespaces → write_entries (most_namespaces - depth) depth apis ≡
        write_direct depth apis ++ gather (namespace_text depth apis) (nested_names depth apis)
    unfolding write_entries namespace_text
    entries_split apis l = let z : most_namespaces - depth ≡ suc (most_namespaces - (depth + 1)) = omega arith in rw z

    pub entries_end : {i : ℕ} {r t u : Sink} → depth < most_namespaces → length items ≤ i →
        Wrote r (write_direct depth (members leader depth items)) t → Wrote t (namespaces_before items leader depth i) u →
        Wrote r (write_entries (most_namespaces - depth) depth (members leader depth items)) u
    unfolding namespaces_before names_before
    entries_end {i} {r} {t} {u} d l p q =
        let n : Wrote t (gather (namespace_text depth (members leader depth items))
        (nested_names depth (members leader depth items))) u = rw (take_all i items l) at q in
        wrote_as (p ▷ n) (sym (entries_split (members leader depth items) d))

    pub entries_last : {r t : Sink} → depth ≡ most_namespaces → Wrote r (write_direct depth (members leader depth items)) t →
        Wrote r (write_entries (most_namespaces - depth) depth (members leader depth items)) t
    unfolding write_entries
    entries_last e p = let z : most_namespaces - depth ≡ 0 = omega arith in wrote_as p (rw z)

-- ---- the view of an item that opens an inner namespace

module _ (leader : Item) (depth : ℕ) {s names items : List ℕ} {v : ItemView} {i : ℕ} (a : ItemAt s names items v)
    (e : v.number ≡ i) (l : i < length items) (o : opens (items_at s names items) leader depth i ≡ true) where
  there : i < length (items_at s names items)
  there = rw count l

  pub view_deep : depth < v.depth
  view_deep = rw (a.view.depth, e) (opens_deep leader depth (items_at s names items) i there o)

  pub view_first : is_first (items_at s names items) (depth + 1) v.number ≡ true
  view_first = rw e (opens_first leader depth (items_at s names items) i there o)

-- ---- all items

pub first_item : (items : List Item) → is_first items 0 0 ≡ true
unfolding is_first any
first_item items = refl

pub forward_none : (s names items : List ℕ) (r : Sink) → length items ≡ 0 →
    Wrote r (forward_declarations (items_at s names items)) r
unfolding forward_declarations write_entries write_direct direct_content nested_names nth_names distinct filter gather items_at
forward_none s names [] r h = wrote_nil r
forward_none s names (i ∷ items) r h = absurd (omega arith)

pub forward_all : (leader : Item) (items : List Item) {r t : Sink} →
    Wrote r (write_entries (most_namespaces - 0) 0 (members leader 0 items)) t → Wrote r (forward_declarations items) t
unfolding forward_declarations
forward_all leader items p = wrote_as p (rw (all_members leader items))
