-- Laws of groups: their own entries, and their inner namespaces by first appearance.
use mathlib.Core.Path.{◌≡◌, sym, ap, ◌∙◌}
use mathlib.Core.List.{List, [], ◌∷◌, ◌++◌, append-nil}
use mathlib.Core.Bool.{Bool, true, false, not, ◌&&◌}
use Prim.Native.Nat.{ℕ, ◌+◌, ◌<◌, ◌≤◌}
use native.Mathlib.Numerals.{add-one}
use borrow.Author.Tests.{ltb-true, ltb-false}
use lib.Dec.{ltb}
use lib.ListN.{length, get_or, drop, take}
use lib.Seq.{take-suc}
use Rattle.lexical.specs.Bytes.{member}
use Rattle.lexical.proofs.BoolLaws.{both, by_cases, not-true, not-false}
use Rattle.format.specs.Decode.{pick}
use Rattle.format.specs.Sheet.{cxx_type, Item}
use Rattle.syntax.specs.Items.{item_at}
use Rattle.rules.specs.Rules.{any}
use Rattle.bridge.specs.Nested.{filter, first_name, nth, is_empty, starts_with, direct_content, nested_content, distinct, nth_names, nested_names}
use Rattle.bridge.specs.Write.{needs_forward_declaration}
use Rattle.nested.specs.Groups.{shared, belongs, members, is_direct, is_first, opens, names_before}
use Rattle.nested.proofs.ListLaws.{and-true, and_assoc, filter_append, filter_same, filter_twice, filter_none}
use Rattle.nested.proofs.ListLaws.{any_same, names_append, member_names, distinct_last}
use Rattle.nested.proofs.SharedLaws.{space_there, space_none, ends_here, shared_deep, shared_with, shared_next}

abbrev pub no_item : Item
no_item = record { namespace = []; cxx = []; body = cxx_type false }

pub take_next : (items : List Item) (i : ℕ) → i < length items →
    take (i + 1) items ≡ take i items ++ (item_at items i ∷ [])
unfolding item_at
take_next items i l = rw add-one (take-suc items i no_item l)

-- every item that needs a forward declaration is in the group at depth 0
pub all_members : (leader : Item) (items : List Item) →
    members leader 0 items ≡ filter (λ x. needs_forward_declaration x.body) items
unfolding members belongs shared
all_members leader items =
    filter_same (belongs leader 0) (λ x. needs_forward_declaration x.body)
    (λ x. and-true (needs_forward_declaration x.body)) items

-- a group has no member before its first
pub first_members : (items : List Item) (depth k : ℕ) → is_first items depth k ≡ true →
    members (item_at items k) depth (take k items) ≡ []
unfolding is_first members
first_members items depth k h =
    filter_none (belongs (item_at items k) depth) (take k items)
    (not-true (any (belongs (item_at items k) depth) (take k items)) h)

module _ (leader : Item) (depth : ℕ) where
  -- ---- a group's own entries

  direct_test : (x : Item) → (belongs leader depth x && is_empty (nth depth x)) ≡ is_direct leader depth x
  unfolding is_direct belongs nth
  direct_test x =
      by_cases (needs_forward_declaration x.body && shared depth leader.namespace x.namespace)
      (λ e.
      let d : depth ≤ length x.namespace
      = shared_deep depth leader.namespace x.namespace (both (needs_forward_declaration x.body) _ e).1 in
      rw e (ends_here depth x.namespace d))
      (λ e. rw e)

  pub direct_members : (xs : List Item) →
      direct_content depth (members leader depth xs) ≡ filter (is_direct leader depth) xs
  unfolding direct_content members
  direct_members xs =
      filter_twice (λ x. is_empty (nth depth x)) (belongs leader depth) xs ∙
      filter_same (λ x. belongs leader depth x && is_empty (nth depth x)) (is_direct leader depth) direct_test xs

  -- ---- an inner namespace is a group, and each of its items leads it

  module _ (j : Item) (s : shared depth leader.namespace j.namespace ≡ true)
      (l : depth < length j.namespace) where
    inner_test : (x : Item) →
        (belongs leader depth x && starts_with (get_or j.namespace depth []) (nth depth x)) ≡ belongs j (depth + 1) x
    unfolding belongs nth
    inner_test x =
        and_assoc (needs_forward_declaration x.body) (shared depth leader.namespace x.namespace) _
        ∙ ap (λ (b : Bool). needs_forward_declaration x.body && b)
        (ap (λ (b : Bool). b && starts_with (get_or j.namespace depth []) (first_name (drop depth x.namespace)))
        (shared_with depth leader.namespace j.namespace x.namespace s)
        ∙ sym (shared_next depth j.namespace x.namespace l))

    pub inner_members : (xs : List Item) →
        nested_content depth (get_or j.namespace depth []) (members leader depth xs) ≡ members j (depth + 1) xs
    unfolding nested_content members
    inner_members xs =
        filter_twice (λ x. starts_with (get_or j.namespace depth []) (nth depth x)) (belongs leader depth) xs ∙
        filter_same (λ x. belongs leader depth x && starts_with (get_or j.namespace depth []) (nth depth x))
        (belongs j (depth + 1)) inner_test xs

    -- the namespace's name was met where one of its items was
    met : (xs : List Item) →
        member (get_or j.namespace depth []) (nth_names depth (members leader depth xs)) ≡ any (belongs j (depth + 1)) xs
    unfolding members
    met xs =
        member_names (get_or j.namespace depth []) depth (belongs leader depth) xs ∙
        any_same (λ x. belongs leader depth x && starts_with (get_or j.namespace depth []) (nth depth x))
        (belongs j (depth + 1)) inner_test xs

    -- it is new, or it is not
    name_next : (xs : List Item) →
        distinct [] (nth_names depth (members leader depth xs) ++ (get_or j.namespace depth [] ∷ []))
        ≡ nested_names depth (members leader depth xs)
        ++ pick (any (belongs j (depth + 1)) xs) [] (get_or j.namespace depth [] ∷ [])
    unfolding nested_names member
    name_next xs =
        distinct_last [] (nth_names depth (members leader depth xs)) (get_or j.namespace depth []) ∙
        ap (λ (b : Bool). nested_names depth (members leader depth xs) ++ pick b [] (get_or j.namespace depth [] ∷ []))
        (met xs)

  -- ---- one item more

  -- what an item adds to the names
  added : (x : Item) → nth_names depth (filter (belongs leader depth) (x ∷ [])) ≡
      pick (belongs leader depth x && ltb depth (length x.namespace)) (get_or x.namespace depth [] ∷ []) []
  unfolding nth_names filter nth
  added x =
      by_cases (belongs leader depth x)
      (λ e. rw e (by_cases (ltb depth (length x.namespace))
      (λ d. rw (d, space_there depth x.namespace (ltb-true depth (length x.namespace) d)))
      (λ d. rw (d, space_none depth x.namespace (ltb-false depth (length x.namespace) d)))))
      (λ e. rw e)

  module _ (items : List Item) (i : ℕ) (there : i < length items) where
    abbrev x : Item
    x = item_at items i

    before_next : names_before items leader depth (i + 1) ≡
        distinct []
        (nth_names depth (members leader depth (take i items)) ++ nth_names depth (filter (belongs leader depth) (x ∷ [])))
    unfolding names_before nested_names members
    before_next =
        rw (take_next items i there, filter_append (belongs leader depth) (take i items) (x ∷ []))
        (ap (distinct [])
        (names_append depth (filter (belongs leader depth) (take i items)) (filter (belongs leader depth) (x ∷ []))))

    unmet : (belongs leader depth x && ltb depth (length x.namespace)) ≡ false →
        names_before items leader depth (i + 1) ≡ names_before items leader depth i
    unfolding names_before nested_names
    unmet e =
        before_next ∙ rw (added x, e)
        (ap (distinct []) (append-nil (nth_names depth (members leader depth (take i items)))))

    inside : (belongs leader depth x && ltb depth (length x.namespace)) ≡ true →
        names_before items leader depth (i + 1) ≡ names_before items leader depth i
        ++ pick (any (belongs x (depth + 1)) (take i items)) [] (get_or x.namespace depth [] ∷ [])
    unfolding names_before belongs
    inside e =
        let q = both (belongs leader depth x) (ltb depth (length x.namespace)) e in
        let s = (both (needs_forward_declaration x.body) (shared depth leader.namespace x.namespace) q.0).1 in
        before_next ∙ rw (added x, e) (name_next x s (ltb-true depth (length x.namespace) q.1) (take i items))

    -- item i opens no inner namespace
    pub opens_none : opens items leader depth i ≡ false →
        names_before items leader depth (i + 1) ≡ names_before items leader depth i
    unfolding opens is_first
    opens_none e =
        by_cases (belongs leader depth x && ltb depth (length x.namespace))
        (λ d.
        let k : not (any (belongs x (depth + 1)) (take i items)) ≡ false = rw d at e in
        inside d ∙ rw (not-false (any (belongs x (depth + 1)) (take i items)) k)
        (append-nil (names_before items leader depth i)))
        unmet

    -- it does
    module _ (e : opens items leader depth i ≡ true) where
      parts : ((belongs leader depth x && ltb depth (length x.namespace)) ≡ true) ×
          (is_first items (depth + 1) i ≡ true)
      unfolding opens
      parts = both (belongs leader depth x && ltb depth (length x.namespace)) (is_first items (depth + 1) i) e

      apart : (belongs leader depth x ≡ true) × (ltb depth (length x.namespace) ≡ true)
      apart = both (belongs leader depth x) (ltb depth (length x.namespace)) parts.0

      pub opens_deep : depth < length x.namespace
      opens_deep = ltb-true depth (length x.namespace) apart.1

      pub opens_first : is_first items (depth + 1) i ≡ true
      opens_first = parts.1

      pub opens_one : names_before items leader depth (i + 1) ≡
          names_before items leader depth i ++ (get_or x.namespace depth [] ∷ [])
      unfolding is_first
      opens_one = inside parts.0 ∙ rw (not-true (any (belongs x (depth + 1)) (take i items)) parts.1)

      pub opens_inner : (xs : List Item) →
          nested_content depth (get_or x.namespace depth []) (members leader depth xs) ≡ members x (depth + 1) xs
      unfolding belongs
      opens_inner =
          inner_members x
          (both (needs_forward_declaration x.body) (shared depth leader.namespace x.namespace) apart.0).1
          opens_deep
