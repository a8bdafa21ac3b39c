-- What the views of items say of their groups.
use mathlib.Core.Path.{◌≡◌, refl, sym, ap₂, ◌∙◌}
use mathlib.Core.List.{List, []}
use mathlib.Core.Bool.{Bool, true, false, not, ◌&&◌, false≢true}
use Prim.Native.Nat.{ℕ, ◌+◌, ◌-◌, ◌<◌, ◌≤◌}
use native.Mathlib.Omega.{arith}
use borrow.Author.Tests.{eq-eqb, ne_eqb, lt-ltb, le-ltb}
use lib.Dec.{eqb}
use lib.ListN.{length, get_or, drop, take, length-map}
use Rattle.refusal.specs.declared.Refusal.TheVariants.{BadKind}
use Rattle.lexical.specs.Bytes.{same, within}
use Rattle.format.specs.Limits.{most_namespaces}
use Rattle.format.specs.Decode.{got}
use Rattle.format.specs.Bits.{bits, bit}
use Rattle.format.specs.Sheet.{Name, Body, struct, enum, cxx_type, rust_type, function, Item}
use Rattle.format.specs.Decoding.{enum_body}
use Rattle.format.specs.declared.ItemKind.{ItemKind}
use Rattle.format.specs.declared.ItemKind.TheVariants.{Struct, Enum, CxxType, RustType, RustFunction, Bad}
use Rattle.syntax.specs.Items.{item_at}
use Rattle.rules.specs.Rules.{any}
use Rattle.bridge.specs.Write.{needs_forward_declaration}
use Rattle.cursor.specs.declared.Found.{Found}
use Rattle.view.specs.declared.ItemView.{ItemView}
use Rattle.view.specs.Values.{Yields, one_item_at, items_at, item_no}
use Rattle.view.specs.Views.{Finds, kind_of_body, ItemAt}
use Rattle.cursor.proofs.YieldLaws.{in_turn, passed, got_value, bit_value, bit_next, found_value, found_next}
use Rattle.nested.specs.declared.EnumView.{EnumView}
use Rattle.nested.specs.Groups.{EnumOf, shared, belongs, is_direct, is_first, opens, names_before, Next}
use Rattle.nested.proofs.ListLaws.{and-true, and-false, any_last, any_there}
use Rattle.nested.proofs.SharedLaws.{shared_none, shared_short, shared_low, shared_turn, shared_differ}
use Rattle.nested.proofs.GroupLaws.{no_item, take_next, opens_none}

-- ---- an enum

enum_read : (s : List ℕ) (at : ℕ) {b : Body} {p a c : Found} → Yields (enum_body s at) b → Finds (bits 1 s at) 1 p →
    Finds (bits 4 s p.next.at) 4 a → Finds (bits 1 s a.next.at) 1 c →
    EnumOf b (record { atom = a.value; owned = eqb c.value 1 })
unfolding enum_body
enum_read s at {b} {p} {a} {c} y gp ga gc =
    in_turn (bit s at) _ y.is (λ x m e₁ h₁.
    in_turn (bits 4 s m) _ h₁ (λ k n e₂ h₂.
    in_turn (bit s n) _ (passed (within 2 11 k) _ BadKind h₂) (λ t l e₃ h₃.
    let f₂ : bits 4 s p.next.at ≡ got k n = rw (bit_next s at e₁ gp) at e₂ in
    let f₃ : bit s a.next.at ≡ got t l = rw (found_next ga f₂) at e₃ in
    record {
      pointer = x;
      is = rw (← found_value ga f₂, ← bit_value s a.next.at f₃ gc) (sym (got_value h₃));
    })))

pub enum_there : {s names items : List ℕ} {v : ItemView} {p a c : Found} → ItemAt s names items v → v.kind ≡ Enum →
    Finds (bits 1 s v.body.at) 1 p → Finds (bits 4 s p.next.at) 4 a → Finds (bits 1 s a.next.at) 1 c →
    EnumOf (item_no s names items v.number).body (record { atom = a.value; owned = eqb c.value 1 })
enum_there {s} {names} {items} {v} i e gp ga gc =
    let y : Yields (enum_body s v.body.at) (item_no s names items v.number).body = rw e at i.view.body in
    enum_read s v.body.at y gp ga gc

-- ---- items that need a forward declaration

abbrev pub is_enum_kind : ItemKind → Bool
is_enum_kind Enum = true
is_enum_kind Struct = false
is_enum_kind CxxType = false
is_enum_kind RustType = false
is_enum_kind RustFunction = false
is_enum_kind Bad = false

-- the kinds that say by themselves whether one is needed
abbrev pub is_declared_kind : ItemKind → Bool
is_declared_kind Struct = true
is_declared_kind CxxType = true
is_declared_kind RustType = true
is_declared_kind Enum = false
is_declared_kind RustFunction = false
is_declared_kind Bad = false

needs_body : (b : Body) → is_enum_kind (kind_of_body b) ≡ false → is_declared_kind (kind_of_body b) ≡ needs_forward_declaration b
needs_body (struct p ts) h = refl
needs_body (enum p a c) h = absurd (false≢true (sym h))
needs_body (cxx_type p) h = refl
needs_body (rust_type p) h = refl
needs_body (function f) h = refl

pub needs_kind : (s names items : List ℕ) (i : ℕ) {k l : ItemKind} → k ≡ kind_of_body (item_no s names items i).body →
    k ≡ l → is_enum_kind l ≡ false → is_declared_kind l ≡ needs_forward_declaration (item_no s names items i).body
needs_kind s names items i {k} {l} e d h =
    let b = (item_no s names items i).body in
    let q : kind_of_body b ≡ l = sym e ∙ d in rw (← q) (needs_body b (rw q h))

pub needs_enum : {b : Body} {v : EnumView} → EnumOf b v → not v.owned ≡ needs_forward_declaration b
needs_enum e = rw e.is

pub enum_kind : {s names items : List ℕ} {v : ItemView} {i : ℕ} {k : ItemKind} → ItemAt s names items v →
    v.number ≡ i → k ≡ kind_of_body (item_no s names items i).body → k ≡ Enum → v.kind ≡ Enum
enum_kind {v} {i} a e h d = a.view.kind ∙ rw e (sym h ∙ d)

-- ---- shared namespaces

module _ {s names items : List ℕ} {v w : ItemView} (a : ItemAt s names items v) (b : ItemAt s names items w)
    (depth : ℕ) where
  abbrev X : List Name
  X = (item_no s names items v.number).namespace

  abbrev Y : List Name
  Y = (item_no s names items w.number).namespace

  pub first_short : v.depth < depth → false ≡ shared depth X Y
  first_short l = sym (shared_short depth X Y (rw (← a.view.depth) l))

  pub second_short : w.depth < depth → false ≡ shared depth X Y
  second_short l = sym (shared_low depth X Y (rw (← b.view.depth) l))

  abbrev Left : ℕ → Type 0
  Left d = shared depth X Y ≡ shared (depth - d) (drop d X) (drop d Y)

  pub spaces_begin : Left 0
  spaces_begin = let z : depth - 0 ≡ depth = omega arith in rw z

  module _ (k : depth ≤ v.depth) (l : depth ≤ w.depth) {d : ℕ} (h : d < depth) {m n : Name} {r : Bool}
      (p : m ≡ get_or X d []) (q : n ≡ get_or Y d []) (t : r ≡ same m n) (left : Left d) where
    here : same (get_or X d []) (get_or Y d []) ≡ r
    here = sym (t ∙ ap₂ same p q)

    in_x : d < length X
    in_x = let e = a.view.depth in omega arith

    in_y : d < length Y
    in_y = let e = b.view.depth in omega arith

    pub spaces_turn : r ≡ true → Left (d + 1)
    spaces_turn e = left ∙ shared_turn depth d X Y h in_x in_y (here ∙ e)

    pub spaces_differ : r ≡ false → false ≡ shared depth X Y
    spaces_differ e = sym (left ∙ shared_differ depth d X Y h in_x in_y (here ∙ e))

  pub spaces_end : {d : ℕ} → depth ≤ d → Left d → true ≡ shared depth X Y
  spaces_end {d} l left = sym (left ∙ shared_none (depth - d) (drop d X) (drop d Y) (omega arith))

-- ---- members

pub own_shallow : {s names items : List ℕ} {i own : ℕ} {w : ItemView} →
    own ≡ length (item_no s names items i).namespace → ItemAt s names items w → w.number ≡ i → own ≤ most_namespaces
own_shallow o a d = let e = rw d at a.view.depth in omega (arith, o, e, a.view.shallow)

module _ (s names items : List ℕ) (L : Item) (depth i : ℕ) {own : ℕ}
    (o : own ≡ length (item_no s names items i).namespace) where
  pub direct_elsewhere : (own ≡ depth → ⊥) → false ≡ is_direct L depth (item_no s names items i)
  unfolding is_direct
  direct_elsewhere h = rw (← o, ne_eqb own depth h) (sym (and-false (belongs L depth (item_no s names items i))))

  pub opens_shallow : own ≤ depth → false ≡ opens (items_at s names items) L depth i
  unfolding opens
  opens_shallow h = rw (← o, le-ltb depth own h, and-false (belongs L depth (item_no s names items i)))

module _ (s names items : List ℕ) (L : Item) (depth i : ℕ) {needed : Bool}
    (n : needed ≡ needs_forward_declaration (item_no s names items i).body) where
  abbrev x : Item
  x = item_no s names items i

  pub member_none : needed ≡ false → false ≡ belongs L depth x
  unfolding belongs
  member_none e = rw (← n, e)

  pub direct_none : needed ≡ false → false ≡ is_direct L depth x
  unfolding is_direct belongs
  direct_none e = rw (← n, e)

  pub opens_unneeded : needed ≡ false → false ≡ opens (items_at s names items) L depth i
  unfolding opens belongs
  opens_unneeded e = rw (← n, e)

  module _ (e : needed ≡ true) {w : ItemView} (a : ItemAt s names items w) (d : w.number ≡ i) where
    module _ {r : Bool} (t : r ≡ shared depth L.namespace (item_no s names items w.number).namespace) where
      shares : shared depth L.namespace x.namespace ≡ r
      shares = rw (← d) (sym t)

      pub member_shares : r ≡ belongs L depth x
      unfolding belongs
      member_shares = rw (← n, e, shares)

      pub direct_shares : {own : ℕ} → own ≡ length x.namespace → own ≡ depth → r ≡ is_direct L depth x
      unfolding is_direct belongs
      direct_shares {own} o h = rw (← n, e, shares, ← o, eq-eqb own depth h) (sym (and-true r))

      module _ {own : ℕ} (o : own ≡ length x.namespace) (h : depth < own) where
        opens_rest : opens (items_at s names items) L depth i ≡ (r && is_first (items_at s names items) (depth + 1) i)
        unfolding opens belongs
        opens_rest = rw (← n, e, shares, ← o, lt-ltb depth own h, and-true r)

        pub opens_outside : r ≡ false → false ≡ opens (items_at s names items) L depth i
        opens_outside q = sym (opens_rest ∙ rw q)

        pub opens_inside : {f : Bool} → r ≡ true → f ≡ is_first (items_at s names items) (depth + 1) w.number →
            f ≡ opens (items_at s names items) L depth i
        opens_inside q g = sym (opens_rest ∙ rw q (rw (← d) (sym g)))

-- ---- searches

module _ (s names items : List ℕ) where
  abbrev all : List Item
  all = items_at s names items

  pub count : length all ≡ length items
  unfolding items_at
  count = length-map items (one_item_at s names items)

  module _ {v : ItemView} (a : ItemAt s names items v) (depth : ℕ) where
    abbrev test : Item → Bool
    test = belongs (item_no s names items v.number) depth

    pub first_begin : any test (take 0 all) ≡ false
    unfolding any
    first_begin = refl

    module _ {k : ℕ} (l : k < v.number) {r : Bool} (t : r ≡ test (item_no s names items k)) where
      inside : k < length all
      inside = let z = a.there in rw count (omega arith)

      pub first_turn : r ≡ false → any test (take k all) ≡ false → any test (take (k + 1) all) ≡ false
      first_turn e h = rw (take_next all k inside, any_last test (take k all) (item_no s names items k), h) (sym t ∙ e)

      pub first_found : r ≡ true → false ≡ is_first all depth v.number
      unfolding is_first item_at
      first_found e =
          rw (any_there test all v.number k no_item l inside (sym t ∙ e))

    pub first_end : (k : ℕ) → v.number ≤ k → k ≤ v.number → any test (take k all) ≡ false →
        true ≡ is_first all depth v.number
    unfolding is_first
    first_end k g l h = let z : k ≡ v.number = omega arith in rw (rw z at h)

  module _ (leader : Item) (depth from : ℕ) where
    abbrev Since : ℕ → Type 0
    Since i = names_before all leader depth i ≡ names_before all leader depth from

    module _ {i : ℕ} (l : i < length items) {r : Bool} (t : r ≡ opens all leader depth i) (h : Since i) where
      there : i < length all
      there = rw count l

      pub next_turn : r ≡ false → Since (i + 1)
      next_turn e = opens_none leader depth all i there (sym t ∙ e) ∙ h

      pub next_found : from ≤ i → r ≡ true → Next all leader depth from i
      next_found g e = record { least = g; most = let z = there in omega arith; none = h; found = λ _. sym t ∙ e }

    pub next_end_lem : {n : ℕ} (i : ℕ) → n ≡ length items → n ≤ i → i ≤ length items → from ≤ i → Since i →
        Next all leader depth from n
    next_end_lem {n} i e g l f h =
        let z : n ≡ i = omega arith in
        let c = count in
        record {
          least = omega arith;
          most = omega arith;
          none = rw z h;
          found = λ k. absurd (omega arith);
        }
