-- Laws of items by number.
use mathlib.Core.Path.{◌≡◌, refl, sym, ap, ◌∙◌}
use mathlib.Core.List.{List, []}
use Prim.Native.Nat.{ℕ, ◌+◌, ◌*◌, ◌/◌, ◌%◌, ◌<◌, ◌≤◌}
use native.Mathlib.Omega.{arith}
use native.Mathlib.Nat.{mul-le-mul_left, mul_comm}
use lib.ListN.{length, get_or}
use Rattle.format.specs.Limits.{most_namespaces}
use Rattle.format.specs.Decode.{got, many}
use Rattle.format.specs.Bits.{bits_at, bits, width_of}
use Rattle.format.specs.Sheet.{Name, Item}
use Rattle.format.specs.Decoding.{name_of, part_of, item_body}
use Rattle.format.specs.declared.ItemKind.{ItemKind}
use Rattle.syntax.specs.Items.{item_at}
use Rattle.cursor.specs.Checking.{Limited}
use Rattle.cursor.proofs.BitLaws.{bits_split, bits_lt}
use Rattle.cursor.proofs.CheckLaws.{many_length}
use Rattle.cursor.specs.declared.Found.{Found}
use Rattle.view.specs.Values.{Yields, name_at, names_at, items_at, Whole}
use Rattle.view.specs.Views.{Finds, kind_of_body, ViewOf, ItemAt}
use Rattle.cursor.proofs.YieldLaws.{yields, found_value, found_next, bits_there}
use Rattle.view.proofs.PartLaws.{finds, name_room, ItemParts, item_parts, body_kind}
use Rattle.names.proofs.NameLaws.{name_read, spaces_next, spaces_each}

-- the bits of an item's namespaces
pub span : (d w : ℕ) → d ≤ most_namespaces → w ≤ 32 → d * w ≤ 224
span d w h l = omega (arith, mul-le-mul_left w h, mul_comm d w, mul_comm w most_namespaces)

module _ (s names : List ℕ) (n at : ℕ) (x : Item) where
  module _ (p : ItemParts (names_at s names) n s at x) {k : Found} (fk : Finds (bits 3 s at) 3 k) where
    pub kind_of_lem : {kind : ItemKind} → kind ≡ part_of k.value → kind ≡ kind_of_body x.body
    kind_of_lem e =
        e ∙ ap part_of (sym (found_value fk p.kind)) ∙
        body_kind (names_at s names) n s p.body_at (part_of p.number) p.body

    module _ {d : Found} (fd : Finds (bits 3 s k.next.at) 3 d) where
      deep : bits 3 s k.next.at ≡ got p.levels p.spaces_at
      deep = ap (λ (a : ℕ). bits 3 s a) (sym (found_next fk p.kind)) ∙ p.deep

      spaces : many d.value (name_of (names_at s names)) s d.next.at ≡ got x.namespace p.cxx_at
      spaces =
          ap (λ (j : ℕ). many j (name_of (names_at s names)) s d.next.at) (sym (found_value fd deep)) ∙
          (ap (λ (a : ℕ). many p.levels (name_of (names_at s names)) s a) (sym (found_next fd deep)) ∙ p.spaces)

      pub depth_of : d.value ≡ length x.namespace
      depth_of = sym (many_length (name_of (names_at s names)) s d.value d.next.at spaces)

      pub view_of : (i : ℕ) {kind : ItemKind} {w : ℕ} {r : Found} → kind ≡ part_of k.value →
          w ≡ width_of (length names) → Finds (bits w s (d.next.at + d.value * w)) w r →
          ViewOf s names n x
          (record { number = i; kind = kind; depth = d.value; spaces = d.next; name = r.value; body = r.next })
      view_of i {kind} {w} {r} e z f =
          let a : p.cxx_at ≡ d.next.at + d.value * w =
          spaces_next s names d.value d.next.at spaces ∙ rw (← z) in
          let g : Finds (bits (width_of (length names)) s p.cxx_at) w r = rw (a, ← z) f in
          let q = name_read s names p.cxx_at p.cxx g in
          record {
            kind = kind_of_lem e;
            depth = depth_of;
            spaces = yields spaces;
            shallow = omega (arith, fd.low);
            near = fd.near;
            named = q.there;
            cxx = q.name;
            body = yields (ap (λ (j : ItemKind). item_body j (names_at s names) n s r.next.at)
                (e ∙ ap part_of (sym (found_value fk p.kind))) ∙
                (ap (λ (b : ℕ). item_body (part_of p.number) (names_at s names) n s b) (sym q.next) ∙ p.body));
          }

module _ {s names items : List ℕ} (whole : Whole s names items) {i : ℕ} (there : i < length items) where
  parts : ItemParts (names_at s names) (length items) s (get_or items i 0) (item_at (items_at s names items) i)
  parts = item_parts (names_at s names) (length items) s (get_or items i 0) (whole.each i there).is

  depth_at : (parts.deep_at ≡ get_or items i 0 + 3) × (parts.spaces_at ≡ get_or items i 0 + 6) ×
      (get_or items i 0 + 6 ≤ 8 * length s)
  depth_at =
      let a = bits_there 3 s (get_or items i 0) parts.kind in
      let b = bits_there 3 s parts.deep_at parts.deep in
      (a.2, omega (arith, a.2, b.2), omega (arith, a.2, b.0))

  -- all bits of the kind and of the depth are there
  pub head_room : get_or items i 0 + 6 ≤ 8 * length s
  head_room = depth_at.2

  kind_found : {k : ℕ} → k ≡ bits_at s (get_or items i 0) 3 →
      Finds (bits 3 s (get_or items i 0)) 3 (record { value = k; next = record { at = get_or items i 0 + 3 } })
  kind_found e = finds 3 s (get_or items i 0) whole.named.limited (omega (arith, head_room)) e

  depth_found : {d : ℕ} → d ≡ bits_at s (get_or items i 0 + 3) 3 →
      Finds (bits 3 s (get_or items i 0 + 3)) 3 (record { value = d; next = record { at = get_or items i 0 + 3 + 3 } })
  depth_found e = finds 3 s (get_or items i 0 + 3) whole.named.limited (omega (arith, head_room)) e

  pub kind_there : {k : ℕ} {kind : ItemKind} → k ≡ bits_at s (get_or items i 0) 3 → kind ≡ part_of k →
      kind ≡ kind_of_body (item_at (items_at s names items) i).body
  kind_there g e =
      kind_of_lem s names (length items) (get_or items i 0) (item_at (items_at s names items) i) parts (kind_found g) e

  pub depth_there : {d : ℕ} → d ≡ bits_at s (get_or items i 0 + 3) 3 →
      d ≡ length (item_at (items_at s names items) i).namespace
  depth_there g =
      depth_of s names (length items) (get_or items i 0) (item_at (items_at s names items) i) parts (kind_found refl)
      (depth_found g)

  -- both were read as one field
  module _ {h : ℕ} (g : h ≡ bits_at s (get_or items i 0) 6) where
    split : (h / 8 ≡ bits_at s (get_or items i 0) 3) × (h % 8 ≡ bits_at s (get_or items i 0 + 3) 3)
    split =
        let a = g ∙ bits_split s (get_or items i 0) 3 3 in
        let l = bits_lt s (get_or items i 0 + 3) 3 in
        (omega (arith, a, l), omega (arith, a, l))

    module _ {w : ℕ} (z : w ≡ width_of (length names)) where
      -- all bits of the C++ name's index are there
      pub title_room : get_or items i 0 + 6 + h % 8 * w + w ≤ 8 * length s
      title_room =
          let d : parts.levels ≡ h % 8 = (bits_there 3 s parts.deep_at parts.deep).1 ∙
          rw depth_at.0 (sym split.1) in
          let a : parts.cxx_at ≡ get_or items i 0 + 6 + h % 8 * w =
          spaces_next s names parts.levels parts.spaces_at parts.spaces ∙ rw (depth_at.1, d, z) in
          rw (← a) (name_room s names parts.cxx_at parts.cxx z)

      pub item_there : {kind : ItemKind} {name : ℕ} → kind ≡ part_of (h / 8) →
          name ≡ bits_at s (get_or items i 0 + 6 + h % 8 * w) w →
          ItemAt s names items (record {
            number = i;
            kind = kind;
            depth = h % 8;
            spaces = record { at = get_or items i 0 + 6 };
            name = name;
            body = record { at = get_or items i 0 + 6 + h % 8 * w + w };
          })
      item_there e f =
          let q : get_or items i 0 + 3 + 3 ≡ get_or items i 0 + 6 = omega arith in
          record {
            there = there;
            view = view_of s names (length items) (get_or items i 0) (item_at (items_at s names items) i) parts
                (kind_found split.0) (rw q at (depth_found split.1)) i e z
                (finds w s (get_or items i 0 + 6 + h % 8 * w) whole.named.limited title_room f);
          }

-- the index of a namespace
pub space_there : (s names : List ℕ) (at d : ℕ) {xs : List Name} {j w : ℕ} {r : Found} →
    Yields (many j (name_of (names_at s names)) s at) xs → d < j → w ≡ width_of (length names) →
    Finds (bits w s (at + d * w)) w r → (r.value < length names) × (name_at s (get_or names r.value 0) ≡ get_or xs d [])
space_there s names at d {j = j} {w = w} {r = r} y l z f =
    let q = spaces_each s names j at y.is d l in
    let g : Finds (bits (width_of (length names)) s (at + d * width_of (length names))) w r = rw (← z) f in
    let h = name_read s names (at + d * width_of (length names)) q.1 g in
    (h.there, h.name)

-- all of its bits are there, and it was read without a test
module _ (s names : List ℕ) (at d : ℕ) {xs : List Name} {j w : ℕ}
    (y : Yields (many j (name_of (names_at s names)) s at) xs) (l : d < j) (z : w ≡ width_of (length names)) where
  pub space_room : at + d * w + w ≤ 8 * length s
  space_room =
      rw z (name_room s names (at + d * width_of (length names)) (spaces_each s names j at y.is d l).1 refl)

  pub space_is : {r : ℕ} → Limited s → r ≡ bits_at s (at + d * w) w →
      (r < length names) × (name_at s (get_or names r 0) ≡ get_or xs d [])
  space_is k e = space_there s names at d y l z (finds w s (at + d * w) k space_room e)
