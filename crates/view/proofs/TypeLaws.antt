-- Laws of the outermost type at a position.
use mathlib.Core.Path.{◌≡◌, refl, sym, ap, ◌∙◌}
use mathlib.Core.List.{List, [], ◌∷◌}
use mathlib.Core.Bool.{Bool, true, false, not, false≢true}
use Prim.Native.Nat.{ℕ, zero, suc, ◌+◌, ◌*◌, ◌<◌, ◌≤◌}
use native.Mathlib.Omega.{arith}
use lib.ListN.{length, get_or, drop}
use lib.Dec.{leb, ltb, eqb}
use borrow.Author.Tests.{ltb-false}
use Rattle.format.specs.Decode.{got, many}
use Rattle.format.specs.Bits.{bits_at, bits, bit, width_of, index}
use Rattle.format.specs.Types.{Ty, atom, named, template, pointer, str, fn, array}
use Rattle.format.specs.Sheet.{Name, Body, struct, enum, cxx_type, rust_type, function, Item}
use Rattle.lexical.specs.Bytes.{within, every}
use Rattle.lexical.proofs.BoolLaws.{both, not-true}
use Rattle.refusal.specs.declared.Refusal.TheVariants.{BadKind}
use Rattle.format.specs.declared.Atom.{Atom}
use Rattle.format.specs.declared.ItemKind.{ItemKind}
use Rattle.format.specs.declared.ItemKind.TheVariants as Part
use Rattle.format.specs.declared.Template.TheVariants as Template
use Rattle.format.specs.declared.TypeKind.{TypeKind}
use Rattle.format.specs.declared.TypeKind.TheVariants as Kind
use Rattle.format.specs.Decoding.{atom_of, kinds, kind_of, type_body, type_at, type, item_body, struct_body, enum_body}
use Rattle.syntax.specs.Types.{pointer_bit, atom_number, needs_indirect_abi, is_rust_string}
use Rattle.cursor.proofs.WidthLaws.{index_field, index_lt}
use Rattle.syntax.specs.Items.{item_at}
use Rattle.cursor.specs.declared.Found.{Found}
use Rattle.syntax.proofs.AtomLaws.{atom_number_lem}
use Rattle.types.proofs.KindLaws.{body_type, kind_here, behind_kind}
use Rattle.view.specs.declared.ItemView.{ItemView}
use Rattle.view.specs.Values.{next_of, Yields, names_at, items_at}
use Rattle.view.specs.Views.{Finds, kind_of_body, ItemAt, is_function_kind, kind_of_type, is_named_kind, is_indirect_kind}
use Rattle.view.specs.Views.{owner_of}
use Rattle.cursor.specs.Checking.{Limited}
use Rattle.cursor.proofs.FieldLaws.{field_lt}
use Rattle.cursor.proofs.YieldLaws.{in_turn, passed, got_value, bits_there, found_value, found_next, bit_value}
use Rattle.view.proofs.PartLaws.{finds, bit_room}

module _ (n : ℕ) (s : List ℕ) (at : ℕ) {t : Ty} {k : Found} (y : Yields (type n s at) t) (f : Finds (bits 4 s at) 4 k) where
  pub type_body_lem : type_body (kind_of k.value) n (type_at n 7) s k.next.at ≡ got t (next_of (type n s at))
  unfolding type type_at
  type_body_lem =
      in_turn (bits 4 s at) _ y.is (λ j a e h.
      rw (← found_value f e, ← found_next f e) h)

  pub type_kind : {kind : TypeKind} → kind ≡ kind_of k.value → kind ≡ kind_of_type t
  type_kind e = e ∙ body_type (kind_of k.value) n (type_at n 7) s k.next.at type_body_lem

-- ---- pointer bits

pub pointer_function : (b : Body) {k : ItemKind} → k ≡ kind_of_body b → is_function_kind k ≡ true → pointer_bit b ≡ false
pointer_function (struct p ts) e h = absurd (false≢true (sym (ap is_function_kind e) ∙ h))
pointer_function (enum p a c) e h = absurd (false≢true (sym (ap is_function_kind e) ∙ h))
pointer_function (cxx_type p) e h = absurd (false≢true (sym (ap is_function_kind e) ∙ h))
pointer_function (rust_type p) e h = absurd (false≢true (sym (ap is_function_kind e) ∙ h))
pointer_function (function f) e h = refl

module _ (ns : List Name) (n : ℕ) (s : List ℕ) (at : ℕ) {x : Body} {m : ℕ} {r : Found} (f : Finds (bits 1 s at) 1 r) where
  pub pointer_type : (k : ItemKind) → item_body k ns n s at ≡ got x m → is_function_kind k ≡ false →
      pointer_bit x ≡ eqb r.value 1
  unfolding struct_body enum_body
  pointer_type Part.Struct h z =
      in_turn (bit s at) _ h (λ p a e₁ h₁.
      in_turn (bits 6 s a) _ h₁ (λ k b e₂ h₂.
      in_turn (many k _ s b) _ h₂ (λ ts c e₃ h₃. sym (ap pointer_bit (got_value h₃)) ∙ bit_value s at e₁ f)))
  pointer_type Part.Enum h z =
      in_turn (bit s at) _ h (λ p a e₁ h₁.
      in_turn (bits 4 s a) _ h₁ (λ k b e₂ h₂.
      in_turn (bit s b) _ (passed (within 2 11 k) _ BadKind h₂) (λ t c e₃ h₃.
      sym (ap pointer_bit (got_value h₃)) ∙ bit_value s at e₁ f)))
  pointer_type Part.CxxType h z =
      in_turn (bit s at) _ h (λ p a e₁ h₁. sym (ap pointer_bit (got_value h₁)) ∙ bit_value s at e₁ f)
  pointer_type Part.RustType h z =
      in_turn (bit s at) _ h (λ p a e₁ h₁. sym (ap pointer_bit (got_value h₁)) ∙ bit_value s at e₁ f)
  pointer_type Part.RustFunction h z = absurd (let y : ◌≡◌ {A = ℕ} 0 1 = cc in omega arith)
  pointer_type Part.Bad h z = absurd (let y : ◌≡◌ {A = ℕ} 0 1 = cc in omega arith)

-- its bit is there
pub pointer_room : (ns : List Name) (n : ℕ) (s : List ℕ) (at : ℕ) {x : Body} {m : ℕ} (k : ItemKind) →
    item_body k ns n s at ≡ got x m → is_function_kind k ≡ false → at + 1 ≤ 8 * length s
unfolding struct_body enum_body
pointer_room ns n s at Part.Struct h z = in_turn (bit s at) _ h (λ p a e g. bit_room s at e)
pointer_room ns n s at Part.Enum h z = in_turn (bit s at) _ h (λ p a e g. bit_room s at e)
pointer_room ns n s at Part.CxxType h z = in_turn (bit s at) _ h (λ p a e g. bit_room s at e)
pointer_room ns n s at Part.RustType h z = in_turn (bit s at) _ h (λ p a e g. bit_room s at e)
pointer_room ns n s at Part.RustFunction h z = absurd (let y : ◌≡◌ {A = ℕ} 0 1 = cc in omega arith)
pointer_room ns n s at Part.Bad h z = absurd (let y : ◌≡◌ {A = ℕ} 0 1 = cc in omega arith)

module _ {s names items : List ℕ} {v : ItemView} {i : ℕ} (a : ItemAt s names items v) (e : v.number ≡ i) where
  pub pointer_none : is_function_kind v.kind ≡ true → false ≡ pointer_bit (item_at (items_at s names items) i).body
  pointer_none h = rw (← e) (sym (pointer_function (item_at (items_at s names items) v.number).body a.view.kind h))

  module _ (h : is_function_kind v.kind ≡ false) where
    pub bit_there : v.body.at + 1 ≤ 8 * length s
    bit_there = pointer_room (names_at s names) (length items) s v.body.at v.kind a.view.body.is h

    pub pointer_at_lem : {r : ℕ} → Limited s → r ≡ bits_at s v.body.at 1 →
        eqb r 1 ≡ pointer_bit (item_at (items_at s names items) i).body
    pointer_at_lem l f =
        rw (← e) (sym (pointer_type (names_at s names) (length items) s v.body.at
        (finds 1 s v.body.at l bit_there f) v.kind a.view.body.is h))

-- ---- atoms, named types and the others

abbrev is_atom_kind : TypeKind → Bool
is_atom_kind Kind.Atom = true
is_atom_kind Kind.Named = false
is_atom_kind (Kind.Template k) = false
is_atom_kind (Kind.Pointer k) = false
is_atom_kind Kind.Str = false
is_atom_kind Kind.Fn = false
is_atom_kind Kind.Array = false
is_atom_kind Kind.Bad = false

-- a test that no kind of a list passes
none_of : (test : TypeKind → Bool) → test Kind.Bad ≡ false → (l : List TypeKind) → every (λ k. not (test k)) l ≡ true →
    (k : ℕ) → test (get_or l k Kind.Bad) ≡ false
unfolding every
none_of test b [] h k = b
none_of test b (x ∷ l) h zero = not-true (test x) (both (not (test x)) (every (λ k. not (test k)) l) h).0
none_of test b (x ∷ l) h (suc k) = none_of test b l (both (not (test x)) (every (λ k. not (test k)) l) h).1 k

no_atom : (k : ℕ) → (k ≡ 0 → ⊥) → is_atom_kind (kind_of k) ≡ false
unfolding kind_of every
no_atom zero z = absurd (z refl)
no_atom (suc k) z = none_of is_atom_kind refl (drop 1 kinds) refl k

no_name : (k : ℕ) → (k ≡ 0 → ⊥) → (k ≡ 1 → ⊥) → is_named_kind (kind_of k) ≡ false
unfolding kind_of every
no_name zero z o = absurd (z refl)
no_name (suc zero) z o = absurd (o refl)
no_name (suc (suc k)) z o = none_of is_named_kind refl (drop 2 kinds) refl k

-- what a view says of a kind takes two bits
pub owner_low : (k : ℕ) {o : ℕ} → o ≡ owner_of (kind_of k) → o < 4
owner_low k e = rw e (by_kind (kind_of k))
  where
    by_kind : (j : TypeKind) → owner_of j < 4
    by_kind (Kind.Template Template.RustBox) = omega arith
    by_kind (Kind.Template Template.UniquePtr) = omega arith
    by_kind (Kind.Template Template.RustVec) = omega arith
    by_kind (Kind.Template Template.SharedPtr) = omega arith
    by_kind (Kind.Template Template.WeakPtr) = omega arith
    by_kind (Kind.Template Template.CxxVector) = omega arith
    by_kind (Kind.Pointer k) = omega arith
    by_kind Kind.Atom = omega arith
    by_kind Kind.Named = omega arith
    by_kind Kind.Str = omega arith
    by_kind Kind.Fn = omega arith
    by_kind Kind.Array = omega arith
    by_kind Kind.Bad = omega arith

-- a number of neither owner's kind, as a match tells it
pub owner_none : (k : ℕ) {u : Type 0} → (u × (k ≡ 2 → ⊥)) × (k ≡ 4 → ⊥) → 0 ≡ owner_of (kind_of k)
unfolding kind_of every
owner_none zero h = refl
owner_none (suc zero) h = refl
owner_none (suc (suc zero)) h = absurd (h.0.1 refl)
owner_none (suc (suc (suc zero))) h = refl
owner_none (suc (suc (suc (suc zero)))) h = absurd (h.1 refl)
owner_none (suc (suc (suc (suc (suc k))))) h =
    let l = none_of (λ j. ltb 0 (owner_of j)) refl (drop 5 kinds) refl k in
    let m = ltb-false 0 (owner_of (get_or (drop 5 kinds) k Kind.Bad)) l in omega arith

module _ (n : ℕ) (s : List ℕ) (at : ℕ) {t : Ty} (y : Yields (type n s at) t) {k : ℕ} (e : k ≡ bits_at s at 4) where
  kind : kind_of k ≡ kind_of_type t
  kind = kind_here n s at y e refl

  body_of : {j : TypeKind} → j ≡ kind_of k → type_body j n (type_at n 7) s (at + 4) ≡ got t (next_of (type n s at))
  body_of z = ap (λ (i : TypeKind). type_body i n (type_at n 7) s (at + 4)) (z ∙ kind) ∙ behind_kind n s at y

  pub owner_is : {o : ℕ} → o ≡ owner_of (kind_of k) → o ≡ owner_of (kind_of_type t)
  owner_is h = h ∙ ap owner_of kind

  module _ (z : k ≡ 0) where
    pub owner_atom : 0 ≡ owner_of (kind_of_type t)
    unfolding kind_of
    owner_atom = owner_is (rw z refl)

    atom_body : type_body Kind.Atom n (type_at n 7) s (at + 4) ≡ got t (next_of (type n s at))
    unfolding kind_of
    atom_body = body_of {j = Kind.Atom} (rw z refl)

    pub atom_room : at + 4 + 4 ≤ 8 * length s
    atom_room = in_turn (bits 4 s (at + 4)) _ atom_body (λ a m f h. (bits_there 4 s (at + 4) f).0)

    module _ {a : ℕ} (g : a ≡ bits_at s (at + 4) 4) where
      atom_there : (i : Atom) × (t ≡ atom i) × (atom_number i ≡ a)
      atom_there =
          in_turn (bits 4 s (at + 4)) _ atom_body (λ v m f h.
          let q : v ≡ a = (bits_there 4 s (at + 4) f).1 ∙ sym g in
          (atom_of v, sym (got_value h), atom_number_lem v (field_lt 4 s (at + 4) f) ∙ q))

      pub indirect_atom : (items : List Item) → leb 14 a ≡ needs_indirect_abi items t
      unfolding needs_indirect_abi
      indirect_atom items = let q = atom_there in rw (q.1, q.2)

      pub string_atom : eqb a 15 ≡ is_rust_string t
      string_atom = let q = atom_there in rw (q.1, q.2)

  module _ (o : k ≡ 1) {w : ℕ} (z : w ≡ width_of n) where
    name_body : type_body Kind.Named n (type_at n 7) s (at + 4) ≡ got t (next_of (type n s at))
    unfolding kind_of
    name_body = body_of {j = Kind.Named} (rw o refl)

    pub named_room : at + 4 + w ≤ 8 * length s
    named_room =
        in_turn (index n s (at + 4)) _ name_body (λ i m f h.
        rw z (bits_there (width_of n) s (at + 4) (index_field n s (at + 4) f)).0)

    pub named_there : {i : ℕ} → i ≡ bits_at s (at + 4) w → (t ≡ named i) × (i < n)
    named_there {i} g =
        in_turn (index n s (at + 4)) _ name_body (λ j m f h.
        let q : j ≡ i = (bits_there (width_of n) s (at + 4) (index_field n s (at + 4) f)).1 ∙ sym (rw (← z) g) in
        (sym (got_value h) ∙ ap named q, rw (← q) (index_lt n s (at + 4) f)))

  module _ (z : k ≡ 0 → ⊥) where
    pub string_other : false ≡ is_rust_string t
    string_other = by_type t (sym (ap is_atom_kind kind) ∙ no_atom k z)
      where
        by_type : (u : Ty) → is_atom_kind (kind_of_type u) ≡ false → false ≡ is_rust_string u
        by_type (atom a) h = absurd (false≢true (sym h))
        by_type (named i) h = refl
        by_type (template k t) h = refl
        by_type (pointer k m t) h = refl
        by_type str h = refl
        by_type (fn r ts) h = refl
        by_type (array t n) h = refl

    pub indirect_other : (items : List Item) → (k ≡ 1 → ⊥) → is_indirect_kind (kind_of k) ≡ needs_indirect_abi items t
    unfolding needs_indirect_abi
    indirect_other items o =
        ap is_indirect_kind kind ∙
        by_type t (sym (ap is_atom_kind kind) ∙ no_atom k z) (sym (ap is_named_kind kind) ∙ no_name k z o)
      where
        by_type : (u : Ty) → is_atom_kind (kind_of_type u) ≡ false → is_named_kind (kind_of_type u) ≡ false →
            is_indirect_kind (kind_of_type u) ≡ needs_indirect_abi items u
        by_type (atom a) h g = absurd (let y : ◌≡◌ {A = ℕ} 0 1 = cc in omega arith)
        by_type (named i) h g = absurd (let y : ◌≡◌ {A = ℕ} 0 1 = cc in omega arith)
        by_type (template k t) h g = refl
        by_type (pointer k m t) h g = refl
        by_type str h g = refl
        by_type (fn r ts) h g = refl
        by_type (array t n) h g = refl
