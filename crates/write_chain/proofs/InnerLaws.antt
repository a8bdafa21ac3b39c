-- What is read of a type: its inner type with the code of what stands behind that, or the type that has none.
use Rattle.std.proofs.Common.{◌≡◌, ℕ, zero, suc, ◌+◌, ◌-◌, ◌*◌, ◌/◌, ◌%◌, ◌<◌, ◌≤◌, Bool, true, false, eqb, List, [], ◌++◌, length, sym, refl, ap, ◌∙◌, append_assoc, arith}
use Rattle.lexical.specs.Bytes.{bytes}
use Rattle.lexical.specs.Decimal.{pick_text}
use Rattle.format.specs.Decode.{got, pick, after}
use Rattle.format.specs.Bits.{bits_at, bits, bit, width_of, index}
use Rattle.format.specs.Types.{Ty, named}
use Rattle.format.specs.Sheet.{Item}
use Rattle.format.specs.declared.Pointer.{Pointer}
use Rattle.format.specs.declared.Pointer.TheVariants.{Ref, Ptr, SliceRef}
use Rattle.format.specs.declared.TypeKind.{TypeKind}
use Rattle.format.specs.declared.TypeKind.TheVariants as Kind
use Rattle.format.specs.Decoding.{atom_of, kind_of, type_body, type_at}
use Rattle.syntax.specs.Items.{item_at, full_name}
use Rattle.bridge.specs.WriteType.{write_atom, pointer_begin, pointer_end, space_after_type, write_type}
use Rattle.cursor.proofs.BitLaws.{bits_split, bits_lt}
use Rattle.cursor.proofs.WidthLaws.{index_field, index_lt}
use Rattle.cursor.proofs.YieldLaws.{yields, in_turn, got_value, got_next, bits_there}
use Rattle.view.specs.Values.{next_of, Yields}
use Rattle.view.specs.Views.{prefix_of}
use Rattle.types.proofs.KindLaws.{body_type}
use Rattle.write_atom.specs.Texts.{is_spaced, space_of_kind}
use Rattle.write_type.specs.TypeAt.{ty_at}
use Rattle.write_type.proofs.TypeLaws.{type_is, type_yields, space_is}
use Rattle.write_chain.specs.Chains.{begin_of, close_of, base_of, end_of, code_of}

-- ---- numbers that a match leaves

-- a number of neither a reference nor a pointer
pub spaced_rest : (k : ℕ) → (k ≡ 7 → ⊥) → (k ≡ 8 → ⊥) → 1 ≡ length (space_of_kind (kind_of k))
unfolding kind_of
spaced_rest zero h i = refl
spaced_rest (suc zero) h i = refl
spaced_rest (suc (suc zero)) h i = refl
spaced_rest (suc (suc (suc zero))) h i = refl
spaced_rest (suc (suc (suc (suc zero)))) h i = refl
spaced_rest (suc (suc (suc (suc (suc zero))))) h i = refl
spaced_rest (suc (suc (suc (suc (suc (suc zero)))))) h i = refl
spaced_rest (suc (suc (suc (suc (suc (suc (suc zero))))))) h i = absurd (h refl)
spaced_rest (suc (suc (suc (suc (suc (suc (suc (suc zero)))))))) h i = absurd (i refl)
spaced_rest (suc (suc (suc (suc (suc (suc (suc (suc (suc zero))))))))) h i = refl
spaced_rest (suc (suc (suc (suc (suc (suc (suc (suc (suc (suc zero)))))))))) h i = refl
spaced_rest (suc (suc (suc (suc (suc (suc (suc (suc (suc (suc (suc zero))))))))))) h i = refl
spaced_rest (suc (suc (suc (suc (suc (suc (suc (suc (suc (suc (suc (suc zero)))))))))))) h i = refl
spaced_rest (suc (suc (suc (suc (suc (suc (suc (suc (suc (suc (suc (suc (suc zero))))))))))))) h i = refl
spaced_rest (suc (suc (suc (suc (suc (suc (suc (suc (suc (suc (suc (suc (suc (suc zero)))))))))))))) h i = refl
spaced_rest (suc (suc (suc (suc (suc (suc (suc (suc (suc (suc (suc (suc (suc (suc (suc zero))))))))))))))) h i = refl
spaced_rest (suc (suc (suc (suc (suc (suc (suc (suc (suc (suc (suc (suc (suc (suc (suc (suc k)))))))))))))))) h i =
    refl

-- nor a slice
pub base_rest : (k : ℕ) → (k ≡ 7 → ⊥) → (k ≡ 8 → ⊥) → (k ≡ 13 → ⊥) → 0 ≡ base_of (kind_of k)
unfolding kind_of
base_rest zero h i j = refl
base_rest (suc zero) h i j = refl
base_rest (suc (suc zero)) h i j = refl
base_rest (suc (suc (suc zero))) h i j = refl
base_rest (suc (suc (suc (suc zero)))) h i j = refl
base_rest (suc (suc (suc (suc (suc zero))))) h i j = refl
base_rest (suc (suc (suc (suc (suc (suc zero)))))) h i j = refl
base_rest (suc (suc (suc (suc (suc (suc (suc zero))))))) h i j = absurd (h refl)
base_rest (suc (suc (suc (suc (suc (suc (suc (suc zero)))))))) h i j = absurd (i refl)
base_rest (suc (suc (suc (suc (suc (suc (suc (suc (suc zero))))))))) h i j = refl
base_rest (suc (suc (suc (suc (suc (suc (suc (suc (suc (suc zero)))))))))) h i j = refl
base_rest (suc (suc (suc (suc (suc (suc (suc (suc (suc (suc (suc zero))))))))))) h i j = refl
base_rest (suc (suc (suc (suc (suc (suc (suc (suc (suc (suc (suc (suc zero)))))))))))) h i j = refl
base_rest (suc (suc (suc (suc (suc (suc (suc (suc (suc (suc (suc (suc (suc zero))))))))))))) h i j = absurd (j refl)
base_rest (suc (suc (suc (suc (suc (suc (suc (suc (suc (suc (suc (suc (suc (suc zero)))))))))))))) h i j = refl
base_rest (suc (suc (suc (suc (suc (suc (suc (suc (suc (suc (suc (suc (suc (suc (suc zero))))))))))))))) h i j = refl
base_rest (suc (suc (suc (suc (suc (suc (suc (suc (suc (suc (suc (suc (suc (suc (suc (suc k)))))))))))))))) h i j =
    refl

pub begin_rest : (j : TypeKind) → 0 ≡ prefix_of j → [] ≡ begin_of j
begin_rest (Kind.Template k) h = absurd (omega arith)
begin_rest (Kind.Pointer k) h = absurd (omega arith)
begin_rest Kind.Atom h = refl
begin_rest Kind.Named h = refl
begin_rest Kind.Str h = refl
begin_rest Kind.Fn h = refl
begin_rest Kind.Array h = refl
begin_rest Kind.Bad h = refl

pub end_rest : (n : ℕ) {u : Type 0} → (((((((((((((u × (n ≡ 1 → ⊥)) × (n ≡ 2 → ⊥)) × (n ≡ 3 → ⊥)) × (n ≡ 4 → ⊥)) ×
    (n ≡ 5 → ⊥)) × (n ≡ 6 → ⊥)) × (n ≡ 7 → ⊥)) × (n ≡ 8 → ⊥)) × (n ≡ 9 → ⊥)) × (n ≡ 10 → ⊥)) × (n ≡ 11 → ⊥)) ×
    (n ≡ 12 → ⊥)) × (n ≡ 13 → ⊥)) × (n ≡ 14 → ⊥) → [] ≡ end_of n
unfolding end_of
end_rest zero h = refl
end_rest (suc zero) h = absurd (h.0.0.0.0.0.0.0.0.0.0.0.0.0.1 refl)
end_rest (suc (suc zero)) h = absurd (h.0.0.0.0.0.0.0.0.0.0.0.0.1 refl)
end_rest (suc (suc (suc zero))) h = absurd (h.0.0.0.0.0.0.0.0.0.0.0.1 refl)
end_rest (suc (suc (suc (suc zero)))) h = absurd (h.0.0.0.0.0.0.0.0.0.0.1 refl)
end_rest (suc (suc (suc (suc (suc zero))))) h = absurd (h.0.0.0.0.0.0.0.0.0.1 refl)
end_rest (suc (suc (suc (suc (suc (suc zero)))))) h = absurd (h.0.0.0.0.0.0.0.0.1 refl)
end_rest (suc (suc (suc (suc (suc (suc (suc zero))))))) h = absurd (h.0.0.0.0.0.0.0.1 refl)
end_rest (suc (suc (suc (suc (suc (suc (suc (suc zero)))))))) h = absurd (h.0.0.0.0.0.0.1 refl)
end_rest (suc (suc (suc (suc (suc (suc (suc (suc (suc zero))))))))) h = absurd (h.0.0.0.0.0.1 refl)
end_rest (suc (suc (suc (suc (suc (suc (suc (suc (suc (suc zero)))))))))) h = absurd (h.0.0.0.0.1 refl)
end_rest (suc (suc (suc (suc (suc (suc (suc (suc (suc (suc (suc zero))))))))))) h = absurd (h.0.0.0.1 refl)
end_rest (suc (suc (suc (suc (suc (suc (suc (suc (suc (suc (suc (suc zero)))))))))))) h = absurd (h.0.0.1 refl)
end_rest (suc (suc (suc (suc (suc (suc (suc (suc (suc (suc (suc (suc (suc zero))))))))))))) h = absurd (h.0.1 refl)
end_rest (suc (suc (suc (suc (suc (suc (suc (suc (suc (suc (suc (suc (suc (suc zero)))))))))))))) h =
    absurd (h.1 refl)
end_rest (suc (suc (suc (suc (suc (suc (suc (suc (suc (suc (suc (suc (suc (suc (suc n))))))))))))))) h = refl

-- ---- spaces

pub space_few : (j : TypeKind) → length (space_of_kind j) ≤ 1
space_few j = by_space (is_spaced j)
  where
    by_space : (b : Bool) → length (pick_text b (bytes " ") []) ≤ 1
    by_space true = omega arith
    by_space false = omega arith

pub end_few : (spaced : Bool) (k : ℕ) {r : ℕ} → r ≡ length (pick_text spaced (space_of_kind (kind_of k)) []) → r ≤ 1
end_few true k e = omega (arith, space_few (kind_of k))
end_few false k e = omega arith

-- ---- codes

pointer_code : (k : Pointer) (m b : Bool) →
    end_of (base_of (Kind.Pointer k) + pick m 2 0 + length (pick_text b (bytes " ") [])) ≡
    pick_text b (bytes " ") [] ++ pointer_end k m
unfolding end_of
pointer_code Ref true true = refl
pointer_code Ref true false = refl
pointer_code Ref false true = refl
pointer_code Ref false false = refl
pointer_code Ptr true true = refl
pointer_code Ptr true false = refl
pointer_code Ptr false true = refl
pointer_code Ptr false false = refl
pointer_code SliceRef true true = refl
pointer_code SliceRef true false = refl
pointer_code SliceRef false true = refl
pointer_code SliceRef false false = refl

-- ---- inner types

base_few : (j : TypeKind) → base_of j ≤ 10
base_few (Kind.Pointer Ref) = omega arith
base_few (Kind.Pointer Ptr) = omega arith
base_few (Kind.Pointer SliceRef) = omega arith
base_few (Kind.Template k) = omega arith
base_few Kind.Atom = omega arith
base_few Kind.Named = omega arith
base_few Kind.Str = omega arith
base_few Kind.Fn = omega arith
base_few Kind.Array = omega arith
base_few Kind.Bad = omega arith

prefix_few : (j : TypeKind) → 0 < prefix_of j → (4 ≤ prefix_of j) × (prefix_of j ≤ 5)
prefix_few (Kind.Template k) l = (omega arith, omega arith)
prefix_few (Kind.Pointer k) l = (omega arith, omega arith)
prefix_few Kind.Atom l = absurd (omega arith)
prefix_few Kind.Named l = absurd (omega arith)
prefix_few Kind.Str l = absurd (omega arith)
prefix_few Kind.Fn l = absurd (omega arith)
prefix_few Kind.Array l = absurd (omega arith)
prefix_few Kind.Bad l = absurd (omega arith)

-- as a helper ensures it
pub prefix_fits : (k : ℕ) {a : ℕ} → a ≡ prefix_of (kind_of k) → 0 < a → (4 ≤ a) × (a ≤ 5)
prefix_fits k e l = rw e (prefix_few (kind_of k) (rw (← e) l))

pub base_fits : (k : ℕ) {c : ℕ} → c ≡ base_of (kind_of k) → c ≤ 10
base_fits k e = omega (arith, base_few (kind_of k))

pub code_fits : (k m : ℕ) {c r : ℕ} → c ≡ base_of (kind_of k) → r ≡ length (space_of_kind (kind_of (m % 16))) →
    c + m / 16 * 2 + r ≤ m + 11
code_fits k m e f = omega (arith, base_few (kind_of k), space_few (kind_of (m % 16)))

pub pointer_prefix : (k : ℕ) {a : ℕ} → a ≡ prefix_of (kind_of k) → 0 < a → (a ≡ 4 → ⊥) → prefix_of (kind_of k) ≡ 5
pointer_prefix k {a} e l n = sym e ∙ by_four a (prefix_fits k e l) n
  where
    by_four : (a : ℕ) → (4 ≤ a) × (a ≤ 5) → (a ≡ 4 → ⊥) → a ≡ 5
    by_four zero h n = absurd (omega (arith, h.0))
    by_four (suc zero) h n = absurd (omega (arith, h.0))
    by_four (suc (suc zero)) h n = absurd (omega (arith, h.0))
    by_four (suc (suc (suc zero))) h n = absurd (omega (arith, h.0))
    by_four (suc (suc (suc (suc zero)))) h n = absurd (n refl)
    by_four (suc (suc (suc (suc (suc a))))) h n = omega (arith, h.1)

-- of a type at a position the inner type stands at `next` and is of kind number i, and c is the code of what stands behind it
pub record Reads (s : List ℕ) (at : ℕ) (j : TypeKind) (next i c : ℕ) : Type 0 where
  pub place : next ≡ at + prefix_of j
  pub kind : i ≡ bits_at s next 4
  pub some : 0 < c
  pub small : c < 16
  pub text : end_of c ≡ close_of j (eqb (bits_at s (at + 4) 1) 1) (kind_of i)

twice : (b : ℕ) → b < 2 → b * 2 ≡ pick (eqb b 1) 2 0
twice zero h = refl
twice (suc zero) h = refl
twice (suc (suc b)) h = absurd (omega arith)

base_some : (k : Pointer) → 0 < base_of (Kind.Pointer k)
base_some Ref = omega arith
base_some Ptr = omega arith
base_some SliceRef = omega arith

module _ (s : List ℕ) (at : ℕ) where
  pub reads_template : (j : TypeKind) {i : ℕ} → prefix_of j ≡ 4 → i ≡ bits_at s (at + 4) 4 → Reads s at j (at + 4) i 1
  unfolding end_of
  reads_template (Kind.Template k) h r = record {
    place = refl;
    kind = r;
    some = omega arith;
    small = omega arith;
    text = refl;
  }
  reads_template (Kind.Pointer k) h r = absurd (omega arith)
  reads_template Kind.Atom h r = absurd (omega arith)
  reads_template Kind.Named h r = absurd (omega arith)
  reads_template Kind.Str h r = absurd (omega arith)
  reads_template Kind.Fn h r = absurd (omega arith)
  reads_template Kind.Array h r = absurd (omega arith)
  reads_template Kind.Bad h r = absurd (omega arith)

  -- the mutable bit of a pointer and the kind of its inner type are read together
  pub reads_pointer : (j : TypeKind) {m c : ℕ} → prefix_of j ≡ 5 → m ≡ bits_at s (at + 4) 5 → c ≡ code_of j m →
      Reads s at j (at + 5) (m % 16) c
  reads_pointer (Kind.Pointer k) {m} h r e =
      let a : at + 4 + 1 ≡ at + 5 = omega arith in
      let both : m ≡ bits_at s (at + 4) 1 * 16 + bits_at s (at + 5) 4 = r ∙ bits_split s (at + 4) 1 4 ∙ rw a refl in
      let low = bits_lt s (at + 5) 4 in
      let one = bits_lt s (at + 4) 1 in
      let bit : m / 16 ≡ bits_at s (at + 4) 1 = omega (arith, both, low) in
      let t : m / 16 * 2 ≡ pick (eqb (bits_at s (at + 4) 1) 1) 2 0 =
      ap (λ (b : ℕ). b * 2) bit ∙ twice (bits_at s (at + 4) 1) one in
      record {
        place = refl;
        kind = omega (arith, both, low);
        some = omega (arith, e, base_some k);
        small = omega (arith, e, base_few (Kind.Pointer k), bit, one, space_few (kind_of (m % 16)));
        text = rw (e, t) (pointer_code k _ (is_spaced (kind_of (m % 16))));
      }
  reads_pointer (Kind.Template k) h r e = absurd (omega arith)
  reads_pointer Kind.Atom h r e = absurd (omega arith)
  reads_pointer Kind.Named h r e = absurd (omega arith)
  reads_pointer Kind.Str h r e = absurd (omega arith)
  reads_pointer Kind.Fn h r e = absurd (omega arith)
  reads_pointer Kind.Array h r e = absurd (omega arith)
  reads_pointer Kind.Bad h r e = absurd (omega arith)

-- by what stands behind the kind: an index into the table of items
module _ (n : ℕ) (s : List ℕ) (at : ℕ) {t : Ty} {m w : ℕ}
    (h : after (index n s at) (λ i k. got (named i) k) ≡ got t m) (f : w ≡ width_of n) where
  index_room : at + w ≤ 8 * length s
  index_room =
      in_turn (index n s at) _ h (λ i m g h.
      rw f (bits_there (width_of n) s at (index_field n s at g)).0)

  index_is : {i : ℕ} → i ≡ bits_at s at w → (named i ≡ t) × (i < n)
  index_is {i} d =
      in_turn (index n s at) _ h (λ j m g h.
      let q : j ≡ i = (bits_there (width_of n) s at (index_field n s at g)).1 ∙ sym (rw (← f) d) in
      (ap named (sym q) ∙ got_value h, rw (← q) (index_lt n s at g)))

-- ---- what stands there

bit_there : (s : List ℕ) (at : ℕ) {b : Bool} {m : ℕ} → bit s at ≡ got b m → (b ≡ eqb (bits_at s at 1) 1) × (m ≡ at + 1)
unfolding bit
bit_there s at e =
    in_turn (bits 1 s at) _ e (λ v a f h.
    let q = bits_there 1 s at f in
    (sym (got_value h) ∙ ap (λ (k : ℕ). eqb k 1) q.1, sym (got_next h) ∙ q.2))

-- the text around an inner type, grouped from its front
pointer_parts : (b w p e : List ℕ) → b ++ (w ++ p) ++ e ≡ b ++ w ++ (p ++ e)
pointer_parts b w p e =
    append_assoc b (w ++ p) e ∙ ap (λ (l : List ℕ). b ++ l) (append_assoc w p e) ∙ sym (append_assoc b w (p ++ e))

module _ (n : ℕ) (s : List ℕ) where
  -- a type is its kind, and what that has behind it, with a level less
  body_at : (levels at : ℕ) {t : Ty} {m k : ℕ} → k ≡ bits_at s at 4 → type_at n levels s at ≡ got t m →
      (at + 4 ≤ 8 * length s) × (0 < levels) × (type_body (kind_of k) n (type_at n (levels - 1)) s (at + 4) ≡ got t m)
  unfolding type_at
  body_at zero at f h =
      in_turn (bits 4 s at) _ h (λ k a e g. absurd (let y : ◌≡◌ {A = ℕ} 0 1 = cc in omega arith))
  body_at (suc l) at f h =
      in_turn (bits 4 s at) _ h (λ k a e g.
      let q = bits_there 4 s at e in
      let z : suc l - 1 ≡ l = omega arith in
      (q.0, omega arith, rw (z, f, ← q.1, ← q.2) g))

  pub space_at : (levels at : ℕ) {t : Ty} {m : ℕ} → type_at n levels s at ≡ got t m →
      space_after_type t ≡ space_of_kind (kind_of (bits_at s at 4))
  space_at levels at {t} h =
      let k = kind_of (bits_at s at 4) in
      space_is t ∙ ap space_of_kind (sym (body_type k n (type_at n (levels - 1)) s (at + 4) (body_at levels at refl h).2))

  pub type_room : (levels at : ℕ) {t : Ty} → Yields (type_at n levels s at) t → at + 4 ≤ 8 * length s
  type_room levels at y = (body_at levels at refl y.is).0

module _ (n : ℕ) (s : List ℕ) (items : List Item) where
  -- an inner type, and the text of the whole by its text
  pub record Inside (j : TypeKind) (t : Ty) (at levels next : ℕ) : Type 0 where
    pub there : Yields (type_at n levels s next) (ty_at n levels s next)
    pub text :
        write_type items t ≡ begin_of j ++ write_type items (ty_at n levels s next) ++
        close_of j (eqb (bits_at s (at + 4) 1) 1) (kind_of (bits_at s next 4))

  inside : (j : TypeKind) (levels at : ℕ) {t : Ty} {m : ℕ} → type_body j n (type_at n levels) s (at + 4) ≡ got t m →
      0 < prefix_of j → Inside j t at levels (at + prefix_of j)
  unfolding write_type
  inside (Kind.Template j) levels at h l =
      in_turn (type_at n levels s (at + 4)) _ h (λ u m f g.
      record {
        there = type_yields n levels s (at + 4) (yields f);
        text = ap (write_type items) (sym (got_value g)) ∙ rw (type_is n levels s (at + 4) (yields f)) refl;
      })
  inside (Kind.Pointer j) levels at h l =
      in_turn (bit s (at + 4)) _ h (λ b m f g.
      in_turn (type_at n levels s m) _ g (λ u a f₁ g₁.
      let q = bit_there s (at + 4) f in
      let d : m ≡ at + 5 = omega (arith, q.1) in
      rw (← d) (record {
        there = type_yields n levels s m (yields f₁);
        text =
            ap (write_type items) (sym (got_value g₁))
            ∙ rw (type_is n levels s m (yields f₁), space_at n s levels m f₁, q.0)
            (pointer_parts (pointer_begin j) (write_type items u) _ _);
      })))
  inside Kind.Atom levels at h l = absurd (omega arith)
  inside Kind.Named levels at h l = absurd (omega arith)
  inside Kind.Str levels at h l = absurd (omega arith)
  inside Kind.Fn levels at h l = absurd (omega arith)
  inside Kind.Array levels at h l = absurd (omega arith)
  inside Kind.Bad levels at h l = absurd (omega arith)

-- a type of kind number k
module _ (n : ℕ) (s : List ℕ) (levels at : ℕ)
    (y : Yields (type_at n levels s at) (ty_at n levels s at)) {k : ℕ} (e : k ≡ bits_at s at 4) where
  body : type_body (kind_of k) n (type_at n (levels - 1)) s (at + 4) ≡
      got (ty_at n levels s at) (next_of (type_at n levels s at))
  body = (body_at n s levels at e y.is).2

  pub level_left : 0 < levels
  level_left = (body_at n s levels at e y.is).1

  pub inner_at : (items : List Item) → 0 < prefix_of (kind_of k) →
      Inside n s items (kind_of k) (ty_at n levels s at) at (levels - 1) (at + prefix_of (kind_of k))
  inner_at items l = inside n s items (kind_of k) (levels - 1) at body l

  pub inner_room : {a : ℕ} → a ≡ prefix_of (kind_of k) → 0 < a → at + 4 + a ≤ 8 * length s
  inner_room z l =
      let i = inner_at [] (rw (← z) l) in
      omega (arith, z, type_room n s (levels - 1) (at + prefix_of (kind_of k)) i.there)

  pub atom_room : k ≡ 0 → at + 8 ≤ 8 * length s
  unfolding kind_of
  atom_room z =
      in_turn (bits 4 s (at + 4)) _ (rw z at body) (λ a m f h. omega (arith, (bits_there 4 s (at + 4) f).0))

  pub atom_text : (items : List Item) {a : ℕ} → k ≡ 0 → a ≡ bits_at s (at + 4) 4 →
      write_atom (atom_of a) ≡ write_type items (ty_at n levels s at)
  unfolding kind_of write_type
  atom_text items z d =
      in_turn (bits 4 s (at + 4)) _ (rw z at body) (λ b m f h.
      rw (d, ← (bits_there 4 s (at + 4) f).1) (ap (write_type items) (got_value h)))

  pub str_text : (items : List Item) → k ≡ 9 → bytes "::rust::Str" ≡ write_type items (ty_at n levels s at)
  unfolding kind_of write_type
  str_text items z = ap (write_type items) (got_value (rw z at body))

  module _ {w : ℕ} (f : w ≡ width_of n) (z : k ≡ 1) where
    named_body : type_body Kind.Named n (type_at n (levels - 1)) s (at + 4) ≡
        got (ty_at n levels s at) (next_of (type_at n levels s at))
    unfolding kind_of
    named_body = rw z at body

    pub named_room : at + 4 + w ≤ 8 * length s
    named_room = index_room n s (at + 4) named_body f

    pub named_low : {i : ℕ} → i ≡ bits_at s (at + 4) w → i < n
    named_low d = (index_is n s (at + 4) named_body f d).1

    pub named_text : (items : List Item) {i : ℕ} → i ≡ bits_at s (at + 4) w →
        full_name (item_at items i) ≡ write_type items (ty_at n levels s at)
    unfolding write_type
    named_text items d = ap (write_type items) (index_is n s (at + 4) named_body f d).0
