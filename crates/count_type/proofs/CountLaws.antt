-- How long a type's text is: the loop over its inner types.
use mathlib.Core.Path.{◌≡◌, refl, sym, ap, ◌∙◌}
use mathlib.Core.List.{List, [], ◌++◌}
use mathlib.Core.Bool.{Bool, true, false}
use Prim.Native.Nat.{ℕ, zero, suc, ◌+◌, ◌-◌, ◌*◌, ◌%◌, ◌<◌, ◌≤◌, min}
use native.Mathlib.Omega.{arith}
use lib.Dec.{eqb}
use lib.ListN.{length, get_or, length-append}
use lib.Seq.{length-slice}
use Rattle.lexical.specs.Decimal.{pick_text}
use Rattle.sink.specs.Sink.{sink, limit, Wrote}
use Rattle.sink.proofs.StoreLaws.{wrote_none}
use Rattle.format.specs.Bits.{bits_at}
use Rattle.format.specs.Sheet.{Item}
use Rattle.format.specs.declared.Atom.{Atom}
use Rattle.format.specs.declared.Atom.TheVariants as Atom
use Rattle.format.specs.declared.Template.TheVariants as Template
use Rattle.format.specs.declared.Pointer.{Pointer}
use Rattle.format.specs.declared.Pointer.TheVariants.{Ref, Ptr, SliceRef}
use Rattle.format.specs.declared.TypeKind.{TypeKind}
use Rattle.format.specs.declared.TypeKind.TheVariants as Kind
use Rattle.format.specs.Decoding.{atom_of, kind_of, type_at}
use Rattle.syntax.specs.Items.{item_at, full_name}
use Rattle.bridge.specs.WriteType.{write_atom, pointer_end, space_after_type, write_type, write_type_space}
use Rattle.view.specs.Values.{Yields}
use Rattle.view.specs.Views.{prefix_of}
use Rattle.write_atom.specs.Texts.{space_of_kind}
use Rattle.write_type.specs.TypeAt.{ty_at}
use Rattle.tables.specs.Tables.{items_in, items_of, Part, Lent}
use Rattle.write_chain.specs.Chains.{begin_of, close_of, end_of, write_type_as}
use Rattle.write_chain.proofs.InnerLaws.{space_few, prefix_fits, Reads, space_at, type_room, inner_at}
use Rattle.count_type.specs.Counts.{Counts}

-- ---- numbers that a match leaves

pub atom_rest : (n : ℕ) {u : Type 0} → ((((((((((((((u × (n ≡ 1 → ⊥)) × (n ≡ 2 → ⊥)) × (n ≡ 3 → ⊥)) ×
    (n ≡ 4 → ⊥)) × (n ≡ 5 → ⊥)) × (n ≡ 6 → ⊥)) × (n ≡ 7 → ⊥)) × (n ≡ 8 → ⊥)) × (n ≡ 9 → ⊥)) × (n ≡ 10 → ⊥)) ×
    (n ≡ 11 → ⊥)) × (n ≡ 12 → ⊥)) × (n ≡ 13 → ⊥)) × (n ≡ 14 → ⊥)) × (n ≡ 15 → ⊥) →
    4 ≡ length (write_atom (atom_of n))
unfolding atom_of
atom_rest zero h = refl
atom_rest (suc zero) h = absurd (h.0.0.0.0.0.0.0.0.0.0.0.0.0.0.1 refl)
atom_rest (suc (suc zero)) h = absurd (h.0.0.0.0.0.0.0.0.0.0.0.0.0.1 refl)
atom_rest (suc (suc (suc zero))) h = absurd (h.0.0.0.0.0.0.0.0.0.0.0.0.1 refl)
atom_rest (suc (suc (suc (suc zero)))) h = absurd (h.0.0.0.0.0.0.0.0.0.0.0.1 refl)
atom_rest (suc (suc (suc (suc (suc zero))))) h = absurd (h.0.0.0.0.0.0.0.0.0.0.1 refl)
atom_rest (suc (suc (suc (suc (suc (suc zero)))))) h = absurd (h.0.0.0.0.0.0.0.0.0.1 refl)
atom_rest (suc (suc (suc (suc (suc (suc (suc zero))))))) h = absurd (h.0.0.0.0.0.0.0.0.1 refl)
atom_rest (suc (suc (suc (suc (suc (suc (suc (suc zero)))))))) h = absurd (h.0.0.0.0.0.0.0.1 refl)
atom_rest (suc (suc (suc (suc (suc (suc (suc (suc (suc zero))))))))) h = absurd (h.0.0.0.0.0.0.1 refl)
atom_rest (suc (suc (suc (suc (suc (suc (suc (suc (suc (suc zero)))))))))) h = absurd (h.0.0.0.0.0.1 refl)
atom_rest (suc (suc (suc (suc (suc (suc (suc (suc (suc (suc (suc zero))))))))))) h = absurd (h.0.0.0.0.1 refl)
atom_rest (suc (suc (suc (suc (suc (suc (suc (suc (suc (suc (suc (suc zero)))))))))))) h =
    absurd (h.0.0.0.1 refl)
atom_rest (suc (suc (suc (suc (suc (suc (suc (suc (suc (suc (suc (suc (suc zero))))))))))))) h =
    absurd (h.0.0.1 refl)
atom_rest (suc (suc (suc (suc (suc (suc (suc (suc (suc (suc (suc (suc (suc (suc zero)))))))))))))) h =
    absurd (h.0.1 refl)
atom_rest (suc (suc (suc (suc (suc (suc (suc (suc (suc (suc (suc (suc (suc (suc (suc zero))))))))))))))) h =
    absurd (h.1 refl)
atom_rest (suc (suc (suc (suc (suc (suc (suc (suc (suc (suc (suc (suc (suc (suc (suc (suc n)))))))))))))))) h = refl

-- ---- no length is large

atom_few : (a : Atom) → length (write_atom a) ≤ 15
atom_few Atom.Bool = omega arith
atom_few Atom.Char = omega arith
atom_few Atom.U8 = omega arith
atom_few Atom.U16 = omega arith
atom_few Atom.U32 = omega arith
atom_few Atom.U64 = omega arith
atom_few Atom.Usize = omega arith
atom_few Atom.I8 = omega arith
atom_few Atom.I16 = omega arith
atom_few Atom.I32 = omega arith
atom_few Atom.I64 = omega arith
atom_few Atom.Isize = omega arith
atom_few Atom.F32 = omega arith
atom_few Atom.F64 = omega arith
atom_few Atom.CxxString = omega arith
atom_few Atom.RustString = omega arith

begin_few : (j : TypeKind) → length (begin_of j) ≤ 18
begin_few (Kind.Template Template.RustBox) = omega arith
begin_few (Kind.Template Template.RustVec) = omega arith
begin_few (Kind.Template Template.UniquePtr) = omega arith
begin_few (Kind.Template Template.SharedPtr) = omega arith
begin_few (Kind.Template Template.WeakPtr) = omega arith
begin_few (Kind.Template Template.CxxVector) = omega arith
begin_few (Kind.Pointer Ref) = omega arith
begin_few (Kind.Pointer Ptr) = omega arith
begin_few (Kind.Pointer SliceRef) = omega arith
begin_few Kind.Atom = omega arith
begin_few Kind.Named = omega arith
begin_few Kind.Str = omega arith
begin_few Kind.Fn = omega arith
begin_few Kind.Array = omega arith
begin_few Kind.Bad = omega arith

pointer_end_few : (k : Pointer) (b : Bool) → length (pointer_end k b) ≤ 7
pointer_end_few Ref true = omega arith
pointer_end_few Ref false = omega arith
pointer_end_few Ptr true = omega arith
pointer_end_few Ptr false = omega arith
pointer_end_few SliceRef true = omega arith
pointer_end_few SliceRef false = omega arith

close_few : (j : TypeKind) (b : Bool) (i : TypeKind) → length (close_of j b i) ≤ 8
close_few (Kind.Pointer k) b i =
    omega (arith, length-append (space_of_kind i) (pointer_end k b), space_few i, pointer_end_few k b)
close_few (Kind.Template k) b i = omega arith
close_few Kind.Atom b i = omega arith
close_few Kind.Named b i = omega arith
close_few Kind.Str b i = omega arith
close_few Kind.Fn b i = omega arith
close_few Kind.Array b i = omega arith
close_few Kind.Bad b i = omega arith

-- as a helper ensures it
pub begin_fits : (k : ℕ) {r : ℕ} → r ≡ length (begin_of (kind_of k)) → r ≤ 18
begin_fits k e = omega (arith, begin_few (kind_of k))

-- the code of a template
pub one_long : 1 ≡ length (end_of 1)
unfolding end_of
one_long = refl

pub atom_fits : (n : ℕ) {r : ℕ} → r ≡ length (write_atom (atom_of n)) → r ≤ 15
atom_fits n e = omega (arith, atom_few (atom_of n))

-- ---- named types

-- the length of a text in the pool
pub part_counts : {pool text : List ℕ} {a n : ℕ} → Part pool a n text → Counts text n
part_counts {pool} {text} {a} {n} q = record {
  exact = λ h. omega (arith, length-slice a (a + n) pool q.near, ap length q.is);
}

-- the length of a full name, where the table knows it
pub full_counts : {s t pool : List ℕ} (i : ℕ) → Lent s t pool → i < length (items_in t) →
    Counts (full_name (item_at (items_of s t) i)) (get_or t (2303 + i) 0 % 1024)
full_counts i p l = record { exact = λ h. (part_counts (p.full i l (λ z. h (rw z refl)))).exact h }

-- ---- the loop

-- a type stands at a position; with its length, `sum` is the length of the whole text
pub record Counting (n : ℕ) (s : List ℕ) (items : List Item) (whole : List ℕ) (at sum : ℕ) : Type 0 where
  pub few : sum ≤ 8 * at + 1
  pub levels : ℕ
  pub there : Yields (type_at n levels s at) (ty_at n levels s at)
  pub length_is : length whole ≡ sum + length (write_type items (ty_at n levels s at))

module _ (n : ℕ) (s : List ℕ) (items : List Item) where
  -- the outermost type
  pub counting_whole : (levels at : ℕ) (spaced : Bool) → Yields (type_at n levels s at) (ty_at n levels s at) →
      {k r : ℕ} → k ≡ bits_at s at 4 → r ≡ length (pick_text spaced (space_of_kind (kind_of k)) []) →
      Counting n s items (write_type_as spaced items (ty_at n levels s at)) at r
  unfolding write_type_space
  counting_whole levels at true y {k} e z = record {
    few = omega (arith, z, space_few (kind_of k));
    levels = levels;
    there = y;
    length_is =
        let t = ty_at n levels s at in
        let f = z ∙ ap (λ (i : ℕ). length (space_of_kind (kind_of i))) e in
        let g = ap length (space_at n s levels at y.is) in
        omega (arith, length-append (write_type items t) (space_after_type t), g, f);
  }
  counting_whole levels at false y e z = record {
    few = omega arith;
    levels = levels;
    there = y;
    length_is = omega arith;
  }

  -- its inner type, as the code goes on with it
  pub counting_turn : {whole : List ℕ} {at sum k a next i c b d : ℕ} → Counting n s items whole at sum →
      k ≡ bits_at s at 4 → a ≡ prefix_of (kind_of k) → 0 < a → b ≡ length (begin_of (kind_of k)) →
      Reads s at (kind_of k) next i c → d ≡ length (end_of c) → Counting n s items whole next (sum + b + d)
  counting_turn {at = at} {k = k} {next = next} {i = i} p e z l v o w =
      let inner = inner_at n s p.levels at p.there e items (rw (← z) l) in
      let t = ty_at n (p.levels - 1) s next in
      let mutable = eqb (bits_at s (at + 4) 1) 1 in
      let close = close_of (kind_of k) mutable (kind_of i) in
      let text : write_type items (ty_at n p.levels s at) ≡ begin_of (kind_of k) ++ write_type items t ++ close =
      rw (o.kind, o.place) inner.text in
      let g = w ∙ ap length o.text in
      record {
        few = omega (
          arith,
          p.few,
          o.place,
          z,
          prefix_fits k z l,
          v,
          g,
          begin_few (kind_of k),
          close_few (kind_of k) mutable (kind_of i),
        );
        levels = p.levels - 1;
        there = rw o.place inner.there;
        length_is = omega (
          arith,
          p.length_is,
          v,
          g,
          ap length text,
          length-append (begin_of (kind_of k) ++ write_type items t) close,
          length-append (begin_of (kind_of k)) (write_type items t),
        );
      }

  module _ {whole : List ℕ} {at sum : ℕ} (p : Counting n s items whole at sum) where
    pub counting_near : (at + 4 ≤ 8 * length s) × (sum ≤ 64 * length s)
    counting_near =
        let r : at + 4 ≤ 8 * length s = type_room n s p.levels at p.there in
        (r, omega (arith, r, p.few))

    -- by the text of a type that has no inner type
    pub counting_done : {text : List ℕ} {r : ℕ} → text ≡ write_type items (ty_at n p.levels s at) →
        r ≡ length text → Counts whole (sum + r)
    counting_done e c = record { exact = λ o. omega (arith, p.length_is, ap length e, c) }

-- ---- the answer

pub counts_none : (text : List ℕ) → Counts text 0
counts_none text = record { exact = λ h. absurd (h refl) }

-- a text that was counted, where the buffer ends before the place
pub wrote_counted : {l text : List ℕ} {at n r : ℕ} → length l < at → Counts text n → 0 < n → at ≤ limit →
    r ≡ min limit (at + n) → Wrote (sink l at) text (sink l r)
wrote_counted past c h g e = wrote_none (sym (c.exact (λ z. omega arith))) (omega arith) g e
