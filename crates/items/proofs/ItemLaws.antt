-- Laws by which a checker of indexes checks names, and marks what the parts of an item name.
use mathlib.Core.Path.{◌≡◌, refl, sym, ap, ◌∙◌}
use mathlib.Core.List.{List, [], ◌∷◌}
use mathlib.Core.Bool.{Bool, true, false, ◌||◌}
use Prim.Native.Nat.{ℕ, zero, suc, ◌-◌, ◌<◌}
use mathlib.Core.Logic.{◌⊎◌, inl, inr}
use native.Mathlib.Omega.{arith}
use lib.Dec.{eqb}
use lib.ListN.{length, get_or}
use borrow.Author.Tests.{eq-eqb, ne_eqb}
use Rattle.lexical.specs.Bytes.{within}
use Rattle.refusal.specs.declared.Refusal.{Refusal}
use Rattle.refusal.specs.declared.Refusal.TheVariants.{BadKind}
use Rattle.format.specs.Decode.{Got, fault, got, pick, after, ◌>>◌, pure, many}
use Rattle.format.specs.Bits.{bits, bit, index}
use Rattle.format.specs.Types.{Ret}
use Rattle.format.specs.Sheet.{Argument, Form, free, const_method, mut_method, associated, Body, struct, enum}
use Rattle.rules.specs.Rules.{is_method}
use Rattle.format.specs.declared.ItemKind.{ItemKind}
use Rattle.format.specs.declared.ItemKind.TheVariants.{CxxType, RustType, Bad}
use Rattle.format.specs.Decoding.{name_of, is_bad, atom_of, line, type, form_of, form, struct_body, enum_body, item_body, part_of}
use Rattle.comments.specs.Comments.{comment}
use Rattle.cursor.specs.declared.Cursor.{Cursor}
use Rattle.cursor.specs.Checking.{step_of, Checks}
use Rattle.marks.specs.Gathering.{each, gathered_of, answered, Gathers}
use Rattle.marks.specs.Marking.{mark_index, mark_ty, mark_ret, mark_form, mark_arguments, mark_body}
use Rattle.marks.proofs.GatherLaws.{made, idle}
use Rattle.cursor.proofs.FieldLaws.{bit_checks}
use Rattle.format.specs.Sheet.{Name}
use Rattle.cursor.proofs.CheckLaws.{step_map, tail, checks_like}
use Rattle.names.specs.Naming.{names_at}
use Rattle.names.proofs.NameLaws.{names_length}
use Rattle.std.specs.Prelude.{Result, Ok}

module _ (s names : List ℕ) (at : ℕ) where
  pub name_of_lem : {r : Result Cursor Refusal} → Checks (index (length names) s at) r → Checks (name_of (names_at s names) s at) r
  unfolding name_of
  name_of_lem h = rw (names_length s names) (tail (λ (i : ℕ). get_or (names_at s names) i []) h)

  pub names_of_lem : (k : ℕ) {r : Result Cursor Refusal} → Checks (many k (index (length names)) s at) r →
      Checks (many k (name_of (names_at s names)) s at) r
  unfolding name_of
  names_of_lem k h = checks_like (name_of (names_at s names)) (index (length names)) s
      (λ m. rw (names_length s names) (step_map (λ (i : ℕ). get_or (names_at s names) i []) (index (length names) s m))) k at h

pub bad_is : {k x : ItemKind} {b t : Bool} → k ≡ x → b ≡ is_bad k → b ≡ t → is_bad x ≡ t
bad_is e h t = ap is_bad (sym e) ∙ sym h ∙ t

-- ---- marks

owner_marks : (k i : ℕ) (w : List ℕ) → (k ≡ 0 → ⊥) → mark_form (form_of k i) w ≡ mark_index i w
unfolding mark_form each
owner_marks zero i w h = absurd (h refl)
owner_marks (suc zero) i w h = refl
owner_marks (suc (suc zero)) i w h = refl
owner_marks (suc (suc (suc k))) i w h = refl

module _ (n : ℕ) (s : List ℕ) (at : ℕ) {u : List ℕ} {k : ℕ} where
  pub form_free : {c : Cursor} → bits 2 s at ≡ got k c.at → k ≡ 0 → Gathers mark_form (form n s at) u (Ok c) u
  unfolding form mark_form each
  form_free e z = rw (e, eq-eqb k 0 z) record { gathered = refl }

  pub form_marks : {v : List ℕ} {next : ℕ} {r : Result Cursor Refusal} → bits 2 s at ≡ got k next → (k ≡ 0 → ⊥) →
      Gathers mark_index (index n s next) u r v → Gathers mark_form (form n s at) u r v
  unfolding form
  form_marks e z h = rw (e, ne_eqb k 0 z) (made (form_of k) (λ i. owner_marks k i u z) h)

-- a comment marks nothing
pub comment_marks : (make : List (List ℕ) → Body) (s : List ℕ) (at : ℕ) {u v : List ℕ} {r : Result Cursor Refusal} →
    ((ls : List (List ℕ)) → mark_body (make ls) u ≡ v) → Checks (comment make s at) r →
    Gathers mark_body (comment make s at) u r v
unfolding comment
comment_marks make s at {u} {v} {r} like h = rw h.step record { gathered = by_count (bits 5 s at) }
  where
    by_lines : (q : Got (List (List ℕ))) →
        gathered_of mark_body (after q (λ ls n. got (make ls) n)) u ≡ answered (step_of (after q (λ ls n. got (make ls) n))) v
    by_lines (fault e) = refl
    by_lines (got ls n) = ap (λ (w : List ℕ). got w n) (like ls)

    by_count : (p : Got ℕ) →
        gathered_of mark_body (after p (λ c m. after (many c line s m) (λ ls n. got (make ls) n))) u ≡
        answered (step_of (after p (λ c m. after (many c line s m) (λ ls n. got (make ls) n)))) v
    by_count (fault e) = refl
    by_count (got c m) = by_lines (many c line s m)

module _ (s : List ℕ) (at : ℕ) {u : List ℕ} where
  -- neither does an enum
  pub enum_marks : {r : Result Cursor Refusal} → Checks (enum_body s at) r → Gathers mark_body (enum_body s at) u r u
  unfolding enum_body mark_body
  enum_marks {r} h = rw h.step record { gathered = by_pointer (bit s at) }
    where
      by_owner : (p : Bool) (a : ℕ) (q : Got Bool) →
          gathered_of mark_body (after q (λ c n. got (enum p (atom_of a) c) n)) u ≡
          answered (step_of (after q (λ c n. got (enum p (atom_of a) c) n))) u
      by_owner p a (fault e) = refl
      by_owner p a (got c n) = refl

      by_range : (p : Bool) (a n : ℕ) (b : Bool) →
          gathered_of mark_body (pick b (after (bit s n) (λ c m. got (enum p (atom_of a) c) m)) (fault BadKind)) u ≡
          answered (step_of (pick b (after (bit s n) (λ c m. got (enum p (atom_of a) c) m)) (fault BadKind))) u
      by_range p a n true = by_owner p a (bit s n)
      by_range p a n false = refl

      by_atom : (p : Bool) (q : Got ℕ) →
          gathered_of mark_body (after q (λ a n. pick (within 2 11 a) (after (bit s n) (λ c m. got (enum p (atom_of a) c) m)) (fault BadKind))) u ≡
          answered (step_of (after q (λ a n. pick (within 2 11 a) (after (bit s n) (λ c m. got (enum p (atom_of a) c) m)) (fault BadKind)))) u
      by_atom p (fault e) = refl
      by_atom p (got a n) = by_range p a n (within 2 11 a)

      by_pointer : (q : Got Bool) →
          gathered_of mark_body (after q (λ p n. after (bits 4 s n) (λ a m. pick (within 2 11 a) (after (bit s m) (λ c k. got (enum p (atom_of a) c) k)) (fault BadKind)))) u ≡
          answered (step_of (after q (λ p n. after (bits 4 s n) (λ a m. pick (within 2 11 a) (after (bit s m) (λ c k. got (enum p (atom_of a) c) k)) (fault BadKind))))) u
      by_pointer (fault e) = refl
      by_pointer (got p n) = by_atom p (bits 4 s n)

-- ---- a struct

module _ (n : ℕ) (s : List ℕ) (at : ℕ) where
  pub struct_cut : {e : Refusal} → bit s at ≡ fault e → struct_body n s at ≡ fault e
  unfolding struct_body
  struct_cut e = rw e refl

  module _ {p : Bool} {next : ℕ} (e : bit s at ≡ got p next) where
    pub struct_short : {f : Refusal} → bits 6 s next ≡ fault f → struct_body n s at ≡ fault f
    unfolding struct_body
    struct_short g = rw (e, g) refl

    pub struct_marks : {k first : ℕ} {u v : List ℕ} {r : Result Cursor Refusal} → bits 6 s next ≡ got k first →
        Gathers (each mark_ty) (many k (type n) s first) u r v → Gathers mark_body (struct_body n s at) u r v
    unfolding struct_body mark_body
    struct_marks g h = rw (e, g) (made (struct p) (λ ts. refl) h)

-- ---- a type that is named alone

pub opaque_marks : {k : ItemKind} (names : List Name) (n : ℕ) (s : List ℕ) (at : ℕ) {u : List ℕ}
    {r : Result Cursor Refusal} → (k ≡ CxxType) ⊎ (k ≡ RustType) → Checks (bits 1 s at) r →
    Gathers mark_body (item_body k names n s at) u r u
unfolding mark_body
opaque_marks names n s at (inl e) h = rw e (idle _ (λ x. refl) (bit_checks _ _ h))
opaque_marks names n s at (inr e) h = rw e (idle _ (λ x. refl) (bit_checks _ _ h))

-- ---- a method

module _ (s : List ℕ) (at : ℕ) {k m : ℕ} (e : bits 2 s at ≡ got k m) where
  form_value : (items l : ℕ) {x : Form} → form items s at ≡ got x l → is_method x ≡ (eqb k 1 || eqb k 2)
  unfolding form
  form_value items l {x} h = by_number k (rw e at h)
    where
      by_index : (j : ℕ) (q : Got ℕ) → after q (λ i n. got (form_of (suc j) i) n) ≡ got x l →
          is_method x ≡ (eqb (suc j) 1 || eqb (suc j) 2)
      by_index j (fault f) h = absurd (let z : ◌≡◌ {A = ℕ} 0 1 = cc in omega arith)
      by_index zero (got i n) h = let z : const_method i ≡ x = cc in rw (← z) refl
      by_index (suc zero) (got i n) h = let z : mut_method i ≡ x = cc in rw (← z) refl
      by_index (suc (suc j)) (got i n) h =
          let z : associated i ≡ x = cc in
          rw (← z, ne_eqb (suc (suc (suc j))) 1 (λ q. absurd (omega arith)), ne_eqb (suc (suc (suc j))) 2 (λ q. absurd (omega arith)))
          refl

      by_number : (k : ℕ) → pick (eqb k 0) (pure free) (index items >> λ i. pure (form_of k i)) s m ≡ got x l →
          is_method x ≡ (eqb k 1 || eqb k 2)
      by_number zero h = let z : free ≡ x = cc in rw (← z) refl
      by_number (suc j) h = by_index j (index items s m) (rw (ne_eqb (suc j) 0 (λ q. absurd (omega arith))) at h)

  pub method_one : k ≡ 1 → (items l : ℕ) (x : Form) → form items s at ≡ got x l → true ≡ is_method x
  method_one z items l x h = sym (form_value items l h ∙ rw (eq-eqb k 1 z))

  pub method_two : (k ≡ 1 → ⊥) → (items l : ℕ) (x : Form) → form items s at ≡ got x l → eqb k 2 ≡ is_method x
  method_two z items l x h = sym (form_value items l h ∙ rw (ne_eqb k 1 z))

  pub method_is : 0 < k → k < 3 → (items l : ℕ) (x : Form) → form items s at ≡ got x l → true ≡ is_method x
  method_is y z items l x h = sym (form_value items l h ∙ by_number k y z)
    where
      by_number : (k : ℕ) → 0 < k → k < 3 → (eqb k 1 || eqb k 2) ≡ true
      by_number zero y z = absurd (omega arith)
      by_number (suc zero) y z = refl
      by_number (suc (suc zero)) y z = refl
      by_number (suc (suc (suc k))) y z = absurd (omega arith)

  pub method_none : (0 < k → k < 3 → ⊥) → (items l : ℕ) (x : Form) → form items s at ≡ got x l → false ≡ is_method x
  method_none y items l x h =
      sym (form_value items l h ∙ rw (
        ne_eqb k 1 (λ z. y (omega arith) (omega arith)),
        ne_eqb k 2 (λ z. y (omega arith) (omega arith)),
      ) refl)

pub method_cut : (s : List ℕ) (at : ℕ) {b : Bool} → {e : Refusal} → bits 2 s at ≡ fault e → (items l : ℕ) (x : Form) →
    form items s at ≡ got x l → b ≡ is_method x
unfolding form
method_cut s at q items l x h = absurd (let g = rw q at h in let z : ◌≡◌ {A = ℕ} 0 1 = cc in omega arith)

-- ---- kinds

-- the kinds past the last good one are bad
pub part_past : (k : ℕ) → 4 < k → Bad ≡ part_of k
unfolding part_of
part_past k h =
    let z : k ≡ suc (suc (suc (suc (suc (k - 5))))) = omega arith in
    rw z (by_rest (k - 5))
  where
    by_rest : (n : ℕ) → Bad ≡ get_or (Bad ∷ Bad ∷ Bad ∷ []) n Bad
    by_rest zero = refl
    by_rest (suc zero) = refl
    by_rest (suc (suc zero)) = refl
    by_rest (suc (suc (suc n))) = refl

-- ---- a function

pub inputs_like : {a b : Bool} (t : Bool) (r : Ret) (xs : List Argument) {u v : List ℕ} → b ≡ a → v ≡ u →
    mark_arguments a t xs (mark_ret r u) ≡ mark_arguments b t xs (mark_ret r v)
inputs_like t r xs e h = rw (e, h) refl
