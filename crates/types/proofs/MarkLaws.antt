-- Laws by which a walk marks the items that a type names.
use mathlib.Core.Path.{◌≡◌, refl, sym, ap, ◌∙◌}
use mathlib.Core.List.{List, [], ◌∷◌}
use mathlib.Core.Bool.{Bool}
use Prim.Native.Nat.{ℕ, suc, ◌+◌, ◌-◌, ◌*◌, ◌<◌, ◌≤◌}
use native.Mathlib.Omega.{arith}
use lib.ListN.{length}
use borrow.Author.Tests.{lt-ltb, le-ltb, eq-eqb, ne_eqb}
use Rattle.refusal.specs.declared.Refusal.TheVariants.{CutSheet}
use Rattle.format.specs.Decode.{fault, got, many}
use Rattle.format.specs.Bits.{bits_at, bits, bit, width_of, index}
use Rattle.format.specs.Types.{Ty, named, template, pointer, fn, array, Ret, gives, tys}
use Rattle.format.specs.Decoding.{kind_of, type_body, type_at, optional}
use Rattle.format.specs.declared.TypeKind.{TypeKind}
use Rattle.format.specs.declared.TypeKind.TheVariants as Kind
use Rattle.cursor.specs.declared.Cursor.{Cursor}
use Rattle.format.specs.Limits.{most_bits}
use Rattle.cursor.specs.Checking.{Limited, Checks, step_in}
use Rattle.cursor.proofs.CheckLaws.{stepped}
use Rattle.cursor.proofs.WidthLaws.{index_field}
use Rattle.cursor.proofs.YieldLaws.{bits_there}
use Rattle.cursor.proofs.CodeLaws.{at_in, cut_in, loose_in, bits_past}
use Rattle.marks.specs.Gathering.{each, Gathers}
use Rattle.marks.specs.Marking.{mark_index, mark_ty, mark_ret, mark_tys}
use Rattle.marks.proofs.GatherLaws.{made, idle}
use Rattle.types.proofs.TypeLaws.{type_cut, type_body_lem}
use Rattle.std.specs.Prelude.{Result, Ok}
use Rattle.refusal.specs.declared.Refusal.{Refusal}

-- ---- an item index

module _ (n : ℕ) (s : List ℕ) (at : ℕ) {u : List ℕ} {w : ℕ} (z : w ≡ width_of n) where
  pub index_cut : {v : List ℕ} → bits w s at ≡ fault CutSheet → Gathers mark_index (index n s at) u (step_in 262145) v
  unfolding index
  index_cut e = rw (cut_in, ← z, e) record { gathered = refl }

  module _ {i m : ℕ} (e : bits w s at ≡ got i m) where
    pub index_marked : {v : List ℕ} → i < n → m ≤ most_bits → v ≡ mark_index i u →
        Gathers mark_index (index n s at) u (step_in m) v
    unfolding index
    index_marked l k h = rw (at_in k, ← z, e, lt-ltb i n l, h) record { gathered = refl }

    pub index_loose : {v : List ℕ} → n ≤ i → Gathers mark_index (index n s at) u (step_in 262148) v
    unfolding index
    index_loose l = rw (loose_in, ← z, e, le-ltb i n l) record { gathered = refl }

-- an index that was checked, read again
module _ (n : ℕ) (s : List ℕ) (at : ℕ) {r : Result Cursor Refusal} {c : Cursor} (h : Checks (index n s at) r) (t : r ≡ Ok c)
    {w : ℕ} (z : w ≡ width_of n) where
  pub index_there : (at + w ≤ 8 * length s) × ((stepped h t).0 ≡ bits_at s at w)
  index_there =
      let e = bits_there (width_of n) s at (index_field n s at (stepped h t).1) in
      rw z (e.0, e.1)

  pub index_known : {i : ℕ} {u v : List ℕ} → i ≡ bits_at s at w → v ≡ mark_index i u →
      Gathers mark_index (index n s at) u (Ok c) v
  index_known e q = rw ((stepped h t).1, q, e, ← index_there.1) record { gathered = refl }

-- ---- types

types_like : (ts : List Ty) (u : List ℕ) → mark_tys (tys ts) u ≡ each mark_ty ts u
unfolding each mark_ty
types_like [] u = refl
types_like (t ∷ ts) u = types_like ts (mark_ty t u)

module _ (n levels : ℕ) (s : List ℕ) (at : ℕ) {u : List ℕ} where
  pub atom_marks : {r : Result Cursor Refusal} → Checks (bits 4 s at) r → Gathers mark_ty (type_body Kind.Atom n (type_at n levels) s at) u r u
  unfolding mark_ty
  atom_marks h = idle _ (λ x. refl) h

  pub named_marks : {v : List ℕ} {r : Result Cursor Refusal} → Gathers mark_index (index n s at) u r v → Gathers mark_ty (type_body Kind.Named n (type_at n levels) s at) u r v
  unfolding mark_ty
  named_marks h = made named (λ x. refl) h

  pub template_marks : (k : _) {v : List ℕ} {r : Result Cursor Refusal} → Gathers mark_ty (type_at n levels s at) u r v →
      Gathers mark_ty (type_body (Kind.Template k) n (type_at n levels) s at) u r v
  unfolding mark_ty
  template_marks k h = made (template k) (λ t. refl) h

  pub pointer_marks : (k : _) {v : List ℕ} {m : Bool} {next : ℕ} {r : Result Cursor Refusal} → bit s at ≡ got m next → Gathers mark_ty (type_at n levels s next) u r v →
      Gathers mark_ty (type_body (Kind.Pointer k) n (type_at n levels) s at) u r v
  unfolding mark_ty
  pointer_marks k {m} e h = rw e (made (pointer k m) (λ t. refl) h)

  pub str_marks : at ≤ most_bits → Gathers mark_ty (type_body Kind.Str n (type_at n levels) s at) u (step_in at) u
  unfolding mark_ty
  str_marks l = rw (at_in l) record { gathered = refl }

  pub array_marks : {v : List ℕ} {t : Ty} {next : ℕ} {r : Result Cursor Refusal} → type_at n levels s at ≡ got t next → v ≡ mark_ty t u → Checks (bits 32 s next) r →
      Gathers mark_ty (type_body Kind.Array n (type_at n levels) s at) u r v
  unfolding mark_ty
  array_marks {t} e k h = rw e (idle (array t) (λ x. sym k) h)

  -- a type that a bit may leave out

  module _ {b m : ℕ} (e : bits 1 s at ≡ got b m) where
    pub result_marks : {v : List ℕ} {r : Result Cursor Refusal} → b ≡ 1 → Gathers mark_ty (type_at n levels s m) u r v →
        Gathers mark_ret (optional (type_at n levels) s at) u r v
    unfolding mark_ty bit
    result_marks t h = rw (e, eq-eqb b 1 t) (made gives (λ t. refl) h)

    pub result_none : (b ≡ 1 → ⊥) → m ≤ most_bits → Gathers mark_ret (optional (type_at n levels) s at) u (step_in m) u
    unfolding mark_ty bit
    result_none t l = rw (at_in l, e, ne_eqb b 1 t) record { gathered = refl }

  pub result_cut : {v : List ℕ} → bits 1 s at ≡ fault CutSheet →
      Gathers mark_ret (optional (type_at n levels) s at) u (step_in 262145) v
  unfolding bit
  result_cut e = rw (cut_in, e) record { gathered = refl }

  -- a Fn

  module _ {x : Ret} {next : ℕ} (e : optional (type_at n levels) s at ≡ got x next) where
    pub fn_cut : {v : List ℕ} → bits 4 s next ≡ fault CutSheet →
        Gathers mark_ty (type_body Kind.Fn n (type_at n levels) s at) u (step_in 262145) v
    fn_cut g = rw (cut_in, e, g) record { gathered = refl }

    pub fn_marks : {v w : List ℕ} {k first : ℕ} {r : Result Cursor Refusal} → w ≡ mark_ret x u → bits 4 s next ≡ got k first →
        Gathers (each mark_ty) (many k (type_at n levels) s first) w r v → Gathers mark_ty (type_body Kind.Fn n (type_at n levels) s at) u r v
    unfolding mark_ty
    fn_marks q g h = rw (e, g) (made (λ ts. fn x (tys ts)) (λ ts. types_like ts (mark_ret x u) ∙ ap (each mark_ty ts) (sym q)) h)

-- what stands behind a kind
pub body_marks : (n levels : ℕ) (s : List ℕ) (at : ℕ) {k m : ℕ} {kind : TypeKind} {u v : List ℕ} {r : Result Cursor Refusal} →
    bits 4 s at ≡ got k m → (levels ≡ 0 → ⊥) → kind ≡ kind_of k →
    Gathers mark_ty (type_body kind n (type_at n (levels - 1)) s m) u r v → Gathers mark_ty (type_at n levels s at) u r v
body_marks n levels s at e h z g = rw (type_body_lem n levels s at e h, ← z) g

-- a name
pub name_slot : (n levels : ℕ) (s : List ℕ) (at : ℕ) {k m : ℕ} {u v : List ℕ} {r : Result Cursor Refusal} → bits 4 s at ≡ got k m → k ≡ 1 →
    (levels ≡ 0 → ⊥) → Gathers mark_index (index n s m) u r v → Gathers mark_ty (type_at n levels s at) u r v
unfolding kind_of
name_slot n levels s at {m = m} e z h g =
    body_marks n levels s at {kind = Kind.Named} e h (rw z refl) (named_marks n (levels - 1) s m g)

-- ---- nothing stands past a sheet's last position

module _ (n : ℕ) (s : List ℕ) (at : ℕ) (l : Limited s) (h : most_bits < at) where
  pub type_past : (levels : ℕ) → type_at n levels s at ≡ fault CutSheet
  type_past levels = type_cut n levels s at (bits_past 4 s at l h)

  pub return_past : (levels : ℕ) → optional (type_at n levels) s at ≡ fault CutSheet
  unfolding bit
  return_past levels = rw (bits_past 1 s at l h)

  pub types_past : (levels k : ℕ) → (k ≡ 0 → ⊥) → many k (type_at n levels) s at ≡ fault CutSheet
  unfolding many
  types_past levels k z = let e : k ≡ suc (k - 1) = omega arith in rw (e, type_past levels)
