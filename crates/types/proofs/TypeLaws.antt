-- Laws of a type's kind and of the levels left.
use mathlib.Core.Path.{◌≡◌, refl, sym, ap, ◌∙◌}
use mathlib.Core.List.{List}
use mathlib.Core.Bool.{Bool, true, false}
use Prim.Native.Nat.{ℕ, zero, suc, ◌-◌, ◌<◌, ◌≤◌}
use native.Mathlib.Omega.{arith}
use lib.Dec.{eqb}
use borrow.Author.Tests.{eqb-true, eqb-false}
use lib.ListN.{get_or, get_or-eq_default}
use Rattle.refusal.specs.declared.Refusal.TheVariants.{CutSheet}
use Rattle.format.specs.Decode.{Got, fault, got, after}
use Rattle.format.specs.Bits.{bits}
use Rattle.format.specs.declared.TypeKind.{TypeKind}
use Rattle.format.specs.declared.TypeKind.TheVariants as Kind
use Rattle.cursor.specs.Checking.{step_in}
use Rattle.cursor.proofs.CodeLaws.{deep_in}
use Rattle.std.specs.Prelude.{Err}
use Rattle.format.specs.Decoding.{kinds, kind_of, type_body, too_deep, type_at}

-- the last kind of the list is bad, as those past it
pub kind_past : (k : ℕ) → 14 < k → Kind.Bad ≡ kind_of k
unfolding kind_of
kind_past k h = by_last (eqb k 15) refl
  where
    by_last : (b : Bool) → eqb k 15 ≡ b → Kind.Bad ≡ get_or kinds k Kind.Bad
    by_last true e = rw (eqb-true k 15 e) refl
    by_last false e =
        let d = eqb-false k 15 e in
        let l : 15 < k = omega arith in
        sym (get_or-eq_default kinds Kind.Bad l)

-- a number that is none of 0, 1, .. lies above them
pub above_none : (k : ℕ) → 0 ≤ k
above_none k = omega arith

-- with no level left only a bad kind is refused as such
pub deep_kind : (k : TypeKind) → (k ≡ Kind.Bad → ⊥) → step_in 262150 ≡ Err (too_deep k)
deep_kind Kind.Bad d = absurd (d refl)
deep_kind Kind.Atom d = deep_in
deep_kind Kind.Named d = deep_in
deep_kind (Kind.Template k) d = deep_in
deep_kind (Kind.Pointer k) d = deep_in
deep_kind Kind.Str d = deep_in
deep_kind Kind.Fn d = deep_in
deep_kind Kind.Array d = deep_in

module _ (items levels : ℕ) (s : List ℕ) (at : ℕ) where
  pub type_cut : bits 4 s at ≡ fault CutSheet → type_at items levels s at ≡ fault CutSheet
  unfolding type_at
  type_cut e = cut_at levels e
    where
      cut_at : (l : ℕ) → bits 4 s at ≡ fault CutSheet → type_at items l s at ≡ fault CutSheet
      cut_at zero e = rw e
      cut_at (suc l) e = rw e

  pub type_deep : {k n : ℕ} → bits 4 s at ≡ got k n → levels ≡ 0 →
      type_at items levels s at ≡ fault (too_deep (kind_of k))
  unfolding type_at
  type_deep e z = rw (z, e)

  pub type_body_lem : {k n : ℕ} → bits 4 s at ≡ got k n → (levels ≡ 0 → ⊥) →
      type_at items levels s at ≡ type_body (kind_of k) items (type_at items (levels - 1)) s n
  unfolding type_at
  type_body_lem {k} {n} e h =
      let z : levels ≡ suc (levels - 1) = omega arith in
      ap (λ (l : ℕ). type_at items l s at) z ∙
      ap (λ (g : Got ℕ). after g (λ k n. type_body (kind_of k) items (λ t m. type_at items (levels - 1) t m) s n)) e
