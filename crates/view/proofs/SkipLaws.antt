-- Laws of the position behind a type that is there.
use mathlib.Core.Path.{◌≡◌, refl, sym, ap, ◌∙◌}
use mathlib.Core.List.{List}
use Prim.Native.Nat.{ℕ, zero, suc, ◌+◌, ◌*◌, ◌<◌, ◌≤◌}
use native.Mathlib.Omega.{arith}
use lib.ListN.{length}
use Rattle.format.specs.Decode.{got}
use Rattle.format.specs.Bits.{bits_at, bits, bit, width_of, index}
use Rattle.format.specs.Types.{Ty}
use Rattle.format.specs.declared.TypeKind.{TypeKind}
use Rattle.format.specs.declared.TypeKind.TheVariants as Kind
use Rattle.format.specs.Decoding.{kind_of, type_body, type_at, type}
use Rattle.cursor.proofs.WidthLaws.{index_field}
use Rattle.cursor.proofs.YieldLaws.{in_turn, got_next, bits_there}
use Rattle.view.specs.Values.{next_of, Yields}
use Rattle.view.specs.Views.{prefix_of}
use Rattle.view.proofs.PartLaws.{bit_end}

-- a number of none of the kinds with a prefix, as a match tells it
pub prefix_none : (k : ℕ) {u : Type 0} → ((((((((u × (k ≡ 2 → ⊥)) × (k ≡ 3 → ⊥)) × (k ≡ 4 → ⊥)) × (k ≡ 5 → ⊥)) ×
    (k ≡ 6 → ⊥)) × (k ≡ 7 → ⊥)) × (k ≡ 8 → ⊥)) × (k ≡ 10 → ⊥)) × (k ≡ 13 → ⊥) →
    0 ≡ prefix_of (kind_of k)
unfolding kind_of
prefix_none zero h = refl
prefix_none (suc zero) h = refl
prefix_none (suc (suc zero)) h = absurd (h.0.0.0.0.0.0.0.0.1 refl)
prefix_none (suc (suc (suc zero))) h = absurd (h.0.0.0.0.0.0.0.1 refl)
prefix_none (suc (suc (suc (suc zero)))) h = absurd (h.0.0.0.0.0.0.1 refl)
prefix_none (suc (suc (suc (suc (suc zero))))) h = absurd (h.0.0.0.0.0.1 refl)
prefix_none (suc (suc (suc (suc (suc (suc zero)))))) h = absurd (h.0.0.0.0.1 refl)
prefix_none (suc (suc (suc (suc (suc (suc (suc zero))))))) h = absurd (h.0.0.0.1 refl)
prefix_none (suc (suc (suc (suc (suc (suc (suc (suc zero)))))))) h = absurd (h.0.0.1 refl)
prefix_none (suc (suc (suc (suc (suc (suc (suc (suc (suc zero))))))))) h = refl
prefix_none (suc (suc (suc (suc (suc (suc (suc (suc (suc (suc zero)))))))))) h = absurd (h.0.1 refl)
prefix_none (suc (suc (suc (suc (suc (suc (suc (suc (suc (suc (suc zero))))))))))) h = refl
prefix_none (suc (suc (suc (suc (suc (suc (suc (suc (suc (suc (suc (suc zero)))))))))))) h = refl
prefix_none (suc (suc (suc (suc (suc (suc (suc (suc (suc (suc (suc (suc (suc zero))))))))))))) h = absurd (h.1 refl)
prefix_none (suc (suc (suc (suc (suc (suc (suc (suc (suc (suc (suc (suc (suc (suc zero)))))))))))))) h = refl
prefix_none (suc (suc (suc (suc (suc (suc (suc (suc (suc (suc (suc (suc (suc (suc (suc zero))))))))))))))) h = refl
prefix_none (suc (suc (suc (suc (suc (suc (suc (suc (suc (suc (suc (suc (suc (suc (suc (suc k)))))))))))))))) h = refl

-- a type stands at a position, and ends where the outermost one at `from` does
pub record Ending (n : ℕ) (s : List ℕ) (from at : ℕ) : Type 0 where
  pub room : at + 4 ≤ 8 * length s
  pub levels : ℕ
  pub inner : Ty
  pub is : type_body (kind_of (bits_at s at 4)) n (type_at n levels) s (at + 4) ≡ got inner (next_of (type n s from))

module _ (n : ℕ) (s : List ℕ) (from : ℕ) where
  ending : (at levels : ℕ) {t : Ty} {m : ℕ} → type_at n levels s at ≡ got t m → m ≡ next_of (type n s from) →
      Ending n s from at
  unfolding type_at
  ending at zero h z =
      in_turn (bits 4 s at) _ h (λ k a e g. absurd (let y : ◌≡◌ {A = ℕ} 0 1 = cc in omega arith))
  ending at (suc l) {t} h z =
      in_turn (bits 4 s at) _ h (λ k a e g.
      let q = bits_there 4 s at e in
      record { room = q.0; levels = l; inner = t; is = rw (← z, ← q.1, ← q.2) g })

  pub ending_whole : {t : Ty} → Yields (type n s from) t → Ending n s from from
  unfolding type
  ending_whole y = ending from 8 y.is refl

  module _ (at : ℕ) (p : Ending n s from at) {k : ℕ} (e : k ≡ bits_at s at 4) where
    body : {j : TypeKind} → j ≡ kind_of k →
        type_body j n (type_at n p.levels) s (at + 4) ≡ got p.inner (next_of (type n s from))
    body z = ap (λ (i : TypeKind). type_body i n (type_at n p.levels) s (at + 4)) (z ∙ ap kind_of e) ∙ p.is

    pub ending_atom : k ≡ 0 → at + 8 ≡ next_of (type n s from)
    unfolding kind_of
    ending_atom z =
        in_turn (bits 4 s (at + 4)) _ (body {j = Kind.Atom} (rw z refl)) (λ a m f h.
        let q : m ≡ at + 4 + 4 = (bits_there 4 s (at + 4) f).2 in
        let r : m ≡ next_of (type n s from) = got_next h in
        omega arith)

    pub ending_name : {w : ℕ} → k ≡ 1 → w ≡ width_of n → at + 4 + w ≡ next_of (type n s from)
    unfolding kind_of
    ending_name o z =
        in_turn (index n s (at + 4)) _ (body {j = Kind.Named} (rw o refl)) (λ i m f h.
        rw z (sym (bits_there (width_of n) s (at + 4) (index_field n s (at + 4) f)).2 ∙ got_next h))

    pub ending_str : k ≡ 9 → at + 4 ≡ next_of (type n s from)
    unfolding kind_of
    ending_str z = got_next (body {j = Kind.Str} (rw z refl))

    -- the inner type ends there too
    pub ending_inner : {b : ℕ} → b ≡ prefix_of (kind_of k) → 0 < b → Ending n s from (at + b)
    ending_inner z l = rw z (by_kind (kind_of k) (body refl) (rw (← z) l))
      where
        by_kind : (j : TypeKind) →
            type_body j n (type_at n p.levels) s (at + 4) ≡ got p.inner (next_of (type n s from)) →
            0 < prefix_of j → Ending n s from (at + prefix_of j)
        by_kind (Kind.Template j) h l =
            in_turn (type_at n p.levels s (at + 4)) _ h (λ t m f g. ending (at + 4) p.levels f (got_next g))
        by_kind (Kind.Pointer j) h l =
            in_turn (bit s (at + 4)) _ h (λ b m f g.
            in_turn (type_at n p.levels s m) _ g (λ t a f₁ g₁.
            let q : m ≡ at + 5 = omega (arith, bit_end s (at + 4) f) in
            rw (← q) (ending m p.levels f₁ (got_next g₁))))
        by_kind Kind.Atom h l = absurd (omega arith)
        by_kind Kind.Named h l = absurd (omega arith)
        by_kind Kind.Str h l = absurd (omega arith)
        by_kind Kind.Fn h l = absurd (omega arith)
        by_kind Kind.Array h l = absurd (omega arith)
        by_kind Kind.Bad h l = absurd (omega arith)
