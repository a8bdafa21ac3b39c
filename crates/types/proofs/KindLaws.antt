-- Laws of the outermost type at a position: its kind, and what stands behind the kind.
use mathlib.Core.Path.{◌≡◌, refl, sym, ap, ◌∙◌}
use mathlib.Core.List.{List}
use Prim.Native.Nat.{ℕ, ◌+◌, ◌*◌, ◌≤◌}
use native.Mathlib.Omega.{arith}
use lib.ListN.{length}
use Rattle.format.specs.Decode.{got, Dec, many}
use Rattle.format.specs.Bits.{bits_at, bits, bit, index}
use Rattle.format.specs.Types.{Ty, str}
use Rattle.format.specs.declared.TypeKind.{TypeKind}
use Rattle.format.specs.declared.TypeKind.TheVariants as Kind
use Rattle.format.specs.Decoding.{kind_of, optional, type_body, type_at, type}
use Rattle.cursor.specs.Yielding.{next_of, Yields}
use Rattle.cursor.proofs.YieldLaws.{yielded, in_turn, got_value, bits_there}
use Rattle.types.specs.Kinds.{type_here, kind_of_type}

-- what stands behind the kind says it
pub body_type : (k : TypeKind) (n : ℕ) (ty : Dec Ty) (s : List ℕ) (at : ℕ) {t : Ty} {m : ℕ} →
    type_body k n ty s at ≡ got t m → k ≡ kind_of_type t
body_type Kind.Atom n ty s at h = in_turn (bits 4 s at) _ h (λ a b e h₁. ap kind_of_type (got_value h₁))
body_type Kind.Named n ty s at h = in_turn (index n s at) _ h (λ a b e h₁. ap kind_of_type (got_value h₁))
body_type (Kind.Template k) n ty s at h = in_turn (ty s at) _ h (λ a b e h₁. ap kind_of_type (got_value h₁))
body_type (Kind.Pointer k) n ty s at h =
    in_turn (bit s at) _ h (λ a b e h₁. in_turn (ty s b) _ h₁ (λ c d e₂ h₂. ap kind_of_type (got_value h₂)))
body_type Kind.Str n ty s at h = ap kind_of_type (got_value h)
body_type Kind.Fn n ty s at h =
    in_turn (optional ty s at) _ h (λ r a e h₁.
    in_turn (bits 4 s a) _ h₁ (λ k b e₂ h₂.
    in_turn (many k ty s b) _ h₂ (λ ts c e₃ h₃. ap kind_of_type (got_value h₃))))
body_type Kind.Array n ty s at h =
    in_turn (ty s at) _ h (λ a b e h₁. in_turn (bits 32 s b) _ h₁ (λ c d e₂ h₂. ap kind_of_type (got_value h₂)))
body_type Kind.Bad n ty s at h = absurd (let z : ◌≡◌ {A = ℕ} 0 1 = cc in omega arith)

module _ (n : ℕ) (s : List ℕ) (at : ℕ) {t : Ty} (y : Yields (type n s at) t) where
  -- all of the kind's bits are there
  pub kind_room : at + 4 ≤ 8 * length s
  unfolding type type_at
  kind_room = in_turn (bits 4 s at) _ y.is (λ k a e h. (bits_there 4 s at e).0)

  body_read : type_body (kind_of (bits_at s at 4)) n (type_at n 7) s (at + 4) ≡ got t (next_of (type n s at))
  unfolding type type_at
  body_read =
      in_turn (bits 4 s at) _ y.is (λ k a e h.
      let q = bits_there 4 s at e in rw (← q.1, ← q.2) h)

  pub kind_here : {k : ℕ} {kind : TypeKind} → k ≡ bits_at s at 4 → kind ≡ kind_of k → kind ≡ kind_of_type t
  kind_here e f = f ∙ ap kind_of e ∙ body_type (kind_of (bits_at s at 4)) n (type_at n 7) s (at + 4) body_read

  pub behind_kind : type_body (kind_of_type t) n (type_at n 7) s (at + 4) ≡ got t (next_of (type n s at))
  behind_kind =
      ap (λ (k : TypeKind). type_body k n (type_at n 7) s (at + 4)) (sym (kind_here refl refl)) ∙ body_read

  pub type_there : type_here n s at ≡ t
  unfolding type_here
  type_there = yielded str y

  pub type_yields : Yields (type n s at) (type_here n s at)
  type_yields = rw type_there y
