-- Laws of values in a row: the first of them, and the others behind it.
use mathlib.Core.Path.{◌≡◌, sym, ◌∙◌}
use mathlib.Core.List.{List, [], ◌∷◌}
use Prim.Native.Nat.{ℕ, suc}
use Rattle.format.specs.Decode.{got, Dec, many}
use Rattle.cursor.proofs.YieldLaws.{in_turn, got_value, got_next}

pub record Row {A : Type 0} (d : Dec A) (s : List ℕ) (n at : ℕ) (xs : List A) (end : ℕ) : Type 0 where
  pub head : A
  pub next : ℕ
  pub tail : List A
  pub first : d s at ≡ got head next
  pub others : many n d s next ≡ got tail end
  pub whole : xs ≡ head ∷ tail

pub row : {A : Type 0} (d : Dec A) (s : List ℕ) (n at : ℕ) {xs : List A} {end : ℕ} →
    many (suc n) d s at ≡ got xs end → Row d s n at xs end
unfolding many
row d s n at e =
    in_turn (d s at) _ e (λ x m e₁ h₁.
    in_turn (many n d s m) _ h₁ (λ xs k e₂ h₂.
    let z = got_next h₂ in
    record { head = x; next = m; tail = xs; first = e₁; others = e₂ ∙ rw z; whole = sym (got_value h₂) }))

-- no value: nothing is read
pub row_end : {A : Type 0} (d : Dec A) (s : List ℕ) (at : ℕ) {xs : List A} {end : ℕ} →
    many 0 d s at ≡ got xs end → (xs ≡ []) × (at ≡ end)
unfolding many
row_end d s at e = (sym (got_value e), got_next e)
