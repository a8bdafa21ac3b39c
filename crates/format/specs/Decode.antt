-- Decoders: what the definition of the sheet is made of. The first field at fault wins, by the order of `>>`;
-- at one field the lower number wins, by the order of `unless` behind it.
use Rattle.std.specs.Prelude.{List, [], ◌∷◌, Bool, true, false, ℕ, zero, suc}
use Rattle.refusal.specs.declared.Refusal.{Refusal}

-- a value with the bit position after it, or a refusal
pub data Got (A : Type 0) : Type 0 where
  fault : Refusal → Got A
  got : A → ℕ → Got A

-- reads a value at a bit position of a sheet
abbrev pub Dec : Type 0 → Type 0
Dec A = List ℕ → ℕ → Got A

abbrev pub pick : {A : Type 0} → Bool → A → A → A
pick true a b = a
pick false a b = b

abbrev pub after : {A B : Type 0} → Got A → (A → ℕ → Got B) → Got B
after (fault e) k = fault e
after (got x n) k = k x n

-- one decoder, then another that may use its value
infixr 20 ◌>>◌
abbrev pub ◌>>◌ : {A B : Type 0} → Dec A → (A → Dec B) → Dec B
◌>>◌ d k s at = after (d s at) (λ x n. k x s n)

abbrev pub pure : {A : Type 0} → A → Dec A
pure x s at = got x at

abbrev pub refuse : {A : Type 0} → Refusal → Dec A
refuse e s at = fault e

-- the refusal e unless the test holds
abbrev pub unless : {A : Type 0} → Bool → Refusal → Dec A → Dec A
unless b e d s at = pick b (d s at) (fault e)

-- n in a row
unfoldable pub many : {A : Type 0} → ℕ → Dec A → Dec (List A)
many zero d s at = got [] at
many (suc n) d s at = after (d s at) (λ x m. after (many n d s m) (λ xs e. got (x ∷ xs) e))
