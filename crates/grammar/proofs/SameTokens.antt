-- A test whether tokens are equal.
use Rattle.std.proofs.Common.{◌≡◌, ℕ, zero, suc, Bool, true, false, ◌&&◌, List, [], ◌∷◌, sym, refl, ap, ◌∙◌, ap₂}
use mathlib.Core.Bool.{false≢true}
use Rattle.lexical.specs.Bytes.{same}
use Rattle.lexical.proofs.BoolLaws.{both}
use Rattle.lexical.proofs.ByteLaws.{same_eq, same_refl}
use Rattle.grammar.specs.Token.{Token, word, mark, scope, colon, linkage, comment}

abbrev code : Token → List ℕ
code (word s) = 0 ∷ s
code (mark c) = 1 ∷ c ∷ []
code scope = 2 ∷ []
code colon = 3 ∷ []
code linkage = 4 ∷ []
code (comment s) = 5 ∷ s

abbrev pub same_token : Token → Token → Bool
same_token t u = same (code t) (code u)

abbrev pub same_tokens : List Token → List Token → Bool
same_tokens [] [] = true
same_tokens [] (u ∷ us) = false
same_tokens (t ∷ ts) [] = false
same_tokens (t ∷ ts) (u ∷ us) = same_token t u && same_tokens ts us

-- a token comes back from its code
abbrev decode : List ℕ → Token
decode [] = colon
decode (zero ∷ s) = word s
decode (suc zero ∷ []) = colon
decode (suc zero ∷ (c ∷ s)) = mark c
decode (suc (suc zero) ∷ s) = scope
decode (suc (suc (suc zero)) ∷ s) = colon
decode (suc (suc (suc (suc zero))) ∷ s) = linkage
decode (suc (suc (suc (suc (suc n)))) ∷ s) = comment s

decode_code : (t : Token) → decode (code t) ≡ t
decode_code (word s) = refl
decode_code (mark c) = refl
decode_code scope = refl
decode_code colon = refl
decode_code linkage = refl
decode_code (comment s) = refl

pub tokens_eq : (ts us : List Token) → same_tokens ts us ≡ true → ts ≡ us
tokens_eq [] [] e = refl
tokens_eq [] (u ∷ us) e = absurd (false≢true e)
tokens_eq (t ∷ ts) [] e = absurd (false≢true e)
tokens_eq (t ∷ ts) (u ∷ us) e =
    let q = both (same_token t u) (same_tokens ts us) e in
    ap₂ (λ (x : Token) (y : List Token). x ∷ y) (sym (decode_code t) ∙ ap decode (same_eq (code t) (code u) q.0) ∙ decode_code u)
    (tokens_eq ts us q.1)

pub tokens_refl : (ts : List Token) → same_tokens ts ts ≡ true
tokens_refl [] = refl
tokens_refl (t ∷ ts) = rw (same_refl (code t)) (tokens_refl ts)
