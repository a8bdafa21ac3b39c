-- The parsers of lists give back each list whose elements they give back.
use Rattle.std.proofs.Common.{◌≡◌, ℕ, zero, suc, ◌+◌, ◌≤◌, Bool, true, false, List, [], ◌∷◌, refl, ◌∙◌, arith}
use mathlib.Core.Option.{Option}
use Rattle.lexical.specs.Bytes.{every, same}
use Rattle.lexical.proofs.ByteLaws.{every_cons}
use Rattle.grammar.specs.Token.{Token, quoted}
use Rattle.grammar.specs.Tokens.{each_tokens, comma_tokens, list_tokens}
use Rattle.grammar.proofs.Parser.{begins, Parser, fork, many_p, comma_p, list_p}

-- how deep the parser of a list goes
abbrev pub list_size : {X : Type 0} → (X → ℕ) → List X → ℕ
list_size size [] = 1
list_size size (x ∷ xs) = suc (size x + list_size size xs)

module _ {A X : Type 0} (tokens : X → List Token → List Token) (size : X → ℕ) (ok : X → Bool) (p : ℕ → Parser A X) where
  module _ (more : List Token → Bool) (goes : (x : X) → ok x ≡ true → (r : List Token) → more (tokens x r) ≡ true)
      (step : (x : X) (n : ℕ) → size x ≤ n → ok x ≡ true → (r : List Token) (k : X → List Token → Option A) →
      p n (tokens x r) k ≡ k x r) where
    pub many_back : (xs : List X) (n : ℕ) → list_size size xs ≤ n → every ok xs ≡ true → (r : List Token) →
        more r ≡ false → (k : List X → List Token → Option A) → many_p n more p (each_tokens tokens xs r) k ≡ k xs r
    many_back [] zero l o r h k = absurd (omega arith)
    many_back [] (suc n) l o r h k = rw (h, many_p)
    many_back (x ∷ xs) zero l o r h k = absurd (omega arith)
    many_back (x ∷ xs) (suc n) l o r h k =
        let q = every_cons ok x xs o in
        rw (goes x q.0 (each_tokens tokens xs r), many_p)
        (step x n (omega arith) q.0 (each_tokens tokens xs r) _ ∙ many_back xs n (omega arith) q.1 r h _)

  -- an element is read in front of a comma and of the closing parenthesis
  module _ (opens : (x : X) → ok x ≡ true → (r : List Token) → begins ")" (tokens x r) ≡ false)
      (step : (x : X) (n : ℕ) → size x ≤ n → ok x ≡ true → (r : List Token) (k : X → List Token → Option A) →
      (p n (tokens x (quoted ")" r)) k ≡ k x (quoted ")" r)) × (p n (tokens x (quoted "," r)) k ≡ k x (quoted "," r))) where
    element_back : (xs : List X) (x : X) (n : ℕ) → size x ≤ n → ok x ≡ true → (r : List Token)
        (k : X → List Token → Option A) →
        p n (tokens x (comma_tokens tokens xs (quoted ")" r))) k ≡ k x (comma_tokens tokens xs (quoted ")" r))
    element_back [] x n l o r k = (step x n l o r k).0
    element_back (y ∷ xs) x n l o r k = (step x n l o (tokens y (comma_tokens tokens xs (quoted ")" r))) k).1

    comma_back : (xs : List X) (n : ℕ) → list_size size xs ≤ n → every ok xs ≡ true → (r : List Token)
        (k : List X → List Token → Option A) → comma_p n p (comma_tokens tokens xs (quoted ")" r)) k ≡ k xs (quoted ")" r)
    unfolding same
    comma_back [] zero l o r k = absurd (omega arith)
    comma_back [] (suc n) l o r k = refl
    comma_back (x ∷ xs) zero l o r k = absurd (omega arith)
    comma_back (x ∷ xs) (suc n) l o r k =
        let q = every_cons ok x xs o in
        element_back xs x n (omega arith) q.0 r _ ∙ comma_back xs n (omega arith) q.1 r _

    pub list_back : (xs : List X) (n : ℕ) → list_size size xs ≤ n → every ok xs ≡ true → (r : List Token)
        (k : List X → List Token → Option A) → list_p n p (list_tokens tokens xs (quoted ")" r)) k ≡ k xs (quoted ")" r)
    unfolding same
    list_back [] zero l o r k = absurd (omega arith)
    list_back [] (suc n) l o r k = refl
    list_back (x ∷ xs) zero l o r k = absurd (omega arith)
    list_back (x ∷ xs) (suc n) l o r k =
        let q = every_cons ok x xs o in
        rw (opens x q.0 (comma_tokens tokens xs (quoted ")" r)), fork)
        (element_back xs x n (omega arith) q.0 r _ ∙ comma_back xs n (omega arith) q.1 r _)
