-- Types with one more `&` or `*`.
use Rattle.std.proofs.Common.{◌≡◌, suc, List, [], ◌∷◌, ◌++◌, refl, ap, arith, length-append}
use Rattle.grammar.specs.Token.{Token}
use Rattle.grammar.specs.Types.{Suffix, CxxType, suffixed}
use Rattle.grammar.specs.Tokens.{each_tokens, suffix_tokens, type_tokens}
use Rattle.grammar.specs.Rules.{levels, parts_ok}
use Rattle.spelling.specs.TypeTree.{with_suffix}

pub suffix_levels : (s : Suffix) (x : CxxType) → levels (with_suffix s x) ≡ suc (levels x)
unfolding levels
suffix_levels s (suffixed base suffixes) = rw (length-append suffixes (s ∷ [])) (omega arith)

pub suffix_parts : (s : Suffix) (x : CxxType) → parts_ok (with_suffix s x) ≡ parts_ok x
unfolding parts_ok
suffix_parts s (suffixed base suffixes) = refl

pub suffix_tokens_lem : (s : Suffix) (x : CxxType) (ts : List Token) → type_tokens (with_suffix s x) ts ≡ type_tokens x (suffix_tokens s ts)
suffix_tokens_lem s (suffixed base suffixes) ts = ap (λ (q : List Token). type_tokens (suffixed base []) q) (go suffixes)
  where
    go : (xs : List Suffix) → each_tokens suffix_tokens (xs ++ (s ∷ [])) ts ≡ each_tokens suffix_tokens xs (suffix_tokens s ts)
    go [] = refl
    go (x ∷ xs) = ap (suffix_tokens x) (go xs)
