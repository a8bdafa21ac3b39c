-- Decimal digits.
use Rattle.std.specs.Prelude.{List, [], ◌∷◌, ◌++◌, Bool, true, false, ℕ, zero, suc, ◌+◌, ◌/◌, ◌%◌, ltb}

-- what stands where the test holds, or else
abbrev pub pick_text : Bool → List ℕ → List ℕ → List ℕ
pick_text true a b = a
pick_text false a b = b

-- n's last digit behind those of n / 10, where there are any; at most `more` of these
unfoldable pub digits : ℕ → ℕ → List ℕ
digits zero n = (48 + n % 10) ∷ []
digits (suc more) n = pick_text (ltb n 10) [] (digits more (n / 10)) ++ ((48 + n % 10) ∷ [])

-- a number below 10 ^ 10 without leading zeros
unfoldable pub decimal : ℕ → List ℕ
decimal n = digits 9 n
