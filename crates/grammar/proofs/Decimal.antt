-- A number comes back from its digits, and the digits are a word.
use Rattle.std.proofs.Common.{◌≡◌, ℕ, zero, suc, ◌+◌, ◌-◌, ◌*◌, ◌/◌, ◌%◌, ◌<◌, ◌≤◌, true, false, ltb, List, [], ◌∷◌, ◌++◌, refl, arith, ltb→lt, nltb→le}
use Rattle.lexical.specs.Bytes.{every}
use Rattle.lexical.specs.Decimal.{pick_text, digits, decimal}
use Rattle.lexical.proofs.BoolLaws.{by_cases}
use Rattle.lexical.proofs.ByteLaws.{every_snoc}
use Rattle.grammar.specs.Token.{word, word_char}
use Rattle.grammar.specs.Layout.{nonempty, well_formed}
use Rattle.grammar.specs.Rules.{array_lengths}
use Rattle.grammar.proofs.LexedLayout.{some_snoc}
use Rattle.grammar.proofs.Parser.{number}

-- the numbers below have at most so many digits
abbrev pub bound : ℕ → ℕ
bound zero = 1
bound (suc more) = 10 * bound more

number_snoc : (s : List ℕ) (high c : ℕ) → number high (s ++ (c ∷ [])) ≡ number high s * 10 + (c - 48)
number_snoc [] high c = refl
number_snoc (d ∷ s) high c = number_snoc s (high * 10 + (d - 48)) c

small : (n : ℕ) → ltb n 10 ≡ true → n < 10
small n e = ltb→lt n 10 (rw e tt)

large : (n : ℕ) → ltb n 10 ≡ false → 10 ≤ n
large n e = nltb→le n 10 (rw e tt)

number_digits : (more n : ℕ) → n < bound (suc more) → number 0 (digits more n) ≡ n
unfolding digits
number_digits zero n l = omega arith
number_digits (suc more) n l =
    by_cases (ltb n 10)
    (λ e. let h : n < 10 = small n e in rw e (omega arith))
    (λ e. let h : 10 ≤ n = large n e in
    let ih : number 0 (digits more (n / 10)) ≡ n / 10 = number_digits more (n / 10) (omega arith) in
    rw (e, number_snoc, ih) (omega arith))

pub number_decimal : (n : ℕ) → ltb n array_lengths ≡ true → number 0 (decimal n) ≡ n
unfolding decimal
number_decimal n h =
    let l : n < array_lengths = ltb→lt n array_lengths (rw h tt) in
    number_digits 9 n (omega arith)

digit_char : (n : ℕ) → n < 10 → word_char (48 + n) ≡ true
digit_char zero l = refl
digit_char (suc zero) l = refl
digit_char (suc (suc zero)) l = refl
digit_char (suc (suc (suc zero))) l = refl
digit_char (suc (suc (suc (suc zero)))) l = refl
digit_char (suc (suc (suc (suc (suc zero))))) l = refl
digit_char (suc (suc (suc (suc (suc (suc zero)))))) l = refl
digit_char (suc (suc (suc (suc (suc (suc (suc zero))))))) l = refl
digit_char (suc (suc (suc (suc (suc (suc (suc (suc zero)))))))) l = refl
digit_char (suc (suc (suc (suc (suc (suc (suc (suc (suc zero))))))))) l = refl
digit_char (suc (suc (suc (suc (suc (suc (suc (suc (suc (suc n)))))))))) l = absurd (omega arith)

digits_word : (more n : ℕ) → every word_char (digits more n) ≡ true
unfolding every digits
digits_word zero n = rw (digit_char (n % 10) (omega arith))
digits_word (suc more) n =
    every_snoc word_char (pick_text (ltb n 10) [] (digits more (n / 10))) _
    (by_cases (ltb n 10) (λ e. rw e) (λ e. rw e (digits_word more (n / 10)))) (digit_char (n % 10) (omega arith))

digits_some : (more n : ℕ) → nonempty (digits more n) ≡ true
unfolding digits
digits_some zero n = refl
digits_some (suc more) n = some_snoc (pick_text (ltb n 10) [] (digits more (n / 10))) _

pub decimal_word : (n : ℕ) → well_formed (word (decimal n)) ≡ true
unfolding decimal
decimal_word n = rw (digits_some 9 n) (digits_word 9 n)
