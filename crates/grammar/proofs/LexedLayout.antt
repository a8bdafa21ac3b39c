-- The tokens that the lexer finds are laid out as the text, if each mark is one and no comment splices a line.
use Rattle.std.proofs.Common.{◌≡◌, ℕ, Bool, true, not, ◌&&◌, eqb, List, [], ◌∷◌, ◌++◌, refl, append_assoc}
use mathlib.Core.Bool.{false≢true}
use Rattle.lexical.specs.Bytes.{bytes, every}
use Rattle.lexical.proofs.BoolLaws.{both, and_of, by_cases}
use Rattle.lexical.proofs.ByteLaws.{byte_eq, every_snoc}
use Rattle.grammar.specs.Token.{Token, word, mark, scope, colon, linkage, comment, word_char, mark_char}
use Rattle.grammar.specs.Layout.{blank_char, nonempty, ends_in, in_line}
use Rattle.grammar.specs.Layout.{Layout, finished, blank, token}
use Rattle.grammar.proofs.Lexer.{Mode, between, in_word, after_colon, after_slash, after_quote, after_quote_c, in_comment}
use Rattle.grammar.proofs.Lexer.{run, lex}

-- what the lexer leaves open of a token's form
abbrev pub sound : Token → Bool
sound (word s) = true
sound (mark c) = mark_char c
sound scope = true
sound colon = true
sound linkage = true
sound (comment s) = not (ends_in 92 s)

abbrev pub all_sound : List Token → Bool
all_sound [] = true
all_sound (t ∷ ts) = sound t && all_sound ts

-- what a mode has read of a token

pending : Mode → List ℕ
pending between = []
pending (in_word a) = a
pending after_colon = bytes ":"
pending after_slash = bytes "/"
pending after_quote = bytes "\""
pending after_quote_c = bytes "\"C"
pending (in_comment a) = 47 ∷ 47 ∷ a

fitting : Mode → Bool
fitting between = true
fitting (in_word a) = nonempty a && every word_char a
fitting after_colon = true
fitting after_slash = true
fitting after_quote = true
fitting after_quote_c = true
fitting (in_comment a) = every in_line a

Continues : List ℕ → Type 0
Continues r =
    (mode : Mode) → fitting mode ≡ true → all_sound (run mode r) ≡ true → Layout (run mode r) (pending mode ++ r)

start : (c : ℕ) (r : List ℕ) → Continues r → all_sound (lex (c ∷ r)) ≡ true → Layout (lex (c ∷ r)) (c ∷ r)
unfolding every Continues pending fitting
start c r ih =
    by_cases (word_char c) (λ e. rw e (λ h. ih (in_word (c ∷ [])) (rw e) h))
    (λ e. by_cases (eqb c 58) (λ f. rw (byte_eq c 58 f) (λ h. ih after_colon refl h))
    (λ f. by_cases (eqb c 47) (λ g. rw (byte_eq c 47 g) (λ h. ih after_slash refl h))
    (λ g. by_cases (eqb c 34) (λ k. rw (byte_eq c 34 k) (λ h. ih after_quote refl h))
    (λ k. by_cases (blank_char c) (λ l. rw (e, f, g, k, l) (λ h. blank l (ih between refl h)))
    (λ l. rw (e, f, g, k, l) (λ h.
    let p = both (mark_char c) (all_sound (lex r)) h in token {t = mark c} p.0 refl (ih between refl p.1)))))))

pub some_snoc : (a : List ℕ) (c : ℕ) → nonempty (a ++ (c ∷ [])) ≡ true
some_snoc [] c = refl
some_snoc (d ∷ a) c = refl

module _ (c : ℕ) (r : List ℕ) (ih : Continues r) where
  Step : Mode → Type 0
  Step mode = all_sound (run mode (c ∷ r)) ≡ true → Layout (run mode (c ∷ r)) (pending mode ++ (c ∷ r))

  step_word_lem : (a : List ℕ) → fitting (in_word a) ≡ true → Step (in_word a)
  unfolding every Continues pending fitting Step
  step_word_lem a i =
      by_cases (word_char c)
      (λ e. rw (e, ← append_assoc a (c ∷ []) r)
      (λ h. ih (in_word (a ++ (c ∷ [])))
      (rw (some_snoc a c) (every_snoc word_char a c (both (nonempty a) (every word_char a) i).1 e)) h))
      (λ e. let q : run (in_word a) (c ∷ r) ≡ word a ∷ lex (c ∷ r) = rw e in
      rw q (λ h. token {t = word a} {s = c ∷ r} i (rw e) (start c r ih h)))

  step_colon : Step after_colon
  unfolding every Continues pending fitting Step
  step_colon =
      by_cases (eqb c 58) (λ e. rw (byte_eq c 58 e) (λ h. token {t = scope} refl refl (ih between refl h)))
      (λ e. let q : run after_colon (c ∷ r) ≡ colon ∷ lex (c ∷ r) = rw e in
      rw q (λ h. token {t = colon} {s = c ∷ r} refl (rw e) (start c r ih h)))

  step_slash : Step after_slash
  unfolding every Continues pending fitting Step
  step_slash =
      by_cases (eqb c 47) (λ e. rw (byte_eq c 47 e) (λ h. ih (in_comment []) refl h)) (λ e. rw e (λ h. absurd (false≢true h)))

  step_quote : Step after_quote
  unfolding every Continues pending fitting Step
  step_quote =
      by_cases (eqb c 67) (λ e. rw (byte_eq c 67 e) (λ h. ih after_quote_c refl h)) (λ e. rw e (λ h. absurd (false≢true h)))

  step_quote_c : Step after_quote_c
  unfolding every Continues pending fitting Step
  step_quote_c =
      by_cases (eqb c 34) (λ e. rw (byte_eq c 34 e) (λ h. token {t = linkage} refl refl (ih between refl h)))
      (λ e. rw e (λ h. absurd (false≢true h)))

  step_line : (a : List ℕ) → fitting (in_comment a) ≡ true → Step (in_comment a)
  unfolding every Continues pending fitting Step
  step_line a i =
      by_cases (eqb c 10)
      (λ e. rw (byte_eq c 10 e) (λ h.
      let p = both (sound (comment a)) (all_sound (lex r)) h in
      token {t = comment a} (and_of (every in_line a) (not (ends_in 92 a)) i p.0) refl (blank refl (ih between refl p.1))))
      (λ e. rw (e, ← append_assoc a (c ∷ []) r)
      (λ h. ih (in_comment (a ++ (c ∷ []))) (every_snoc in_line a c i (rw e)) h))

laid_all : (r : List ℕ) → Continues r
unfolding every Continues pending fitting Step
laid_all [] between i h = finished
laid_all [] (in_word a) i h = token {t = word a} i refl finished
laid_all [] after_colon i h = token {t = colon} refl refl finished
laid_all [] after_slash i h = absurd (false≢true h)
laid_all [] after_quote i h = absurd (false≢true h)
laid_all [] after_quote_c i h = absurd (false≢true h)
laid_all [] (in_comment a) i h =
    token {t = comment a} (and_of (every in_line a) (not (ends_in 92 a)) i (both (sound (comment a)) true h).0) refl
    finished
laid_all (c ∷ r) between i h = start c r (laid_all r) h
laid_all (c ∷ r) (in_word a) i h = step_word_lem c r (laid_all r) a i h
laid_all (c ∷ r) after_colon i h = step_colon c r (laid_all r) h
laid_all (c ∷ r) after_slash i h = step_slash c r (laid_all r) h
laid_all (c ∷ r) after_quote i h = step_quote c r (laid_all r) h
laid_all (c ∷ r) after_quote_c i h = step_quote_c c r (laid_all r) h
laid_all (c ∷ r) (in_comment a) i h = step_line c r (laid_all r) a i h

-- so the tokens that the lexer finds are laid out as the text
pub laid : (s : List ℕ) (ts : List Token) → all_sound ts ≡ true → lex s ≡ ts → Layout ts s
unfolding every Continues pending fitting
laid s ts h e = rw (← e) (laid_all s between refl (rw e h))
