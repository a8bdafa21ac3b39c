-- A lexer, one step a byte: it finds the tokens that are laid out as a text.
use Rattle.std.proofs.Common.{◌≡◌, ℕ, true, cond, not, ◌||◌, eqb, List, [], ◌∷◌, ◌++◌, sym, refl, ap, ◌∙◌, append_assoc, append-nil}
use mathlib.Core.Bool.{false≢true}
use Rattle.lexical.specs.Bytes.{bytes, every}
use Rattle.lexical.proofs.BoolLaws.{not-true, both}
use Rattle.lexical.proofs.ByteLaws.{byte_eq, each}
use Rattle.grammar.specs.Token.{Token, word, mark, scope, colon, linkage, comment, word_char, spelling}
use Rattle.grammar.specs.Layout.{blank_char, ends_in, in_line, well_formed, no_word_char, no_colon, line_end}
use Rattle.grammar.specs.Layout.{ends_before, Layout, finished, blank, token}

pub data Mode : Type 0 where
  between : Mode
  in_word : List ℕ → Mode
  after_colon after_slash after_quote after_quote_c : Mode
  in_comment : List ℕ → Mode

-- the mode after a byte that begins a token, and what it emits
abbrev pub begin : ℕ → Mode
begin c =
    cond (word_char c) (in_word (c ∷ []))
    (cond (eqb c 58) after_colon (cond (eqb c 47) after_slash (cond (eqb c 34) after_quote between)))

-- a byte that is no blank and begins nothing is a mark, well-formed or not
abbrev pub emit_first : ℕ → List Token → List Token
emit_first c ts = cond (word_char c || eqb c 58 || eqb c 47 || eqb c 34 || blank_char c) ts (mark c ∷ ts)

abbrev pub next : Mode → ℕ → Mode
next between c = begin c
next (in_word a) c = cond (word_char c) (in_word (a ++ (c ∷ []))) (begin c)
next after_colon c = cond (eqb c 58) between (begin c)
next after_slash c = cond (eqb c 47) (in_comment []) (begin c)
next after_quote c = cond (eqb c 67) after_quote_c (begin c)
next after_quote_c c = cond (eqb c 34) between (begin c)
next (in_comment a) c = cond (eqb c 10) between (in_comment (a ++ (c ∷ [])))

abbrev pub emit : Mode → ℕ → List Token → List Token
emit between c ts = emit_first c ts
emit (in_word a) c ts = cond (word_char c) ts (word a ∷ emit_first c ts)
emit after_colon c ts = cond (eqb c 58) (scope ∷ ts) (colon ∷ emit_first c ts)
emit after_slash c ts = cond (eqb c 47) ts (mark 47 ∷ emit_first c ts)
emit after_quote c ts = cond (eqb c 67) ts (mark 34 ∷ emit_first c ts)
emit after_quote_c c ts = cond (eqb c 34) (linkage ∷ ts) (mark 34 ∷ mark 67 ∷ emit_first c ts)
emit (in_comment a) c ts = cond (eqb c 10) (comment a ∷ ts) ts

abbrev pub flush : Mode → List Token
flush between = []
flush (in_word a) = word a ∷ []
flush after_colon = colon ∷ []
flush after_slash = mark 47 ∷ []
flush after_quote = mark 34 ∷ []
flush after_quote_c = mark 34 ∷ mark 67 ∷ []
flush (in_comment a) = comment a ∷ []

abbrev pub run : Mode → List ℕ → List Token
run mode [] = flush mode
run mode (c ∷ r) = emit mode c (run (next mode c) r)

abbrev pub lex : List ℕ → List Token
lex s = run between s

pub word_end : (a r : List ℕ) → no_word_char r ≡ true → run (in_word a) r ≡ word a ∷ run between r
word_end a [] e = refl
word_end a (c ∷ r) e = rw (not-true (word_char c) e)

pub colon_end : (r : List ℕ) → no_colon r ≡ true → run after_colon r ≡ colon ∷ run between r
colon_end [] e = refl
colon_end (c ∷ r) e = rw (not-true (eqb c 58) e)

-- a layout's tokens are what the lexer finds
word_run : (u a r : List ℕ) → every word_char u ≡ true → no_word_char r ≡ true →
    run (in_word a) (u ++ r) ≡ word (a ++ u) ∷ run between r
unfolding every
word_run [] a r h e = rw append-nil (word_end a r e)
word_run (c ∷ u) a r h e =
    let p = both (word_char c) (every word_char u) h in
    rw p.0 (word_run u (a ++ (c ∷ [])) r p.1 e ∙ simp append_assoc)

line_run : (u a r : List ℕ) → every in_line u ≡ true → line_end r ≡ true →
    run (in_comment a) (u ++ r) ≡ comment (a ++ u) ∷ run between r
unfolding every
line_run [] a [] h e = rw append-nil
line_run [] a (c ∷ r) h e = rw (append-nil, byte_eq c 10 e)
line_run (c ∷ u) a r h e =
    let p = both (in_line c) (every in_line u) h in
    rw (not-true (eqb c 10) p.0) (line_run u (a ++ (c ∷ [])) r p.1 e ∙ simp append_assoc)

pub token_run : (t : Token) (r : List ℕ) → well_formed t ≡ true → ends_before t r ≡ true →
    lex (spelling t ++ r) ≡ t ∷ lex r
unfolding every
token_run (word []) r h e = absurd (false≢true h)
token_run (word (c ∷ u)) r h e =
    let p = both (word_char c) (every word_char u) h in
    rw p.0 (word_run u (c ∷ []) r p.1 e)
token_run (mark c) r h e =
    each (λ c. lex (c ∷ r) ≡ mark c ∷ lex r) (bytes "(){}<>,;&*=.")
    (refl, (refl, (refl, (refl, (refl, (refl, (refl, (refl, (refl, (refl, (refl, (refl, tt)))))))))))) c h
token_run scope r h e = refl
token_run colon r h e = colon_end r e
token_run linkage r h e = refl
token_run (comment s) r h e = line_run s [] r (both (every in_line s) (not (ends_in 92 s)) h).0 e

pub lexed : {ts : List Token} {s : List ℕ} → Layout ts s → lex s ≡ ts
lexed finished = refl
lexed (blank {c} {ts} {s = r} h d) = each (λ c. lex (c ∷ r) ≡ lex r) (bytes " \n") (refl, (refl, tt)) c h ∙ lexed d
lexed (token {t} {ts} {s = r} h e d) = token_run t r h e ∙ ap (λ (x : List Token). t ∷ x) (lexed d)

pub same_tokens_lem : {ts us : List Token} {s : List ℕ} → Layout ts s → Layout us s → ts ≡ us
same_tokens_lem d e = sym (lexed d) ∙ lexed e
