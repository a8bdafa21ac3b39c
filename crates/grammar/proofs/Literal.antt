-- A literal in front of a text that is laid out: what the lexer finds in it, and then the text's tokens.
use Rattle.std.proofs.Common.{◌≡◌, ℕ, Bool, true, false, cond, not, ◌||◌, eqb, List, [], ◌∷◌, ◌++◌, sym, refl, ap, ◌∙◌, append_assoc}
use mathlib.Core.Bool.{false≢true}
use Rattle.lexical.proofs.BoolLaws.{both, and_of}
use Rattle.lexical.proofs.ByteLaws.{byte_eq}
use Rattle.grammar.specs.Token.{Token, word, mark, scope, colon, linkage, comment, word_char}
use Rattle.lexical.specs.Bytes.{every}
use Rattle.grammar.specs.Layout.{blank_char, ends_in, in_line, well_formed, no_word_char, no_colon, line_end, Layout, finished, blank, token}
use Rattle.grammar.proofs.Lexer.{Mode, between, in_word, after_colon, after_slash, after_quote, after_quote_c, in_comment}
use Rattle.grammar.proofs.Lexer.{emit_first, next, emit, run, lex, lexed, word_end, colon_end}
use Rattle.grammar.proofs.LexedLayout.{sound, all_sound, laid}

abbrev pub final : Mode → List ℕ → Mode
final mode [] = mode
final mode (c ∷ a) = final (next mode c) a

-- what may stand behind a text that ends in a mode
abbrev pub seam : Mode → List ℕ → Bool
seam between r = true
seam (in_word a) r = no_word_char r
seam after_colon r = no_colon r
seam after_slash r = false
seam after_quote r = false
seam after_quote_c r = false
seam (in_comment a) r = line_end r

cond_append : (b : Bool) (x y z : List Token) → cond b x y ++ z ≡ cond b (x ++ z) (y ++ z)
cond_append true x y z = refl
cond_append false x y z = refl

begin_append : (c : ℕ) (x y : List Token) → emit_first c x ++ y ≡ emit_first c (x ++ y)
begin_append c x y = cond_append (word_char c || eqb c 58 || eqb c 47 || eqb c 34 || blank_char c) x (mark c ∷ x) y

-- a token that ends before c, or with it
late_append : (ends : Bool) (us vs : List Token) (c : ℕ) (x y : List Token) →
    cond ends (us ++ x) (vs ++ emit_first c x) ++ y ≡ cond ends (us ++ (x ++ y)) (vs ++ emit_first c (x ++ y))
late_append true us vs c x y = append_assoc us x y
late_append false us vs c x y = append_assoc vs (emit_first c x) y ∙ ap (λ (z : List Token). vs ++ z) (begin_append c x y)

emit_append : (mode : Mode) (c : ℕ) (x y : List Token) → emit mode c x ++ y ≡ emit mode c (x ++ y)
emit_append between c x y = begin_append c x y
emit_append (in_word a) c x y = late_append (word_char c) [] (word a ∷ []) c x y
emit_append after_colon c x y = late_append (eqb c 58) (scope ∷ []) (colon ∷ []) c x y
emit_append after_slash c x y = late_append (eqb c 47) [] (mark 47 ∷ []) c x y
emit_append after_quote c x y = late_append (eqb c 67) [] (mark 34 ∷ []) c x y
emit_append after_quote_c c x y = late_append (eqb c 34) (linkage ∷ []) (mark 34 ∷ mark 67 ∷ []) c x y
emit_append (in_comment a) c x y = cond_append (eqb c 10) (comment a ∷ x) x y

line_end_lem : (a r : List ℕ) → line_end r ≡ true → run (in_comment a) r ≡ comment a ∷ lex r
line_end_lem a [] h = refl
line_end_lem a (c ∷ r) h = rw (byte_eq c 10 h)

run_append : (a : List ℕ) (mode : Mode) (r : List ℕ) → seam (final mode a) r ≡ true →
    run mode (a ++ r) ≡ run mode a ++ lex r
run_append [] between r h = refl
run_append [] (in_word a) r h = word_end a r h
run_append [] after_colon r h = colon_end r h
run_append [] after_slash r h = absurd (false≢true h)
run_append [] after_quote r h = absurd (false≢true h)
run_append [] after_quote_c r h = absurd (false≢true h)
run_append [] (in_comment a) r h = line_end_lem a r h
run_append (c ∷ a) mode r h =
    ap (emit mode c) (run_append a (next mode c) r h) ∙ sym (emit_append mode c (run (next mode c) a) (lex r))

sound_append : (x y : List Token) → all_sound x ≡ true → all_sound y ≡ true → all_sound (x ++ y) ≡ true
sound_append [] y h e = e
sound_append (t ∷ x) y h e = let q = both (sound t) (all_sound x) h in rw q.0 (sound_append x y q.1 e)

sound_of : (t : Token) → well_formed t ≡ true → sound t ≡ true
sound_of (word s) h = refl
sound_of (mark c) h = h
sound_of scope h = refl
sound_of colon h = refl
sound_of linkage h = refl
sound_of (comment s) h = (both (every in_line s) (not (ends_in 92 s)) h).1

pub laid_sound : {ts : List Token} {s : List ℕ} → Layout ts s → all_sound ts ≡ true
laid_sound finished = refl
laid_sound (blank h d) = laid_sound d
laid_sound (token {t} {ts} h e d) = and_of (sound t) (all_sound ts) (sound_of t h) (laid_sound d)

-- `literal (bytes "...") refl refl` where the text ends in a mark or a blank; where it ends in a word, the second is
-- a proof that no word character follows
pub literal : (a : List ℕ) {ts : List Token} {r : List ℕ} → all_sound (lex a) ≡ true → seam (final between a) r ≡ true →
    Layout ts r → Layout (lex a ++ ts) (a ++ r)
literal a {ts} {r} h e d =
    laid (a ++ r) (lex a ++ ts) (sound_append (lex a) ts h (laid_sound d))
    (run_append a between r e ∙ ap (λ (x : List Token). lex a ++ x) (lexed d))
