-- A test whether a tree is a reading of a text, with its closing comments: it holds exactly of the readings.
use Rattle.std.proofs.Common.{◌≡◌, ℕ, Bool, true, ◌&&◌, List, [], refl}
use Prim.Native.String.{String}
use Rattle.lexical.specs.Bytes.{bytes}
use Rattle.lexical.proofs.BoolLaws.{both, and_of}
use Rattle.grammar.specs.Tree.{Block, namespace, extern_c, Text}
use Rattle.grammar.specs.Tokens.{block_tokens, Closing, Closings, text_tokens}
use Rattle.grammar.specs.Rules.{text_ok}
use Rattle.grammar.specs.Reading.{Reading}
use Rattle.grammar.proofs.Lexer.{lex, lexed}
use Rattle.grammar.proofs.LexedLayout.{all_sound, laid}
use Rattle.grammar.proofs.Literal.{laid_sound}
use Rattle.grammar.proofs.SameTokens.{same_tokens, tokens_eq, tokens_refl}

pub block_sound : (b : Block) → all_sound (block_tokens b []) ≡ true
block_sound (namespace x) = refl
block_sound extern_c = refl

-- `closing b "..." refl` where the quoted comment repeats the head
abbrev pub closing : (b : Block) (s : String) → same_tokens (lex (bytes s)) (block_tokens b []) ≡ true → Closing b
closing b s h =
    record {
      characters = bytes s;
      repeats = laid (bytes s) (block_tokens b []) (block_sound b) (tokens_eq (lex (bytes s)) (block_tokens b []) h);
    }

abbrev pub reads_test : (t : Text) → Closings t → List ℕ → Bool
reads_test t cs s = text_ok t && (all_sound (text_tokens t cs) && same_tokens (lex s) (text_tokens t cs))

pub checked : (t : Text) (cs : Closings t) (s : List ℕ) → reads_test t cs s ≡ true → Reading t s
checked t cs s h =
    let ts = text_tokens t cs in
    let p = both (text_ok t) (all_sound ts && same_tokens (lex s) ts) h in
    let q = both (all_sound ts) (same_tokens (lex s) ts) p.1 in
    record { keeps_rules = p.0; closings = cs; laid_out = laid s ts q.0 (tokens_eq (lex s) ts q.1) }

pub passes : (t : Text) (s : List ℕ) (a : Reading t s) → reads_test t a.closings s ≡ true
passes t s a =
    let ts = text_tokens t a.closings in
    and_of (text_ok t) (all_sound ts && same_tokens (lex s) ts) a.keeps_rules
    (and_of (all_sound ts) (same_tokens (lex s) ts) (laid_sound a.laid_out) (rw (lexed a.laid_out) (tokens_refl ts)))
