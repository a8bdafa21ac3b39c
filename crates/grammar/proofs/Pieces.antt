-- Pieces of a text in front of a rest that is laid out: `Layout ts r` gives `Layout (tokens x ts) (bytes of x, then r)`.
-- A piece that is spelled out whole is one use of `literal`.
use Rattle.std.proofs.Common.{◌≡◌, ℕ, Bool, true, false, not, ◌&&◌, eqb, List, [], ◌∷◌, ◌++◌, sym, refl, ap, ◌∙◌, subst, append_assoc, append-nil}
use mathlib.Core.Bool.{false≢true}
use Rattle.lexical.specs.Bytes.{bytes, every, member}
use Rattle.lexical.specs.Names.{name_start, name_char, starts, reserved, is_name}
use Rattle.lexical.proofs.BoolLaws.{both, and_of, by_cases}
use Rattle.lexical.proofs.ByteLaws.{byte_eq, every_cons, every_snoc, every_weaken}
use Rattle.lexical.proofs.NameLaws.{name_starts, name_chars}
use Rattle.grammar.specs.Token.{Token, word, comment, word_char, quoted}
use Rattle.grammar.specs.Layout.{nonempty, ends_in, in_line, well_formed, no_word_char, Layout, finished, blank, token}
use Rattle.grammar.specs.Types.{Name, Atom, bool, char, u8, u16, u32, u64, usize, i8, i16, i32, i64, isize}
use Rattle.grammar.specs.Types.{f32, f64, cxx_string, rust_string}
use Rattle.grammar.specs.Tree.{Block, namespace, extern_c, Body, body_end, item, block}
use Rattle.grammar.specs.Tokens.{path_tokens, atom_tokens}
use Rattle.grammar.specs.Tokens.{block_tokens}
use Rattle.grammar.specs.Tokens.{BodyClosings}
use Rattle.grammar.specs.Rules.{symbol_start, is_symbol, item_ok, body_ok}
use Rattle.grammar.proofs.LexedLayout.{some_snoc}
use Rattle.grammar.proofs.Literal.{literal}
use Rattle.grammar.proofs.RuleFacts.{name_to_word}
use Rattle.grammar.proofs.TextBack.{block_ok, block_rules}

-- words

starts_some : (test : ℕ → Bool) (s : List ℕ) → starts test s ≡ true → nonempty s ≡ true
starts_some test [] h = absurd (false≢true h)
starts_some test (c ∷ s) h = refl

pub name_word : (s : List ℕ) → is_name s ≡ true → well_formed (word s) ≡ true
name_word s h =
    and_of (nonempty s) (every word_char s) (starts_some name_start s (name_starts reserved s h))
    (every_weaken name_char word_char name_to_word s (name_chars reserved s h))

pub symbol_word : (s : List ℕ) → is_symbol s ≡ true → well_formed (word s) ≡ true
unfolding is_symbol
symbol_word s h =
    let p = both (starts symbol_start s) (every word_char s && not (member s reserved)) h in
    and_of (nonempty s) (every word_char s) (starts_some symbol_start s p.0)
    (both (every word_char s) (not (member s reserved)) p.1).0

pub word_laid : (s : List ℕ) {ts : List Token} {r : List ℕ} → well_formed (word s) ≡ true → no_word_char r ≡ true →
    Layout ts r → Layout (word s ∷ ts) (s ++ r)
word_laid s h e d = token {t = word s} h e d

pub name_laid : (s : List ℕ) {ts : List Token} {r : List ℕ} → is_name s ≡ true → no_word_char r ≡ true → Layout ts r →
    Layout (word s ∷ ts) (s ++ r)
name_laid s h e d = word_laid s (name_word s h) e d

dollar_word : (s : List ℕ) → is_name s ≡ true → well_formed (word (s ++ bytes "$")) ≡ true
dollar_word s h =
    and_of (nonempty (s ++ bytes "$")) (every word_char (s ++ bytes "$")) (some_snoc s 36)
    (every_snoc word_char s 36 (both (nonempty s) (every word_char s) (name_word s h)).1 refl)

-- a name with a dollar behind it
pub dollar_laid : (s : List ℕ) {ts : List Token} {r : List ℕ} → is_name s ≡ true → no_word_char r ≡ true → Layout ts r →
    Layout (word (s ++ bytes "$") ∷ ts) (s ++ (bytes "$" ++ r))
dollar_laid s {ts} {r} h e d = rw (← append_assoc s (bytes "$") r) (word_laid (s ++ bytes "$") (dollar_word s h) e d)

-- full names and atoms

abbrev pub path_bytes : List Name → List ℕ → List ℕ
path_bytes [] r = r
path_bytes (s ∷ path) r = bytes "::" ++ (s ++ path_bytes path r)

path_free : (path : List Name) (r : List ℕ) → no_word_char r ≡ true → no_word_char (path_bytes path r) ≡ true
path_free [] r e = e
path_free (s ∷ path) r e = refl

pub path_laid : (path : List Name) {ts : List Token} {r : List ℕ} → every is_name path ≡ true → no_word_char r ≡ true →
    Layout ts r → Layout (path_tokens path ts) (path_bytes path r)
path_laid [] h e d = d
path_laid (s ∷ path) {ts} {r} h e d =
    let q = every_cons is_name s path h in
    literal (bytes "::") refl refl (name_laid s q.0 (path_free path r e) (path_laid path q.1 e d))

abbrev pub atom_bytes : Atom → List ℕ
atom_bytes bool = bytes "bool"
atom_bytes char = bytes "char"
atom_bytes u8 = bytes "::std::uint8_t"
atom_bytes u16 = bytes "::std::uint16_t"
atom_bytes u32 = bytes "::std::uint32_t"
atom_bytes u64 = bytes "::std::uint64_t"
atom_bytes usize = bytes "::std::size_t"
atom_bytes i8 = bytes "::std::int8_t"
atom_bytes i16 = bytes "::std::int16_t"
atom_bytes i32 = bytes "::std::int32_t"
atom_bytes i64 = bytes "::std::int64_t"
atom_bytes isize = bytes "::rust::isize"
atom_bytes f32 = bytes "float"
atom_bytes f64 = bytes "double"
atom_bytes cxx_string = bytes "::std::string"
atom_bytes rust_string = bytes "::rust::String"

pub atom_laid : (a : Atom) {ts : List Token} {r : List ℕ} → no_word_char r ≡ true → Layout ts r →
    Layout (atom_tokens a ts) (atom_bytes a ++ r)
atom_laid bool e d = literal (atom_bytes bool) refl e d
atom_laid char e d = literal (atom_bytes char) refl e d
atom_laid u8 e d = literal (atom_bytes u8) refl e d
atom_laid u16 e d = literal (atom_bytes u16) refl e d
atom_laid u32 e d = literal (atom_bytes u32) refl e d
atom_laid u64 e d = literal (atom_bytes u64) refl e d
atom_laid usize e d = literal (atom_bytes usize) refl e d
atom_laid i8 e d = literal (atom_bytes i8) refl e d
atom_laid i16 e d = literal (atom_bytes i16) refl e d
atom_laid i32 e d = literal (atom_bytes i32) refl e d
atom_laid i64 e d = literal (atom_bytes i64) refl e d
atom_laid isize e d = literal (atom_bytes isize) refl e d
atom_laid f32 e d = literal (atom_bytes f32) refl e d
atom_laid f64 e d = literal (atom_bytes f64) refl e d
atom_laid cxx_string e d = literal (atom_bytes cxx_string) refl e d
atom_laid rust_string e d = literal (atom_bytes rust_string) refl e d

-- comments and blocks

pub comment_laid : (s : List ℕ) {ts : List Token} {r : List ℕ} → every in_line s ≡ true → ends_in 92 s ≡ false → Layout ts r →
    Layout (comment s ∷ ts) (bytes "//" ++ (s ++ (bytes "\n" ++ r)))
comment_laid s h e d = token {t = comment s} (and_of (every in_line s) (not (ends_in 92 s)) h (rw e)) refl (blank refl d)

-- a character that fails a test is none that passes it
other : (test : ℕ → Bool) (d : ℕ) → test d ≡ false → (c : ℕ) → test c ≡ true → eqb c d ≡ false
other test d f c h =
    by_cases (eqb c d) (λ e. absurd (false≢true (sym f ∙ ap test (sym (byte_eq c d e)) ∙ h))) (λ e. e)

name_in_line : (c : ℕ) → name_char c ≡ true → in_line c ≡ true
name_in_line c h = rw (other name_char 10 refl c h)

-- what ends in a name does not end in a backslash
no_splice : (a : ℕ) (x : List ℕ) → every name_char x ≡ true → eqb a 92 ≡ false → ends_in 92 (a ∷ x) ≡ false
no_splice a [] h e = e
no_splice a (c ∷ x) h e = let q = every_cons name_char c x h in no_splice c x q.1 (other name_char 92 refl c q.0)

abbrev pub block_bytes : Block → List ℕ → List ℕ
block_bytes (namespace x) r = bytes "namespace " ++ (x ++ r)
block_bytes extern_c r = bytes "extern \"C\"" ++ r

pub open_laid : (b : Block) {ts : List Token} {r : List ℕ} → block_ok b ≡ true → Layout ts r →
    Layout (block_tokens b (quoted "{" ts)) (block_bytes b (bytes " {\n" ++ r))
open_laid (namespace x) h d = literal (bytes "namespace ") refl refl (name_laid x h refl (literal (bytes " {\n") refl refl d))
open_laid extern_c h d = literal (bytes "extern \"C\" {\n") refl refl d

-- the crate's closing comments

abbrev pub usual_comment : Block → List ℕ
usual_comment (namespace x) = bytes " namespace " ++ x
usual_comment extern_c = bytes " extern \"C\""

usual_in_line : (b : Block) → block_ok b ≡ true → every in_line (usual_comment b) ≡ true
unfolding every
usual_in_line (namespace x) h = every_weaken name_char in_line name_in_line x (name_chars reserved x h)
usual_in_line extern_c h = refl

usual_unspliced : (b : Block) → block_ok b ≡ true → ends_in 92 (usual_comment b) ≡ false
usual_unspliced (namespace x) h = no_splice 32 x (name_chars reserved x h) refl
usual_unspliced extern_c h = refl

pub close_laid : (b : Block) {ts : List Token} {r : List ℕ} → block_ok b ≡ true → Layout ts r →
    Layout (quoted "}" (comment (usual_comment b) ∷ ts)) (bytes "} //" ++ (usual_comment b ++ (bytes "\n" ++ r)))
close_laid b h d = literal (bytes "} ") refl refl (comment_laid (usual_comment b) (usual_in_line b h) (usual_unspliced b h) d)

pub usual_repeats : (b : Block) → block_ok b ≡ true → Layout (block_tokens b []) (usual_comment b)
usual_repeats (namespace x) h =
    literal (bytes " namespace ") refl refl
    (subst (λ (s : List ℕ). Layout (word x ∷ []) s) (append-nil x) (name_laid x h refl finished))
usual_repeats extern_c h = literal (bytes " extern \"C\"") refl refl finished

unfoldable pub usual_closings : (b : Body) (depth : ℕ) (c : Bool) → body_ok depth c b ≡ true → BodyClosings b
unfolding body_ok
usual_closings body_end depth c o = tt
usual_closings (item i next) depth c o = usual_closings next depth c (both (item_ok depth c i) (body_ok depth c next) o).1
usual_closings (block b inside next) depth c o =
    let q = block_rules b inside next depth c o in (
      record { characters = usual_comment b; repeats = usual_repeats b q.4 },
      usual_closings inside q.0 q.1 q.2,
      usual_closings next depth c q.3,
    )
