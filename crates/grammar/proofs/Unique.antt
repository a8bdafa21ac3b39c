-- A text in which no `{` stands directly before `}` has at most one reading.
use Rattle.std.proofs.Common.{◌≡◌, ℕ, zero, suc, ◌≤◌, Bool, true, false, not, ◌&&◌, List, [], ◌∷◌, sym, refl, ap, ◌∙◌, arith}
use mathlib.Core.Bool.{false≢true}
use mathlib.Core.Option.{Option, none, some}
use Rattle.lexical.specs.Bytes.{every, same}
use Rattle.lexical.proofs.BoolLaws.{both, and_of}
use Rattle.lexical.proofs.ByteLaws.{Each}
use Rattle.grammar.specs.Token.{Token, quoted}
use Rattle.grammar.specs.Layout.{Layout}
use Rattle.grammar.specs.Tree.{Forward, forward_end, line, bare_namespace, Text, text}
use Rattle.grammar.specs.Tokens.{forward_tokens, body_tokens, Closings, text_tokens}
use Rattle.grammar.specs.Rules.{text_ok}
use Rattle.grammar.specs.Reading.{Reading, OneReading}
use Rattle.grammar.proofs.Lexer.{lex, lexed, same_tokens_lem}
use Rattle.grammar.proofs.Parser.{begins, text_p}
use Rattle.grammar.proofs.TextBack.{has_lines, forward_filled, forward_of, text_size, text_back, told_by_tokens}
use Rattle.grammar.proofs.Braces.{no_empty_braces, line_braceless, text_filled, filled_braces}

brace_rest : (r : List Token) → no_empty_braces (quoted "{" r) ≡ true → no_empty_braces r ≡ true
unfolding same
brace_rest r h = (both (not (begins "}" r)) (no_empty_braces r) h).1

forward_rest : (f : Forward) (r : List Token) → no_empty_braces (forward_tokens f r) ≡ true → no_empty_braces r ≡ true
unfolding same
forward_rest forward_end r h = h
forward_rest (line l next) r h = forward_rest next r (sym (line_braceless l (forward_tokens next r)) ∙ h)
forward_rest (bare_namespace x inside next) r h =
    let e = brace_rest (forward_tokens inside (quoted "}" (forward_tokens next r))) h in
    forward_rest next r (forward_rest inside (quoted "}" (forward_tokens next r)) e)

has_lines_lem : (f : Forward) (r : List Token) → no_empty_braces (quoted "{" (forward_tokens f (quoted "}" r))) ≡ true →
    has_lines f ≡ true
unfolding same
has_lines_lem forward_end r h = absurd (false≢true h)
has_lines_lem (line l next) r h = refl
has_lines_lem (bare_namespace x inside next) r h = refl

forward_filled_lem : (f : Forward) (r : List Token) → no_empty_braces (forward_tokens f r) ≡ true → forward_filled f ≡ true
unfolding same
forward_filled_lem forward_end r h = refl
forward_filled_lem (line l next) r h = forward_filled_lem next r (sym (line_braceless l (forward_tokens next r)) ∙ h)
forward_filled_lem (bare_namespace x inside next) r h =
    let rest : List Token = quoted "}" (forward_tokens next r) in
    let e = brace_rest (forward_tokens inside rest) h in
    and_of (has_lines inside) (forward_filled inside && forward_filled next) (has_lines_lem inside (forward_tokens next r) h)
    (and_of (forward_filled inside) (forward_filled next) (forward_filled_lem inside rest e)
    (forward_filled_lem next r (forward_rest inside rest e)))

text_filled_lem : (t : Text) (cs : Closings t) → no_empty_braces (text_tokens t cs) ≡ true → forward_filled (forward_of t) ≡ true
text_filled_lem (text f b) cs h = forward_filled_lem f (body_tokens b cs []) h

-- any two readings of a text whose tokens have no empty braces are equal
pub unique : {ts : List Token} {s : List ℕ} → Layout ts s → no_empty_braces ts ≡ true →
    (t u : Text) → Reading t s → Reading u s → t ≡ u
unique d h t u a b =
    let e : text_tokens t a.closings ≡ _ = same_tokens_lem a.laid_out d in
    let f : text_tokens u b.closings ≡ _ = same_tokens_lem b.laid_out d in
    told_by_tokens t u a.closings b.closings a.keeps_rules b.keeps_rules (text_filled_lem t a.closings (rw e h))
    (text_filled_lem u b.closings (rw f h)) (e ∙ sym f)

-- a reading in which each namespace and extern "C" has content is the only one
pub one_reading : (t : Text) (s : List ℕ) → Reading t s → text_filled t ≡ true → OneReading s
one_reading t s a h =
    record { tree = t; reads = a; equal = unique a.laid_out (filled_braces t a.closings a.keeps_rules h) }

-- ---- texts without a reading

abbrev pub NoReading : List ℕ → Type 0
NoReading s = (t : Text) → Reading t s → ⊥

-- n, and k more
abbrev pub raised : ℕ → ℕ → ℕ
raised zero n = n
raised (suc k) n = suc (raised k n)

at_least : (k n : ℕ) → n ≤ raised k n
at_least zero n = omega arith
at_least (suc k) n = omega (arith, at_least k n)

-- the parser read no tree that keeps the rules
abbrev pub refuses : Option Text → Bool
refuses none = true
refuses (some t) = not (text_ok t)

-- a text of which the parser reads no tree that keeps the rules has no reading
unread : (s : List ℕ) (k : ℕ) → no_empty_braces (lex s) ≡ true →
    ((n : ℕ) → refuses (text_p (raised k n) (lex s)) ≡ true) → NoReading s
unread s k h p t a =
    let n : ℕ = raised k (text_size t) in
    let e : lex s ≡ text_tokens t a.closings = lexed a.laid_out in
    let read : text_p n (lex s) ≡ some t =
    ap (text_p n) e ∙
    text_back t a.closings n (at_least k (text_size t)) a.keeps_rules (text_filled_lem t a.closings (rw (← e) h)) in
    let good : refuses (some t) ≡ false = rw a.keeps_rules in
    false≢true (sym good ∙ ap refuses (sym read) ∙ p (text_size t))

each_unread : (texts : List (List ℕ)) (k : ℕ) → every (λ s. no_empty_braces (lex s)) texts ≡ true →
    ((n : ℕ) → every (λ s. refuses (text_p (raised k n) (lex s))) texts ≡ true) → Each NoReading texts
unfolding every
each_unread [] k h p = tt
each_unread (s ∷ texts) k h p =
    let q = both (no_empty_braces (lex s)) (every (λ s. no_empty_braces (lex s)) texts) h in
    let test : ℕ → List ℕ → Bool = λ n s. refuses (text_p (raised k n) (lex s)) in (
      unread s k q.0 (λ n. (both (test n s) (every (test n) texts) (p n)).0),
      each_unread texts k q.1 (λ n. (both (test n s) (every (test n) texts) (p n)).1),
    )

pub record NotRead (texts : List (List ℕ)) : Type 0 where
  pub none_reads : Each NoReading texts

-- `not_read k refl (λ n. refl)`, where the parser goes k levels deep at most
pub not_read : {texts : List (List ℕ)} (k : ℕ) → every (λ s. no_empty_braces (lex s)) texts ≡ true →
    ((n : ℕ) → every (λ s. refuses (text_p (raised k n) (lex s))) texts ≡ true) → NotRead texts
not_read {texts} k h p = record { none_reads = each_unread texts k h p }
