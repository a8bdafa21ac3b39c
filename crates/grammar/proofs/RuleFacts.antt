-- What the rules say of words: which differ, and which are symbols.
use Rattle.std.proofs.Common.{◌≡◌, ℕ, Bool, true, false, not, ◌&&◌, eqb, List, [], ◌∷◌, ◌++◌, sym, refl, ap, ◌∙◌}
use mathlib.Core.Bool.{false≢true}
use Rattle.lexical.specs.Bytes.{bytes, every, same, member}
use Rattle.lexical.specs.Names.{name_start, name_char, starts, name_shape, name_ok, keywords, alternative_tokens, reserved}
use Rattle.lexical.specs.Names.{is_name}
use Rattle.lexical.proofs.BoolLaws.{and_of, by_cases, or_left}
use Rattle.lexical.proofs.ByteLaws.{same_eq, every_append, every_weaken}
use Rattle.lexical.proofs.NameLaws.{name_starts, name_chars, reserved_chars, unlike_table}
use Rattle.grammar.specs.Token.{word_char}
use Rattle.grammar.specs.Types.{Name}
use Rattle.grammar.specs.Rules.{symbol_start, is_symbol}
use Rattle.grammar.proofs.Parser.{front}

-- a word that fails a test is no word that passes it
module _ (test : List ℕ → Bool) (t : List ℕ) (fails : test t ≡ false) where
  pub differs : (s : List ℕ) → test s ≡ true → same s t ≡ false
  differs s h =
      by_cases (same s t)
      (λ e. absurd (false≢true (sym fails ∙ ap test (sym (same_eq s t e)) ∙ h)))
      (λ e. e)

pub name_no_slot : (s : List ℕ) → is_name s ≡ true → same s (bytes "return$") ≡ false
unfolding every name_shape name_ok
name_no_slot = differs is_name (bytes "return$") refl

pub symbol_no_return : (s : List ℕ) → is_symbol s ≡ true → same s (bytes "return") ≡ false
unfolding every same member keywords alternative_tokens reserved is_symbol
symbol_no_return = differs is_symbol (bytes "return") refl

pub front_snoc : (x : Name) (c : ℕ) → front (x ++ (c ∷ [])) ≡ x
front_snoc [] c = refl
front_snoc (a ∷ []) c = refl
front_snoc (a ∷ (b ∷ x)) c = ap (λ (y : Name). a ∷ y) (front_snoc (b ∷ x) c)

return_no_name : is_name (bytes "return") ≡ false
unfolding every same member name_shape name_ok keywords alternative_tokens reserved
return_no_name = refl

-- a held argument is not the slot
pub held_no_slot : (x : Name) → is_name x ≡ true → same (x ++ (36 ∷ [])) (bytes "return$") ≡ false
held_no_slot x h =
    by_cases (same (x ++ (36 ∷ [])) (bytes "return$"))
    (λ e.
    let q : x ≡ bytes "return" = sym (front_snoc x 36) ∙ ap front (same_eq (x ++ (36 ∷ [])) (bytes "return$") e) in
    absurd (false≢true (sym return_no_name ∙ ap is_name (sym q) ∙ h)))
    (λ e. e)

-- a name, a dollar and word characters are a symbol

pub name_to_word : (c : ℕ) → name_char c ≡ true → word_char c ≡ true
name_to_word c e = or_left (name_char c) _ e

dollar_inside : (a b : List ℕ) → every name_char (a ++ (36 ∷ b)) ≡ false
unfolding every
dollar_inside [] b = refl
dollar_inside (c ∷ a) b = by_cases (name_char c) (λ e. rw e (dollar_inside a b)) (λ e. rw e)

starts_too : (a b : List ℕ) → starts name_start a ≡ true → starts symbol_start (a ++ b) ≡ true
starts_too [] b h = absurd (false≢true h)
starts_too (c ∷ a) b h = or_left (name_start c) (eqb c 36) h

pub joined_symbol : (a b : List ℕ) → is_name a ≡ true → every word_char b ≡ true → is_symbol (a ++ (36 ∷ b)) ≡ true
unfolding every is_symbol
joined_symbol a b h e =
    let s : List ℕ = a ++ (36 ∷ b) in
    let chars : every word_char s ≡ true =
    every_append word_char a (36 ∷ b) (every_weaken name_char word_char name_to_word a (name_chars reserved a h)) e in
    let free : member s reserved ≡ false = unlike_table name_char reserved s reserved_chars (dollar_inside a b) in
    and_of (starts symbol_start s) (every word_char s && not (member s reserved)) (starts_too a (36 ∷ b) (name_starts reserved a h))
    (and_of (every word_char s) (not (member s reserved)) chars (rw free))
