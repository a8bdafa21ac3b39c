-- A text that spells tokens, in front of any rest that does not run on into it, and how such texts are joined.
use Rattle.std.proofs.Common.{◌≡◌, ℕ, Bool, true, false, not, ◌&&◌, List, [], ◌∷◌, ◌++◌, refl, append_assoc}
use mathlib.Core.Bool.{false≢true}
use Prim.Native.String.{String}
use Rattle.lexical.specs.Bytes.{bytes}
use Rattle.lexical.specs.Names.{is_name}
use Rattle.lexical.proofs.BoolLaws.{both}
use Rattle.grammar.specs.Token.{Token, word, word_char}
use Rattle.grammar.specs.Layout.{well_formed, no_word_char, Layout, token}
use Rattle.grammar.proofs.Lexer.{Mode, between, in_word, after_colon, after_slash, after_quote, after_quote_c, in_comment, lex}
use Rattle.grammar.proofs.LexedLayout.{all_sound}
use Rattle.grammar.proofs.Pieces.{name_word, dollar_laid}
use Rattle.grammar.proofs.Literal.{final, seam, literal}

-- how a text ends: behind a word no word character may stand
pub data End : Type 0 where
  closed inside : End

abbrev pub clear : End → List ℕ → Bool
clear closed r = true
clear inside r = no_word_char r

pub record Spells (e : End) (s : List ℕ) (tokens : List Token → List Token) : Type 0 where
  pub laid : (ts : List Token) (r : List ℕ) → clear e r ≡ true → Layout ts r → Layout (tokens ts) (s ++ r)

-- the text b, which ends so, may stand behind the end e
abbrev pub meets : End → List ℕ → End → Bool
meets closed b f = true
meets inside [] closed = false
meets inside [] inside = true
meets inside (c ∷ b) f = not (word_char c)

meets_clear : (e f : End) (b r : List ℕ) → meets e b f ≡ true → clear f r ≡ true → clear e (b ++ r) ≡ true
meets_clear closed f b r h k = refl
meets_clear inside closed [] r h k = absurd (false≢true h)
meets_clear inside inside [] r h k = k
meets_clear inside f (c ∷ b) r h k = h

infixl 20 ◌▷◌
infixl 20 ◌▷⟨◌⟩◌
pub ◌▷⟨◌⟩◌ : {e f : End} {a b : List ℕ} {ta tb : List Token → List Token} → Spells e a ta → meets e b f ≡ true →
    Spells f b tb → Spells f (a ++ b) (λ ts. ta (tb ts))
◌▷⟨◌⟩◌ {e} {f} {a} {b} {ta} {tb} p h q =
    record {
      laid =
          λ ts r k d. rw (append_assoc a b r) (p.laid (tb ts) (b ++ r) (meets_clear e f b r h k) (q.laid ts r k d));
    }

-- behind a closed text anything may stand
pub ◌▷◌ : {f : End} {a b : List ℕ} {ta tb : List Token → List Token} → Spells closed a ta → Spells f b tb →
    Spells f (a ++ b) (λ ts. ta (tb ts))
p ▷ q = p ▷⟨ refl ⟩ q

-- a closed text may count as one that is not
pub weaken : {a : List ℕ} {ta : List Token → List Token} (e : End) → Spells e a ta → Spells inside a ta
weaken closed p = record { laid = λ ts r k d. p.laid ts r refl d }
weaken inside p = p

-- the same tokens, told in another way
pub as_tokens : {e : End} {a : List ℕ} {t u : List Token → List Token} → ((ts : List Token) → t ts ≡ u ts) →
    Spells e a t → Spells e a u
as_tokens h p = record { laid = λ ts r k d. rw (h ts) at (p.laid ts r k d) }

pub empty : {e : End} → Spells e [] (λ ts. ts)
empty = record { laid = λ ts r k d. d }

-- a quoted text that ends between two tokens or in a word spells what the lexer finds in it
abbrev pub end_of : Mode → End
end_of between = closed
end_of (in_word a) = inside
end_of after_colon = inside
end_of after_slash = inside
end_of after_quote = inside
end_of after_quote_c = inside
end_of (in_comment a) = inside

abbrev pub ends : Mode → Bool
ends between = true
ends (in_word a) = true
ends after_colon = false
ends after_slash = false
ends after_quote = false
ends after_quote_c = false
ends (in_comment a) = false

ends_seam : (m : Mode) (r : List ℕ) → ends m ≡ true → clear (end_of m) r ≡ true → seam m r ≡ true
ends_seam between r h k = refl
ends_seam (in_word a) r h k = k
ends_seam after_colon r h k = absurd (false≢true h)
ends_seam after_slash r h k = absurd (false≢true h)
ends_seam after_quote r h k = absurd (false≢true h)
ends_seam after_quote_c r h k = absurd (false≢true h)
ends_seam (in_comment a) r h k = absurd (false≢true h)

abbrev pub literal_ok : List ℕ → Bool
literal_ok a = all_sound (lex a) && ends (final between a)

pub lit : (s : String) → literal_ok (bytes s) ≡ true →
    Spells (end_of (final between (bytes s))) (bytes s) (λ ts. lex (bytes s) ++ ts)
lit s h =
    let a = bytes s in
    let q = both (all_sound (lex a)) (ends (final between a)) h in
    record { laid = λ ts r k d. literal a q.0 (ends_seam (final between a) r q.1 k) d }

-- ---- words

pub word_spells : (s : List ℕ) → well_formed (word s) ≡ true → Spells inside s (λ ts. word s ∷ ts)
word_spells s h = record { laid = λ ts r k d. token {t = word s} h k d }

pub name_spells : (s : List ℕ) → is_name s ≡ true → Spells inside s (λ ts. word s ∷ ts)
name_spells s h = word_spells s (name_word s h)

-- a name with a dollar behind it is one word
pub dollar_behind : {f : End} {a b : List ℕ} {ta tb : List Token → List Token} → Spells closed a ta → (s : List ℕ) →
    is_name s ≡ true → meets inside b f ≡ true → Spells f b tb →
    Spells f ((a ++ s) ++ (36 ∷ b)) (λ ts. ta (word (s ++ (36 ∷ [])) ∷ tb ts))
dollar_behind {f} {a} {b} {ta} {tb} p s h m q =
    rw (append_assoc a s (36 ∷ b)) (p ▷ record { laid = held })
  where
    held : (ts : List Token) (r : List ℕ) → clear f r ≡ true → Layout ts r →
        Layout (word (s ++ (36 ∷ [])) ∷ tb ts) ((s ++ (36 ∷ b)) ++ r)
    held ts r k d =
        rw (append_assoc s (36 ∷ b) r) (dollar_laid s h (meets_clear inside f b r m k) (q.laid ts r k d))
