-- Laws of the name rule.
use mathlib.Core.Path.{◌≡◌, refl, ap, ◌∙◌, sym}
use mathlib.Core.List.{List, [], ◌∷◌, ◌++◌, append_assoc}
use mathlib.Core.Bool.{Bool, true, false, not, false≢true}
use Prim.Native.Nat.{ℕ, zero, suc, ◌<◌, ◌≤◌}
use native.Mathlib.Omega.{arith}
use lib.ListN.{length}
use Rattle.lexical.specs.Bytes.{every, same, member}
use Rattle.lexical.specs.Names.{name_start, name_char, starts, name_shape, name_ok, keywords, added_keywords}
use Rattle.lexical.specs.Names.{keywords20, alternative_tokens, reserved, table_of, Covers, is_name, reserved_shape}
use Rattle.lexical.specs.Names.{sheet_name}
use Rattle.lexical.proofs.BoolLaws.{both, and_of, not-true, fails_too, by_cases}
use Rattle.lexical.proofs.ByteLaws.{same_eq, member_append_left}

-- the standards' tables have 73, 81 and 11 words
pub keyword_count : length keywords ≡ 73
unfolding keywords
keyword_count = refl

pub keyword_count_20 : length keywords20 ≡ 81
unfolding keywords added_keywords keywords20
keyword_count_20 = refl

pub alternative_count : length alternative_tokens ≡ 11
unfolding alternative_tokens
alternative_count = refl

pub name_shape_lem : (table : List (List ℕ)) (s : List ℕ) → name_ok table s ≡ true → name_shape s ≡ true
unfolding name_ok
name_shape_lem table s h = (both (name_shape s) (not (member s table)) h).0

pub name_free : (table : List (List ℕ)) (s : List ℕ) → name_ok table s ≡ true → member s table ≡ false
unfolding name_ok
name_free table s h = not-true (member s table) (both (name_shape s) (not (member s table)) h).1

pub name_starts : (table : List (List ℕ)) (s : List ℕ) → name_ok table s ≡ true → starts name_start s ≡ true
unfolding name_shape
name_starts table s h = (both (starts name_start s) (every name_char s) (name_shape_lem table s h)).0

pub name_chars : (table : List (List ℕ)) (s : List ℕ) → name_ok table s ≡ true → every name_char s ≡ true
unfolding name_shape
name_chars table s h = (both (starts name_start s) (every name_char s) (name_shape_lem table s h)).1

pub sheet_name_free : (table : List (List ℕ)) (s : List ℕ) → sheet_name table s ≡ true → reserved_shape s ≡ false
unfolding sheet_name
sheet_name_free table s h = not-true (reserved_shape s) (both (name_ok table s) (not (reserved_shape s)) h).1

-- a table with all words of edition 1 forbids no less: what is a name by it is a name of edition 1, and by the base rule
module _ (table : List (List ℕ)) (covers : Covers table) (s : List ℕ) (h : sheet_name table s ≡ true) where
  pub sheet_name_base : is_name s ≡ true
  unfolding name_ok sheet_name
  sheet_name_base =
      let q = (both (name_ok table s) (not (reserved_shape s)) h).0 in
      and_of (name_shape s) (not (member s reserved)) (name_shape_lem table s q)
      (rw (fails_too (member s reserved) (member s table) (covers s) (name_free table s q)))

  pub sheet_name_older : sheet_name reserved s ≡ true
  unfolding sheet_name
  sheet_name_older =
      and_of (name_ok reserved s) (not (reserved_shape s)) sheet_name_base (rw (sheet_name_free table s h))

-- ---- editions

-- the table of an edition is that of edition 1, below 2, or else that of edition 2
pub table_first : (e : ℕ) → e < 2 → table_of e ≡ reserved
unfolding reserved table_of
table_first zero h = refl
table_first (suc zero) h = refl
table_first (suc (suc e)) h = absurd (omega arith)

pub table_later : (e : ℕ) → 2 ≤ e → table_of e ≡ table_of 2
unfolding table_of
table_later zero h = absurd (omega arith)
table_later (suc zero) h = absurd (omega arith)
table_later (suc (suc e)) h = refl

-- what both tables keep, the table of every edition keeps
pub by_edition : (P : List (List ℕ) → Type 0) → P reserved → P (table_of 2) → (e : ℕ) → P (table_of e)
unfolding reserved table_of
by_edition P p q zero = p
by_edition P p q (suc zero) = p
by_edition P p q (suc (suc e)) = q

pub edition_covers : (e : ℕ) → Covers (table_of e)
unfolding reserved table_of keywords20
edition_covers = by_edition Covers (λ w h. h)
    (λ w h. rw (sym (append_assoc alternative_tokens keywords added_keywords))
    (member_append_left w (alternative_tokens ++ keywords) added_keywords h))

-- the reserved words are made of name characters
pub reserved_chars : every (λ word. every name_char word) reserved ≡ true
unfolding every keywords alternative_tokens reserved
reserved_chars = refl

-- what is not made of them is no word of such a table
pub unlike_table : (test : ℕ → Bool) (table : List (List ℕ)) (s : List ℕ) → every (λ word. every test word) table ≡ true →
    every test s ≡ false → member s table ≡ false
unfolding every member
unlike_table test [] s h f = refl
unlike_table test (word ∷ table) s h f =
    let q = both (every test word) (every (λ word. every test word) table) h in
    by_cases (same s word)
    (λ e. absurd (false≢true (sym f ∙ ap (every test) (same_eq s word e) ∙ q.0)))
    (λ e. rw e (unlike_table test table s q.1 f))
