-- Comment lines are spelled as comments, and keep their line.
use Rattle.std.proofs.Common.{◌≡◌, ℕ, suc, ◌+◌, ◌-◌, ◌≤◌, Bool, true, false, not, ◌&&◌, eqb, leb, List, [], ◌∷◌, ◌++◌, map, length, get_or, refl, ◌∙◌, append_assoc, arith, length-append, eqb-true, le-leb, leb-true}
use mathlib.Core.Bool.{false≢true}
use lib.ListN.{length-map}
use Rattle.lexical.specs.Bytes.{bytes, every, within}
use Rattle.lexical.specs.Decimal.{pick_text}
use Rattle.lexical.proofs.BoolLaws.{both, and_of, by_cases, not-true}
use Rattle.lexical.proofs.ByteLaws.{byte_eq, every_cons, every_append, every_weaken}
use Rattle.format.specs.Decode.{pick}
use Rattle.format.specs.Decoding.{line_ok}
use Rattle.decoded.specs.Fits.{comment_fits}
use Rattle.bridge.specs.Write.{write_doc}
use Rattle.grammar.specs.Token.{comment}
use Rattle.grammar.specs.Layout.{ends_in, in_line, well_formed, blank, token}
use Rattle.grammar.specs.Tokens.{each_tokens, comment_tokens}
use Rattle.grammar.specs.Rules.{comments_ok}
use Rattle.spelling.specs.ShimTree.{comments_of}
use Rattle.spelling.proofs.Spells.{closed, Spells, ◌▷◌, as_tokens, empty}
use Rattle.spelling.proofs.Lists.{each_tokens_append, gather_map_spells}

-- ---- one line

last_char : (c : ℕ) (cs : List ℕ) → ends_in 92 (c ∷ cs) ≡ eqb (get_or (c ∷ cs) (length cs) 0) 92
last_char c [] = refl
last_char c (d ∷ cs) = last_char d cs

-- the last character is no backslash
no_splice : (cs : List ℕ) → eqb (get_or cs (length cs - 1) 0) 92 ≡ false → ends_in 92 cs ≡ false
no_splice [] h = refl
no_splice (c ∷ cs) h =
    let e : suc (length cs) - 1 ≡ length cs = omega arith in
    last_char c cs ∙ rw e at h

in_line_lem : (c : ℕ) → within 32 126 c ≡ true → in_line c ≡ true
in_line_lem c h =
    by_cases (eqb c 10) (λ e. absurd (false≢true (rw (byte_eq c 10 e) at h))) (λ e. rw e)

slash_line : (cs : List ℕ) → well_formed (comment cs) ≡ true → well_formed (comment (47 ∷ cs)) ≡ true
unfolding every
slash_line [] h = refl
slash_line (c ∷ cs) h = h

comment_ok : (doxygen : Bool) (cs : List ℕ) → comment_fits cs ≡ true →
    well_formed (comment (pick doxygen (47 ∷ cs) cs)) ≡ true
unfolding comment_fits line_ok
comment_ok doxygen cs h = go doxygen
  where
    plain : well_formed (comment cs) ≡ true
    plain =
        let q = both (leb (length cs) 127) _ h in
        let p = both (every (within 32 126) cs) _ q.1 in
        and_of (every in_line cs) (not (ends_in 92 cs)) (every_weaken (within 32 126) in_line in_line_lem cs p.0)
        (rw (no_splice cs (not-true (eqb (get_or cs (length cs - 1) 0) 92) p.1)))

    go : (doxygen : Bool) → well_formed (comment (pick doxygen (47 ∷ cs) cs)) ≡ true
    go true = slash_line cs plain
    go false = plain

-- a comment takes the rest of its line
line_spells : (s : List ℕ) → well_formed (comment s) ≡ true →
    Spells closed (bytes "//" ++ s ++ bytes "\n") (comment_tokens s)
line_spells s h =
    record {
      laid =
          λ ts r k d. rw (append_assoc (bytes "//" ++ s) (bytes "\n") r) (token {t = comment s} h refl (blank refl d));
    }

-- ---- all lines

module _ (doxygen : Bool) where
  abbrev comment_of : List ℕ → List ℕ
  comment_of cs = pick doxygen (47 ∷ cs) cs

  abbrev line_of : List ℕ → List ℕ
  line_of cs = pick_text doxygen (bytes "///") (bytes "//") ++ cs ++ bytes "\n"

comment_spells : (doxygen : Bool) (cs : List ℕ) → comment_fits cs ≡ true →
    Spells closed (line_of doxygen cs) (comment_tokens (comment_of doxygen cs))
comment_spells true cs h = line_spells (47 ∷ cs) (comment_ok true cs h)
comment_spells false cs h = line_spells cs (comment_ok false cs h)

extra_spells : (b : Bool) →
    Spells closed (pick_text b (bytes "///\n") []) (each_tokens comment_tokens (pick b (bytes "/" ∷ []) []))
unfolding every
extra_spells true = line_spells (bytes "/") refl
extra_spells false = empty

pub doc_spells : (doxygen : Bool) (lines : List (List ℕ)) → every comment_fits lines ≡ true →
    Spells closed (write_doc doxygen lines) (each_tokens comment_tokens (comments_of doxygen lines))
unfolding write_doc comments_of
doc_spells doxygen lines h =
    as_tokens (each_tokens_append comment_tokens (map (comment_of doxygen) lines) _)
    (gather_map_spells comment_tokens comment_fits (line_of doxygen) (comment_of doxygen) (comment_spells doxygen) lines h
    ▷ extra_spells (doxygen && eqb (length lines) 1))

-- ---- limits

short : (doxygen : Bool) (cs : List ℕ) → comment_fits cs ≡ true → leb (length (comment_of doxygen cs)) 128 ≡ true
unfolding comment_fits
short doxygen cs h = go doxygen
  where
    l : length cs ≤ 127
    l = leb-true (length cs) 127 (both (leb (length cs) 127) _ h).0

    go : (doxygen : Bool) → leb (length (comment_of doxygen cs)) 128 ≡ true
    go true = le-leb (suc (length cs)) 128 (omega (arith, l))
    go false = le-leb (length cs) 128 (omega (arith, l))

all_short : (doxygen : Bool) (lines : List (List ℕ)) → every comment_fits lines ≡ true →
    every (λ s. leb (length s) 128) (map (comment_of doxygen) lines) ≡ true
unfolding every
all_short doxygen [] h = refl
all_short doxygen (cs ∷ lines) h =
    let q = every_cons comment_fits cs lines h in rw (short doxygen cs q.0) (all_short doxygen lines q.1)

pub comments_ok_lem : (doxygen : Bool) (lines : List (List ℕ)) → leb (length lines) 31 ≡ true →
    every comment_fits lines ≡ true → comments_ok (comments_of doxygen lines) ≡ true
unfolding every comments_ok comments_of
comments_ok_lem doxygen lines l h =
    by_cases (doxygen && eqb (length lines) 1)
    (λ e. let one : length lines ≡ 1 = eqb-true (length lines) 1 (both doxygen (eqb (length lines) 1) e).1 in
    rw e (go (bytes "/" ∷ []) refl (omega arith)))
    (λ e. let few : length lines ≤ 31 = leb-true (length lines) 31 l in rw e (go [] refl (omega arith)))
  where
    go : (extra : List (List ℕ)) → every (λ s. leb (length s) 128) extra ≡ true → length lines + length extra ≤ 31 →
        (leb (length (map (comment_of doxygen) lines ++ extra)) 31 &&
        every (λ s. leb (length s) 128) (map (comment_of doxygen) lines ++ extra)) ≡ true
    go extra g few =
        let all = map (comment_of doxygen) lines ++ extra in
        and_of (leb (length all) 31) _
        (le-leb (length all) 31
        (omega (arith, length-append (map (comment_of doxygen) lines) extra, length-map lines (comment_of doxygen))))
        (every_append (λ s. leb (length s) 128) (map (comment_of doxygen) lines) extra (all_short doxygen lines h) g)
