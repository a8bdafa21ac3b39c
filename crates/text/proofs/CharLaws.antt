-- Laws of characters in a row: what they are to the decoder, and how they come out of the number of their bits.
use mathlib.Core.Path.{◌≡◌, refl, sym, ap, ◌∙◌}
use mathlib.Core.List.{List, [], ◌∷◌, ◌++◌}
use mathlib.Core.Bool.{Bool, true, false}
use Prim.Native.Nat.{ℕ, zero, suc, ◌+◌, ◌-◌, ◌*◌, ◌/◌, ◌%◌, ◌^◌, ◌<◌, ◌≤◌}
use native.Mathlib.Omega.{arith}
use native.Mathlib.Numerals.{add-one}
use lib.Dec.{leb}
use lib.ListN.{length, take, set, length-set}
use lib.Pow.{high, low}
use lib.Seq.{take-suc-set, take-take, take_at}
use borrow.Author.Tests.{leb-true, leb-false}
use Rattle.lexical.specs.Bytes.{chars_in}
use Rattle.refusal.specs.declared.Refusal.TheVariants.{CutSheet}
use Rattle.format.specs.Decode.{fault, got, pick, many}
use Rattle.format.specs.Bits.{bits_at, bits}
use Rattle.cursor.specs.declared.Cursor.{Cursor}
use Rattle.cursor.specs.Checking.{Fills}
use Rattle.cursor.proofs.BitLaws.{bits_split, bits_lt}
use Rattle.cursor.proofs.CodeLaws.{bits_cut, bits_whole}
use Rattle.text.specs.Text.{chars_at, Holds}
use Rattle.std.specs.Prelude.{Ok, Err}

-- a character out of a longer run, d bits of which stand behind it
pub char_in : (s : List ℕ) (p r d : ℕ) {n q x : ℕ} → x ≡ bits_at s p n → n ≡ r + 7 + d → q ≡ p + r →
    x / 2 ^ d % 128 ≡ bits_at s q 7
char_in s p r d e h l =
    rw (
      e,
      h,
      l,
      bits_split s p (r + 7) d,
      high (bits_at s p (r + 7)) d (bits_lt s (p + (r + 7)) d),
      bits_split s p r 7,
      low (bits_at s p r) 7 (bits_lt s (p + r) 7),
    )

-- a field that was read ends in the sheet
pub field_end : (w : ℕ) (s : List ℕ) (at : ℕ) {v m : ℕ} → bits w s at ≡ got v m → m ≤ 8 * length s
unfolding bits
field_end w s at {v} {m} e = by_test (leb (at + w) (8 * length s)) refl e
  where
    by_test : (b : Bool) → leb (at + w) (8 * length s) ≡ b →
        pick b (got (bits_at s at w) (at + w)) (fault CutSheet) ≡ got v m → m ≤ 8 * length s
    by_test true t e = let z : at + w ≡ m = cc in rw (← z) (leb-true (at + w) (8 * length s) t)
    by_test false t e = absurd (let z : ◌≡◌ {A = ℕ} 0 1 = cc in omega arith)

module _ (s : List ℕ) where
  pub chars_split : (at k n : ℕ) → chars_at s at (k + n) ≡ chars_at s at k ++ chars_at s (at + 7 * k) n
  unfolding chars_at
  chars_split at zero n =
      let z : 0 + n ≡ n = omega arith in
      let y : at + 7 * 0 ≡ at = omega arith in
      rw (z, y)
  chars_split at (suc k) n =
      let z : suc k + n ≡ suc (k + n) = omega arith in
      let y : at + 7 * suc k ≡ at + 7 + 7 * k = omega arith in
      rw (z, y, chars_split (at + 7) k n)

  pub chars_more : (at n : ℕ) → chars_at s at (n + 1) ≡ chars_at s at n ++ (bits_at s (at + 7 * n) 7 ∷ [])
  unfolding chars_at
  chars_more at n = chars_split at n 1

  -- they are those that stand in the number of their bits
  pub chars_in_lem : (at n : ℕ) → chars_at s at n ≡ chars_in n (bits_at s at (7 * n))
  unfolding chars_at chars_in
  chars_in_lem at zero = refl
  chars_in_lem at (suc n) =
      let z : 7 * suc n ≡ 7 * n + 7 = omega arith in
      let h = bits_lt s (at + 7 * n) 7 in
      rw (
        rw (add-one n) at (chars_more at n),
        z,
        bits_split s at (7 * n) 7,
        high (bits_at s at (7 * n)) 7 h,
        low (bits_at s at (7 * n)) 7 h,
        chars_in_lem at n,
      )

  pub chars_length : (at n : ℕ) → length (chars_at s at n) ≡ n
  unfolding chars_at
  chars_length at zero = refl
  chars_length at (suc n) = ap suc (chars_length (at + 7) n)

  -- ---- the decoder of n characters

  pub chars_whole : (at n : ℕ) → at + 7 * n ≤ 8 * length s → many n (bits 7) s at ≡ got (chars_at s at n) (at + 7 * n)
  unfolding many chars_at
  chars_whole at zero h = let y : at + 7 * 0 ≡ at = omega arith in rw y
  chars_whole at (suc n) h =
      let y : at + 7 * suc n ≡ at + 7 + 7 * n = omega arith in
      rw (bits_whole 7 s at (omega arith) refl, y, chars_whole (at + 7) n (omega arith))

  pub chars_cut : (at n : ℕ) → at ≤ 8 * length s → 8 * length s < at + 7 * n → many n (bits 7) s at ≡ fault CutSheet
  unfolding many
  chars_cut at zero h l = absurd (omega arith)
  chars_cut at (suc n) h l = by_first (λ y. chars_cut (at + 7) n y (omega arith)) (leb (at + 7) (8 * length s)) refl
    where
      by_first : (at + 7 ≤ 8 * length s → many n (bits 7) s (at + 7) ≡ fault CutSheet) → (b : Bool) →
          leb (at + 7) (8 * length s) ≡ b → many (suc n) (bits 7) s at ≡ fault CutSheet
      by_first ih true t =
          let y = leb-true (at + 7) (8 * length s) t in
          rw (bits_whole 7 s at y refl, ih y)
      by_first ih false t = rw (bits_cut 7 s at (leb-false (at + 7) (8 * length s) t))

  -- the n characters at c stand in the front of b
  pub fills_whole : (c : Cursor) (n : ℕ) {b : List ℕ} {m : ℕ} → c.at + 7 * n ≤ 8 * length s → m ≡ c.at + 7 * n →
      Holds s c.at n b → Fills (many n (bits 7) s c.at) (Ok (record { at = m })) n b
  fills_whole c n l e h = record { filled = rw (chars_whole c.at n l, e, h.chars) }

  pub fills_cut : (c : Cursor) (n : ℕ) {b : List ℕ} → c.at ≤ 8 * length s → 8 * length s < c.at + 7 * n →
      Fills (many n (bits 7) s c.at) (Err CutSheet) n b
  fills_cut c n h l = record { filled = chars_cut c.at n h l }

  -- ---- characters that are put into a buffer

  module _ (at : ℕ) where
    pub hold_none : (b : List ℕ) → Holds s at 0 b
    unfolding chars_at
    hold_none b = record { chars = refl }

    -- one more
    pub hold_next : {i j q x : ℕ} {b : List ℕ} → Holds s at i b → i < length b → q ≡ at + 7 * i → x ≡ bits_at s q 7 →
        j ≡ i + 1 → Holds s at j (set b i x)
    hold_next {i} {j} {q} {x} {b} h l p e n = record {
      chars = rw (n, chars_more at i, ← p, ← e, ← h.chars, add-one) (take-suc-set b i x l);
    }

    -- the first k of i
    pub hold_less : {i : ℕ} (k : ℕ) {b : List ℕ} → Holds s at i b → k ≤ i → Holds s at k b
    hold_less {i} k {b} h l =
        let z : k + (i - k) ≡ i = omega arith in
        let c = rw z at (chars_split at k (i - k)) in
        record {
          chars = sym (take-take k i b l) ∙ ap (take k) (h.chars ∙ c) ∙
              take_at (chars_at s at k) (chars_at s (at + 7 * k) (i - k)) k (chars_length at k);
        }

    -- eight more, one by one, in a buffer of n bytes
    record Put (n j : ℕ) (b : List ℕ) : Type 0 where
      long : length b ≡ n
      holds : Holds s at j b

    put_next : (i k d : ℕ) {j m x y n : ℕ} {b : List ℕ} → x ≡ bits_at s (at + 7 * i) 56 → i + 8 ≤ n → y ≡ x / 2 ^ d % 128 →
        7 * k + 7 + d ≡ 56 → j ≡ i + k → m ≡ j + 1 → Put n j b → Put n m (set b j y)
    put_next i k d {j} {y} {b} e l v z q w p = record {
      long = length-set b j y ∙ p.long;
      holds = hold_next p.holds (omega (arith, p.long)) refl
          (v ∙ char_in s (at + 7 * i) (7 * k) d e (sym z) (omega arith)) w;
    }

    pub hold_eight : (i : ℕ) {x₀ x₁ x₂ x₃ x₄ x₅ x₆ x₇ x : ℕ} {b : List ℕ} → x ≡ bits_at s (at + 7 * i) 56 →
        i + 8 ≤ length b → Holds s at i b → x₀ ≡ x / 2 ^ 49 % 128 → x₁ ≡ x / 2 ^ 42 % 128 → x₂ ≡ x / 2 ^ 35 % 128 →
        x₃ ≡ x / 2 ^ 28 % 128 → x₄ ≡ x / 2 ^ 21 % 128 → x₅ ≡ x / 2 ^ 14 % 128 → x₆ ≡ x / 2 ^ 7 % 128 →
        x₇ ≡ x / 2 ^ 0 % 128 → Holds s at (i + 8)
        (set (set (set (set (set (set (set (set b i x₀) (i + 1) x₁) (i + 2) x₂) (i + 3) x₃) (i + 4) x₄) (i + 5) x₅)
        (i + 6) x₆) (i + 7) x₇)
    hold_eight i {x₀} {x₁} {x₂} {x₃} {x₄} {x₅} {x₆} {x₇} {b} e l h e₀ e₁ e₂ e₃ e₄ e₅ e₆ e₇ =
        let b₇ = set (set (set (set (set (set (set b i x₀) (i + 1) x₁) (i + 2) x₂) (i + 3) x₃) (i + 4) x₄) (i + 5) x₅)
        (i + 6) x₆ in
        let p : Put (length b) (i + 8) (set b₇ (i + 7) x₇) =
        put_next i 7 0 e l e₇ refl refl (omega arith) (put_next i 6 7 e l e₆ refl refl (omega arith)
        (put_next i 5 14 e l e₅ refl refl (omega arith) (put_next i 4 21 e l e₄ refl refl (omega arith)
        (put_next i 3 28 e l e₃ refl refl (omega arith) (put_next i 2 35 e l e₂ refl refl (omega arith)
        (put_next i 1 42 e l e₁ refl refl (omega arith) (put_next i 0 49 e l e₀ refl (omega arith) refl
        record { long = refl; holds = h }))))))) in
        p.holds
