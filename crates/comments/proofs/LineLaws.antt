-- Laws of the characters of a line: eight at once, eight by eight, and the last one.
use mathlib.Core.Path.{◌≡◌, refl}
use mathlib.Core.List.{List, [], ◌∷◌}
use mathlib.Core.Bool.{Bool, true, false, ◌&&◌}
use Prim.Native.Nat.{ℕ, ◌+◌, ◌-◌, ◌*◌, ◌/◌, ◌^◌, ◌<◌, ◌≤◌}
use native.Mathlib.Omega.{arith}
use lib.Dec.{eqb}
use lib.ListN.{length, get_or}
use lib.Bits.{bit_and, bit_or, bit_xor}
use lib.Seq.{get_or_at}
use Rattle.lexical.specs.Bytes.{within, every}
use Rattle.lexical.proofs.ByteLaws.{every_both}
use Rattle.lexical.proofs.LaneLaws.{agreed, lanes, score_lane, Apart, apart_self, apart_all, apart_and, apart_or}
use Rattle.lexical.proofs.LaneLaws.{apart_xor, apart_sum, lanes_pass}
use Rattle.refusal.specs.declared.Refusal.TheVariants.{CutSheet, BadComment}
use Rattle.format.specs.Decode.{got, pick}
use Rattle.format.specs.Bits.{bits_at, bits}
use Rattle.format.specs.Decoding.{line_ok, line}
use Rattle.cursor.specs.Checking.{Checks}
use Rattle.cursor.proofs.BitLaws.{bits_lt}
use Rattle.text.specs.Text.{chars_at}
use Rattle.text.proofs.CharLaws.{field_end, chars_split, chars_more, chars_in_lem, chars_length, chars_whole, chars_cut}
use Rattle.std.specs.Prelude.{Ok, Err}

-- the n characters at a position are those of a line
abbrev pub line_chars : List ℕ → ℕ → ℕ → Bool
line_chars s at n = every (within 32 126) (chars_at s at n)

-- what the code makes of the n lanes of x
unfoldable pub marks : ℕ → ℕ → ℕ
marks n x =
    let low = bit_and x (lanes n 63) in
    bit_and (bit_xor (bit_or (low + lanes n 32) x) (bit_and (low + lanes n 1) x)) (lanes n 64)

marks_apart : Apart marks
unfolding marks
marks_apart =
    let reach = apart_or (apart_sum 63 32 (omega arith)) apart_self in
    let last = apart_and (apart_sum 63 1 (omega arith)) apart_self in
    apart_and (apart_xor reach last) (apart_all 64 (omega arith))

-- a lane by itself: 64 for a character of a line, else 0
mark_is : (c : ℕ) → c < 128 → marks 1 c ≡ score_lane (within 32 126 c)
unfolding marks lanes
mark_is = agreed (marks 1) (λ c. score_lane (within 32 126 c)) 128 refl

module _ (s : List ℕ) where
  line_split : (at k n : ℕ) → line_chars s at (k + n) ≡ (line_chars s at k && line_chars s (at + 7 * k) n)
  line_split at k n =
      rw (chars_split s at k n) (every_both (within 32 126) (chars_at s at k) (chars_at s (at + 7 * k) n))

  -- at most eight characters
  pub few_lanes : (at n : ℕ) {x : ℕ} → x ≡ bits_at s at (7 * n) → n ≤ 8 →
      eqb (marks 8 x) (lanes 8 64 / 2 ^ (56 - 7 * n)) ≡ line_chars s at n
  unfolding marks lanes
  few_lanes at n {x} e l =
      let h : x < 2 ^ (7 * n) = rw e (bits_lt s at (7 * n)) in
      rw (chars_in_lem s at n, ← e) (lanes_pass (within 32 126) marks_apart refl refl mark_is n x l h)

  -- eight, and those behind them
  pub line_turn : (at : ℕ) {n : ℕ} (b : Bool) → 8 < n → line_chars s at 8 ≡ b →
      line_chars s at n ≡ (b && line_chars s (at + 56) (n - 8))
  line_turn at {n} b l e =
      let z : 8 + (n - 8) ≡ n = omega arith in
      rw (← e) (rw z at (line_split at 8 (n - 8)))

  -- ---- the last character

  pub chars_last : (at n : ℕ) → (n ≡ 0 → ⊥) →
      get_or (chars_at s at n) (length (chars_at s at n) - 1) 0 ≡ bits_at s (at + 7 * (n - 1)) 7
  chars_last at n h =
      let z : n - 1 + 1 ≡ n = omega arith in
      let v = bits_at s (at + 7 * (n - 1)) 7 in
      rw (chars_length s at n, rw z at (chars_more s at (n - 1)))
      (get_or_at (chars_at s at (n - 1)) v [] 0 (n - 1) (chars_length s at (n - 1)))

pub last_none : (w : List ℕ) → length w ≡ 0 → eqb (get_or w (length w - 1) 0) 92 ≡ false
last_none [] h = refl
last_none (x ∷ w) h = absurd (omega arith)

-- ---- a line whose length was read

module _ (s : List ℕ) (at : ℕ) {n m : ℕ} (q : bits 7 s at ≡ got n m) where
  pub line_short : 8 * length s < m + 7 * n → Checks (line s at) (Err CutSheet)
  unfolding line
  line_short h = rw (q, chars_cut s m n (field_end 7 s at q) h) record { step = refl }

  pub line_whole : (b : Bool) → m + 7 * n ≤ 8 * length s → line_ok (chars_at s m n) ≡ b →
      Checks (line s at) (pick b (Ok (record { at = m + 7 * n })) (Err BadComment))
  unfolding line
  line_whole true h e = rw (q, chars_whole s m n h, e) record { step = refl }
  line_whole false h e = rw (q, chars_whole s m n h, e) record { step = refl }
