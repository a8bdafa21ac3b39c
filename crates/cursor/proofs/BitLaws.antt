-- Laws of the bits of a list of bytes.
use mathlib.Core.Path.{◌≡◌, sym, ap, ◌∙◌}
use mathlib.Core.List.{List}
use Prim.Native.Nat.{ℕ, zero, suc, ◌+◌, ◌-◌, ◌*◌, ◌/◌, ◌%◌, ◌^◌, ◌<◌, ◌≤◌}
use native.Mathlib.Nat.{mul_assoc, mul_comm, one-mul, mod-one, pow-suc}
use native.Mathlib.Omega.{arith}
use lib.ListN.{get_or}
use lib.Pow.{high, low, pow_pos, pow_mono, shr-shr, mod-pow-add, shl_exact}
use Rattle.format.specs.Bits.{bit_at, bits_at}

-- the value of m + k bits: that of the first m, then that of the k behind them
pub bits_split : (s : List ℕ) (at m k : ℕ) → bits_at s at (m + k) ≡ bits_at s at m * 2 ^ k + bits_at s (at + m) k
unfolding bits_at
bits_split s at m zero =
    let z : m + 0 ≡ m = omega arith in
    rw z (omega arith)
bits_split s at m (suc k) =
    let z : m + suc k ≡ suc (m + k) = omega arith in
    let y : at + (m + k) ≡ at + m + k = omega arith in
    let p : bits_at s at m * 2 ^ suc k ≡ 2 * (bits_at s at m * 2 ^ k) =
    ap (λ (x : ℕ). bits_at s at m * x) (pow-suc 2 k) ∙ sym (mul_assoc (bits_at s at m) (2 ^ k) 2) ∙
    mul_comm (bits_at s at m * 2 ^ k) 2 in
    rw (z, p, y) (omega (arith, bits_split s at m k))

-- bits of one byte
bits_part : (s : List ℕ) (p k : ℕ) → p % 8 + k ≤ 8 →
    bits_at s p k ≡ get_or s (p / 8) 0 / 2 ^ (8 - (p % 8 + k)) % 2 ^ k
unfolding bits_at bit_at
bits_part s p zero h = sym (mod-one (get_or s (p / 8) 0 / 2 ^ (8 - (p % 8 + 0))))
bits_part s p (suc k) h =
    let b = get_or s (p / 8) 0 in
    let e = 8 - (p % 8 + suc k) in
    let byte : (p + k) / 8 ≡ p / 8 = omega arith in
    let bit : 7 - (p + k) % 8 ≡ e = omega arith in
    let up : 8 - (p % 8 + k) ≡ e + 1 = omega arith in
    let one : suc k ≡ k + 1 = omega arith in
    let ih = rw up at (bits_part s p k (omega arith)) in
    let sh = shr-shr b e 1 in
    let mp = mod-pow-add (b / 2 ^ e) k 1 in
    rw (ih, byte, bit, ← sh) (let g = rw (← one) at mp in omega (arith, g))

pub bits_lt : (s : List ℕ) (at n : ℕ) → bits_at s at n < 2 ^ n
unfolding bits_at bit_at
bits_lt s at zero = omega arith
bits_lt s at (suc n) = omega (arith, bits_lt s at n, pow-suc 2 n)

-- ---- the window

-- n bits, read out of a longer run that starts r bits before them and ends d bits behind them
bits_within : (s : List ℕ) (p r n d : ℕ) → bits_at s p (r + n + d) / 2 ^ d % 2 ^ n ≡ bits_at s (p + r) n
bits_within s p r n d =
    rw (
      bits_split s p (r + n) d,
      high (bits_at s p (r + n)) d (bits_lt s (p + (r + n)) d),
      bits_split s p r n,
      low (bits_at s p r) n (bits_lt s (p + r) n),
    )

abbrev IsByte : List ℕ → ℕ → ℕ → Type 0
IsByte s b x = (x ≡ get_or s b 0) × (x < 256)

byte_is : (s : List ℕ) (b : ℕ) {x : ℕ} → (x ≡ get_or s b 0) × (x < 256) → bits_at s (8 * b) 8 ≡ x
byte_is s b {x} h =
    let z : 8 * b / 8 ≡ b = omega arith in
    let y : 8 * b % 8 ≡ 0 = omega arith in
    let g = rw (z, y, ← h.0) at (bits_part s (8 * b) 8 (omega arith)) in
    omega (arith, g, h.1)

byte_next : (s : List ℕ) (b k : ℕ) {x y : ℕ} → (x ≡ get_or s b 0) × (x < 256) → y ≡ bits_at s (8 * (b + 1)) k →
    x * 2 ^ k + y ≡ bits_at s (8 * b) (8 + k)
byte_next s b k {x} {y} h e =
    let z : 8 * (b + 1) ≡ 8 * b + 8 = omega arith in
    rw (bits_split s (8 * b) 8 k, byte_is s b h, ← z, e)

pub word_is : (s : List ℕ) (b : ℕ) {b0 b1 b2 b3 b4 b5 b6 b7 r : ℕ} → IsByte s b b0 → IsByte s (b + 1) b1 →
    IsByte s (b + 2) b2 → IsByte s (b + 3) b3 → IsByte s (b + 4) b4 → IsByte s (b + 5) b5 → IsByte s (b + 6) b6 →
    IsByte s (b + 7) b7 → r ≡ b0 * 72057594037927936 + (b1 * 281474976710656 + (b2 * 1099511627776 + (b3 * 4294967296 +
    (b4 * 16777216 + (b5 * 65536 + (b6 * 256 + b7)))))) → r ≡ bits_at s (8 * b) 64
word_is s b h0 h1 h2 h3 h4 h5 h6 h7 e =
    let e1 : b + 1 + 1 ≡ b + 2 = omega arith in
    let e2 : b + 2 + 1 ≡ b + 3 = omega arith in
    let e3 : b + 3 + 1 ≡ b + 4 = omega arith in
    let e4 : b + 4 + 1 ≡ b + 5 = omega arith in
    let e5 : b + 5 + 1 ≡ b + 6 = omega arith in
    let e6 : b + 6 + 1 ≡ b + 7 = omega arith in
    e ∙ byte_next s b 56 h0 (byte_next s (b + 1) 48 h1 (rw e1 (byte_next s (b + 2) 40 h2 (rw e2
    (byte_next s (b + 3) 32 h3 (rw e3 (byte_next s (b + 4) 24 h4 (rw e4 (byte_next s (b + 5) 16 h5 (rw e5
    (byte_next s (b + 6) 8 h6 (rw e6 (sym (byte_is s (b + 7) h7))))))))))))))

-- ---- a field out of the word

one_shifted : (n : ℕ) → n ≤ 57 → (1 * 2 ^ n) % 2 ^ 64 ≡ 2 ^ n
one_shifted n h = shl_exact {a = 1} 1 n 64 (omega arith) (omega arith) ∙ one-mul (2 ^ n)

pub shl_pos : (n : ℕ) → n ≤ 57 → 0 < (1 * 2 ^ n) % 2 ^ 64
shl_pos n h = rw (one_shifted n h) (pow_pos n)

-- the word begins r bits before the field
pub extract_is : (s : List ℕ) (p at n d : ℕ) {w : ℕ} → n ≤ 57 → w ≡ bits_at s p 64 → p ≤ at → at + n + d ≡ p + 64 →
    (w / 2 ^ d) % ((1 * 2 ^ n) % 2 ^ 64) ≡ bits_at s at n
extract_is s p at n d {w} h e l q =
    let r = at - p in
    let z : 64 ≡ r + n + d = omega arith in
    let y : p + r ≡ at = omega arith in
    let g = rw y at (bits_within s p r n d) in
    rw (one_shifted n h, e) (ap (λ (k : ℕ). bits_at s p k / 2 ^ d % 2 ^ n) z ∙ g)

pub extract_fits : (s : List ℕ) (at n : ℕ) → n ≤ 32 → bits_at s at n < 2 ^ 32
extract_fits s at n h = omega (arith, bits_lt s at n, pow_mono h)

-- ---- bit by bit

pub bits_none : (s : List ℕ) (at n : ℕ) → n ≡ 0 → 0 ≡ bits_at s at n
unfolding bits_at
bits_none s at n h = rw h

pub bits_more : (s : List ℕ) (at i : ℕ) {v b : ℕ} → v ≡ bits_at s at i → b ≡ bit_at s (at + i) →
    2 * v + b ≡ bits_at s at (i + 1)
unfolding bits_at
bits_more s at i e h = let z : i + 1 ≡ suc i = omega arith in rw (z, e, h)

pub bits_short : (s : List ℕ) (at i : ℕ) {v : ℕ} → v ≡ bits_at s at i → i ≤ 57 → v < 2 ^ 57
bits_short s at i e h = omega (arith, bits_lt s at i, pow_mono h)

pub bits_all : (s : List ℕ) (at : ℕ) {i n v : ℕ} → v ≡ bits_at s at i → i ≡ n → v ≡ bits_at s at n
bits_all s at e h = rw (← h) e
