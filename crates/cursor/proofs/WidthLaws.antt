-- Laws of an index and its width.
use mathlib.Core.Path.{◌≡◌, refl}
use mathlib.Core.List.{List}
use mathlib.Core.Bool.{Bool, true, false}
use Prim.Native.Nat.{ℕ, zero, suc, ◌-◌, ◌/◌, ◌<◌, ◌≤◌}
use native.Mathlib.Omega.{arith}
use lib.Count.{count_leading_zeros, leading_le}
use lib.Dec.{ltb}
use borrow.Author.Tests.{ltb-true}
use Rattle.refusal.specs.declared.Refusal.TheVariants.{LooseIndex}
use Rattle.format.specs.Decode.{Got, fault, got, pick, after}
use Rattle.format.specs.Bits.{bits, bit_length, width_of, index}

bit_length_is : (k a : ℕ) → k - count_leading_zeros k a ≡ bit_length k a
unfolding count_leading_zeros bit_length
bit_length_is zero a = omega arith
bit_length_is (suc k) zero = omega arith
bit_length_is (suc k) (suc a) = omega (arith, leading_le k (suc a / 2), bit_length_is k (suc a / 2))

pub width_is : (n : ℕ) → 32 - count_leading_zeros 32 (n - 1) ≡ width_of n
unfolding width_of
width_is n = bit_length_is 32 (n - 1)

pub width_none : (n : ℕ) → n ≡ 0 → 0 ≡ width_of n
unfolding width_of bit_length
width_none n e = rw e

bit_length_le : (k a : ℕ) → bit_length k a ≤ k
unfolding bit_length
bit_length_le zero a = omega arith
bit_length_le (suc k) zero = omega arith
bit_length_le (suc k) (suc a) = omega (arith, bit_length_le k (suc a / 2))

pub width_le : (n : ℕ) {w : ℕ} → w ≡ width_of n → w ≤ 32
unfolding width_of
width_le n e = omega (arith, bit_length_le 32 (n - 1))

-- an index that the definition reads: its field, and that there is such an entry
module _ (n : ℕ) (s : List ℕ) (at : ℕ) {i m : ℕ} where
  pub index_field : index n s at ≡ got i m → bits (width_of n) s at ≡ got i m
  unfolding index
  index_field e = by_field (bits (width_of n) s at) e
    where
      by_test : (b : Bool) (v k : ℕ) → pick b (got v k) (fault LooseIndex) ≡ got i m → got v k ≡ got i m
      by_test true v k e = e
      by_test false v k e = absurd (let z : ◌≡◌ {A = ℕ} 0 1 = cc in omega arith)

      by_field : (p : Got ℕ) → after p (λ v k. pick (ltb v n) (got v k) (fault LooseIndex)) ≡ got i m → p ≡ got i m
      by_field (fault x) e = absurd (let z : ◌≡◌ {A = ℕ} 0 1 = cc in omega arith)
      by_field (got v k) e = by_test (ltb v n) v k e

  pub index_lt : index n s at ≡ got i m → i < n
  unfolding index
  index_lt e = by_test (ltb i n) refl (rw (index_field e) at e)
    where
      by_test : (b : Bool) → ltb i n ≡ b → pick b (got i m) (fault LooseIndex) ≡ got i m → i < n
      by_test true t e = ltb-true i n t
      by_test false t e = absurd (let z : ◌≡◌ {A = ℕ} 0 1 = cc in omega arith)
