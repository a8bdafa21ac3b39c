-- Laws of checkers that answer by one number: a position, or a refusal's number behind the last position.
use mathlib.Core.Path.{◌≡◌, refl, sym}
use mathlib.Core.List.{List}
use Prim.Native.Nat.{ℕ, ◌+◌, ◌-◌, ◌*◌, ◌<◌, ◌≤◌}
use native.Mathlib.Omega.{arith}
use lib.ListN.{length, get_or, get_or-eq_default}
use borrow.Author.Tests.{le-leb, lt-leb}
use Rattle.refusal.specs.declared.Refusal.{Refusal}
use Rattle.refusal.specs.declared.Refusal.TheVariants.{CutSheet, LooseIndex, BadKind, TooDeep, Overrun}
use Rattle.format.specs.Limits.{most_bits}
use Rattle.format.specs.Decode.{fault, got}
use Rattle.format.specs.Bits.{bits_at, bits}
use Rattle.cursor.specs.Checking.{Limited, Checks, refusals, refusal_of, step_in}
use Rattle.cursor.proofs.CheckLaws.{get_d_same}
use Rattle.std.specs.Prelude.{Ok, Err}

pub refusal_past : (n : ℕ) → 13 < n → Overrun ≡ refusal_of n
unfolding refusal_of
refusal_past n h = sym (get_or-eq_default refusals Overrun h)

pub refusal_at : (n : ℕ) (d : Refusal) → n ≤ 13 → get_or refusals n d ≡ refusal_of n
unfolding refusal_of
refusal_at n d h = get_d_same refusals n d Overrun (omega arith)

-- ---- what a number says

module _ {r : ℕ} where
  pub at_in : r ≤ most_bits → step_in r ≡ Ok (record { at = r })
  unfolding step_in
  at_in h = rw (le-leb r most_bits h)

  pub fault_in : most_bits < r → step_in r ≡ Err (refusal_of (r - most_bits))
  unfolding step_in
  fault_in h = rw (lt-leb r most_bits h)

pub cut_in : step_in 262145 ≡ Err CutSheet
unfolding step_in refusal_of
cut_in = refl

pub loose_in : step_in 262148 ≡ Err LooseIndex
unfolding step_in refusal_of
loose_in = refl

pub bad_in : step_in 262149 ≡ Err BadKind
unfolding step_in refusal_of
bad_in = refl

pub deep_in : step_in 262150 ≡ Err TooDeep
unfolding step_in refusal_of
deep_in = refl

-- ---- fields

module _ (n : ℕ) (s : List ℕ) (at : ℕ) where
  pub bits_cut : 8 * length s < at + n → bits n s at ≡ fault CutSheet
  unfolding bits
  bits_cut h = rw (lt-leb (at + n) (8 * length s) h)

  -- no field stands past a sheet's last position
  pub bits_past : Limited s → most_bits < at → bits n s at ≡ fault CutSheet
  bits_past l h = bits_cut (omega arith)

  pub bits_whole : {v : ℕ} → at + n ≤ 8 * length s → v ≡ bits_at s at n → bits n s at ≡ got v (at + n)
  unfolding bits
  bits_whole h e = rw (le-leb (at + n) (8 * length s) h, e)

  pub passes : Limited s → at + n ≤ 8 * length s → Checks (bits n s at) (step_in (at + n))
  passes l h = rw (at_in {r = at + n} (omega arith), bits_whole h refl) record { step = refl }

  pub passes_cut : 8 * length s < at + n → Checks (bits n s at) (step_in 262145)
  passes_cut h = rw (cut_in, bits_cut h) record { step = refl }
