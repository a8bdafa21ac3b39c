-- A number negated, as the machine's 64 bits hold it, and the number of an answer.
use mathlib.Core.Path.{◌≡◌, refl, sym, ap, ◌∙◌}
use mathlib.Core.List.{List}
use Prim.Native.Nat.{ℕ, zero, suc, ◌<◌, ◌^◌}
use native.Mathlib.Omega.{arith}
use lib.ListN.{length}
use lib.IntN.{ℤ, pos, neg_ℤ, ◌-ℤ◌, +ℤ_idl}
use mir.Syntax.{w64}
use mir.Val.{SFits, to_z, of_z}
use mir.Facts.{to_z_pos, to_z-of_z}
use Rattle.format.specs.Sheet.{Sheet}
use Rattle.std.specs.Prelude.{Result, Ok, Err}
use Rattle.refusal.specs.declared.Refusal.{Refusal}
use Rattle.services.specs.Services.{Serves, written_code}
use Rattle.struct_order.proofs.ServeLaws.{served_inside}
use Rattle.exports.specs.Codes.{Codes, length_of}

pub negated : (n : ℕ) → n < 2 ^ 63 → pos 0 -ℤ to_z w64 n ≡ neg_ℤ (pos n)
negated n h = rw (to_z_pos w64 h) (+ℤ_idl (neg_ℤ (pos n)))

negative_fits : (n : ℕ) → n < 2 ^ 63 → SFits w64 (neg_ℤ (pos n))
negative_fits zero h = record { sfits = omega arith }
negative_fits (suc n) h = record { sfits = omega arith }

pub negated_fits : (n : ℕ) → n < 2 ^ 63 → SFits w64 (pos 0 -ℤ to_z w64 n)
negated_fits n h = rw (negated n h) (negative_fits n h)

pub negated_read : (n : ℕ) → n < 2 ^ 63 → {k : ℕ} → n ≡ k → to_z w64 (of_z w64 (pos 0 -ℤ to_z w64 n)) ≡ neg_ℤ (pos k)
negated_read n h e = to_z-of_z (negated_fits n h) ∙ negated n h ∙ ap (λ (m : ℕ). neg_ℤ (pos m)) e

-- a call's number, as it is handed on
pub handed_on : {z y : ℤ} → SFits w64 z → z ≡ y → to_z w64 (of_z w64 z) ≡ y
handed_on k e = to_z-of_z k ∙ e

-- ---- the answer of a service that writes bytes

module _ {f : Sheet → List ℕ} {sheet buffer after : List ℕ} {w : Result ℕ Refusal} (v : Serves f sheet buffer w after) where
  pub serves_small : length buffer < 2 ^ 63 → length_of w < 2 ^ 63
  serves_small h = go w refl
    where
      go : (u : Result ℕ Refusal) → w ≡ u → length_of u < 2 ^ 63
      go (Ok n) e = omega (arith, served_inside v e)
      go (Err r) e = omega arith

  pub serves_code : {code : ℤ} → SFits w64 code → code ≡ written_code w →
      Codes f sheet buffer (to_z w64 (of_z w64 code)) after
  serves_code k e = record { answers = handed_on k (e ∙ ap written_code v.answers); leaves = v.leaves }

-- ---- a length as a number

module _ {w : Result ℕ Refusal} {n : ℕ} (e : w ≡ Ok n) (h : length_of w < 2 ^ 63) where
  small : n < 2 ^ 63
  small = omega (arith, ap length_of e)

  pub length_fits : SFits w64 (pos n)
  length_fits = record { sfits = omega (arith, small) }

  pub length_code : to_z w64 (of_z w64 (pos n)) ≡ written_code w
  length_code = to_z-of_z length_fits ∙ ap written_code (sym e)
