-- What holds of an accepted sheet, and of each of its items.
use mathlib.Core.Path.{◌≡◌, refl, sym, ◌∙◌}
use mathlib.Core.List.{List}
use mathlib.Core.Bool.{Bool, true, false}
use Prim.Native.Nat.{ℕ, ◌*◌}
use native.Mathlib.Omega.{arith}
use lib.Dec.{leb}
use lib.ListN.{length}
use Rattle.lexical.specs.Bytes.{within}
use Rattle.lexical.specs.Names.{table_of, sheet_name}
use Rattle.refusal.specs.declared.Refusal.{Refusal}
use Rattle.refusal.specs.declared.Refusal.TheVariants.{CutSheet, Edition, WrongPart, Taken, UnfitArgument, Ring}
use Rattle.format.specs.Limits.{last_edition, most_bytes}
use Rattle.format.specs.Decode.{Got, fault, got, pick}
use Rattle.format.specs.Sheet.{Sheet}
use Rattle.format.specs.Decoding.{edition_of, decode}
use Rattle.rules.specs.Rules.{wrong_part, taken, unfit_argument, ring}
use Rattle.rules.specs.Judge.{Judged, refused, accepted, ruled, judged, judge}
use Rattle.decoded.specs.Fits.{sheet_fits}
use Rattle.decoded.specs.Names.{names_keep}
use Rattle.decoded.specs.Editions.{SameButEdition}
use Rattle.decoded.proofs.Extends.{same_refl}
use Rattle.decoded.proofs.Decoded.{decode_edition, decode_other, decode_keeps, behind_same, decode_older}

pub record Accepted (s : List ℕ) (x : Sheet) : Type 0 where
  pub next : ℕ
  pub edition : within 1 last_edition (edition_of s) ≡ true
  pub decoded : decode s ≡ got x next
  pub fits : sheet_fits x ≡ true
  pub names : names_keep (sheet_name (table_of (edition_of s))) x.items ≡ true
  pub right_parts : wrong_part x.items ≡ false
  pub not_taken : taken x.items ≡ false
  pub fit_arguments : unfit_argument x.items ≡ false
  pub no_ring : ring x.items ≡ false

pick_accepted : {x : Sheet} (b : Bool) (e : Refusal) (j : Judged) → pick b (refused e) j ≡ accepted x →
    (b ≡ false) × (j ≡ accepted x)
pick_accepted true e j q = absurd (let z : ◌≡◌ {A = ℕ} 0 1 = cc in omega arith)
pick_accepted false e j q = (refl, q)

record Ruled (x y : Sheet) : Type 0 where
  right_parts : wrong_part x.items ≡ false
  not_taken : taken x.items ≡ false
  fit_arguments : unfit_argument x.items ≡ false
  no_ring : ring x.items ≡ false
  value : x ≡ y

ruled_accepted : (x y : Sheet) → ruled x ≡ accepted y → Ruled x y
unfolding ruled
ruled_accepted x y q =
    let a = pick_accepted (wrong_part x.items) WrongPart _ q in
    let b = pick_accepted (taken x.items) Taken _ a.1 in
    let c = pick_accepted (unfit_argument x.items) UnfitArgument _ b.1 in
    let d = pick_accepted (ring x.items) Ring _ c.1 in
    record { right_parts = a.0; not_taken = b.0; fit_arguments = c.0; no_ring = d.0; value = (let e = d.1 in cc) }

pub judge_accepted : (s : List ℕ) (x : Sheet) → judge s ≡ accepted x → Accepted s x
unfolding judge
judge_accepted s x q = go (decode s) refl q
  where
    go : (g : Got Sheet) → decode s ≡ g → judged g ≡ accepted x → Accepted s x
    go (fault e) d q = absurd (let z : ◌≡◌ {A = ℕ} 0 1 = cc in omega arith)
    go (got y n) d q =
        let r = ruled_accepted y x q in
        let e : decode s ≡ got x n = rw r.value at d in
        record {
          next = n;
          edition = decode_edition s x n e;
          decoded = e;
          fits = (decode_keeps s x n e).fits;
          names = (decode_keeps s x n e).names;
          right_parts = rw r.value at r.right_parts;
          not_taken = rw r.value at r.not_taken;
          fit_arguments = rw r.value at r.fit_arguments;
          no_ring = rw r.value at r.no_ring;
        }

-- ---- editions

-- excess length comes first
pub too_long : (s : List ℕ) → leb (length s) most_bytes ≡ false → judge s ≡ refused CutSheet
unfolding decode judge
too_long s e = rw e

-- a whole edition that is neither 1 nor 2 gets 2, in a sheet that is not too long
pub other_edition : (s : List ℕ) → leb (length s) most_bytes ≡ true → leb 4 (8 * length s) ≡ true →
    within 1 last_edition (edition_of s) ≡ false → judge s ≡ refused Edition
unfolding judge
other_edition s short whole e = rw (decode_other s short whole e)

-- a sheet that is accepted in any edition is accepted in edition 1, with the same value
pub older_accepted : (s t : List ℕ) → SameButEdition s t → edition_of t ≡ 1 → (x : Sheet) → judge s ≡ accepted x →
    judge t ≡ accepted x
unfolding judge
older_accepted s t same older x q = go (decode s) refl q
  where
    go : (g : Got Sheet) → decode s ≡ g → judged g ≡ accepted x → judged (decode t) ≡ accepted x
    go (fault e) d q = absurd (let z : ◌≡◌ {A = ℕ} 0 1 = cc in omega arith)
    go (got y n) d q = rw (decode_older s t same older y n d) q

-- two sheets that differ in their editions only have the same value where both are accepted
pub same_value : (s t : List ℕ) → SameButEdition s t → (x y : Sheet) → judge s ≡ accepted x → judge t ≡ accepted y →
    x ≡ y
same_value s t same x y p q =
    let a = judge_accepted s x p in
    let b = judge_accepted t y q in
    let e : got x a.next ≡ got y b.next =
    sym (behind_same s t same x a.next a.decoded) ∙ behind_same t t same_refl y b.next b.decoded in
    cc
