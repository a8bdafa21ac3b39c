-- The bytes that a written sheet leaves at the front of the buffer are its text: that of which demand 3 speaks.
use mathlib.Core.Path.{◌≡◌}
use mathlib.Core.List.{List, ◌++◌}
use mathlib.Core.Bool.{Bool, true, false}
use Prim.Native.Nat.{ℕ}
use native.Mathlib.Omega.{arith}
use lib.Dec.{leb}
use lib.ListN.{length, take, drop}
use lib.Seq.{take-append_seam}
use Rattle.refusal.specs.declared.Refusal.TheVariants.{Overrun}
use Rattle.format.specs.Decode.{pick}
use Rattle.format.specs.Sheet.{Sheet}
use Rattle.rules.specs.Judge.{accepted, judge}
use Rattle.bridge.specs.Write.{text}
use Rattle.std.specs.Prelude.{Result, Ok, Err}
use Rattle.refusal.specs.declared.Refusal.{Refusal}
use Rattle.services.specs.Services.{Writes}

pub written_text : {sheet buffer after : List ℕ} {n : ℕ} {s : Sheet} → Writes sheet buffer (Ok n) after →
    judge sheet ≡ accepted s → take n after ≡ text s
written_text {sheet} {buffer} {after} {n} {s} w e =
    go (leb (length (text s)) (length buffer)) (rw e at w.answers) (rw e at w.leaves)
  where
    go : (fits : Bool) →
        ◌≡◌ {A = Result ℕ Refusal} (Ok n) (pick fits (Ok (length (text s))) (Err Overrun)) →
        after ≡ pick fits (text s ++ drop (length (text s)) buffer) buffer → take n after ≡ text s
    go true a b =
        let z : n ≡ length (text s) = cc in
        rw (z, b) (take-append_seam (text s) (drop (length (text s)) buffer))
    go false a b = absurd (let z : ◌≡◌ {A = ℕ} 0 1 = cc in omega arith)
