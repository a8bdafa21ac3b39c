-- What a service can say of its buffer behind a text that fits.
use mathlib.Core.Path.{◌≡◌, sym, ap, ◌∙◌}
use mathlib.Core.List.{List, ◌++◌}
use Prim.Native.Nat.{ℕ, ◌+◌, ◌≤◌, ◌<◌, ◌^◌}
use native.Mathlib.Omega.{arith}
use lib.ListN.{length, take, drop}
use lib.Seq.{sets-eq, take_at}
use Rattle.sink.specs.Sink.{Sink, sink, Wrote}
use Rattle.sink.proofs.SinkLaws.{wrote_place, wrote_whole}
use Rattle.sink.proofs.StoreLaws.{buffer_emit}

-- the text, and behind it the old bytes
pub written :
    {text : List ℕ} {s : Sink} (l : List ℕ) →
    Wrote (sink l 0) text s → length text ≤ length l → length l < 2 ^ 63 → s.buf ≡ text ++ drop (length text) l
written {text} l p h g =
    let z : 0 + length text ≡ length text = omega arith in
    let fits : 0 + length text ≤ length l = omega arith in
    ap (λ (x : Sink). x.buf) (wrote_whole p (omega arith))
    ∙ buffer_emit text (sink l 0) (omega arith) (omega arith)
    ∙ sets-eq text l 0 fits
    ∙ rw z

-- so the text stands at the buffer's front, as far as the place
pub written_front : {text b : List ℕ} {r : ℕ} (l : List ℕ) → Wrote (sink l 0) text (sink b r) → r ≤ length l →
    length l < 2 ^ 63 → take r b ≡ text
written_front {text} {b} {r} l p h g =
    let k : r ≡ length text = omega (arith, wrote_place p (omega arith)) in
    ap (take r) (written l p (omega arith) g) ∙ take_at text (drop (length text) l) r (sym k)
