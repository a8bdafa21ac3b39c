-- A text written by stores: the loops of `put_bytes` and `put_repeat`.
use mathlib.Core.Path.{◌≡◌, refl, sym, ap, ◌∙◌}
use mathlib.Core.Logic.{by_cases}
use mathlib.Core.List.{List, [], ◌∷◌, ◌++◌, append_assoc}
use mathlib.Core.Bool.{Bool, true, false}
use Prim.Native.Nat.{ℕ, suc, ◌+◌, ◌-◌, ◌≤◌, ◌<◌, min}
use native.Mathlib.Omega.{arith}
use native.Mathlib.Decide.{dec_lt}
use native.Mathlib.Numerals.{add-one}
use lib.Dec.{leb}
use borrow.Rule.Slice.PartMut.{put_mid}
use borrow.Author.Tests.{leb-true, leb-false, le-leb, lt-leb}
use lib.ListN.{length, get_or, set, take, replicate, length-set, length-replicate, get_or-replicate}
use lib.Seq.{sets, set_out, take-suc, take_all, length-sets, length-take-le, sets-eq, drop-drop}
use Rattle.sink.specs.Sink.{Sink, sink, limit, step, emit, has_room, seen, Wrote}
use Rattle.sink.specs.Copying.{Fits}
use Rattle.sink.proofs.SinkLaws.{place_emit, wrote_by}

sets_append : (a b l : List ℕ) (i : ℕ) → sets l i (a ++ b) ≡ sets (sets l i a) (i + length a) b
sets_append [] b l i = let e : i + 0 ≡ i = omega arith in rw e
sets_append (x ∷ a) b l i =
    let e : suc i + length a ≡ i + suc (length a) = omega arith in
    sets_append a b (set l i x) (suc i) ∙ rw e

sets_past : (t l : List ℕ) (i : ℕ) → length l ≤ i → sets l i t ≡ l
sets_past [] l i h = refl
sets_past (x ∷ t) l i h =
    let e = set_out l i x h in
    let g : length (set l i x) ≤ suc i = omega (arith, length-set l i x) in
    sets_past t (set l i x) (suc i) g ∙ e

-- the place stops only where no store has room
sets_stopped :
    (t l : List ℕ) (i : ℕ) → length l ≤ limit → i ≤ limit → sets l (min limit (i + 1)) t ≡ sets l (suc i) t
sets_stopped t l i h g =
    by_cases
    (dec_lt i limit)
    (λ below.
    let e : min limit (i + 1) ≡ suc i = omega arith in
    rw e)
    (λ reached. sets_past t l (min limit (i + 1)) (omega arith) ∙ sym (sets_past t l (suc i) (omega arith)))

pub buffer_emit :
    (t : List ℕ) (s : Sink) → length s.buf ≤ limit → s.at ≤ limit → (emit s t).buf ≡ sets s.buf s.at t
unfolding emit
buffer_emit [] s h g = refl
buffer_emit (b ∷ t) s h g =
    let k : length (set s.buf s.at b) ≤ limit = omega (arith, length-set s.buf s.at b) in
    buffer_emit t (step s b) k (omega arith) ∙ sets_stopped t (set s.buf s.at b) s.at k g

-- the first n bytes of a text are stored in l from a place on
pub record Stored (l : List ℕ) (at : ℕ) (text : List ℕ) (n : ℕ) (now : List ℕ) : Type 0 where
  pub is : now ≡ sets l at (take n text)

pub stored_none : (l : List ℕ) (at : ℕ) (text : List ℕ) → Stored l at text 0 l
stored_none l at text = record { is = refl }

pub stored_length : {l text now : List ℕ} {at n : ℕ} → Stored l at text n now → length now ≡ length l
stored_length {l} {text} {now} {at} {n} p = ap length p.is ∙ length-sets l at (take n text)

-- a turn of the loop
pub stored_next :
    {l text now : List ℕ} {at i b : ℕ} →
    Stored l at text i now → i < length text → b ≡ get_or text i 0 → Stored l at text (i + 1) (set now (at + i) b)
stored_next {l} {text} {now} {at} {i} {b} p h q =
    let e : length (take i text) ≡ i = length-take-le i text (omega arith) in
    record { is = rw (p.is, q, add-one, take-suc text i 0, sets_append (take i text), e) }

pub repeated_next :
    (count b : ℕ) {l now : List ℕ} {at i : ℕ} →
    Stored l at (replicate count b) i now → i < count → Stored l at (replicate count b) (i + 1) (set now (at + i) b)
repeated_next count b {i = i} p h =
    stored_next p (omega (arith, length-replicate count b)) (sym (get_or-replicate count i b 0 h))

-- ---- a text that has room, and one that has none

module _ {at count size : ℕ} {b : Bool} (f : Fits at count size b) where
  pub room : b ≡ true → at + count ≤ size
  room t = leb-true (at + count) size (sym f.is ∙ t)

  pub no_room : b ≡ false → size < at + count
  no_room t = leb-false (at + count) size (sym f.is ∙ t)

pub fits_past : (at count size : ℕ) → size < at → Fits at count size false
fits_past at count size h = record { is = sym (lt-leb (at + count) size (omega arith)) }

pub fits_within : (at count size : ℕ) → at ≤ size → Fits at count size (leb count (size - at))
fits_within at count size h = record {
  is = by_cases
      (dec_lt size (at + count))
      (λ past. lt-leb count (size - at) (omega arith) ∙ sym (lt-leb (at + count) size past))
      (λ within. le-leb count (size - at) (omega arith) ∙ sym (le-leb (at + count) size (omega arith)));
}

module _ {l text : List ℕ} {at : ℕ} where
  -- all of it is stored
  wrote_stored : {now : List ℕ} → now ≡ sets l at text → at + length text ≤ length l → length l ≤ limit →
      Wrote (sink l at) text (sink now (at + length text))
  wrote_stored {now} p h g =
      let after : Sink = emit (sink l at) text in
      let b : now ≡ after.buf = p ∙ sym (buffer_emit text (sink l at) g (omega arith)) in
      let a : at + length text ≡ after.at = omega (arith, place_emit text (sink l at) (omega arith)) in
      record { is = ap (seen (has_room (sink l at) text)) (rw (b, a)) }

  pub wrote_copied : {now : List ℕ} → now ≡ sets l at (take (length text) text) → at + length text ≤ length l →
      length l ≤ limit → Wrote (sink l at) text (sink now (at + length text))
  wrote_copied p = wrote_stored (p ∙ ap (sets l at) (take_all (length text) text (omega arith)))

  -- in the part of the buffer that it takes, of n bytes
  pub wrote_part : {n : ℕ} {part : List ℕ} → part ≡ text → length text ≡ n → at + n ≤ length l → length l ≤ limit →
      Wrote (sink l at) text (sink (put_mid at (at + n - at) l part) (at + n))
  wrote_part {n} p k h =
      let e : at + (at + n - at) ≡ at + length text = omega arith in
      let f : at + n ≡ at + length text = omega arith in
      let g : at + length text ≤ length l = omega arith in
      rw f (wrote_stored (rw (p, ← f, drop-drop (at + n - at) at l, e) (rw append_assoc at (sym (sets-eq text l at g)))) g)

  -- none of it
  pub wrote_none : {n r : ℕ} → length text ≡ n → length l < at + n → at ≤ limit → r ≡ min limit (at + n) →
      Wrote (sink l at) text (sink l r)
  wrote_none k h g e =
      wrote_by (omega (arith, place_emit text (sink l at) g)) refl (λ room. absurd (omega arith))

pub wrote_repeated : (count b : ℕ) {l now : List ℕ} {at i : ℕ} → Stored l at (replicate count b) i now → count ≤ i →
    at + count ≤ length l → length l ≤ limit → Wrote (sink l at) (replicate count b) (sink now (at + count))
wrote_repeated count b {l} {at = at} {i} p h g k =
    let n = length-replicate count b in
    let all = take_all i (replicate count b) (omega (arith, n)) in
    rw n at (wrote_stored {l = l} {text = replicate count b} {at = at} (p.is ∙ ap (sets l at) all) (rw n g) k)
