-- Laws of the places of a Content: what is read there, and what a write makes of the state.
use mathlib.Core.Path.{◌≡◌, refl, sym, ap, ◌∙◌}
use mathlib.Core.List.{List, [], ◌∷◌, map}
use Prim.Native.Nat.{ℕ, zero, suc, ◌+◌, ◌-◌, ◌/◌, ◌%◌, ◌<◌, ◌≤◌, ◌^◌}
use native.Mathlib.Omega.{arith}
use lib.Dec.{ltb}
use lib.ListN.{length, get_or, drop, set, length-map, length-drop, get_or-map}
use lib.Seq.{get_or-drop}
use Rattle.format.specs.Limits.{most_names}
use Rattle.cursor.specs.declared.Cursor.{Cursor}
use Rattle.sink.specs.Sink.{Sink, sink, Wrote}
use Rattle.out.specs.declared.Block.{Block}
use Rattle.out.specs.declared.Boundary.{Boundary}
use Rattle.out.specs.declared.Pending.{Pending}
use Rattle.out.specs.State.{Known, KnownBlock, packed, side_of, unpacked_block, unpacked, boundary_at, max_pending}
use Rattle.out.specs.State.{Listed, entry, content_of}
use Rattle.out.specs.Steps.{Starts, asking, behind, appended_to}
use Rattle.out.proofs.PendingLaws.{fewer}
use Rattle.out.proofs.StateLaws.{respaced, starts}
use Rattle.out.proofs.FlushLaws.{settled}

-- ---- an array of so many places, by its parts

abbrev pub places : ℕ
places = 21

record Parts (l : List ℕ) : Type 0 where
  at : ℕ
  spaces : ℕ
  depth : ℕ
  count : ℕ
  section : ℕ
  entries : List ℕ
  is : l ≡ at ∷ spaces ∷ depth ∷ count ∷ section ∷ entries
  room : length entries ≡ max_pending

parts : (l : List ℕ) → length l ≡ places → Parts l
parts [] h = absurd (omega arith)
parts (a ∷ []) h = absurd (omega arith)
parts (a ∷ b ∷ []) h = absurd (omega arith)
parts (a ∷ b ∷ c ∷ []) h = absurd (omega arith)
parts (a ∷ b ∷ c ∷ d ∷ []) h = absurd (omega arith)
parts (a ∷ b ∷ c ∷ d ∷ e ∷ l) h =
    record { at = a; spaces = b; depth = c; count = d; section = e; entries = l; is = refl; room = omega arith }

-- where the pending boundaries have room, there are so many places
pub listed_places : {names : List ℕ} (l : List ℕ) → Listed names (content_of l) → length l ≡ places
unfolding content_of
listed_places l h = omega (arith, h.room, length-map (drop 5 l) entry, length-drop 5 l)

-- ---- reads

-- a text from the place on
pub from_place : (l : List ℕ) {buf t : List ℕ} {r : Sink} → Wrote (sink buf (get_or l 0 0)) t r →
    Wrote (sink buf (content_of l).at) t r
unfolding content_of
from_place l w = w

pub entry_read : (l : List ℕ) (i : ℕ) {b : Boundary} → b ≡ unpacked (entry (get_or l (5 + i) 0)) →
    b ≡ boundary_at (content_of l).pending i
unfolding content_of
entry_read l i e = e ∙ ap unpacked (sym (get_or-map entry (drop 5 l) i 0 ∙ ap entry (get_or-drop 5 l i 0)))

known_side : (names : List ℕ) (n : ℕ) (b : Block) → Known names (side_of n b) → KnownBlock names b
known_side names zero b k = k
known_side names (suc n) b k = k

known_number : (names : List ℕ) (n : ℕ) → KnownBlock names (unpacked_block n) → n ≤ length names
known_number names zero k = omega arith
known_number names (suc n) k = omega arith

-- the number of a known boundary is small
pub entry_small : (names l : List ℕ) (i : ℕ) → length names ≤ most_names →
    Known names (boundary_at (content_of l).pending i) → get_or l (5 + i) 0 < 2 ^ 16
unfolding unpacked
entry_small names l i few k =
    let n = get_or l (5 + i) 0 in
    let known : Known names (unpacked (entry n)) = rw (entry_read l i refl) k in
    omega (arith, few, known_number names (n / 2) (known_side names (n % 2) (unpacked_block (n / 2)) known))

-- ---- writes

entries_set : (l : List ℕ) (n x : ℕ) → map entry (set l n x) ≡ set (map entry l) n (entry x)
entries_set [] n x = refl
entries_set (a ∷ l) zero x = refl
entries_set (a ∷ l) (suc n) x = ap (λ (r : List Pending). entry a ∷ r) (entries_set l n x)

one_more : (a b c d e : ℕ) (l : List ℕ) (p : Pending) →
    content_of (set (set (a ∷ b ∷ c ∷ d ∷ e ∷ l) (5 + d) p.code) 3 (d + 1)) ≡ record {
      at = a;
      spaces = record { at = b };
      depth = c;
      pending = set (map entry l) d p;
      count = d + 1;
      section_pending = ltb 0 e;
    }
unfolding content_of
one_more a b c d e l p =
    let z : 5 + d ≡ suc (suc (suc (suc (suc d)))) = omega arith in
    rw (z, entries_set l d p.code) refl

module _ (l : List ℕ) (long : length l ≡ places) where
  pub place_new : Starts (content_of (set (set (set (set (set l 0 0) 1 0) 2 0) 3 0) 4 0))
  unfolding content_of
  place_new =
      let p = parts l long in
      rw p.is (starts (map entry p.entries) (length-map p.entries entry ∙ p.room))

  pub place_at : (n : ℕ) → content_of (set l 0 n) ≡ behind (content_of l) n
  unfolding content_of
  place_at n = rw (parts l long).is refl

  pub place_section : content_of (set l 4 1) ≡ asking (content_of l)
  unfolding content_of
  place_section = rw (parts l long).is refl

  pub place_fewer : content_of (set l 3 (get_or l 3 0 - 1)) ≡ fewer (content_of l)
  unfolding content_of
  place_fewer = rw (parts l long).is refl

  pub place_spaces : (spaces : Cursor) (depth : ℕ) →
      content_of (set (set l 1 spaces.at) 2 depth) ≡ respaced (content_of l) spaces depth
  unfolding content_of
  place_spaces spaces depth = rw (parts l long).is refl

  pub place_settled : (at : ℕ) → content_of (set (set (set l 0 at) 3 0) 4 0) ≡ settled (content_of l) at
  unfolding content_of
  place_settled at = rw (parts l long).is refl

  pub place_appended : {p : Pending} (b : Boundary) → p ≡ packed b →
      content_of (set (set l (5 + get_or l 3 0) p.code) 3 (get_or l 3 0 + 1)) ≡ appended_to (content_of l) b
  unfolding content_of
  place_appended b e =
      let q = parts l long in
      rw (← e, q.is) (one_more q.at q.spaces q.depth q.count q.section q.entries _)
