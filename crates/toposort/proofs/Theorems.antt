-- The sort meets a ring exactly where there is one; else its list is a legal order of the structs.
use mathlib.Core.Path.{◌≡◌, refl, sym}
use mathlib.Core.Logic.{◌↔◌}
use mathlib.Core.List.Memᴰ
use mathlib.Core.List.{List, []}
use mathlib.Core.Bool.{Bool, true, false, false≢true}
use Prim.Native.Nat.{ℕ, ◌≤◌}
use native.Mathlib.Omega.{arith}
use lib.ListN.{length, replicate, length-replicate}
use Rattle.toposort.specs.Graph.{Graph, Structs, Ring, LegalOrder}
use Rattle.toposort.specs.Sort.{Walk, cycle, done, sort, is_ring, sorted_of, ringed, order}
use Rattle.toposort.proofs.Marks.{blank, unmarked_blank}
use Rattle.toposort.proofs.Visits.{Moves, visits_move}
use Rattle.toposort.proofs.Orders.{none, no_ring_lem, ordered_legal}
use Rattle.toposort.proofs.Soundness.{Start, ShortRing, Sound, within, visits_sound, visit_sound}

module _ {g : Graph} {n : ℕ} {js : List ℕ} (among : Structs g n js) where
  start : Start g js n n js (replicate n 0) []
  start = record {
    good = record {
      ordered = none;
      structs = λ j d. absurd (Memᴰ.not-nil d);
      listed = λ j x. absurd (omega (arith, blank n j));
      visited = λ j d. absurd (Memᴰ.not-nil d);
    };
    size = length-replicate n 0;
    enough = omega (arith, unmarked_blank n);
    structs = λ c d. d;
    reach = λ j c x d. absurd (omega (arith, blank n j));
  }

  sort_sound : Sound g js n js (sort g n js)
  unfolding sort
  sort_sound = visits_sound among n (visit_sound among n) js (replicate n 0) [] start

  sort_moves : Moves (replicate n 0) [] (sort g n js)
  unfolding sort
  sort_moves = visits_move g n (within among) n js among.below (replicate n 0) [] (length-replicate n 0)

  -- a ring that the sort meets has at most n structs
  pub ringed_short : ringed g n js ≡ true → ShortRing g js n
  unfolding ringed
  ringed_short e = go (sort g n js) e sort_sound
    where
      go : (w : Walk) → is_ring w ≡ true → Sound g js n js w → ShortRing g js n
      go cycle e s = s
      go (done m o) e s = absurd (false≢true e)

  pub ringed_iff_ring : (ringed g n js ≡ true) ↔ Ring g js
  unfolding ringed
  ringed_iff_ring = ((λ e. (ringed_short e).ring), λ r. go r (sort g n js) sort_sound)
    where
      go : Ring g js → (w : Walk) → Sound g js n js w → is_ring w ≡ true
      go r cycle s = refl
      go r (done m o) s =
          absurd (no_ring_lem r.start r.others s.good.ordered (s.good.listed r.start (s.all r.start r.struct)) r.closes)

  pub sorted_legal : ringed g n js ≡ false → LegalOrder g js (order g n js)
  unfolding ringed order
  sorted_legal e = go (sort g n js) e sort_sound
    where
      go : (w : Walk) → is_ring w ≡ false → Sound g js n js w → LegalOrder g js (sorted_of w)
      go cycle e s = absurd (false≢true (sym e))
      go (done m o) e s =
          ordered_legal s.good.ordered (λ i x. s.good.listed i (s.all i x)) s.good.structs

  pub order_legal : (Ring g js → ⊥) → LegalOrder g js (order g n js)
  order_legal free = go (ringed g n js) refl
    where
      go : (b : Bool) → ringed g n js ≡ b → LegalOrder g js (order g n js)
      go true e = absurd (free (ringed_iff_ring.0 e))
      go false e = sorted_legal e

  -- the order takes at most n places
  pub order_fits : length (order g n js) ≤ n
  unfolding order
  order_fits = go (sort g n js) sort_moves
    where
      go : (w : Walk) → Moves (replicate n 0) [] w → length (sorted_of w) ≤ n
      go cycle s = omega arith
      go (done m o) s = omega (arith, s.count, unmarked_blank n)
