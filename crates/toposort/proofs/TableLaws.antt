-- Laws by which the code's visits are those of `visit` and `visit_all`.
-- Here m are marks and o is the order's array; the order so far ends at `at`, and later at e or x.
use mathlib.Core.Path.{◌≡◌, refl, sym, ap, ◌∙◌}
use mathlib.Core.List.{List, [], ◌∷◌, ◌++◌}
use mathlib.Core.Bool.{true, false}
use Prim.Native.Nat.{ℕ, zero, suc, ◌+◌, ◌-◌, ◌<◌, ◌≤◌}
use native.Mathlib.Omega.{arith}
use native.Mathlib.Numerals.{add-one}
use lib.ListN.{length, get_or, set, take, drop, replicate, length-set, length-replicate}
use lib.Seq.{length-take-le, take-suc-set, drop-cons}
use Rattle.std.specs.Prelude.{Result, Ok, Err, IsErrAnd}
use Rattle.toposort.specs.declared.Cycle.{Cycle}
use Rattle.toposort.specs.Graph.{Graph, Within, Structs}
use Rattle.toposort.specs.Sort.{Walk, cycle, done, and_then, finish, by_mark, visit_all, visit, sort, is_ring, sorted_of, ringed, order}
use Rattle.toposort.specs.Adjacency.{item_numbers, graph_of, Adjacency, Room, Visited, VisitedAll, Sorted, unmarked}
use Rattle.toposort.proofs.Marks.{unmarked_first, unmarked_blank}
use Rattle.toposort.proofs.Visits.{Moved, Moves, visit_moves, visits_move}
use Rattle.toposort.proofs.MoreItems.{more_items}

-- ---- the answer is known

pub visited_as : {g : Graph} {levels i at : ℕ} {m o m₁ o₁ : List ℕ} {r s : Result ℕ Cycle} → r ≡ s →
    Visited g levels i m o at r m₁ o₁ → Visited g levels i m o at s m₁ o₁
visited_as {g} {levels} {i} {at} {m} {o} {m₁} {o₁} {r} {s} e a = rw e at a

pub all_as : {g : Graph} {levels at : ℕ} {js m o m₁ o₁ : List ℕ} {r s : Result ℕ Cycle} → r ≡ s →
    VisitedAll g levels js m o at r m₁ o₁ → VisitedAll g levels js m o at s m₁ o₁
all_as {g} {levels} {at} {js} {m} {o} {m₁} {o₁} {r} {s} e a = rw e at a

-- ---- room in the order

-- the room after a walk from m and the order o up to `at`
room_after : {at x : ℕ} {m o m₁ o₁ : List ℕ} (w : Walk) → Room m o at → done m₁ (take x o₁) ≡ w →
    Moves m (take at o) w → x ≤ length o₁ → length o₁ ≡ length o → Room m₁ o₁ x × (x + unmarked m₁ ≡ at + unmarked m)
room_after {at} {x} {m} {o} {m₁} {o₁} w r e moves l same =
    let t : Moved m (take at o) m₁ (take x o₁) = rw (sym e) at moves in
    let h : at ≤ length o = omega (arith, r.order, r.places) in
    let count : x + unmarked m₁ ≡ at + unmarked m =
    omega (arith, t.count, length-take-le at o h, length-take-le x o₁ l) in
    (record { marks = t.size ∙ r.marks; order = same ∙ r.order; places = omega (arith, r.places) }, count)

pub no_mark : (b : ℕ) → b ≤ 1 → (b ≡ 1 → ⊥) → b ≡ 0
no_mark zero h e = refl
no_mark (suc zero) h e = absurd (e refl)
no_mark (suc (suc b)) h e = absurd (omega arith)

-- with its first mark a struct gets a place, behind which there is room for the others
room_inner : {i at : ℕ} {m o : List ℕ} → Room m o at → i < item_numbers → get_or m i 0 ≡ 0 →
    Room (set m i 1) o at × (at + unmarked (set m i 1) < item_numbers)
room_inner {i} {at} {m} {o} r h e =
    let fewer = unmarked_first m i 0 (omega (arith, r.marks)) e in (
      record {
        marks = length-set m i 1 ∙ r.marks;
        order = r.order;
        places = omega (arith, r.places);
      },
      omega (arith, r.places),
    )

pub room_marked : {i at : ℕ} {m o : List ℕ} → Room m o at → i < item_numbers → get_or m i 0 ≡ 0 → Room (set m i 1) o at
room_marked r h e = (room_inner r h e).0

-- the place is free when those that the struct holds are visited
pub place_free : {g : Graph} {levels i at x : ℕ} {m o m₁ o₁ : List ℕ} → Within g item_numbers → Room m o at → i < item_numbers →
    get_or m i 0 ≡ 0 → VisitedAll g levels (g i) (set m i 1) o at (Ok x) m₁ o₁ → x < item_numbers
place_free {g} {levels} {i} {at} {x} {m} {o} {m₁} {o₁} within r h e a =
    let inner = room_inner r h e in
    let after =
    room_after (visit_all (visit g levels) (g i) (set m i 1) (take at o)) inner.0 a.same
    (visits_move g item_numbers within levels (g i) (within i) (set m i 1) (take at o) inner.0.marks) a.inside a.kept in
    omega (arith, inner.1, after.1)

-- ---- a loop over structs: js are left of the whole walk w

pub record Going (g : Graph) (levels : ℕ) (w : Walk) (js m o : List ℕ) (e : ℕ) : Type 0 where
  pub left : visit_all (visit g levels) js m (take e o) ≡ w
  pub room : Room m o e

pub going_as : {g : Graph} {levels : ℕ} {w : Walk} {js ks m o : List ℕ} {e : ℕ} → js ≡ ks →
    Going g levels w js m o e → Going g levels w ks m o e
going_as {g} {levels} {w} {js} {ks} {m} {o} {e} p a = rw (sym p) a

then_done : {w : Walk} (v : Walk) (next : List ℕ → List ℕ → Walk) {m o : List ℕ} → done m o ≡ v → and_then v next ≡ w →
    next m o ≡ w
then_done {w} v next e h = rw (sym e) at h

then_ring : {w : Walk} (v : Walk) (next : List ℕ → List ℕ → Walk) → cycle ≡ v → and_then v next ≡ w → cycle ≡ w
then_ring {w} v next e h = rw (sym e) at h

pub going_next : {g : Graph} {levels : ℕ} {w : Walk} {js m o m₁ o₁ : List ℕ} {j e x : ℕ} → Within g item_numbers → j < item_numbers →
    Going g levels w (j ∷ js) m o e → Visited g levels j m o e (Ok x) m₁ o₁ → Going g levels w js m₁ o₁ x
unfolding visit_all
going_next {g} {levels} {w} {js} {m} {o} {m₁} {o₁} {j} {e} {x} within h a b = record {
  left = then_done (visit g levels j m (take e o)) (λ m₂ o₂. visit_all (visit g levels) js m₂ o₂) b.same a.left;
  room =
      (room_after (visit g levels j m (take e o)) a.room b.same
      (visit_moves g item_numbers within levels j m (take e o) h a.room.marks) b.inside b.kept).0;
}

at_ring : {g : Graph} {levels : ℕ} {w : Walk} {js m o m₁ o₁ : List ℕ} {j e : ℕ} {c : Cycle} → Going g levels w (j ∷ js) m o e →
    Visited g levels j m o e (Err c) m₁ o₁ → cycle ≡ w
unfolding visit_all
at_ring {g} {levels} {w} {js} {m} {o} {m₁} {o₁} {j} {e} a b =
    then_ring (visit g levels j m (take e o)) (λ m₂ o₂. visit_all (visit g levels) js m₂ o₂) b.same a.left

at_end_lem : {g : Graph} {levels : ℕ} {w : Walk} {m o : List ℕ} {e : ℕ} → Going g levels w [] m o e → done m (take e o) ≡ w
unfolding visit_all
at_end_lem a = a.left

module _ {g : Graph} {levels at : ℕ} {ks m₀ o₀ : List ℕ} (size : length o₀ ≡ item_numbers) where
  pub all_ring : {js m o m₁ o₁ : List ℕ} {j e : ℕ} {r : Result ℕ Cycle} {c : Cycle} → IsErrAnd r (λ d. d ≡ c) →
      Going g levels (visit_all (visit g levels) ks m₀ (take at o₀)) (j ∷ js) m o e →
      Visited g levels j m o e (Err c) m₁ o₁ → VisitedAll g levels ks m₀ o₀ at r m₁ o₁
  all_ring {r = Ok x} i a b = absurd i
  all_ring {r = Err d} i a b =
      record { same = at_ring a b; inside = omega arith; kept = b.kept ∙ a.room.order ∙ sym size }

  pub all_done : {m o : List ℕ} {e : ℕ} → Going g levels (visit_all (visit g levels) ks m₀ (take at o₀)) [] m o e →
      VisitedAll g levels ks m₀ o₀ at (Ok e) m o
  all_done a =
      let r = a.room in record { same = at_end_lem a; inside = omega arith; kept = r.order ∙ sym size }

module _ {g : Graph} {ks : List ℕ} where
  pub sorted_ring : {js m o m₁ o₁ : List ℕ} {j e : ℕ} {r : Result ℕ Cycle} {c : Cycle} → IsErrAnd r (λ d. d ≡ c) →
      Going g item_numbers (sort g item_numbers ks) (j ∷ js) m o e → Visited g item_numbers j m o e (Err c) m₁ o₁ →
      Sorted g ks r m₁ o₁
  sorted_ring {r = Ok x} i a b = absurd i
  sorted_ring {r = Err d} i a b = record { same = at_ring a b; inside = omega arith; kept = b.kept ∙ a.room.order }

  pub sorted_done : {m o : List ℕ} {e : ℕ} → Going g item_numbers (sort g item_numbers ks) [] m o e → Sorted g ks (Ok e) m o
  sorted_done a = let r = a.room in record { same = at_end_lem a; inside = omega arith; kept = r.order }

  pub sort_start : {m o : List ℕ} → m ≡ replicate item_numbers 0 → length o ≡ item_numbers → Going g item_numbers (sort g item_numbers ks) ks m o 0
  unfolding sort
  sort_start {m} {o} blank size = record {
    left = ap (λ (l : List ℕ). visit_all (visit g item_numbers) ks l []) blank;
    room = record {
      marks = ap length blank ∙ length-replicate {A = ℕ} item_numbers 0;
      order = size;
      places = omega (arith, ap unmarked blank, unmarked_blank item_numbers);
    };
  }

-- ---- a visit

marked_two : (b : ℕ) (m o : List ℕ) (w : Walk) → 1 < b → done m o ≡ by_mark b m o w
marked_two zero m o w h = absurd (omega arith)
marked_two (suc zero) m o w h = absurd (omega arith)
marked_two (suc (suc b)) m o w h = refl

-- a struct without a mark, with levels left
inner_visit : (g : Graph) (levels i : ℕ) (m o : List ℕ) → get_or m i 0 ≡ 0 → (levels ≡ 0 → ⊥) →
    finish i (visit_all (visit g (levels - 1)) (g i) (set m i 1) o) ≡ visit g levels i m o
unfolding visit
inner_visit g zero i m o e some = absurd (some refl)
inner_visit g (suc levels) i m o e some = let y : suc levels - 1 ≡ levels = omega arith in rw (y, e) refl

module _ {g : Graph} {levels i : ℕ} {m o : List ℕ} {at : ℕ} where
  pub visited_already : 1 < get_or m i 0 → at ≤ length o → Visited g levels i m o at (Ok at) m o
  unfolding visit
  visited_already h l = record { same = go levels; inside = l; kept = refl }
    where
      go : (k : ℕ) → done m (take at o) ≡ visit g k i m (take at o)
      go zero = marked_two (get_or m i 0) m (take at o) cycle h
      go (suc k) =
          marked_two (get_or m i 0) m (take at o) (finish i (visit_all (visit g k) (g i) (set m i 1) (take at o))) h

  pub visited_ring : {c : Cycle} → get_or m i 0 ≡ 1 → Visited g levels i m o at (Err c) m o
  unfolding visit
  visited_ring h = record { same = go levels; inside = omega arith; kept = refl }
    where
      go : (k : ℕ) → cycle ≡ visit g k i m (take at o)
      go zero = rw h refl
      go (suc k) = rw h refl

  pub visited_deep : {c : Cycle} → get_or m i 0 ≡ 0 → levels ≡ 0 → Visited g levels i m o at (Err c) m o
  unfolding visit
  visited_deep e z = record { same = rw (z, e) refl; inside = omega arith; kept = refl }

  module _ (e : get_or m i 0 ≡ 0) (some : levels ≡ 0 → ⊥) where
    pub visited_below : {m₁ o₁ : List ℕ} {r : Result ℕ Cycle} {c : Cycle} → IsErrAnd r (λ d. d ≡ c) →
        VisitedAll g (levels - 1) (g i) (set m i 1) o at (Err c) m₁ o₁ → Visited g levels i m o at r m₁ o₁
    visited_below {r = Ok x} j a = absurd j
    visited_below {r = Err d} j a = record {
      same = ap (finish i) a.same ∙ inner_visit g levels i m (take at o) e some;
      inside = omega arith;
      kept = a.kept;
    }

    pub visited_done : {x : ℕ} {m₁ o₁ : List ℕ} → length o ≡ item_numbers →
        VisitedAll g (levels - 1) (g i) (set m i 1) o at (Ok x) m₁ o₁ → x < item_numbers →
        Visited g levels i m o at (Ok (x + 1)) (set m₁ i 2) (set o₁ x i)
    visited_done {x} {m₁} {o₁} size a l =
        let h : x < length o₁ = omega (arith, a.kept) in
        let t : take (x + 1) (set o₁ x i) ≡ take x o₁ ++ (i ∷ []) = rw add-one (take-suc-set o₁ x i h) in
        record {
          same = rw t (ap (finish i) a.same ∙ inner_visit g levels i m (take at o) e some);
          inside = rw length-set (omega arith);
          kept = length-set o₁ x i ∙ a.kept;
        }

-- ---- what is left of a list

-- of `held`, from k up to end
pub part_next : {j : ℕ} (held : List ℕ) (k end : ℕ) → k < end → end ≤ length held → j ≡ get_or held k 0 →
    take (end - k) (drop k held) ≡ j ∷ take (end - (k + 1)) (drop (k + 1) held)
part_next held k end h l e =
    let z : end - k ≡ suc (end - (k + 1)) = omega arith in
    rw (drop-cons held k 0 (omega arith), z, e, add-one) refl

pub part_end : (held : List ℕ) (k end : ℕ) → end ≤ k → take (end - k) (drop k held) ≡ []
part_end held k end h = let z : end - k ≡ 0 = omega arith in rw z refl

pub list_next : {j : ℕ} (js : List ℕ) (k : ℕ) → k < length js → j ≡ get_or js k 0 → drop k js ≡ j ∷ drop (k + 1) js
list_next js k h e = rw (drop-cons js k 0 h, e, add-one) refl

-- ---- the table

module _ (starts held : List ℕ) (i : ℕ) {from to : ℕ} (a : from ≡ get_or starts i 0) (b : to ≡ get_or starts (i + 1) 0) where
  pub table_part : graph_of starts held i ≡ take (to - from) (drop from held)
  unfolding graph_of
  table_part = rw (a, b) refl

  pub table_inside : Adjacency starts held → i < item_numbers → to ≤ length held
  table_inside t h = rw b (t.inside i h)

-- ---- what a caller of `sort` learns

module _ {g : Graph} {n : ℕ} {js m₁ o₁ : List ℕ} (among : Structs g n js) (few : n ≤ item_numbers) where
  pub told_ring : {c : Cycle} → Sorted g js (Err c) m₁ o₁ → ringed g n js ≡ true
  unfolding ringed
  told_ring a = sym (more_items among item_numbers few).0 ∙ sym (ap is_ring a.same)

  pub told_order : {e : ℕ} → Sorted g js (Ok e) m₁ o₁ → (ringed g n js ≡ false) × (take e o₁ ≡ order g n js)
  unfolding ringed order
  told_order a =
      (sym (more_items among item_numbers few).0 ∙ sym (ap is_ring a.same), ap sorted_of a.same ∙ (more_items among item_numbers few).1)
