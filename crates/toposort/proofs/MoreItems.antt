-- How many items there are besides the structs does not matter: with marks for more the sort is the same.
use mathlib.Core.Path.{◌≡◌, refl, sym, ap, ◌∙◌}
use mathlib.Core.List.Memᴰ
use mathlib.Core.List.{List, [], ◌∷◌, ◌++◌}
use Prim.Native.Nat.{ℕ, zero, suc, ◌+◌, ◌-◌, ◌<◌, ◌≤◌}
use native.Mathlib.Omega.{arith}
use lib.ListN.{length, get_or, set, replicate, length-set, length-replicate, replicate-append-replicate, get_or-append}
use lib.Seq.{set-append_left}
use Rattle.toposort.specs.Graph.{Graph, ◌∈◌, Within, Structs}
use Rattle.toposort.specs.Sort.{Walk, cycle, done, and_then, finish, by_mark, visit_all, visit, sort, is_ring, sorted_of, ringed, order}
use Rattle.toposort.proofs.Visits.{Moves, visit_moves, visits_move}
use Rattle.toposort.proofs.Soundness.{within}
use Rattle.toposort.proofs.Levels.{sort_levels}

-- a walk with d items more
abbrev padded : ℕ → Walk → Walk
padded d cycle = cycle
padded d (done m o) = done (m ++ replicate d 0) o

by_mark_padded : (d b : ℕ) (m o : List ℕ) (w : Walk) →
    by_mark b (m ++ replicate d 0) o (padded d w) ≡ padded d (by_mark b m o w)
by_mark_padded d zero m o w = refl
by_mark_padded d (suc zero) m o w = refl
by_mark_padded d (suc (suc b)) m o w = refl

finish_padded : (d i : ℕ) (m o : List ℕ) (w : Walk) → Moves m o w → i < length m →
    finish i (padded d w) ≡ padded d (finish i w)
finish_padded d i m o cycle moves h = refl
finish_padded d i m o (done m₁ o₁) moves h =
    let l : i < length m₁ = omega (arith, moves.size) in rw (set-append_left m₁ (replicate d 0) i 2 l) refl

module _ (g : Graph) (n : ℕ) (inside : Within g n) (d : ℕ) where
  all_padded : (levels : ℕ) →
      ((i : ℕ) (m o : List ℕ) → i < n → length m ≡ n → visit g levels i (m ++ replicate d 0) o ≡ padded d (visit g levels i m o)) →
      (js : List ℕ) → ((c : ℕ) → c ∈ js → c < n) → (m o : List ℕ) → length m ≡ n →
      visit_all (visit g levels) js (m ++ replicate d 0) o ≡ padded d (visit_all (visit g levels) js m o)
  unfolding visit_all
  all_padded levels one [] below m o size = refl
  all_padded levels one (j ∷ js) below m o size =
      let h : j < n = below j (Memᴰ.head refl) in
      rw (one j m o h size) (go (visit g levels j m o) (visit_moves g n inside levels j m o h size)
      (λ m₁ o₁ l. all_padded levels one js (λ c x. below c (Memᴰ.tail x)) m₁ o₁ l))
    where
      go : (w : Walk) → Moves m o w →
          ((m₁ o₁ : List ℕ) → length m₁ ≡ n → visit_all (visit g levels) js (m₁ ++ replicate d 0) o₁ ≡ padded d (visit_all (visit g levels) js m₁ o₁)) →
          and_then (padded d w) (λ m₁ o₁. visit_all (visit g levels) js m₁ o₁) ≡ padded d (and_then w (λ m₁ o₁. visit_all (visit g levels) js m₁ o₁))
      go cycle moves rest = refl
      go (done m₁ o₁) moves rest = rest m₁ o₁ (moves.size ∙ size)

  visit_padded : (levels i : ℕ) (m o : List ℕ) → i < n → length m ≡ n →
      visit g levels i (m ++ replicate d 0) o ≡ padded d (visit g levels i m o)
  unfolding visit
  visit_padded zero i m o h size =
      rw (get_or-append m (replicate d 0) 0 i (omega arith)) (by_mark_padded d (get_or m i 0) m o cycle)
  visit_padded (suc levels) i m o h size =
      let l : i < length m = omega arith in
      let sized : length (set m i 1) ≡ n = length-set m i 1 ∙ size in
      let same = all_padded levels (λ j m₁ o₁ x y. visit_padded levels j m₁ o₁ x y) (g i) (inside i) (set m i 1) o sized in
      let moves = visits_move g n inside levels (g i) (inside i) (set m i 1) o sized in
      rw (get_or-append m (replicate d 0) 0 i l, set-append_left m (replicate d 0) i 1 l, same, finish_padded d i (set m i 1) o _ moves (omega arith))
      (by_mark_padded d (get_or m i 0) m o (finish i (visit_all (visit g levels) (g i) (set m i 1) o)))

module _ {g : Graph} {n : ℕ} {js : List ℕ} (among : Structs g n js) where
  sort_padded : (d : ℕ) → sort g (n + d) js ≡ padded d (sort g n js)
  unfolding sort
  sort_padded d =
      let blank : replicate {A = ℕ} (n + d) 0 ≡ replicate n 0 ++ replicate d 0 = sym (replicate-append-replicate n d 0) in
      rw blank (all_padded g n (within among) d (n + d) (visit_padded g n (within among) d (n + d)) js among.below (replicate n 0) [] (length-replicate n 0)
      ∙ ap (padded d) (sort_levels among (n + d) (omega arith)))

  pub more_items : (k : ℕ) → n ≤ k → (ringed g k js ≡ ringed g n js) × (order g k js ≡ order g n js)
  unfolding ringed order
  more_items k h =
      let z : k ≡ n + (k - n) = omega arith in
      let same : sort g k js ≡ padded (k - n) (sort g n js) = ap (λ (l : ℕ). sort g l js) z ∙ sort_padded (k - n) in
      rw same (go (k - n) (sort g n js))
    where
      go : (d : ℕ) (w : Walk) → (is_ring (padded d w) ≡ is_ring w) × (sorted_of (padded d w) ≡ sorted_of w)
      go d cycle = (refl, refl)
      go d (done m o) = (refl, refl)
