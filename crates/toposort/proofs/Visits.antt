-- What a visit does to the marks and to the length of the order. Here m are marks and o is the order so far.
use mathlib.Core.Path.{◌≡◌, refl, sym, ◌∙◌}
use mathlib.Core.Logic.{⊎_elim}
use mathlib.Core.List.Memᴰ
use mathlib.Core.List.{List, [], ◌∷◌}
use Prim.Native.Nat.{ℕ, zero, suc, ◌+◌, ◌<◌, ◌≤◌}
use native.Mathlib.Omega.{arith}
use lib.ListN.{length, get_or, set, length-set, length-append}
use Rattle.toposort.specs.Graph.{Graph, ◌∈◌, Within}
use Rattle.toposort.specs.Sort.{Walk, cycle, done, and_then, finish, by_mark, visit_all, visit}
use Rattle.toposort.specs.Adjacency.{unmarked}
use Rattle.toposort.proofs.Marks.{set_cases, unmarked_first, unmarked_again}

-- the same structs are being visited, those visited stay so, and the order grows by one struct for each new mark
pub record Moved (m o m₁ o₁ : List ℕ) : Type 0 where
  pub size : length m₁ ≡ length m
  pub visiting : (j : ℕ) → get_or m j 0 ≡ 1 → get_or m₁ j 0 ≡ 1
  pub no_more : (j : ℕ) → get_or m₁ j 0 ≡ 1 → get_or m j 0 ≡ 1
  pub visited : (j : ℕ) → 1 < get_or m j 0 → 1 < get_or m₁ j 0
  pub longer : length o ≤ length o₁
  pub count : length o₁ + unmarked m₁ ≡ length o + unmarked m

-- the same of a visit that may have met a ring
abbrev pub Moves : List ℕ → List ℕ → Walk → Type 0
Moves m o cycle = Unit {0}
Moves m o (done m₁ o₁) = Moved m o m₁ o₁

unmoved : (m o : List ℕ) → Moved m o m o
unmoved m o = record {
  size = refl;
  visiting = λ j h. h;
  no_more = λ j h. h;
  visited = λ j h. h;
  longer = omega arith;
  count = refl;
}

joined : {m o m₁ o₁ : List ℕ} (w : Walk) → Moved m o m₁ o₁ → Moves m₁ o₁ w → Moves m o w
joined cycle a b = tt
joined (done m₂ o₂) a b = record {
  size = b.size ∙ a.size;
  visiting = λ j h. b.visiting j (a.visiting j h);
  no_more = λ j h. a.no_more j (b.no_more j h);
  visited = λ j h. b.visited j (a.visited j h);
  longer = omega arith;
  count = b.count ∙ a.count;
}

-- a struct without a mark, from its first mark to its place in the order
finished : (m o : List ℕ) (i : ℕ) (w : Walk) → i < length m → get_or m i 0 ≡ 0 → Moves (set m i 1) o w →
    Moves m o (finish i w)
finished m o i cycle h e s = tt
finished m o i (done m₁ o₁) h e s =
    let same : length m₁ ≡ length m = s.size ∙ length-set m i 1 in
    let begun : get_or m₁ i 0 ≡ 1 =
    s.visiting i (⊎_elim (λ x. x.1) (λ x. absurd (x.0 refl)) (set_cases m i 1 i h)) in
    let inside : i < length m₁ = omega arith in
    record {
      size = length-set m₁ i 2 ∙ same;
      visiting = λ j x. ⊎_elim (λ p. absurd (let y : get_or m j 0 ≡ 0 = rw p.0 e in omega arith)) (λ p. p.1 ∙ s.visiting j (other j p.0 ∙ x)) (set_cases m₁ i 2 j inside);
      no_more = λ j x. ⊎_elim (λ p. absurd (omega arith)) (λ p. sym (other j p.0) ∙ s.no_more j (sym p.1 ∙ x)) (set_cases m₁ i 2 j inside);
      visited = λ j x. ⊎_elim (λ p. omega arith) (λ p. let y = s.visited j (rw (other j p.0) x) in omega arith) (set_cases m₁ i 2 j inside);
      longer = omega (arith, s.longer, length-append o₁ (i ∷ []));
      count = omega (arith, s.count, length-append o₁ (i ∷ []), unmarked_first m i 0 h e, unmarked_again m₁ i 1 (omega arith) (omega arith));
    }
  where
    other : (j : ℕ) → (j ≡ i → ⊥) → get_or (set m i 1) j 0 ≡ get_or m j 0
    other j x = ⊎_elim (λ y. absurd (x y.0)) (λ y. y.1) (set_cases m i 1 j h)

module _ (g : Graph) (n : ℕ) (within : Within g n) where
  all_move : (one : ℕ → List ℕ → List ℕ → Walk) →
      ((j : ℕ) (m o : List ℕ) → j < n → length m ≡ n → Moves m o (one j m o)) →
      (js : List ℕ) → ((c : ℕ) → c ∈ js → c < n) → (m o : List ℕ) → length m ≡ n → Moves m o (visit_all one js m o)
  unfolding visit_all
  all_move one moves [] b m o l = unmoved m o
  all_move one moves (j ∷ js) b m o l =
      go (one j m o) (moves j m o (b j (Memᴰ.head refl)) l)
      (λ m₁ o₁ x. all_move one moves js (λ c d. b c (Memᴰ.tail d)) m₁ o₁ x)
    where
      go : (w : Walk) → Moves m o w →
          ((m₁ o₁ : List ℕ) → length m₁ ≡ n → Moves m₁ o₁ (visit_all one js m₁ o₁)) →
          Moves m o (and_then w (λ m₁ o₁. visit_all one js m₁ o₁))
      go cycle s rest = tt
      go (done m₁ o₁) s rest = joined (visit_all one js m₁ o₁) s (rest m₁ o₁ (s.size ∙ l))

  pub visit_moves : (levels i : ℕ) (m o : List ℕ) → i < n → length m ≡ n → Moves m o (visit g levels i m o)
  unfolding visit
  visit_moves zero i m o h l = go (get_or m i 0)
    where
      go : (b : ℕ) → Moves m o (by_mark b m o cycle)
      go zero = tt
      go (suc zero) = tt
      go (suc (suc b)) = unmoved m o
  visit_moves (suc levels) i m o h l =
      go (get_or m i 0) (visit_all (visit g levels) (g i) (set m i 1) o) refl
      (all_move (visit g levels) (λ j m₁ o₁ x y. visit_moves levels j m₁ o₁ x y) (g i) (within i) (set m i 1) o (length-set m i 1 ∙ l))
    where
      go : (b : ℕ) (w : Walk) → get_or m i 0 ≡ b → Moves (set m i 1) o w → Moves m o (by_mark b m o (finish i w))
      go zero w e s = finished m o i w (omega arith) e s
      go (suc zero) w e s = tt
      go (suc (suc b)) w e s = unmoved m o

  pub visits_move : (levels : ℕ) (js : List ℕ) → ((c : ℕ) → c ∈ js → c < n) → (m o : List ℕ) → length m ≡ n →
      Moves m o (visit_all (visit g levels) js m o)
  visits_move levels js b m o l = all_move (visit g levels) (visit_moves levels) js b m o l
