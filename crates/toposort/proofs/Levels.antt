-- As many levels as there are items without a mark are enough: with more a visit does the same.
use mathlib.Core.Path.{◌≡◌, refl, ap, ◌∙◌}
use mathlib.Core.List.Memᴰ
use mathlib.Core.List.{List, [], ◌∷◌}
use mathlib.Core.Bool.{Bool, true, false, ◌||◌}
use Prim.Native.Nat.{ℕ, zero, suc, ◌<◌, ◌≤◌}
use native.Mathlib.Omega.{arith}
use lib.ListN.{length, get_or, set, replicate, length-set, length-replicate}
use Rattle.toposort.specs.Graph.{Graph, ◌∈◌, Within, Structs}
use Rattle.toposort.specs.Sort.{Walk, cycle, done, and_then, finish, by_mark, visit_all, visit, sort}
use Rattle.toposort.specs.Adjacency.{unmarked}
use Rattle.toposort.specs.Crate.{Out, out, on_out, crate_mark, crate_fields, crate_finish, crate_visit, crate_structs, crate_sort}
use Rattle.toposort.proofs.Marks.{unmarked_first, unmarked_set, unmarked_some, unmarked_blank}
use Rattle.toposort.proofs.Visits.{Moves, visit_moves}
use Rattle.toposort.proofs.Soundness.{within}

-- where the mark is told from two levels: without one, both do the same
by_mark_same : (b : ℕ) (m o : List ℕ) (v w : Walk) → (b ≡ 0 → v ≡ w) → by_mark b m o v ≡ by_mark b m o w
by_mark_same zero m o v w e = e refl
by_mark_same (suc zero) m o v w e = refl
by_mark_same (suc (suc b)) m o v w e = refl

module _ (g : Graph) (n : ℕ) (inside : Within g n) where
  all_levels : (k l : ℕ) →
      ((i : ℕ) (m o : List ℕ) → i < n → length m ≡ n → unmarked m ≤ k → unmarked m ≤ l → visit g k i m o ≡ visit g l i m o) →
      (js : List ℕ) → ((c : ℕ) → c ∈ js → c < n) → (m o : List ℕ) → length m ≡ n → unmarked m ≤ k → unmarked m ≤ l →
      visit_all (visit g k) js m o ≡ visit_all (visit g l) js m o
  unfolding visit_all
  all_levels k l same [] below m o size a b = refl
  all_levels k l same (j ∷ js) below m o size a b =
      let h : j < n = below j (Memᴰ.head refl) in
      rw (same j m o h size a b) (go (visit g l j m o) (visit_moves g n inside l j m o h size)
      (λ m₁ o₁ x y z. all_levels k l same js (λ c d. below c (Memᴰ.tail d)) m₁ o₁ x y z))
    where
      go : (w : Walk) → Moves m o w →
          ((m₁ o₁ : List ℕ) → length m₁ ≡ n → unmarked m₁ ≤ k → unmarked m₁ ≤ l → visit_all (visit g k) js m₁ o₁ ≡ visit_all (visit g l) js m₁ o₁) →
          and_then w (λ m₁ o₁. visit_all (visit g k) js m₁ o₁) ≡ and_then w (λ m₁ o₁. visit_all (visit g l) js m₁ o₁)
      go cycle moves rest = refl
      go (done m₁ o₁) moves rest = rest m₁ o₁ (moves.size ∙ size) (omega arith) (omega arith)

  pub visit_levels : (k l i : ℕ) (m o : List ℕ) → i < n → length m ≡ n → unmarked m ≤ k → unmarked m ≤ l →
      visit g k i m o ≡ visit g l i m o
  unfolding visit
  visit_levels zero zero i m o h size a b = refl
  visit_levels zero (suc l) i m o h size a b = by_mark_same (get_or m i 0) m o _ _ (λ e. absurd (omega (arith, unmarked_some m i (omega arith) e)))
  visit_levels (suc k) zero i m o h size a b = by_mark_same (get_or m i 0) m o _ _ (λ e. absurd (omega (arith, unmarked_some m i (omega arith) e)))
  visit_levels (suc k) (suc l) i m o h size a b =
      by_mark_same (get_or m i 0) m o _ _
      (λ e. let fewer = unmarked_first m i 0 (omega arith) e in
      ap (finish i) (all_levels k l (λ j m₁ o₁ x y z u. visit_levels k l j m₁ o₁ x y z u) (g i) (inside i) (set m i 1) o (length-set m i 1 ∙ size) (omega arith) (omega arith)))

pub sort_levels : {g : Graph} {n : ℕ} {js : List ℕ} → Structs g n js → (levels : ℕ) → n ≤ levels →
    visit_all (visit g levels) js (replicate n 0) [] ≡ sort g n js
unfolding sort
sort_levels {g} {n} {js} among levels h =
    all_levels g n (within among) levels n (visit_levels g n (within among) levels n) js among.below (replicate n 0) []
    (length-replicate n 0) (omega (arith, unmarked_blank n)) (omega (arith, unmarked_blank n))

-- ---- the crate's visit

crate_mark_same : (b : ℕ) (m o : List ℕ) (r : Bool) (x y : Out) → (b ≡ 0 → x ≡ y) →
    crate_mark b m o r x ≡ crate_mark b m o r y
crate_mark_same zero m o r x y e = e refl
crate_mark_same (suc zero) m o r x y e = refl
crate_mark_same (suc (suc b)) m o r x y e = refl

abbrev marks_of : Out → List ℕ
marks_of (out m o r f) = m

-- no mark goes away
record Marked (m : List ℕ) (x : Out) : Type 0 where
  size : length (marks_of x) ≡ length m
  fewer : unmarked (marks_of x) ≤ unmarked m

marked_fields : (one : ℕ → List ℕ → List ℕ → Bool → Out) →
    ((j : ℕ) (m o : List ℕ) (r : Bool) → Marked m (one j m o r)) →
    (js m o : List ℕ) (r f : Bool) → Marked m (crate_fields one js m o r f)
unfolding crate_fields
marked_fields one marked [] m o r f = record { size = refl; fewer = omega arith }
marked_fields one marked (j ∷ js) m o r f =
    go (one j m o r) (marked j m o r) (λ m₁ o₁ r₁ f₁. marked_fields one marked js m₁ o₁ r₁ f₁)
  where
    go : (x : Out) → Marked m x → ((m₁ o₁ : List ℕ) (r₁ f₁ : Bool) → Marked m₁ (crate_fields one js m₁ o₁ r₁ f₁)) →
        Marked m (on_out x (λ m₁ o₁ r₁ f₁. crate_fields one js m₁ o₁ (f₁ || r₁) (f₁ || f)))
    go (out m₁ o₁ r₁ f₁) a rest =
        let b = rest m₁ o₁ (f₁ || r₁) (f₁ || f) in record { size = b.size ∙ a.size; fewer = omega arith }

marked_visit : (g : Graph) (levels i : ℕ) (m o : List ℕ) (r : Bool) → Marked m (crate_visit g levels i m o r)
unfolding crate_visit
marked_visit g zero i m o r = go (get_or m i 0)
  where
    go : (b : ℕ) → Marked m (crate_mark b m o r (out m o r true))
    go zero = record { size = refl; fewer = omega arith }
    go (suc zero) = record { size = refl; fewer = omega arith }
    go (suc (suc b)) = record { size = refl; fewer = omega arith }
marked_visit g (suc levels) i m o r =
    go (get_or m i 0) (crate_fields (crate_visit g levels) (g i) (set m i 1) o r false)
    (marked_fields (crate_visit g levels) (λ j m₁ o₁ r₁. marked_visit g levels j m₁ o₁ r₁) (g i) (set m i 1) o r false)
  where
    go : (b : ℕ) (x : Out) → Marked (set m i 1) x → Marked m (crate_mark b m o r (crate_finish i x))
    go zero (out m₁ o₁ r₁ f₁) a = record {
      size = length-set m₁ i 2 ∙ a.size ∙ length-set m i 1;
      fewer = omega (arith, a.fewer, unmarked_set m i 0, unmarked_set m₁ i 1);
    }
    go (suc zero) x a = record { size = refl; fewer = omega arith }
    go (suc (suc b)) x a = record { size = refl; fewer = omega arith }

module _ (g : Graph) (n : ℕ) (inside : Within g n) where
  -- with two numbers of levels the visits do the same
  abbrev Same : ℕ → ℕ → Type 0
  Same k l = (i : ℕ) (m o : List ℕ) (r : Bool) → i < n → length m ≡ n → unmarked m ≤ k → unmarked m ≤ l →
      crate_visit g k i m o r ≡ crate_visit g l i m o r

  fields_levels : (k l : ℕ) → Same k l → (js : List ℕ) → ((c : ℕ) → c ∈ js → c < n) → (m o : List ℕ) (r f : Bool) →
      length m ≡ n → unmarked m ≤ k → unmarked m ≤ l →
      crate_fields (crate_visit g k) js m o r f ≡ crate_fields (crate_visit g l) js m o r f
  unfolding crate_fields
  fields_levels k l same [] below m o r f size a b = refl
  fields_levels k l same (j ∷ js) below m o r f size a b =
      rw (same j m o r (below j (Memᴰ.head refl)) size a b) (go (crate_visit g l j m o r) (marked_visit g l j m o r)
      (λ m₁ o₁ r₁ f₁ x y z. fields_levels k l same js (λ c d. below c (Memᴰ.tail d)) m₁ o₁ r₁ f₁ x y z))
    where
      go : (x : Out) → Marked m x →
          ((m₁ o₁ : List ℕ) (r₁ f₁ : Bool) → length m₁ ≡ n → unmarked m₁ ≤ k → unmarked m₁ ≤ l → crate_fields (crate_visit g k) js m₁ o₁ r₁ f₁ ≡ crate_fields (crate_visit g l) js m₁ o₁ r₁ f₁) →
          on_out x (λ m₁ o₁ r₁ f₁. crate_fields (crate_visit g k) js m₁ o₁ (f₁ || r₁) (f₁ || f)) ≡
          on_out x (λ m₁ o₁ r₁ f₁. crate_fields (crate_visit g l) js m₁ o₁ (f₁ || r₁) (f₁ || f))
      go (out m₁ o₁ r₁ f₁) c rest = rest m₁ o₁ (f₁ || r₁) (f₁ || f) (c.size ∙ size) (omega arith) (omega arith)

  pub crate_visit_levels : (k l : ℕ) → Same k l
  unfolding crate_visit
  crate_visit_levels zero zero i m o r h size a b = refl
  crate_visit_levels zero (suc l) i m o r h size a b =
      crate_mark_same (get_or m i 0) m o r _ _ (λ e. absurd (omega (arith, unmarked_some m i (omega arith) e)))
  crate_visit_levels (suc k) zero i m o r h size a b =
      crate_mark_same (get_or m i 0) m o r _ _ (λ e. absurd (omega (arith, unmarked_some m i (omega arith) e)))
  crate_visit_levels (suc k) (suc l) i m o r h size a b =
      crate_mark_same (get_or m i 0) m o r _ _
      (λ e. let fewer = unmarked_first m i 0 (omega arith) e in
      ap (crate_finish i) (fields_levels k l (λ j m₁ o₁ r₁ x y z u. crate_visit_levels k l j m₁ o₁ r₁ x y z u) (g i) (inside i) (set m i 1) o r false (length-set m i 1 ∙ size) (omega arith) (omega arith)))

  structs_levels : (k l : ℕ) (js : List ℕ) → ((c : ℕ) → c ∈ js → c < n) → (m o : List ℕ) (r : Bool) → length m ≡ n →
      unmarked m ≤ k → unmarked m ≤ l →
      crate_structs (crate_visit g k) js m o r ≡ crate_structs (crate_visit g l) js m o r
  unfolding crate_structs
  structs_levels k l [] below m o r size a b = refl
  structs_levels k l (j ∷ js) below m o r size a b =
      rw (crate_visit_levels k l j m o r (below j (Memᴰ.head refl)) size a b) (go (crate_visit g l j m o r) (marked_visit g l j m o r)
      (λ m₁ o₁ r₁ x y z. structs_levels k l js (λ c d. below c (Memᴰ.tail d)) m₁ o₁ r₁ x y z))
    where
      go : (x : Out) → Marked m x →
          ((m₁ o₁ : List ℕ) (r₁ : Bool) → length m₁ ≡ n → unmarked m₁ ≤ k → unmarked m₁ ≤ l → crate_structs (crate_visit g k) js m₁ o₁ r₁ ≡ crate_structs (crate_visit g l) js m₁ o₁ r₁) →
          on_out x (λ m₁ o₁ r₁ f₁. crate_structs (crate_visit g k) js m₁ o₁ r₁) ≡
          on_out x (λ m₁ o₁ r₁ f₁. crate_structs (crate_visit g l) js m₁ o₁ r₁)
      go (out m₁ o₁ r₁ f₁) c rest = rest m₁ o₁ r₁ (c.size ∙ size) (omega arith) (omega arith)

pub crate_levels : {g : Graph} {n : ℕ} {js : List ℕ} → Structs g n js → (levels : ℕ) → n ≤ levels →
    crate_structs (crate_visit g levels) js (replicate n 0) [] false ≡ crate_sort g n js
unfolding crate_sort
crate_levels {g} {n} {js} among levels h =
    structs_levels g n (within among) levels n js among.below (replicate n 0) [] false (length-replicate n 0)
    (omega (arith, unmarked_blank n)) (omega (arith, unmarked_blank n))
