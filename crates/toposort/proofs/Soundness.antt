-- A visit meets a ring only where there is one, and what it leaves is a legal order.
-- Here js are all structs, m are marks and o is the order so far.
use mathlib.Core.Path.{◌≡◌, refl, sym, ◌∙◌}
use mathlib.Core.Logic.{⊎_elim}
use mathlib.Core.List.Memᴰ
use mathlib.Core.List.{List, [], ◌∷◌, ◌++◌}
use Prim.Native.Nat.{ℕ, zero, suc, ◌+◌, ◌<◌, ◌≤◌}
use native.Mathlib.Omega.{arith}
use lib.ListN.{length, get_or, set, length-set, length-append}
use Rattle.toposort.specs.Graph.{Graph, ◌∈◌, Within, Structs, Chain, Ring}
use Rattle.toposort.specs.Sort.{Walk, cycle, done, and_then, finish, by_mark, visit_all, visit}
use Rattle.toposort.specs.Adjacency.{unmarked}
use Rattle.toposort.proofs.Marks.{set_cases, unmarked_first, unmarked_some, unmarked_most}
use Rattle.toposort.proofs.Visits.{Moved, Moves, visit_moves, visits_move}
use Rattle.toposort.proofs.Orders.{Ordered, next, chain_more, last_cases}

-- the order is legal, and has the visited structs
pub record Good (g : Graph) (js m o : List ℕ) : Type 0 where
  pub ordered : Ordered g o
  pub structs : (j : ℕ) → j ∈ o → j ∈ js
  pub listed : (j : ℕ) → 1 < get_or m j 0 → j ∈ o
  pub visited : (j : ℕ) → j ∈ o → 1 < get_or m j 0

-- what a visit of ks may start from: each struct that is being visited reaches each of ks
pub record Start (g : Graph) (js : List ℕ) (n levels : ℕ) (ks m o : List ℕ) : Type 0 where
  pub good : Good g js m o
  pub size : length m ≡ n
  pub enough : unmarked m ≤ levels
  pub structs : (c : ℕ) → c ∈ ks → c ∈ js
  pub reach : (j c : ℕ) → get_or m j 0 ≡ 1 → c ∈ ks → (l : List ℕ) × Chain g j l c × (length l + unmarked m < n)

-- where it ends without a ring, ks are visited
pub record Left (g : Graph) (js ks m₁ o₁ : List ℕ) : Type 0 where
  pub good : Good g js m₁ o₁
  pub all : (c : ℕ) → c ∈ ks → 1 < get_or m₁ c 0

-- a ring of at most n structs
pub record ShortRing (g : Graph) (js : List ℕ) (n : ℕ) : Type 0 where
  pub ring : Ring g js
  pub short : length ring.others < n

abbrev pub Sound : Graph → List ℕ → ℕ → List ℕ → Walk → Type 0
Sound g js n ks cycle = ShortRing g js n
Sound g js n ks (done m₁ o₁) = Left g js ks m₁ o₁

module _ {g : Graph} {n : ℕ} {js : List ℕ} (among : Structs g n js) where
  pub within : Within g n
  within i c h = among.below c (among.held i c h)

  -- of several structs, the first
  first : {levels j : ℕ} {ks m o : List ℕ} → Start g js n levels (j ∷ ks) m o → Start g js n levels (j ∷ []) m o
  first s = record {
    good = s.good;
    size = s.size;
    enough = s.enough;
    structs = λ c d. s.structs c (Memᴰ.head (Memᴰ.eq_of_singleton d));
    reach = λ i c x d. s.reach i c x (Memᴰ.head (Memᴰ.eq_of_singleton d));
  }

  -- then the others
  others : {levels j : ℕ} {ks m o m₁ o₁ : List ℕ} → Start g js n levels (j ∷ ks) m o → Moved m o m₁ o₁ → Good g js m₁ o₁ →
      Start g js n levels ks m₁ o₁
  others s moved good = record {
    good = good;
    size = moved.size ∙ s.size;
    enough = omega (arith, moved.count, moved.longer, s.enough);
    structs = λ c d. s.structs c (Memᴰ.tail d);
    reach = λ i c x d. let q = s.reach i c (moved.no_more i x) (Memᴰ.tail d) in (q.0, q.1, omega (arith, q.2, moved.count, moved.longer));
  }

  both : {j : ℕ} {m₁ o₁ : List ℕ} (ks : List ℕ) (w : Walk) → Left g js (j ∷ []) m₁ o₁ → Moves m₁ o₁ w → Sound g js n ks w →
      Sound g js n (j ∷ ks) w
  both ks cycle a moves b = b
  both ks (done m₂ o₂) a moves b = record {
    good = b.good;
    all = λ c h. ⊎_elim (λ e. moves.visited c (a.all c (Memᴰ.head e))) (λ d. b.all c d) (Memᴰ.cases_cons h);
  }

  inside : {levels i : ℕ} {ks m o : List ℕ} → Start g js n levels (i ∷ ks) m o → i < length m
  inside {i} s = omega (arith, s.size, among.below i (s.structs i (Memᴰ.head refl)))

  -- a struct is marked, and then those that it holds are visited
  enters : (levels i : ℕ) (m o : List ℕ) → get_or m i 0 ≡ 0 → Start g js n (suc levels) (i ∷ []) m o →
      Start g js n levels (g i) (set m i 1) o
  enters levels i m o e s =
      let h : i < length m = inside s in
      let fewer = unmarked_first m i 0 h e in
      record {
        good = record {
          ordered = s.good.ordered;
          structs = s.good.structs;
          listed = λ j x. ⊎_elim (λ p. absurd (omega arith)) (λ p. s.good.listed j (omega arith)) (set_cases m i 1 j h);
          visited = λ j d. let x = s.good.visited j d in ⊎_elim (λ p. absurd (let y : get_or m j 0 ≡ 0 = rw p.0 e in omega arith)) (λ p. omega arith) (set_cases m i 1 j h);
        };
        size = length-set m i 1 ∙ s.size;
        enough = omega (arith, s.enough);
        structs = among.held i;
        reach = λ j c x d. ⊎_elim
            (λ p. ([], rw p.0 d, omega (arith, unmarked_most m, s.size)))
            (λ p. let q = s.reach j i (sym p.1 ∙ x) (Memᴰ.head refl) in (q.0 ++ (i ∷ []), chain_more g j q.0 i c q.1 d, omega (arith, q.2, length-append q.0 (i ∷ []))))
            (set_cases m i 1 j h);
      }

  -- and the struct is visited when they are
  leaves : (levels i : ℕ) (m o : List ℕ) (w : Walk) → Start g js n (suc levels) (i ∷ []) m o → Moves (set m i 1) o w →
      Sound g js n (g i) w → Sound g js n (i ∷ []) (finish i w)
  leaves levels i m o cycle s moves r = r
  leaves levels i m o (done m₁ o₁) s moves r =
      let h : i < length m = inside s in
      let h₁ : i < length m₁ = omega (arith, moves.size, length-set m i 1) in
      let begun : get_or m₁ i 0 ≡ 1 = moves.visiting i (⊎_elim (λ x. x.1) (λ x. absurd (x.0 refl)) (set_cases m i 1 i h)) in
      record {
        good = record {
          ordered = next i r.good.ordered (λ c d. r.good.listed c (r.all c d)) (λ d. let x = r.good.visited i d in omega arith) refl;
          structs = λ j d. ⊎_elim (λ x. r.good.structs j x) (λ x. s.structs j (Memᴰ.head x)) (last_cases o₁ d);
          listed = λ j x. ⊎_elim (λ y. Memᴰ.append_right o₁ (Memᴰ.head y.0)) (λ y. Memᴰ.append_left (i ∷ []) (r.good.listed j (omega arith))) (set_cases m₁ i 2 j h₁);
          visited = λ j d. ⊎_elim (λ x. omega arith) (λ x. ⊎_elim (λ y. let z = r.good.visited j y in omega arith) (λ y. absurd (x.0 y)) (last_cases o₁ d)) (set_cases m₁ i 2 j h₁);
        };
        all = λ c d. ⊎_elim (λ y. omega arith) (λ y. absurd (y.0 (Memᴰ.eq_of_singleton d))) (set_cases m₁ i 2 c h₁);
      }

  -- a struct that has a mark: it is being visited and closes a ring, or it is visited
  stands : (levels i b : ℕ) (m o : List ℕ) → get_or m i 0 ≡ suc b → Start g js n levels (i ∷ []) m o →
      Sound g js n (i ∷ []) (by_mark (suc b) m o cycle)
  stands levels i zero m o e s =
      let q = s.reach i i e (Memᴰ.head refl) in
      record {
        ring = record { start = i; others = q.0; struct = s.structs i (Memᴰ.head refl); closes = q.1 };
        short = omega (arith, q.2);
      }
  stands levels i (suc b) m o e s = record {
    good = s.good;
    all = λ c d. let x : get_or m c 0 ≡ suc (suc b) = rw (Memᴰ.eq_of_singleton d) e in omega arith;
  }

  pub visits_sound : (levels : ℕ) →
      ((i : ℕ) (m o : List ℕ) → Start g js n levels (i ∷ []) m o → Sound g js n (i ∷ []) (visit g levels i m o)) →
      (ks m o : List ℕ) → Start g js n levels ks m o → Sound g js n ks (visit_all (visit g levels) ks m o)
  unfolding visit_all
  visits_sound levels one [] m o s = record { good = s.good; all = λ c d. absurd (Memᴰ.not-nil d) }
  visits_sound levels one (j ∷ ks) m o s =
      go (visit g levels j m o)
      (visit_moves g n within levels j m o (among.below j (s.structs j (Memᴰ.head refl))) s.size)
      (one j m o (first s)) (λ m₁ o₁ x. visits_sound levels one ks m₁ o₁ x)
    where
      go : (w : Walk) → Moves m o w → Sound g js n (j ∷ []) w →
          ((m₁ o₁ : List ℕ) → Start g js n levels ks m₁ o₁ → Sound g js n ks (visit_all (visit g levels) ks m₁ o₁)) →
          Sound g js n (j ∷ ks) (and_then w (λ m₁ o₁. visit_all (visit g levels) ks m₁ o₁))
      go cycle moves a rest = a
      go (done m₁ o₁) moves a rest =
          let then : Start g js n levels ks m₁ o₁ = others s moves a.good in
          both ks (visit_all (visit g levels) ks m₁ o₁) a
          (visits_move g n within levels ks (λ c d. among.below c (then.structs c d)) m₁ o₁ then.size)
          (rest m₁ o₁ then)

  pub visit_sound : (levels i : ℕ) (m o : List ℕ) → Start g js n levels (i ∷ []) m o →
      Sound g js n (i ∷ []) (visit g levels i m o)
  unfolding visit
  visit_sound zero i m o s = go (get_or m i 0) refl
    where
      go : (b : ℕ) → get_or m i 0 ≡ b → Sound g js n (i ∷ []) (by_mark b m o cycle)
      go zero e = absurd (omega (arith, unmarked_some m i (inside s) e, s.enough))
      go (suc b) e = stands zero i b m o e s
  visit_sound (suc levels) i m o s =
      go (get_or m i 0) refl
      (λ e. visits_sound levels (λ j m₁ o₁ x. visit_sound levels j m₁ o₁ x) (g i) (set m i 1) o (enters levels i m o e s))
    where
      go : (b : ℕ) → get_or m i 0 ≡ b → (get_or m i 0 ≡ 0 → Sound g js n (g i) (visit_all (visit g levels) (g i) (set m i 1) o)) →
          Sound g js n (i ∷ []) (by_mark b m o (finish i (visit_all (visit g levels) (g i) (set m i 1) o)))
      go zero e sound =
          leaves levels i m o (visit_all (visit g levels) (g i) (set m i 1) o) s
          (visits_move g n within levels (g i) (within i) (set m i 1) o (length-set m i 1 ∙ s.size)) (sound e)
      go (suc zero) e sound = stands (suc levels) i zero m o e s
      go (suc (suc b)) e sound = stands (suc levels) i (suc b) m o e s
