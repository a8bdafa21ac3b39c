-- The sort that stops at a ring and the crate's, which goes on, agree: on the error, and without one on the list.
-- Here m are marks, o is the order so far, r says that an error was reported and f that a result is Err.
use mathlib.Core.Path.{◌≡◌, refl, sym, ◌∙◌}
use mathlib.Core.List.Memᴰ
use mathlib.Core.List.{List, [], ◌∷◌}
use mathlib.Core.Bool.{Bool, true, false, ◌||◌, false≢true}
use Prim.Native.Nat.{ℕ, zero, suc, ◌<◌}
use native.Mathlib.Omega.{arith}
use lib.ListN.{length, get_or, set, replicate, length-replicate}
use Rattle.toposort.specs.Graph.{Graph, ◌∈◌, Within, Structs}
use Rattle.toposort.specs.Sort.{Walk, cycle, done, and_then, finish, by_mark, visit_all, visit, sort, is_ring, sorted_of, ringed, order}
use Rattle.toposort.specs.Crate.{Out, out, on_out, crate_mark, crate_fields, crate_finish, crate_visit, crate_structs, crate_sort, reported_of, list_of, crate_error, crate_order}
use Rattle.toposort.proofs.Marks.{blank}
use Rattle.toposort.proofs.Visits.{Moves, visit_moves}
use Rattle.toposort.proofs.Soundness.{within}

abbrev failed_of : Out → Bool
failed_of (out m o r f) = f

-- ---- an error stays reported

fields_keep : (one : ℕ → List ℕ → List ℕ → Bool → Out) →
    ((j : ℕ) (m o : List ℕ) → reported_of (one j m o true) ≡ true) →
    (js m o : List ℕ) (f : Bool) → reported_of (crate_fields one js m o true f) ≡ true
unfolding crate_fields
fields_keep one keeps [] m o f = refl
fields_keep one keeps (j ∷ js) m o f =
    go (one j m o true) (keeps j m o) (λ m₁ o₁ f₁. fields_keep one keeps js m₁ o₁ f₁)
  where
    go : (x : Out) → reported_of x ≡ true →
        ((m₁ o₁ : List ℕ) (f₁ : Bool) → reported_of (crate_fields one js m₁ o₁ true f₁) ≡ true) →
        reported_of (on_out x (λ m₁ o₁ r₁ f₁. crate_fields one js m₁ o₁ (f₁ || r₁) (f₁ || f))) ≡ true
    go (out m₁ o₁ r₁ true) h rest = rest m₁ o₁ true
    go (out m₁ o₁ r₁ false) h rest = rw h (rest m₁ o₁ f)

visit_keeps : (g : Graph) (levels i : ℕ) (m o : List ℕ) → reported_of (crate_visit g levels i m o true) ≡ true
unfolding crate_visit
visit_keeps g zero i m o = go (get_or m i 0)
  where
    go : (b : ℕ) → reported_of (crate_mark b m o true (out m o true true)) ≡ true
    go zero = refl
    go (suc zero) = refl
    go (suc (suc b)) = refl
visit_keeps g (suc levels) i m o =
    go (get_or m i 0) (crate_fields (crate_visit g levels) (g i) (set m i 1) o true false)
    (fields_keep (crate_visit g levels) (λ j m₁ o₁. visit_keeps g levels j m₁ o₁) (g i) (set m i 1) o false)
  where
    go : (b : ℕ) (x : Out) → reported_of x ≡ true → reported_of (crate_mark b m o true (crate_finish i x)) ≡ true
    go zero (out m₁ o₁ r₁ f₁) h = h
    go (suc zero) x h = refl
    go (suc (suc b)) x h = refl

structs_keep : (g : Graph) (levels : ℕ) (js m o : List ℕ) →
    reported_of (crate_structs (crate_visit g levels) js m o true) ≡ true
unfolding crate_structs
structs_keep g levels [] m o = refl
structs_keep g levels (j ∷ js) m o =
    go (crate_visit g levels j m o true) (visit_keeps g levels j m o) (λ m₁ o₁. structs_keep g levels js m₁ o₁)
  where
    go : (x : Out) → reported_of x ≡ true →
        ((m₁ o₁ : List ℕ) → reported_of (crate_structs (crate_visit g levels) js m₁ o₁ true) ≡ true) →
        reported_of (on_out x (λ m₁ o₁ r₁ f₁. crate_structs (crate_visit g levels) js m₁ o₁ r₁)) ≡ true
    go (out m₁ o₁ r₁ f₁) h rest = rw h (rest m₁ o₁)

-- an Err of one field makes the whole an Err
fields_fail : (one : ℕ → List ℕ → List ℕ → Bool → Out) (js m o : List ℕ) (r : Bool) →
    failed_of (crate_fields one js m o r true) ≡ true
unfolding crate_fields
fields_fail one [] m o r = refl
fields_fail one (j ∷ js) m o r = go (one j m o r) (λ m₁ o₁ r₁. fields_fail one js m₁ o₁ r₁)
  where
    go : (x : Out) → ((m₁ o₁ : List ℕ) (r₁ : Bool) → failed_of (crate_fields one js m₁ o₁ r₁ true) ≡ true) →
        failed_of (on_out x (λ m₁ o₁ r₁ f₁. crate_fields one js m₁ o₁ (f₁ || r₁) (f₁ || true))) ≡ true
    go (out m₁ o₁ r₁ true) rest = rest m₁ o₁ true
    go (out m₁ o₁ r₁ false) rest = rest m₁ o₁ r₁

-- ---- the two side by side

-- a visit: Err at a ring, else the same marks and order
abbrev Like : Walk → Out → Type 0
Like cycle x = failed_of x ≡ true
Like (done m o) x = x ≡ out m o false false

-- over the fields: at a ring the error is reported too
abbrev Likes : Walk → Out → Type 0
Likes cycle x = (reported_of x ≡ true) × (failed_of x ≡ true)
Likes (done m o) x = x ≡ out m o false false

fields_like : (g : Graph) (levels : ℕ) →
    ((j : ℕ) (m o : List ℕ) → Like (visit g levels j m o) (crate_visit g levels j m o false)) →
    (js m o : List ℕ) →
    Likes (visit_all (visit g levels) js m o) (crate_fields (crate_visit g levels) js m o false false)
unfolding visit_all crate_fields
fields_like g levels like [] m o = refl
fields_like g levels like (j ∷ js) m o =
    go (visit g levels j m o) (crate_visit g levels j m o false) (like j m o)
    (λ m₁ o₁. fields_like g levels like js m₁ o₁)
  where
    go : (w : Walk) (x : Out) → Like w x →
        ((m₁ o₁ : List ℕ) → Likes (visit_all (visit g levels) js m₁ o₁) (crate_fields (crate_visit g levels) js m₁ o₁ false false)) →
        Likes (and_then w (λ m₁ o₁. visit_all (visit g levels) js m₁ o₁))
        (on_out x (λ m₁ o₁ r₁ f₁. crate_fields (crate_visit g levels) js m₁ o₁ (f₁ || r₁) (f₁ || false)))
    go cycle (out m₁ o₁ r₁ f₁) h rest =
        rw h (fields_keep (crate_visit g levels) (λ i m₂ o₂. visit_keeps g levels i m₂ o₂) js m₁ o₁ true, fields_fail (crate_visit g levels) js m₁ o₁ true)
    go (done m₁ o₁) x h rest = rw h (rest m₁ o₁)

visit_like : (g : Graph) (levels i : ℕ) (m o : List ℕ) →
    Like (visit g levels i m o) (crate_visit g levels i m o false)
unfolding visit crate_visit
visit_like g zero i m o = go (get_or m i 0)
  where
    go : (b : ℕ) → Like (by_mark b m o cycle) (crate_mark b m o false (out m o false true))
    go zero = refl
    go (suc zero) = refl
    go (suc (suc b)) = refl
visit_like g (suc levels) i m o =
    go (get_or m i 0) (visit_all (visit g levels) (g i) (set m i 1) o)
    (crate_fields (crate_visit g levels) (g i) (set m i 1) o false false)
    (fields_like g levels (λ j m₁ o₁. visit_like g levels j m₁ o₁) (g i) (set m i 1) o)
  where
    go : (b : ℕ) (w : Walk) (x : Out) → Likes w x → Like (by_mark b m o (finish i w)) (crate_mark b m o false (crate_finish i x))
    go zero cycle (out m₁ o₁ r₁ f₁) h = h.1
    go zero (done m₁ o₁) x h = rw h refl
    go (suc zero) w x h = refl
    go (suc (suc b)) w x h = refl

-- `sort` visits a struct while none is being visited: a ring is met below it, and so reported
visit_reports : (g : Graph) (levels i : ℕ) (m o : List ℕ) → (get_or m i 0 ≡ 1 → ⊥) → 0 < levels →
    Likes (visit g levels i m o) (crate_visit g levels i m o false)
unfolding visit crate_visit
visit_reports g zero i m o idle h = absurd (omega arith)
visit_reports g (suc levels) i m o idle h =
    go (get_or m i 0) refl (visit_all (visit g levels) (g i) (set m i 1) o)
    (crate_fields (crate_visit g levels) (g i) (set m i 1) o false false)
    (fields_like g levels (λ j m₁ o₁. visit_like g levels j m₁ o₁) (g i) (set m i 1) o)
  where
    go : (b : ℕ) → get_or m i 0 ≡ b → (w : Walk) (x : Out) → Likes w x →
        Likes (by_mark b m o (finish i w)) (crate_mark b m o false (crate_finish i x))
    go zero e cycle (out m₁ o₁ r₁ f₁) h = h
    go zero e (done m₁ o₁) x h = rw h refl
    go (suc zero) e w x h = absurd (idle e)
    go (suc (suc b)) e w x h = refl

-- the whole sort
abbrev Agrees : Walk → Out → Type 0
Agrees cycle x = reported_of x ≡ true
Agrees (done m o) x = x ≡ out m o false false

structs_agree : (g : Graph) (n : ℕ) → Within g n → (js : List ℕ) → ((c : ℕ) → c ∈ js → c < n) → (m o : List ℕ) →
    length m ≡ n → ((j : ℕ) → get_or m j 0 ≡ 1 → ⊥) →
    Agrees (visit_all (visit g n) js m o) (crate_structs (crate_visit g n) js m o false)
unfolding visit_all crate_structs
structs_agree g n inside [] below m o size idle = refl
structs_agree g n inside (j ∷ js) below m o size idle =
    let h : j < n = below j (Memᴰ.head refl) in
    go (visit g n j m o) (crate_visit g n j m o false) (visit_reports g n j m o (idle j) (omega arith))
    (visit_moves g n inside n j m o h size)
    (λ m₁ o₁ l free. structs_agree g n inside js (λ c d. below c (Memᴰ.tail d)) m₁ o₁ l free)
  where
    go : (w : Walk) (x : Out) → Likes w x → Moves m o w →
        ((m₁ o₁ : List ℕ) → length m₁ ≡ n → ((i : ℕ) → get_or m₁ i 0 ≡ 1 → ⊥) → Agrees (visit_all (visit g n) js m₁ o₁) (crate_structs (crate_visit g n) js m₁ o₁ false)) →
        Agrees (and_then w (λ m₁ o₁. visit_all (visit g n) js m₁ o₁))
        (on_out x (λ m₁ o₁ r₁ f₁. crate_structs (crate_visit g n) js m₁ o₁ r₁))
    go cycle (out m₁ o₁ r₁ f₁) h moves rest = rw h.0 (structs_keep g n js m₁ o₁)
    go (done m₁ o₁) x h moves rest = rw h (rest m₁ o₁ (moves.size ∙ size) (λ i e. idle i (moves.no_more i e)))

module _ {g : Graph} {n : ℕ} {js : List ℕ} (among : Structs g n js) where
  sort_agrees : Agrees (sort g n js) (crate_sort g n js)
  unfolding sort crate_sort
  sort_agrees =
      structs_agree g n (within among) js among.below (replicate n 0) [] (length-replicate n 0)
      (λ j e. omega (arith, blank n j))

  pub same_as_crate : (crate_error g n js ≡ ringed g n js) × (ringed g n js ≡ false → crate_order g n js ≡ order g n js)
  unfolding ringed order crate_error crate_order
  same_as_crate = go (sort g n js) (crate_sort g n js) sort_agrees
    where
      go : (w : Walk) (x : Out) → Agrees w x → (reported_of x ≡ is_ring w) × (is_ring w ≡ false → list_of x ≡ sorted_of w)
      go cycle x h = (h, λ e. absurd (false≢true (sym e)))
      go (done m o) x h = rw h (refl, λ e. refl)
