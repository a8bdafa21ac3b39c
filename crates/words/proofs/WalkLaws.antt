-- The verdict behind a walk is the name rule, for any sorted table of words.
use mathlib.Core.Path.{◌≡◌, refl, sym, ◌∙◌}
use mathlib.Core.List.{List, [], ◌∷◌, ◌++◌, append-nil, append_assoc}
use mathlib.Core.Bool.{Bool, true, false, false≢true, ◌&&◌, ◌||◌, not, and-true, and-false}
use Prim.Native.Nat.{ℕ, suc, ◌+◌, ◌<◌, ◌≤◌}
use native.Mathlib.Omega.{arith}
use lib.Dec.{leb, ltb, eqb, leb-suc-suc, eqb-suc-suc}
use lib.ListN.{length, get_or, take, drop, length-append, length-drop, drop_of_length-le}
use lib.Seq.{length-take-le, get_or-drop, take-length}
use borrow.Author.Tests.{ltb-true, ltb-false, lt-ltb, ne_eqb}
use Rattle.lexical.specs.Bytes.{every, same, member}
use Rattle.lexical.specs.Names.{name_shape, name_ok, reserved_shape, sheet_name}
use Rattle.lexical.proofs.BoolLaws.{both, by_cases}
use Rattle.lexical.proofs.ByteLaws.{same_eq, every_cons}
use Rattle.words.specs.declared.State.{State}
use Rattle.words.specs.Walking.{walk_shape, begins, first_with, step_word, step, walk, Fits}
use Rattle.words.specs.Walking.{is_word, verdict, base_verdict, start, before, sorted, with_if, chosen}
use Rattle.words.proofs.OrderLaws.{begins_take, take_begins, begins_less, not_before}
use Rattle.words.proofs.ShapeLaws.{shape_formed, shape_free}

-- ---- the first word with a beginning

pub first_least : (p : List ℕ) (ws : List (List ℕ)) → first_with p ws ≤ length ws
unfolding first_with
first_least p [] = omega arith
first_least p (w ∷ ws) =
    by_cases (begins p w) (λ e. rw e (omega arith)) (λ e. rw e (omega (arith, first_least p ws)))

first_begins : (p : List ℕ) (ws : List (List ℕ)) → first_with p ws < length ws →
    begins p (get_or ws (first_with p ws) []) ≡ true
unfolding first_with
first_begins p [] h = absurd (omega arith)
first_begins p (w ∷ ws) h =
    by_cases (begins p w) (λ e. rw (e, e)) (λ e. rw e (first_begins p ws (let k = rw e at h in omega arith)))

first_all : (ws : List (List ℕ)) → first_with [] ws ≡ 0
unfolding first_with begins
first_all [] = refl
first_all (w ∷ ws) = refl

first_none : (p : List ℕ) → first_with p [] ≡ 0
unfolding first_with
first_none p = refl

-- with one character more it stands no earlier
first_more : (c : ℕ) (p : List ℕ) (ws : List (List ℕ)) →
    first_with p ws + first_with (p ++ (c ∷ [])) (drop (first_with p ws) ws) ≡ first_with (p ++ (c ∷ [])) ws
unfolding first_with
first_more c p [] = refl
first_more c p (w ∷ ws) =
    by_cases (begins p w) (λ e. rw e (omega arith))
    (λ e. by_cases (begins (p ++ (c ∷ [])) w) (λ f. absurd (false≢true (sym e ∙ (begins_less c p w f).0)))
    (λ f. let z = first_more c p ws in rw (e, f) (omega arith)))

module _ (words : List (List ℕ)) where
  -- ---- what a state is behind characters

  pub record Reached (p : List ℕ) (q : State) : Type 0 where
    pub word : q.word ≡ first_with p words
    pub matched : q.word < length words → q.matched ≡ length p

  reached_begins : {p : List ℕ} {q : State} → Reached p q → q.word < length words →
      begins p (get_or words q.word []) ≡ true
  reached_begins {p} r l = rw r.word (first_begins p words (rw r.word at l))

  step_grows : (i m c : ℕ) → i ≤ step_word words i m c
  unfolding step_word
  step_grows i m c = omega arith

  step_first : (c : ℕ) (p : List ℕ) (q : State) → Reached p q →
      step_word words q.word q.matched c ≡ first_with (p ++ (c ∷ [])) words
  unfolding step_word
  step_first c p q r =
      by_cases (ltb q.word (length words))
      (λ l. let k = ltb-true q.word (length words) l in
      rw (r.matched k, begins_take p (get_or words q.word []) (reached_begins r k), r.word) (first_more c p words))
      (λ l. let z : drop q.word words ≡ [] = drop_of_length-le words (ltb-false q.word (length words) l) in
      let y : drop (first_with p words) words ≡ [] = rw (← r.word) z in
      let x : first_with p words + 0 ≡ first_with (p ++ (c ∷ [])) words = rw (y, first_none (p ++ (c ∷ []))) at (first_more c p words) in
      rw (z, first_none (take q.matched (get_or words q.word []) ++ (c ∷ []))) (let w = r.word in omega arith))

  reached_step : (c : ℕ) (p : List ℕ) (q : State) → Reached p q → Reached (p ++ (c ∷ [])) (step words q c)
  unfolding step
  reached_step c p q r = record {
    word = step_first c p q r;
    matched = λ l. (let k : q.word < length words = omega (arith, step_grows q.word q.matched c) in
        rw (lt-ltb q.word (length words) k, r.matched k, length-append));
  }

  reached_walk : (cs p : List ℕ) (q : State) → Reached p q → Reached (p ++ cs) (walk words q cs)
  unfolding walk
  reached_walk [] p q r = rw (append-nil p) r
  reached_walk (c ∷ cs) p q r =
      rw (← append_assoc p (c ∷ []) cs) (reached_walk cs (p ++ (c ∷ [])) (step words q c) (reached_step c p q r))

  reached : (cs : List ℕ) → Reached cs (walk words start cs)
  reached cs = reached_walk cs [] start (record { word = sym (first_all words); matched = λ l. refl })

  pub walk_shape_lem : (cs : List ℕ) (q : State) → (walk words q cs).shape ≡ walk_shape q.shape cs
  unfolding walk walk_shape step
  walk_shape_lem [] q = refl
  walk_shape_lem (c ∷ cs) q = walk_shape_lem cs (step words q c)

  pub walk_more : (cs ds : List ℕ) (q : State) → walk words q (cs ++ ds) ≡ walk words (walk words q cs) ds
  unfolding walk
  walk_more [] ds q = refl
  walk_more (c ∷ cs) ds q = walk_more cs ds (step words q c)

  -- ---- a state fits its word

  pub fits_step : (c : ℕ) (q : State) → Fits words q → Fits words (step words q c)
  unfolding step step_word
  fits_step c q f l =
      let w = get_or words q.word [] in
      let k : q.word < length words = omega (arith, step_grows q.word q.matched c) in
      let n : length (take q.matched w) ≡ q.matched = length-take-le q.matched w (f k) in
      let j = first_with (take q.matched w ++ (c ∷ [])) (drop q.word words) in
      let b = first_begins (take q.matched w ++ (c ∷ [])) (drop q.word words)
      (rw (length-drop q.word words) (omega arith)) in
      let d = (begins_less c (take q.matched w) (get_or words (q.word + j) []) (rw (get_or-drop q.word words j []) at b)).1 in
      rw (lt-ltb q.word (length words) k) (omega arith)

  pub fits_walk : (cs : List ℕ) (q : State) → Fits words q → Fits words (walk words q cs)
  unfolding walk
  fits_walk [] q f = f
  fits_walk (c ∷ cs) q f = fits_walk cs (step words q c) (fits_step c q f)

-- ---- the words of an edition

-- a word that begins with p is p, if it is no longer
begins_same : (p w : List ℕ) → begins p w ≡ true → same p w ≡ eqb (length p) (length w)
unfolding begins same
begins_same [] [] h = refl
begins_same [] (d ∷ w) h = sym (ne_eqb 0 (suc (length w)) (λ e. omega arith))
begins_same (c ∷ p) [] h = absurd (false≢true h)
begins_same (c ∷ p) (d ∷ w) h =
    let q = both (eqb c d) (begins p w) h in
    rw q.0 (begins_same p w q.1 ∙ sym (eqb-suc-suc (length p) (length w)))

same_begins : (p w : List ℕ) → same p w ≡ true → begins p w ≡ true
same_begins p w h = rw (← same_eq p w h) (rw (take-length p) at (take_begins (length p) p))

behind_first : (l : List ℕ) (i : ℕ) → get_or (drop 1 l) i 0 ≡ get_or l (suc i) 0
behind_first [] i = refl
behind_first (x ∷ l) i = refl

module _ (e : ℕ) (p : List ℕ) where
  -- p is no word behind one that begins with it
  none_behind : (w : List ℕ) (ws : List (List ℕ)) (added : List ℕ) → begins p w ≡ true → every (before w) ws ≡ true →
      member p (chosen e ws added) ≡ false
  unfolding member chosen
  none_behind w [] added h g = refl
  none_behind w (x ∷ ws) added h g =
      let q = every_cons (before w) x ws g in
      let d : same p x ≡ false =
      by_cases (same p x) (λ s. absurd (false≢true (sym (not_before p w h) ∙ rw (same_eq p x s) q.0))) (λ s. s) in
      passed (leb 2 e || eqb (get_or added 0 0) 0) (chosen e ws (drop 1 added)) d (none_behind w ws (drop 1 added) h q.1)
    where
      passed : (k : Bool) (r : List (List ℕ)) → same p x ≡ false → member p r ≡ false → member p (with_if k x r) ≡ false
      passed true r d m = rw (d, m)
      passed false r d m = m

  chosen_first : (ws : List (List ℕ)) (added : List ℕ) → sorted ws ≡ true →
      (ltb (first_with p ws) (length ws) && (eqb (length p) (length (get_or ws (first_with p ws) [])) &&
      (leb 2 e || eqb (get_or added (first_with p ws) 0) 0))) ≡ member p (chosen e ws added)
  unfolding sorted chosen member first_with
  chosen_first [] added h = refl
  chosen_first (w ∷ ws) added h =
      let q = both (every (before w) ws) (sorted ws) h in
      by_cases (begins p w)
      (λ b. rw (b, lt-ltb 0 (suc (length ws)) (omega arith), ← begins_same p w b)
      (here (same p w) (leb 2 e || eqb (get_or added 0 0) 0) (chosen e ws (drop 1 added)) refl (none_behind w ws (drop 1 added) b q.0)))
      (λ b. rw (b, leb-suc-suc (suc (first_with p ws)) (length ws), ← behind_first added (first_with p ws))
      (chosen_first ws (drop 1 added) q.1 ∙
      there (leb 2 e || eqb (get_or added 0 0) 0) (chosen e ws (drop 1 added)) (by_cases (same p w) (λ s. absurd (false≢true (sym b ∙ same_begins p w s))) (λ s. s))))
    where
      here : (s k : Bool) (r : List (List ℕ)) → same p w ≡ s → member p r ≡ false → (s && k) ≡ member p (with_if k w r)
      here true true r d m = rw d
      here false true r d m = rw (d, m)
      here s false r d m = rw m (and-false s)

      there : (k : Bool) (r : List (List ℕ)) → same p w ≡ false → member p r ≡ member p (with_if k w r)
      there true r d = rw d
      there false r d = refl

-- ---- the verdict

module _ (words : List (List ℕ)) (added : List ℕ) (order : sorted words ≡ true) (cs : List ℕ) where
  walk_word_lem : (e : ℕ) → is_word words added e (walk words start cs) ≡ member cs (chosen e words added)
  unfolding is_word
  walk_word_lem e =
      let q = walk words start cs in
      let r = reached words cs in
      by_cases (ltb q.word (length words))
      (λ l. rw (r.matched (ltb-true q.word (length words) l), r.word) (chosen_first e cs words added order))
      (λ l. rw l (rw (rw r.word at l) at (chosen_first e cs words added order)))

  -- the rule of a sheet with this table
  pub walk_name : (e : ℕ) → verdict words added e (walk words start cs) ≡ sheet_name (chosen e words added) cs
  unfolding verdict sheet_name name_ok
  walk_name e =
      rw (walk_word_lem e, walk_shape_lem words cs start, shape_free cs)
      (turned (name_shape cs) (not (reserved_shape cs)) (not (member cs (chosen e words added))))
    where
      turned : (a b c : Bool) → ((a && b) && c) ≡ ((a && c) && b)
      turned true true c = sym (and-true c)
      turned true false c = sym (and-false c)
      turned false b c = refl

  -- the base rule with that of edition 1
  pub walk_base : base_verdict words added (walk words start cs) ≡ name_ok (chosen 1 words added) cs
  unfolding base_verdict name_ok
  walk_base = rw (walk_word_lem 1, walk_shape_lem words cs start, shape_formed cs)
