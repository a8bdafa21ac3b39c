-- Laws of windows: a walk over the characters of a number.
use mathlib.Core.Logic.{◌⊎◌, inl, inr, ⊎_elim}
use mathlib.Core.Path.{◌≡◌, refl, sym, ap, ◌∙◌}
use mathlib.Core.List.{List, [], ◌∷◌}
use mathlib.Core.Bool.{Bool, true, false, false≢true, ◌||◌, not}
use Prim.Native.Nat.{ℕ, zero, suc, ◌+◌, ◌-◌, ◌*◌, ◌/◌, ◌%◌, ◌^◌, ◌<◌, ◌≤◌}
use native.Mathlib.Omega.{arith}
use lib.Dec.{eqb}
use lib.ListN.{length, drop, drop_of_length-le}
use lib.Pow.{pow-add, pow_pos, pow_mono, mod-pow-add, shl_lt, shl_exact}
use native.Mathlib.Nat.{mul_assoc, mod-lt, mod-eq_of_lt}
use lib.Bits.{bit_and, and_le_r}
use borrow.Author.Tests.{lt-ltb, le-ltb, eq-eqb, ne_eqb}
use Rattle.lexical.specs.Bytes.{every, chars_in}
use Rattle.lexical.specs.Names.{letter, digit, name_char, underscore, double_underscore}
use Rattle.lexical.proofs.BoolLaws.{by_cases, both, not-true, not-false}
use Rattle.lexical.proofs.LaneLaws.{lanes, name_marks, all_names, score_lane, score_char, last_score, score_marks}
use Rattle.lexical.proofs.LaneLaws.{between, scores_double, scores_last}
use Rattle.format.specs.Decode.{pick}
use Rattle.words.specs.declared.Shape.{Shape}
use Rattle.words.specs.declared.Shape.TheVariants.{Empty, Leading, Plain, Underscore, Reserved, Broken}
use Rattle.words.specs.declared.State.{State}
use Rattle.words.specs.Walking.{step_shape, walk_shape, step_word, step, walk, first_with, Fits}
use Rattle.words.proofs.ShapeLaws.{solid_plain, solid_name, score_name, other_none, broken_stays, ending}
use Rattle.words.proofs.WalkLaws.{walk_shape_lem, fits_step}
use Rattle.walk.specs.Windows.{walk_word, settled}

-- ---- characters of a number

-- the first, and those behind it
chars_cons : (n a b : ℕ) → a < 128 → b < 2 ^ (7 * n) → chars_in (suc n) (a * 2 ^ (7 * n) + b) ≡ a ∷ chars_in n b
unfolding chars_in
chars_cons zero a b h l = let z : (a * 2 ^ (7 * 0) + b) % 128 ≡ a = omega arith in rw z
chars_cons (suc n) a b h l =
    let e : 2 ^ (7 * suc n) ≡ 2 ^ (7 * n) * 128 =
    (let y : 7 * suc n ≡ 7 * n + 7 = omega arith in rw y (pow-add 2 (7 * n) 7)) in
    let m : a * (2 ^ (7 * n) * 128) ≡ a * 2 ^ (7 * n) * 128 = sym (mul_assoc a (2 ^ (7 * n)) 128) in
    let k : b < 2 ^ (7 * n) * 128 = rw e at l in
    let u : (a * 2 ^ (7 * n) * 128 + b) / 128 ≡ a * 2 ^ (7 * n) + b / 128 = omega arith in
    let v : (a * 2 ^ (7 * n) * 128 + b) % 128 ≡ b % 128 = omega arith in
    rw (e, m, u, v, chars_cons n a (b / 128) h (omega arith))

-- of the last n + 1 of x the first, and the last n
pub chars_turn : (x n : ℕ) → chars_in (suc n) (x % 2 ^ (7 * suc n)) ≡ (x / 2 ^ (7 * n) % 128) ∷ chars_in n (x % 2 ^ (7 * n))
chars_turn x n =
    let e : 7 * suc n ≡ 7 + 7 * n = omega arith in
    rw (e, mod-pow-add x 7 (7 * n)) (chars_cons n (x / 2 ^ (7 * n) % 128) (x % 2 ^ (7 * n)) (omega arith) (mod-lt x (pow_pos (7 * n))))

pub window_all : (x bits : ℕ) → bits % 7 ≡ 0 → x < 2 ^ bits → chars_in (bits / 7) x ≡ chars_in (bits / 7) (x % 2 ^ bits)
window_all x bits m l = rw (mod-eq_of_lt l)

pub window_turn : (x d : ℕ) {c : ℕ} → 0 < d → d % 7 ≡ 0 → c ≡ x / 2 ^ (d - 7) % 128 →
    chars_in (d / 7) (x % 2 ^ d) ≡ c ∷ chars_in ((d - 7) / 7) (x % 2 ^ (d - 7))
window_turn x d h m e =
    let a : d / 7 ≡ suc ((d - 7) / 7) = omega arith in
    let b : 7 * suc ((d - 7) / 7) ≡ d = omega arith in
    let f : 7 * ((d - 7) / 7) ≡ d - 7 = omega arith in
    let z = rw (b, f) at (chars_turn x ((d - 7) / 7)) in
    rw (a, e) z

-- one shifted
pub shifted : (k : ℕ) → k ≤ 56 → 1 * 2 ^ k % 2 ^ 64 ≡ 2 ^ k
shifted k h = shl_exact 1 k 64 (omega arith) (omega arith) ∙ omega arith

pub shifted_pos : (k : ℕ) → k ≤ 56 → 0 < 1 * 2 ^ k % 2 ^ 64
shifted_pos k h = rw (shifted k h) (pow_pos k)

-- ---- the shape, behind characters that are tested at once

settled_on : (q : Shape) (c : ℕ) → settled q ≡ true → settled (step_shape q c) ≡ true
settled_on Empty c h = absurd (false≢true h)
settled_on Leading c h = absurd (false≢true h)
settled_on Plain c h = by_cases (letter c || digit c) (λ s. rw s) (λ s. by_cases (underscore c) (λ e. rw (s, e)) (λ e. rw (s, e)))
settled_on Underscore c h =
    by_cases (letter c || digit c) (λ s. rw s) (λ s. by_cases (underscore c) (λ e. rw (s, e)) (λ e. rw (s, e)))
settled_on Reserved c h =
    by_cases (letter c || digit c) (λ s. rw s) (λ s. by_cases (underscore c) (λ e. rw (s, e)) (λ e. rw (s, e)))
settled_on Broken c h = refl

other_breaks : (q : Shape) (c : ℕ) → settled q ≡ true → (letter c || digit c) ≡ false → underscore c ≡ false → step_shape q c ≡ Broken
other_breaks Empty c h s e = absurd (false≢true h)
other_breaks Leading c h s e = absurd (false≢true h)
other_breaks Plain c h s e = rw (s, e)
other_breaks Underscore c h s e = rw (s, e)
other_breaks Reserved c h s e = rw (s, e)
other_breaks Broken c h s e = refl

-- a character that is none of a name
pub window_broken : (q : Shape) (cs : List ℕ) → settled q ≡ true → every name_char cs ≡ false → Broken ≡ walk_shape q cs
unfolding walk_shape every
window_broken q [] h n = absurd (false≢true (sym n))
window_broken q (c ∷ cs) h n =
    by_cases (letter c || digit c)
    (λ s. window_broken (step_shape q c) cs (settled_on q c h) (rw (solid_name c s) at n))
    (λ s. by_cases (underscore c)
    (λ e. window_broken (step_shape q c) cs (settled_on q c h) (rw (score_name c e) at n))
    (λ e. rw (other_breaks q c h s e) (sym (broken_stays cs))))

named : (c : ℕ) → name_char c ≡ true → underscore c ≡ false → (letter c || digit c) ≡ true
named c h e =
    by_cases (letter c || digit c) (λ s. s) (λ s. absurd (false≢true (sym (other_none c s e) ∙ h)))

scored_plain : (c : ℕ) → underscore c ≡ true → (letter c || digit c) ≡ false
scored_plain c e = by_cases (letter c || digit c) (λ s. absurd (false≢true (sym (solid_plain c s) ∙ e))) (λ s. s)

pub window_reserved : (cs : List ℕ) → every name_char cs ≡ true → Reserved ≡ walk_shape Reserved cs
unfolding walk_shape every
window_reserved [] h = refl
window_reserved (c ∷ cs) h =
    let q = both (name_char c) (every name_char cs) h in
    by_cases (underscore c) (λ e. rw (scored_plain c e, e) (window_reserved cs q.1))
    (λ e. rw (named c q.0 e) (window_reserved cs q.1))

-- what follows an underscore counts only by its being one
double_by : (c : ℕ) (cs : List ℕ) → double_underscore (c ∷ cs) ≡ double_underscore (score_char (underscore c) ∷ cs)
unfolding double_underscore
double_by c cs = by_cases (underscore c) (λ e. rw e) (λ e. rw e)

pub window_ends : (b : Bool) (cs : List ℕ) → every name_char cs ≡ true →
    walk_shape (ending b) cs ≡ pick (double_underscore (score_char b ∷ cs)) Reserved (ending (last_score b cs))
unfolding walk_shape every double_underscore last_score
window_ends true [] h = refl
window_ends false [] h = refl
window_ends true (c ∷ cs) h =
    let q = both (name_char c) (every name_char cs) h in
    by_cases (underscore c)
    (λ e. rw (scored_plain c e, e) (sym (window_reserved cs q.1)))
    (λ e. rw (named c q.0 e, double_by c cs, e) (window_ends false cs q.1))
window_ends false (c ∷ cs) h =
    let q = both (name_char c) (every name_char cs) h in
    by_cases (underscore c)
    (λ e. rw (scored_plain c e, double_by c cs, e) (window_ends true cs q.1))
    (λ e. rw (named c q.0 e, double_by c cs, e) (window_ends false cs q.1))

pub whole_rest : (x bits : ℕ) → x < 2 ^ bits → x ≡ x % 2 ^ bits
whole_rest x bits l = sym (mod-eq_of_lt l)

module _ (x d : ℕ) (s q : Shape) (a : List ℕ) {r : ℕ} (f : r ≡ x % 2 ^ d)
    (g : walk_shape s a ≡ walk_shape q (chars_in (d / 7) r)) where
  pub shape_turn : {c : ℕ} {p : Shape} → 0 < d → d % 7 ≡ 0 → c ≡ x / 2 ^ (d - 7) % 128 → p ≡ step_shape q c →
      walk_shape s a ≡ walk_shape p (chars_in ((d - 7) / 7) (x % 2 ^ (d - 7)))
  unfolding walk_shape
  shape_turn k j e p = rw p (g ∙ rw (f, window_turn x d k j e))

  pub shape_end : d ≡ 0 → q ≡ walk_shape s a
  unfolding walk_shape chars_in
  shape_end z = let y : d / 7 ≡ 0 = omega arith in sym (g ∙ rw y)

-- a loop that was left: nothing is left to be stepped, or the shape is settled
pub settled_left : (d : ℕ) (q : Shape) {A B : Type 0} → (d ≡ 0 → ⊥) → (A → settled q ≡ true) → (B → d ≤ 0) → A ⊎ B →
    settled q ≡ true
settled_left d q n f g (inl a) = f a
settled_left d q n f g (inr b) = absurd (n (let z = g b in omega arith))

-- ---- what the code tests

-- a shape that ends in an underscore or not, and the lane that says so
pub record Score (q : Shape) (s : ℕ) : Type 0 where
  pub score : Bool
  pub shape : q ≡ ending score
  pub lane : s ≡ score_lane score

pub by_four : {A B C D P : Type 0} → (A → P) → (B → P) → (C → P) → (D → P) → A ⊎ (B ⊎ (C ⊎ D)) → P
by_four f g h k (inl a) = f a
by_four f g h k (inr (inl b)) = g b
by_four f g h k (inr (inr (inl c))) = h c
by_four f g h k (inr (inr (inr d))) = k d

module _ {q : Shape} {s : ℕ} where
  pub score_empty : settled q ≡ true → q ≡ Empty → Score q s
  score_empty h e = absurd (false≢true (sym (ap settled e) ∙ h))

  pub score_leading : settled q ≡ true → q ≡ Leading → Score q s
  score_leading h e = absurd (false≢true (sym (ap settled e) ∙ h))

  pub score_plain : q ≡ Plain → s ≡ 0 → Score q s
  score_plain e f = record { score = false; shape = e; lane = f }

  -- no underscore stands last
  pub score_none : settled q ≡ true → (q ≡ Empty) ⊎ ((q ≡ Leading) ⊎ (q ≡ Plain)) → s ≡ 0 → Score q s
  score_none h o f = ⊎_elim (score_empty h) (λ r. ⊎_elim (score_leading h) (λ e. score_plain e f) r) o

  pub score_under : q ≡ Underscore → s ≡ 64 → Score q s
  score_under e f = record { score = true; shape = e; lane = f }

module _ (x bits : ℕ) (l : bits ≤ 56) (m : bits % 7 ≡ 0) (h : x < 2 ^ bits) where
  seven : 7 * (bits / 7) ≡ bits
  seven = omega arith

  all_is : eqb (name_marks 8 x) (lanes 8 64 / 2 ^ (56 - bits)) ≡ every name_char (chars_in (bits / 7) x)
  all_is = rw seven at (all_names (bits / 7) x (omega arith) (rw seven h))

  pub all_here : name_marks 8 x ≡ lanes 8 64 / 2 ^ (56 - bits) → every name_char (chars_in (bits / 7) x) ≡ true
  all_here e = sym all_is ∙ eq-eqb (name_marks 8 x) (lanes 8 64 / 2 ^ (56 - bits)) e

  pub none_here : (name_marks 8 x ≡ lanes 8 64 / 2 ^ (56 - bits) → ⊥) → every name_char (chars_in (bits / 7) x) ≡ false
  none_here n = sym all_is ∙ ne_eqb (name_marks 8 x) (lanes 8 64 / 2 ^ (56 - bits)) n

  -- the lanes with one in front of them
  pub sum_room : (s : ℕ) → s ≤ 64 → score_marks 8 x + s * 2 ^ bits % 2 ^ 64 < 2 ^ 64
  unfolding score_marks lanes
  sum_room s k =
      let r : 7 + bits ≤ 63 = omega arith in
      let z = shl_lt {a = s} 7 bits (omega arith) in
      rw (shl_exact {a = s} 7 bits 64 (omega arith) (omega arith)) (omega (arith, z, pow_mono r, and_le_r (bit_and (between 63 33 32 8 x) x) (lanes 8 64)))

  module _ {q : Shape} {s : ℕ} (c : Score q s) {u : ℕ} (e : u ≡ score_marks 8 x + s * 2 ^ bits % 2 ^ 64) where
    sum : u ≡ score_marks 8 x + score_lane c.score * 2 ^ (7 * (bits / 7))
    sum = e ∙ rw (c.lane, shl_exact 7 bits 64 (lane_lt c.score) (omega arith), seven)
      where
        lane_lt : (b : Bool) → score_lane b < 2 ^ 7
        lane_lt true = omega arith
        lane_lt false = omega arith

    module _ (all : every name_char (chars_in (bits / 7) x) ≡ true) where
      ends : walk_shape q (chars_in (bits / 7) x) ≡
          pick (double_underscore (score_char c.score ∷ chars_in (bits / 7) x)) Reserved
          (ending (last_score c.score (chars_in (bits / 7) x)))
      ends = rw c.shape (window_ends c.score (chars_in (bits / 7) x) all)

      told : eqb (bit_and u (u / 2 ^ 7)) 0 ≡ not (double_underscore (score_char c.score ∷ chars_in (bits / 7) x))
      told = scores_double c.score (bits / 7) x sum (omega arith) (rw seven h)

      last : eqb (u % 128) 0 ≡ not (last_score c.score (chars_in (bits / 7) x))
      last = scores_last c.score (bits / 7) x sum (omega arith) (rw seven h)

      pub window_double : (bit_and u (u / 2 ^ 7) ≡ 0 → ⊥) → Reserved ≡ walk_shape q (chars_in (bits / 7) x)
      window_double d =
          let z = not-false (double_underscore (score_char c.score ∷ chars_in (bits / 7) x))
          (sym told ∙ ne_eqb (bit_and u (u / 2 ^ 7)) 0 d) in
          sym (ends ∙ rw z)

      module _ (d : bit_and u (u / 2 ^ 7) ≡ 0) where
        single : double_underscore (score_char c.score ∷ chars_in (bits / 7) x) ≡ false
        single = not-true (double_underscore (score_char c.score ∷ chars_in (bits / 7) x))
            (sym told ∙ eq-eqb (bit_and u (u / 2 ^ 7)) 0 d)

        pub window_score : (u % 128 ≡ 0 → ⊥) → Underscore ≡ walk_shape q (chars_in (bits / 7) x)
        window_score k =
            let z = not-false (last_score c.score (chars_in (bits / 7) x)) (sym last ∙ ne_eqb (u % 128) 0 k) in
            sym (ends ∙ rw (single, z))

        pub window_plain : u % 128 ≡ 0 → Plain ≡ walk_shape q (chars_in (bits / 7) x)
        window_plain k =
            let z = not-true (last_score c.score (chars_in (bits / 7) x)) (sym last ∙ eq-eqb (u % 128) 0 k) in
            sym (ends ∙ rw (single, z))

-- ---- the word

module _ (words : List (List ℕ)) where
  -- two states have the same word
  abbrev pub Alike : State → State → Type 0
  Alike a b = (a.word ≡ b.word) × (a.matched ≡ b.matched)

  -- the shape has no part in the word
  alike : (cs : List ℕ) (p q : State) → Alike p q → Alike (walk words p cs) (walk words q cs)
  unfolding walk step
  alike [] p q h = h
  alike (c ∷ cs) p q h =
      alike cs (step words p c) (step words q c) (rw (h.0, h.1), rw (h.0, h.1))

  pub word_turn : (w m c : ℕ) (cs : List ℕ) → w < length words →
      Alike (walk_word words w m (c ∷ cs)) (walk_word words (step_word words w m c) (m + 1) cs)
  unfolding walk step
  word_turn w m c cs h = alike cs _ _ (refl, rw (lt-ltb w (length words) h))

  pub word_ends : (w m : ℕ) (cs : List ℕ) → length words ≤ w → Alike (walk_word words w m cs) (walk_word words w m [])
  unfolding walk step step_word first_with
  word_ends w m [] h = (refl, refl)
  word_ends w m (c ∷ cs) h =
      let z : drop w words ≡ [] = drop_of_length-le words h in
      let a = alike cs (step words (record { word = w; matched = m; shape = Empty }) c) (record { word = w; matched = m; shape = Empty })
      (rw z (omega arith), rw (le-ltb w (length words) h) (omega arith)) in
      let b = word_ends w m cs h in
      (a.0 ∙ b.0, a.1 ∙ b.1)

  -- a step of the code
  module _ (a : State) (w m d x : ℕ) {c u : ℕ} (h : w < length words) (k : 0 < d) (j : d % 7 ≡ 0)
      (e : c ≡ x / 2 ^ (d - 7) % 128) (f : u ≡ step_word words w m c) where
    pub word_step : Alike a (walk_word words w m (chars_in (d / 7) (x % 2 ^ d))) →
        Alike a (walk_word words u (m + 1) (chars_in ((d - 7) / 7) (x % 2 ^ (d - 7))))
    word_step g =
        let y = rw (window_turn x d k j e) at g in
        let z = word_turn w m c (chars_in ((d - 7) / 7) (x % 2 ^ (d - 7))) h in
        rw f (y.0 ∙ z.0, y.1 ∙ z.1)

  pub step_fits : (w m c : ℕ) {u : ℕ} → w < length words → u ≡ step_word words w m c →
      Fits words (record { word = w; matched = m; shape = Empty }) →
      Fits words (record { word = u; matched = m + 1; shape = Empty })
  unfolding step
  step_fits w m c h f g =
      let z = fits_step words c (record { word = w; matched = m; shape = Empty }) g in
      rw (← f, lt-ltb w (length words) h) at z

  pub word_begin : (w m x bits : ℕ) → bits % 7 ≡ 0 → x < 2 ^ bits →
      Alike (walk_word words w m (chars_in (bits / 7) x)) (walk_word words w m (chars_in (bits / 7) (x % 2 ^ bits)))
  word_begin w m x bits j l = rw (← window_all x bits j l) (refl, refl)

  -- behind the last word, and behind the last character
  module _ (a : State) (w m x d : ℕ) where
    pub word_over : length words ≤ w → Alike a (walk_word words w m (chars_in (d / 7) (x % 2 ^ d))) →
        (w ≡ a.word) × (m ≡ a.matched)
    unfolding walk
    word_over h g =
        let z = word_ends w m (chars_in (d / 7) (x % 2 ^ d)) h in
        (sym (g.0 ∙ z.0), sym (g.1 ∙ z.1))

    pub word_done : d ≤ 0 → Alike a (walk_word words w m (chars_in (d / 7) (x % 2 ^ d))) → (w ≡ a.word) × (m ≡ a.matched)
    unfolding walk chars_in
    word_done h g =
        let z : d / 7 ≡ 0 = omega arith in
        let y = rw z at g in
        (sym y.0, sym y.1)

  state_is : {a b : State} → Alike a b → a.shape ≡ b.shape → a ≡ b
  state_is {a} {b} h e =
      let z : ◌≡◌ {A = State} (record { word = a.word; matched = a.matched; shape = a.shape })
      (record { word = b.word; matched = b.matched; shape = b.shape }) = rw (h.0, h.1, e) in
      z

  -- a walk from its two halves
  pub halves : (q : State) (cs : List ℕ) {r : State} → Alike r (walk_word words q.word q.matched cs) →
      r.shape ≡ walk_shape q.shape cs → r ≡ walk words q cs
  halves q cs h e =
      let a = alike cs (record { word = q.word; matched = q.matched; shape = Empty }) q (refl, refl) in
      state_is (h.0 ∙ a.0, h.1 ∙ a.1) (e ∙ sym (walk_shape_lem words cs q))
