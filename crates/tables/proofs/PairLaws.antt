-- Two rows of a table: n keys from `keys` on, and from `words` on a word for each, which says something of its key where
-- it is not 0.
use mathlib.Core.Path.{◌≡◌, ap, ◌∙◌}
use mathlib.Core.Logic.{by_cases}
use mathlib.Core.List.{List}
use Prim.Native.Nat.{ℕ, ◌+◌, ◌<◌, ◌≤◌}
use native.Mathlib.Omega.{arith}
use native.Mathlib.Decide.{ℕ_discrete}
use lib.ListN.{length, get_or, set, length-set}
use lib.Seq.{get_or-set_same, get_or-set_other}

module _ (keys words n : ℕ) (Says : ℕ → ℕ → Type 0) where
  abbrev pub Pairs : List ℕ → Type 0
  Pairs t = (j : ℕ) → j < n → (get_or t (words + j) 0 ≡ 0 → ⊥) → Says (get_or t (keys + j) 0) (get_or t (words + j) 0)

  -- another place
  pub pairs_other : (t : List ℕ) (p w : ℕ) → ((j : ℕ) → j < n → keys + j ≡ p → ⊥) → ((j : ℕ) → j < n → words + j ≡ p → ⊥) →
      Pairs t → Pairs (set t p w)
  pairs_other t p w a b l = λ j h o.
      let e : get_or (set t p w) (words + j) 0 ≡ get_or t (words + j) 0 = get_or-set_other t p (words + j) w 0 (b j h) in
      rw (e, get_or-set_other t p (keys + j) w 0 (a j h)) (l j h (rw e at o))

  -- a key whose word is 0, then its word
  module _ (apart : keys + n ≤ words) (t : List ℕ) (k key : ℕ) (h : k < n) (room : words + n ≤ length t)
      (free : get_or t (words + k) 0 ≡ 0) (l : Pairs t) where
    pub pairs_key : Pairs (set t (keys + k) key)
    pairs_key = λ j g o.
        let e : get_or (set t (keys + k) key) (words + j) 0 ≡ get_or t (words + j) 0 =
        get_or-set_other t (keys + k) (words + j) key 0 (λ e. omega arith) in
        by_cases (ℕ_discrete j k)
        (λ i. absurd (o (e ∙ ap (λ (i : ℕ). get_or t (words + i) 0) i ∙ free)))
        (λ other.
        rw (e, get_or-set_other t (keys + k) (keys + j) key 0 (λ i. other (omega arith))) (l j g (rw e at o)))

    pub pairs_word : (w : ℕ) → Says key w → Pairs (set (set t (keys + k) key) (words + k) w)
    pairs_word w m = λ j g o.
        let u = set t (keys + k) key in
        let long : length u ≡ length t = length-set t (keys + k) key in
        let a : get_or (set u (words + k) w) (keys + j) 0 ≡ get_or u (keys + j) 0 =
        get_or-set_other u (words + k) (keys + j) w 0 (λ e. omega arith) in
        by_cases (ℕ_discrete j k)
        (λ i.
        let b : get_or (set u (words + k) w) (words + j) 0 ≡ w = rw i (get_or-set_same u (words + k) w 0 (omega (arith, long))) in
        let c : get_or u (keys + j) 0 ≡ key = rw i (get_or-set_same t (keys + k) key 0 (omega arith)) in
        rw (a, b, c) m)
        (λ other.
        let b : get_or (set u (words + k) w) (words + j) 0 ≡ get_or u (words + j) 0 =
        get_or-set_other u (words + k) (words + j) w 0 (λ e. other (omega arith)) in
        rw (a, b) (pairs_key j g (rw b at o)))
