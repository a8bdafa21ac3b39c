-- Laws of sorted words: beginnings, and what stands behind a word.
use mathlib.Core.Path.{◌≡◌, refl, sym, ap, ap₂}
use mathlib.Core.List.{List, [], ◌∷◌, ◌++◌}
use mathlib.Core.Bool.{true, false, false≢true, ◌&&◌, and-false}
use Prim.Native.Nat.{ℕ, zero, suc, ◌<◌, ◌≤◌}
use native.Mathlib.Omega.{arith}
use lib.Dec.{ltb, eqb}
use lib.ListN.{length, get_or, take, drop}
use lib.Seq.{drop-cons}
use borrow.Author.Tests.{ltb-true, lt-ltb}
use Rattle.lexical.specs.Bytes.{every}
use Rattle.lexical.proofs.BoolLaws.{both, and_of, by_cases, or_cases, or_left, or_right}
use Rattle.lexical.proofs.ByteLaws.{byte_eq, byte_refl, every_cons}
use Rattle.words.specs.Walking.{begins, first_with, before, sorted, common}

-- ---- beginnings

pub begins_take : (p w : List ℕ) → begins p w ≡ true → take (length p) w ≡ p
unfolding begins
begins_take [] w h = refl
begins_take (c ∷ p) [] h = absurd (false≢true h)
begins_take (c ∷ p) (d ∷ w) h =
    let q = both (eqb c d) (begins p w) h in
    ap₂ (λ (x : ℕ) (y : List ℕ). x ∷ y) (sym (byte_eq c d q.0)) (begins_take p w q.1)

pub take_begins : (m : ℕ) (w : List ℕ) → begins (take m w) w ≡ true
unfolding begins
take_begins zero w = refl
take_begins (suc m) [] = refl
take_begins (suc m) (c ∷ w) = rw (byte_refl c) (take_begins m w)

module _ (c : ℕ) where
  pub begins_more : (p w : List ℕ) → begins p w ≡ true → length p < length w → get_or w (length p) 0 ≡ c →
      begins (p ++ (c ∷ [])) w ≡ true
  unfolding begins
  begins_more [] [] h l e = absurd (omega arith)
  begins_more [] (d ∷ w) h l e = rw (e, byte_refl c)
  begins_more (x ∷ p) [] h l e = absurd (false≢true h)
  begins_more (x ∷ p) (y ∷ w) h l e =
      let q = both (eqb x y) (begins p w) h in rw q.0 (begins_more p w q.1 (omega arith) e)

  pub begins_less : (p w : List ℕ) → begins (p ++ (c ∷ [])) w ≡ true →
      (begins p w ≡ true) × (length p < length w) × (get_or w (length p) 0 ≡ c)
  unfolding begins
  begins_less [] [] h = absurd (false≢true h)
  begins_less [] (d ∷ w) h = (refl, omega arith, sym (byte_eq c d (both (eqb c d) true h).0))
  begins_less (x ∷ p) [] h = absurd (false≢true h)
  begins_less (x ∷ p) (y ∷ w) h =
      let q = both (eqb x y) (begins (p ++ (c ∷ [])) w) h in
      let r = begins_less p w q.1 in
      (rw q.0 r.0, (let l = r.1 in omega arith), r.2)

-- where two words agree, and where not
pub common_yes : (p a b : List ℕ) → begins p a ≡ true → length p ≤ common a b → begins p b ≡ true
unfolding begins common
common_yes [] a b h l = refl
common_yes (c ∷ p) [] b h l = absurd (false≢true h)
common_yes (c ∷ p) (d ∷ a) [] h l = absurd (omega arith)
common_yes (c ∷ p) (d ∷ a) (e ∷ b) h l =
    let q = both (eqb c d) (begins p a) h in
    by_cases (eqb d e)
    (λ f. let k : suc (length p) ≤ suc (common a b) = rw f at l in
    and_of (eqb c e) (begins p b) (rw (byte_eq c d q.0) f) (common_yes p a b q.1 (omega arith)))
    (λ f. absurd (let k : suc (length p) ≤ 0 = rw f at l in omega arith))

pub common_no : (p a b : List ℕ) → begins p a ≡ true → begins p b ≡ true → length p ≤ common a b
unfolding begins common
common_no [] a b h g = omega arith
common_no (c ∷ p) [] b h g = absurd (false≢true h)
common_no (c ∷ p) (d ∷ a) [] h g = absurd (false≢true g)
common_no (c ∷ p) (d ∷ a) (e ∷ b) h g =
    let q = both (eqb c d) (begins p a) h in
    let r = both (eqb c e) (begins p b) g in
    let f : eqb d e ≡ true = rw (← byte_eq c d q.0) r.0 in
    let l = common_no p a b q.1 r.1 in
    rw f (omega arith)

-- ---- behind a word

-- a word behind p that does not begin with it: no word behind this one does
beyond : (p a x : List ℕ) → before p a ≡ true → begins p a ≡ false → before a x ≡ true → begins p x ≡ false
unfolding begins before
beyond [] a x h n g = absurd (false≢true (sym n))
beyond (c ∷ p) [] x h n g = absurd (false≢true h)
beyond (c ∷ p) (d ∷ a) [] h n g = refl
beyond (c ∷ p) (d ∷ a) (e ∷ x) h n g =
    by_cases (eqb c e)
    (λ f. let z = byte_eq c e f in
    rw f (or_cases (ltb c d) (eqb c d && before p a) h
    (λ l. absurd (or_cases (ltb d e) (eqb d e && before a x) g
    (λ k. (let i = ltb-true c d l in let j = ltb-true d e k in omega arith))
    (λ k. (let i = ltb-true c d l in let j = byte_eq d e (both (eqb d e) (before a x) k).0 in omega arith))))
    (λ l. let q = both (eqb c d) (before p a) l in
    or_cases (ltb d e) (eqb d e && before a x) g
    (λ k. absurd (let i = byte_eq c d q.0 in let j = ltb-true d e k in omega arith))
    (λ k. beyond p a x q.1 (rw q.0 at n) (both (eqb d e) (before a x) k).1))))
    (λ f. rw f)

-- behind a word that begins with p: what does not begin with it is behind p
pub before_front : (p a b : List ℕ) → begins p a ≡ true → before a b ≡ true → begins p b ≡ false → before p b ≡ true
unfolding begins before
before_front [] a b h g n = absurd (false≢true (sym n))
before_front (c ∷ p) [] b h g n = absurd (false≢true h)
before_front (c ∷ p) (d ∷ a) [] h g n = absurd (false≢true g)
before_front (c ∷ p) (d ∷ a) (e ∷ b) h g n =
    let q = both (eqb c d) (begins p a) h in
    let z = byte_eq c d q.0 in
    or_cases (ltb d e) (eqb d e && before a b) g
    (λ k. or_left (ltb c e) (eqb c e && before p b) (rw z k))
    (λ k. let r = both (eqb d e) (before a b) k in
    let f : eqb c e ≡ true = rw z r.0 in
    or_right (ltb c e) (eqb c e && before p b)
    (rw f (before_front p a b q.1 r.1 (rw f at n))))

-- and behind what begins with p
pub before_more : (q p b : List ℕ) → before p b ≡ true → begins p b ≡ false → before (p ++ q) b ≡ true
unfolding begins before
before_more q [] b h n = absurd (false≢true (sym n))
before_more q (c ∷ p) [] h n = absurd (false≢true h)
before_more q (c ∷ p) (d ∷ b) h n =
    or_cases (ltb c d) (eqb c d && before p b) h (λ k. or_left (ltb c d) (eqb c d && before (p ++ q) b) k)
    (λ k. let r = both (eqb c d) (before p b) k in
    or_right (ltb c d) (eqb c d && before (p ++ q) b) (rw r.0 (before_more q p b r.1 (rw r.0 at n))))

-- a word with p and a larger character is behind p with c
pub before_larger : (c : ℕ) (p a : List ℕ) → begins p a ≡ true → length p < length a → c < get_or a (length p) 0 →
    before (p ++ (c ∷ [])) a ≡ true
unfolding begins before
before_larger c [] [] h l k = absurd (omega arith)
before_larger c [] (d ∷ a) h l k = rw (lt-ltb c d k)
before_larger c (x ∷ p) [] h l k = absurd (false≢true h)
before_larger c (x ∷ p) (y ∷ a) h l k =
    let q = both (eqb x y) (begins p a) h in
    or_right (ltb x y) (eqb x y && before (p ++ (c ∷ [])) a)
    (rw q.0 (before_larger c p a q.1 (omega arith) k))

-- no word stands before its own beginning
pub not_before : (p w : List ℕ) → begins p w ≡ true → before w p ≡ false
unfolding begins before
not_before [] w h = refl
not_before (c ∷ p) [] h = absurd (false≢true h)
not_before (c ∷ p) (d ∷ w) h =
    let q = both (eqb c d) (begins p w) h in
    let z = byte_eq c d q.0 in
    by_cases (ltb d c) (λ k. absurd (let i = ltb-true d c k in omega arith))
    (λ k. rw (k, not_before p w q.1) (and-false (eqb d c)))

-- ---- the first word with a beginning

-- none, behind a word that is behind it
pub none_later : (p a : List ℕ) (ws : List (List ℕ)) → before p a ≡ true → begins p a ≡ false → every (before a) ws ≡ true →
    first_with p ws ≡ length ws
unfolding first_with
none_later p a [] h n g = refl
none_later p a (w ∷ ws) h n g =
    let q = every_cons (before a) w ws g in
    rw (beyond p a w h n q.0) (ap suc (none_later p a ws h n q.1))

sorted_drop : (i : ℕ) (ws : List (List ℕ)) → sorted ws ≡ true → sorted (drop i ws) ≡ true
unfolding sorted
sorted_drop zero ws h = h
sorted_drop (suc i) [] h = h
sorted_drop (suc i) (w ∷ ws) h = sorted_drop i ws (both (every (before w) ws) (sorted ws) h).1

pub sorted_behind : (ws : List (List ℕ)) (i : ℕ) → sorted ws ≡ true → i < length ws →
    every (before (get_or ws i [])) (drop (suc i) ws) ≡ true
unfolding sorted
sorted_behind ws i h l =
    let q : sorted (get_or ws i [] ∷ drop (suc i) ws) ≡ true = rw (drop-cons ws i [] l) at (sorted_drop i ws h) in
    (both (every (before (get_or ws i [])) (drop (suc i) ws)) (sorted (drop (suc i) ws)) q).0
