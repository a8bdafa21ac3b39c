-- Laws by which a checker's answer is that of its decoder. Each call of a checker gives one equation of its decoder.
use mathlib.Core.Path.{◌≡◌, refl, sym, ap, ◌∙◌}
use mathlib.Core.List.{List, [], ◌∷◌}
use Prim.Native.Nat.{ℕ, zero, suc, ◌+◌, ◌-◌, ◌<◌, ◌≤◌}
use native.Mathlib.Omega.{arith}
use lib.ListN.{length, get_or}
use Rattle.refusal.specs.declared.Refusal.{Refusal}
use Rattle.format.specs.Decode.{Got, fault, got, Dec, after, many}
use Rattle.cursor.specs.declared.Cursor.{Cursor}
use Rattle.cursor.specs.Checking.{step_of, Checks}
use Rattle.std.specs.Prelude.{Result, Ok, Err, IsErrAnd}

-- what is made of the value does not matter
pub step_map : {A B : Type 0} (f : A → B) (p : Got A) → step_of (after p (λ x n. got (f x) n)) ≡ step_of p
step_map f (fault e) = refl
step_map f (got x n) = refl

-- the last call's answer is the whole's, whatever is made of the value
pub tail : {A B : Type 0} (f : A → B) {p : Got A} {r : Result Cursor Refusal} → Checks p r → Checks (after p (λ x n. got (f x) n)) r
tail f {p} h = record { step = h.step ∙ sym (step_map f p) }

module _ {A : Type 0} where
  -- a call that gave a position: its decoder's value
  pub stepped : {p : Got A} {r : Result Cursor Refusal} {c : Cursor} → Checks p r → r ≡ Ok c → (x : A) × (p ≡ got x c.at)
  stepped {p = fault e} {r} h t = let f = h.step in absurd (let z : ◌≡◌ {A = ℕ} 0 1 = cc in omega arith)
  stepped {p = got x n} {r} {c} h t =
      let y : Ok (record { at = n }) ≡ Ok c = sym h.step ∙ t in
      let b : record { at = n } ≡ c = cc in
      (x, ap (λ (z : Cursor). got x z.at) b)

  -- a call that refused
  pub stopped : {p : Got A} {r : Result Cursor Refusal} {e : Refusal} → Checks p r → r ≡ Err e → p ≡ fault e
  stopped {p = fault e} {r} {e = d} h t = let f = h.step in let z : e ≡ d = cc in rw z
  stopped {p = got x n} {r} h t = let f = h.step in absurd (let z : ◌≡◌ {A = ℕ} 0 1 = cc in omega arith)

  -- a refusal of its part, which the whole hands on
  pub refused : {p : Got A} {r : Result Cursor Refusal} {e : Refusal} → IsErrAnd r (λ d. d ≡ e) → p ≡ fault e →
      Checks p r
  refused {r = Ok c} i h = absurd i
  refused {r = Err d} i h = record { step = rw (i, h) }

  -- the same, where the answer of the whole is known
  pub ended : {p : Got A} {r : Result Cursor Refusal} {e : Refusal} → IsErrAnd r (λ d. d ≡ e) → step_of p ≡ Err e →
      Checks p r
  ended {r = Ok c} i h = absurd i
  ended {r = Err d} i h = record { step = rw i (sym h) }

  -- a decoder's value, and the checker's answer
  pub checked : {p : Got A} {r : Result Cursor Refusal} {x : A} {m : ℕ} → Checks p r → p ≡ got x m → r ≡ Ok (record { at = m })
  checked h e = h.step ∙ ap step_of e

  -- ---- a loop over a counted list: what is left decides the answer

  pub many_none : (d : Dec A) (s : List ℕ) (n at : ℕ) → step_of (many n d s at) ≡ step_of (many (n - 0) d s at)
  many_none d s n at = let z : n - 0 ≡ n = omega arith in rw z

  module _ (d : Dec A) (s : List ℕ) (n i : ℕ) where
    pub many_turn : {at m : ℕ} {x : A} → i < n → d s at ≡ got x m →
        step_of (many (n - i) d s at) ≡ step_of (many (n - (i + 1)) d s m)
    unfolding many
    many_turn {m} h e =
        let z : n - i ≡ suc (n - (i + 1)) = omega arith in
        rw (z, e) (step_map _ (many (n - (i + 1)) d s m))

    pub many_stop : {at : ℕ} {e : Refusal} → i < n → d s at ≡ fault e → step_of (many (n - i) d s at) ≡ Err e
    unfolding many
    many_stop h e =
        let z : n - i ≡ suc (n - (i + 1)) = omega arith in
        rw (z, e)

    pub many_done : (c : Cursor) → n ≤ i → step_of (many (n - i) d s c.at) ≡ Ok c
    unfolding many
    many_done c h = let z : n - i ≡ 0 = omega arith in rw z

-- ---- counted lists of decoders that differ in their values alone

module _ {A B : Type 0} (d : Dec A) (k : Dec B) (s : List ℕ) (like : (at : ℕ) → step_of (d s at) ≡ step_of (k s at)) where
  pub many_like : (n at : ℕ) → step_of (many n d s at) ≡ step_of (many n k s at)
  unfolding many
  many_like zero at = refl
  many_like (suc n) at = by_first (λ m. many_like n m) (d s at) (k s at) (like at)
    where
      by_first : ((m : ℕ) → step_of (many n d s m) ≡ step_of (many n k s m)) → (p : Got A) (q : Got B) →
          step_of p ≡ step_of q →
          step_of (after p (λ x m. after (many n d s m) (λ xs e. got (x ∷ xs) e))) ≡
          step_of (after q (λ x m. after (many n k s m) (λ xs e. got (x ∷ xs) e)))
      by_first ih (fault e) (fault f) t = let z : e ≡ f = cc in rw z
      by_first ih (fault e) (got y m) t = absurd (let z : ◌≡◌ {A = ℕ} 0 1 = cc in omega arith)
      by_first ih (got x m) (fault f) t = absurd (let z : ◌≡◌ {A = ℕ} 0 1 = cc in omega arith)
      by_first ih (got x m) (got y l) t =
          let b : ◌≡◌ {A = Cursor} (record { at = m }) (record { at = l }) = cc in
          let z : m ≡ l = ap (λ (c : Cursor). c.at) b in
          rw z (step_map _ (many n d s l) ∙ ih l ∙ sym (step_map _ (many n k s l)))

  pub checks_like : (n at : ℕ) {r : Result Cursor Refusal} → Checks (many n k s at) r → Checks (many n d s at) r
  checks_like n at h = record { step = h.step ∙ sym (many_like n at) }

-- the number of values
pub many_length : {A : Type 0} (d : Dec A) (s : List ℕ) (n at : ℕ) {xs : List A} {e : ℕ} →
    many n d s at ≡ got xs e → length xs ≡ n
unfolding many
many_length d s zero at {xs} h = let z : [] ≡ xs = cc in rw (← z)
many_length {A} d s (suc n) at {xs} {e} h = by_first (λ m ys k q. many_length d s n m q) (d s at) h
  where
    by_rest : (x : A) (q : Got (List A)) → ((ys : List A) (m : ℕ) → q ≡ got ys m → length ys ≡ n) →
        after q (λ ys m. got (x ∷ ys) m) ≡ got xs e → length xs ≡ suc n
    by_rest x (fault f) ih h = absurd (let z : ◌≡◌ {A = ℕ} 0 1 = cc in omega arith)
    by_rest x (got ys m) ih h = let z : x ∷ ys ≡ xs = cc in rw (← z) (ap suc (ih ys m refl))

    by_first : ((m : ℕ) (ys : List A) (k : ℕ) → many n d s m ≡ got ys k → length ys ≡ n) → (p : Got A) →
        after p (λ x m. after (many n d s m) (λ ys k. got (x ∷ ys) k)) ≡ got xs e → length xs ≡ suc n
    by_first ih (fault f) h = absurd (let z : ◌≡◌ {A = ℕ} 0 1 = cc in omega arith)
    by_first ih (got x m) h = by_rest x (many n d s m) (ih m) h

pub get_d_same : {A : Type 0} (l : List A) (i : ℕ) (a b : A) → i < length l → get_or l i a ≡ get_or l i b
get_d_same [] i a b h = absurd (omega arith)
get_d_same (x ∷ l) zero a b h = refl
get_d_same (x ∷ l) (suc i) a b h = get_d_same l i a b (omega arith)
