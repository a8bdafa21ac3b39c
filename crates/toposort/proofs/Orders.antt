-- Orders that grow struct by struct: they are legal, and no struct in one reaches itself.
use mathlib.Core.Path.{◌≡◌, refl, sym, ap, ◌∙◌}
use mathlib.Core.Logic.{◌⊎◌, inl, inr, ⊎_elim}
use mathlib.Core.List.Memᴰ
use mathlib.Core.List.{List, [], ◌∷◌, ◌++◌}
use mathlib.Core.Bool.{Bool, true, false, cond}
use Prim.Native.Nat.{ℕ, ◌+◌}
use native.Mathlib.Omega.{arith}
use lib.ListN.{length, length-append}
use lib.Dec.{eqb}
use borrow.Author.Tests.{eqb-true, eq-eqb}
use Rattle.toposort.specs.Graph.{Graph, ◌∈◌, Chain, times, LegalOrder}

-- each struct is new, and those that it holds are there before it
pub data Ordered (g : Graph) : List ℕ → Type 0 where
  none : Ordered g []
  next : {o p : List ℕ} (i : ℕ) → Ordered g o → ((c : ℕ) → c ∈ g i → c ∈ o) → (i ∈ o → ⊥) → p ≡ o ++ (i ∷ []) → Ordered g p

-- in a list with one more at its end
pub last_cases : {a i : ℕ} (o : List ℕ) → a ∈ (o ++ (i ∷ [])) → (a ∈ o) ⊎ (a ≡ i)
last_cases o m = ⊎_elim (λ x. inl x) (λ x. inr (Memᴰ.eq_of_singleton x)) (Memᴰ.append_cases o m)

-- where such a list is split: at its end, or before it
last_split : (o : List ℕ) (j : ℕ) (a : List ℕ) (i : ℕ) (b : List ℕ) → o ++ (j ∷ []) ≡ a ++ (i ∷ b) →
    ((a ≡ o) × (i ≡ j)) ⊎ ((d : List ℕ) × (o ≡ a ++ (i ∷ d)))
last_split [] j [] i b e = inl (refl, cc)
last_split (x ∷ o) j [] i b e = inr (o, (let y : x ≡ i = cc in rw y refl))
last_split [] j (y ∷ a) i b e = absurd (let z = ap length e in omega (arith, length-append a (i ∷ b)))
last_split (x ∷ o) j (y ∷ a) i b e =
    let z : x ≡ y = cc in
    ⊎_elim (λ p. inl (rw (z, p.0) refl, p.1)) (λ p. inr (p.0, rw (z, p.1) refl)) (last_split o j a i b (cc))

-- ---- an order is legal

times_append : (i : ℕ) (o p : List ℕ) → times i (o ++ p) ≡ times i o + times i p
unfolding times
times_append i [] p = omega arith
times_append i (j ∷ o) p = omega (arith, times_append i o p)

times_none : (i : ℕ) (o : List ℕ) → (i ∈ o → ⊥) → times i o ≡ 0
unfolding times
times_none i [] absent = refl
times_none i (j ∷ o) absent = go (eqb i j) refl (times_none i o (λ d. absent (Memᴰ.tail d)))
  where
    go : (b : Bool) → eqb i j ≡ b → times i o ≡ 0 → cond b 1 0 + times i o ≡ 0
    go true e rest = absurd (absent (Memᴰ.head (eqb-true i j e)))
    go false e rest = omega arith

times_only : (i j : ℕ) → i ≡ j → times i (j ∷ []) ≡ 1
unfolding times
times_only i j e = rw (eq-eqb i j e) refl

module _ {g : Graph} where
  once : {p : List ℕ} → Ordered g p → (i : ℕ) → i ∈ p → times i p ≡ 1
  once none i m = absurd (Memᴰ.not-nil m)
  once (next {o} j r all new e) i m =
      rw e (times_append i o (j ∷ []) ∙ ⊎_elim
      (λ x. omega (arith, once r i x, times_none i (j ∷ []) (λ d. new (Memᴰ.cast (sym (Memᴰ.eq_of_singleton d)) x))))
      (λ x. omega (arith, times_only i j x, times_none i o (λ d. new (Memᴰ.cast (sym x) d))))
      (last_cases o (rw e at m)))

  after : {p : List ℕ} → Ordered g p → (i c : ℕ) (a b : List ℕ) → p ≡ a ++ (i ∷ b) → c ∈ g i → c ∈ a
  after none i c a b e h = absurd (let z = ap length e in omega (arith, length-append a (i ∷ b)))
  after (next {o} j r all new f) i c a b e h =
      ⊎_elim (λ x. rw x.0 (all c (rw x.1 at h))) (λ x. after r i c a x.0 x.1 h)
      (last_split o j a i b (sym f ∙ e))

  pub ordered_legal : {js o : List ℕ} → Ordered g o → ((i : ℕ) → i ∈ js → i ∈ o) → ((i : ℕ) → i ∈ o → i ∈ js) →
      LegalOrder g js o
  ordered_legal r every only = record { once = λ i m. once r i (every i m); only = only; after = after r }

-- ---- an order has no ring

-- a chain goes one struct further
pub chain_more : (g : Graph) (a : ℕ) (l : List ℕ) (b c : ℕ) → Chain g a l b → c ∈ g b → Chain g a (l ++ (b ∷ [])) c
chain_more g a [] b c h s = (h, s)
chain_more g a (d ∷ l) b c h s = (h.0, chain_more g d l b c h.1 s)

module _ {g : Graph} where
  held_in : {p : List ℕ} {a b : ℕ} → Ordered g p → a ∈ p → b ∈ g a → b ∈ p
  held_in none m h = absurd (Memᴰ.not-nil m)
  held_in {b} (next {o} i r all new e) m h =
      let below : b ∈ o = ⊎_elim (λ x. held_in r x h) (λ x. all b (rw x at h)) (last_cases o (rw e at m)) in
      rw e (Memᴰ.append_left (i ∷ []) below)

  chain_in : {o : List ℕ} {b : ℕ} (a : ℕ) (l : List ℕ) → Ordered g o → a ∈ o → Chain g a l b → b ∈ o
  chain_in a [] r m h = held_in r m h
  chain_in a (c ∷ l) r m h = chain_in c l r (held_in r m h.0) h.1

  -- from a struct whose held structs are in the order
  chain_from : {o : List ℕ} {b : ℕ} (a : ℕ) (l : List ℕ) → Ordered g o → ((c : ℕ) → c ∈ g a → c ∈ o) → Chain g a l b → b ∈ o
  chain_from {b} a [] r all h = all b h
  chain_from a (c ∷ l) r all h = chain_in c l r (all c h.0) h.1

  pub no_ring_lem : {p : List ℕ} (a : ℕ) (l : List ℕ) → Ordered g p → a ∈ p → Chain g a l a → ⊥
  no_ring_lem a l none m h = Memᴰ.not-nil m
  no_ring_lem a l (next {o} i r all new e) m h =
      ⊎_elim (λ x. no_ring_lem a l r x h) (λ x. new (Memᴰ.cast (sym x) (chain_from a l r (rw x all) h)))
      (last_cases o (rw e at m))
