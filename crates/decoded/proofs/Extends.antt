-- What holds of every value that a decoder gives, and that it does not depend on bits before its position, by the
-- decoder's parts.
use mathlib.Core.Path.{◌≡◌, refl, ap, ◌∙◌}
use mathlib.Core.List.{List, [], ◌∷◌}
use mathlib.Core.Bool.{Bool, true, false}
use Prim.Native.Nat.{ℕ, zero, suc, ◌+◌, ◌*◌, ◌/◌, ◌%◌, ◌-◌, ◌^◌, ◌<◌, ◌≤◌}
use native.Mathlib.Omega.{arith}
use lib.Dec.{leb, ltb}
use lib.ListN.{length, get_or}
use Rattle.refusal.specs.declared.Refusal.{Refusal}
use Rattle.refusal.specs.declared.Refusal.TheVariants.{CutSheet, LooseIndex}
use Rattle.lexical.specs.Bytes.{every}
use Rattle.lexical.proofs.BoolLaws.{and_of}
use Rattle.format.specs.Decode.{Got, fault, got, Dec, pick, after, ◌>>◌, pure, refuse, unless, many}
use Rattle.format.specs.Bits.{bit_at, bits_at, bits, bit, width_of, index}
use Rattle.decoded.specs.Editions.{SameFrom, SameButEdition}

-- ---- the same bytes from a position on

pub same_refl : {at : ℕ} {s : List ℕ} → SameFrom at s s
same_refl = record { length = refl; bits = λ i l. refl }

same_later : {at n : ℕ} {s t : List ℕ} → SameFrom at s t → at ≤ n → SameFrom n s t
same_later h l = record { length = h.length; bits = λ i m. h.bits i (omega arith) }

-- so do sheets whose first bytes have the same low four bits
pub same_but_edition : (a b : ℕ) (s : List ℕ) → a % 16 ≡ b % 16 → SameButEdition (a ∷ s) (b ∷ s)
unfolding bit_at
same_but_edition a b s e =
    record { length = refl; bits = λ i l. by_byte (i / 8) (7 - i % 8) (λ z. omega (arith, z, l)) }
  where
    low : (j : ℕ) → j ≤ 3 → a / 2 ^ j % 2 ≡ b / 2 ^ j % 2
    low zero h = omega arith
    low (suc zero) h = omega arith
    low (suc (suc zero)) h = omega arith
    low (suc (suc (suc zero))) h = omega arith
    low (suc (suc (suc (suc j)))) h = absurd (omega arith)

    by_byte : (k j : ℕ) → (k ≡ 0 → j ≤ 3) → get_or (a ∷ s) k 0 / 2 ^ j % 2 ≡ get_or (b ∷ s) k 0 / 2 ^ j % 2
    by_byte zero j h = low j (h refl)
    by_byte (suc k) j h = refl

bits_same : {at : ℕ} {s t : List ℕ} → SameFrom at s t → (n : ℕ) → bits_at s at n ≡ bits_at t at n
unfolding bits_at
bits_same h zero = refl
bits_same {at} h (suc n) = rw (bits_same h n, h.bits (at + n) (omega arith))

field_same : {at : ℕ} {s t : List ℕ} → SameFrom at s t → (n : ℕ) → bits n t at ≡ bits n s at
unfolding bits
field_same h n = rw (h.length, bits_same h n)

-- ---- decoders

-- what a decoder gave at a position is x, which has the property, with the end n at or behind that position
pub record Given {A : Type 0} (P : A → Type 0) (g : Got A) (at : ℕ) (x : A) (n : ℕ) : Type 0 where
  pub has : P x
  pub again : g ≡ got x n
  pub onward : at ≤ n

-- every value that d gives at a position has the property, and e gives the same of all bytes that are the same from that
-- position on
pub record Extends {A : Type 0} (P : A → Type 0) (d e : Dec A) : Type 0 where
  pub gives : (s t : List ℕ) (at : ℕ) → SameFrom at s t → (x : A) (n : ℕ) → d s at ≡ got x n → Given P (e t at) at x n

pub no_value : {A : Type 0} {P : Type 0} {e : Refusal} {x : A} {n : ℕ} → fault e ≡ got x n → P
no_value q = absurd (let z : ◌≡◌ {A = ℕ} 0 1 = cc in omega arith)

value_is : {A : Type 0} (P : A → Type 0) {x y : A} {m n : ℕ} → got x m ≡ got y n → P x → P y
value_is P {x} {y} q p = let e : x ≡ y = cc in rw e at p

end_is : {A : Type 0} {x y : A} {m n : ℕ} → got x m ≡ got y n → m ≡ n
end_is q = cc

module _ {A B : Type 0} {P : A → Type 0} {Q : B → Type 0} where
  pub then_extends : {d e : Dec A} {k l : A → Dec B} → Extends P d e → ((x : A) → P x → Extends Q (k x) (l x)) →
      Extends Q (d >> k) (e >> l)
  then_extends {d} {e} {k} {l} f h = record { gives = λ s t at same y m q. go s t at same y m (d s at) refl q }
    where
      go : (s t : List ℕ) (at : ℕ) → SameFrom at s t → (y : B) (m : ℕ) (g : Got A) → d s at ≡ g →
          after g (λ x n. k x s n) ≡ got y m → Given Q ((e >> l) t at) at y m
      go s t at same y m (fault r) a q = no_value q
      go s t at same y m (got x n) a q =
          let p = f.gives s t at same x n a in
          let r = (h x p.has).gives s t n (same_later same p.onward) y m q in
          record { has = r.has; again = rw p.again r.again; onward = omega (arith, p.onward, r.onward) }

module _ {A : Type 0} {P : A → Type 0} where
  pub pure_extends : {x : A} → P x → Extends P (pure x) (pure x)
  pure_extends p =
      record {
        gives = λ s t at same y m q. record { has = value_is P q p; again = q; onward = omega (arith, end_is q) };
      }

  pub refuse_extends : {e : Refusal} → Extends P (refuse e) (refuse e)
  refuse_extends = record { gives = λ s t at same y m q. no_value q }

  pub pick_extends : (b : Bool) {d e : Dec A} → Extends P d d → Extends P e e → Extends P (pick b d e) (pick b d e)
  pick_extends true f g = f
  pick_extends false f g = g

  -- e's test may let more through
  pub narrower_extends : (b c : Bool) (r : Refusal) {d e : Dec A} → (b ≡ true → c ≡ true) → (b ≡ true → Extends P d e) →
      Extends P (unless b r d) (unless c r e)
  narrower_extends true c r w f = record { gives = λ s t at same x n q. rw (w refl) ((f refl).gives s t at same x n q) }
  narrower_extends false c r w f = record { gives = λ s t at same x n q. no_value q }

  pub unless_extends : (b : Bool) (r : Refusal) {d e : Dec A} → (b ≡ true → Extends P d e) →
      Extends P (unless b r d) (unless b r e)
  unless_extends b r f = narrower_extends b b r (λ h. h) f

  pub weaker : {Q : A → Type 0} {d e : Dec A} → Extends P d e → ((x : A) → P x → Q x) → Extends Q d e
  weaker y f =
      record {
        gives =
            λ s t at same x n q. let g = y.gives s t at same x n q in
            record { has = f x g.has; again = g.again; onward = g.onward };
      }

-- so many values, each of which passes the test
abbrev pub Run : {A : Type 0} → (A → Bool) → ℕ → List A → Type 0
Run test n xs = (length xs ≡ n) × (every test xs ≡ true)

module _ {A : Type 0} (test : A → Bool) where
  pub many_extends : (n : ℕ) {d e : Dec A} → Extends (λ x. test x ≡ true) d e → Extends (Run test n) (many n d) (many n e)
  unfolding many every
  many_extends zero y =
      let none : Extends (Run test zero) (pure []) (pure []) = pure_extends (refl, refl) in record { gives = none.gives }
  many_extends (suc n) {d} {e} y =
      let all : Extends (Run test (suc n)) (d >> λ x. many n d >> λ xs. pure (x ∷ xs)) (e >> λ x. many n e >> λ xs. pure (x ∷ xs)) =
      then_extends y (λ x p. then_extends (many_extends n y)
      (λ xs r. pure_extends (ap suc r.0, and_of (test x) (every test xs) p r.1))) in
      record { gives = all.gives }

-- ---- fields

bit_below : (s : List ℕ) (i : ℕ) → bit_at s i < 2
unfolding bit_at
bit_below s i = let n = get_or s (i / 8) 0 / 2 ^ (7 - i % 8) in omega arith

bits_below : (s : List ℕ) (at n : ℕ) → bits_at s at n < 2 ^ n
unfolding bits_at
bits_below s at zero = omega arith
bits_below s at (suc n) = omega (arith, bits_below s at n, bit_below s (at + n))

pub bits_extends : (n : ℕ) → Extends (λ v. v < 2 ^ n) (bits n) (bits n)
unfolding bits
bits_extends n = record { gives = λ s t at same x m q. go s t at same x m (leb (at + n) (8 * length s)) refl q }
  where
    go : (s t : List ℕ) (at : ℕ) → SameFrom at s t → (x m : ℕ) (b : Bool) → leb (at + n) (8 * length s) ≡ b →
        pick b (got (bits_at s at n) (at + n)) (fault CutSheet) ≡ got x m → Given (λ v. v < 2 ^ n) (bits n t at) at x m
    go s t at same x m true e q = record {
      has = value_is (λ v. v < 2 ^ n) q (bits_below s at n);
      again = field_same same n ∙ rw e q;
      onward = omega (arith, end_is q);
    }
    go s t at same x m false e q = no_value q

-- nothing is asked of the value
abbrev pub Any : {A : Type 0} → A → Type 0
Any x = Unit {0}

pub any_bits : (n : ℕ) → Extends Any (bits n) (bits n)
any_bits n = weaker (bits_extends n) (λ x p. tt)

pub any_bit : Extends Any bit bit
unfolding bit
any_bit = then_extends (any_bits 1) (λ x p. pure_extends tt)

pub index_extends : (n : ℕ) → Extends (λ i. ltb i n ≡ true) (index n) (index n)
unfolding index
index_extends n =
    then_extends (any_bits (width_of n)) (λ i p. unless_extends (ltb i n) LooseIndex (λ h. pure_extends h))
