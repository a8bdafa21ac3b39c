-- A decoder is local when its answer depends on the bits that it reads alone: wherever the same bits stand, in this sheet
-- or in another, it gives the same value, and ends as many bits behind its position. A type is.
use mathlib.Core.Path.{◌≡◌, refl, ap, ◌∙◌}
use mathlib.Core.List.{List, [], ◌∷◌}
use mathlib.Core.Bool.{Bool, true, false}
use Prim.Native.Nat.{ℕ, zero, suc, ◌+◌, ◌-◌, ◌*◌, ◌/◌, ◌%◌, ◌^◌, ◌<◌, ◌≤◌}
use native.Mathlib.Omega.{arith}
use lib.Dec.{leb, ltb, eqb}
use lib.ListN.{length, get_or}
use borrow.Author.Tests.{eqb-true, eqb-false, le-leb}
use Rattle.lexical.proofs.BoolLaws.{by_cases}
use Rattle.refusal.specs.declared.Refusal.{Refusal}
use Rattle.refusal.specs.declared.Refusal.TheVariants.{CutSheet, LooseIndex}
use Rattle.format.specs.declared.TypeKind.{TypeKind}
use Rattle.format.specs.declared.TypeKind.TheVariants as Kind
use Rattle.format.specs.Limits.{most_levels}
use Rattle.format.specs.Decode.{Got, fault, got, Dec, pick, after, ◌>>◌, pure, refuse, unless, many}
use Rattle.format.specs.Bits.{bit_at, bits_at, bits, bit, width_of, index}
use Rattle.format.specs.Types.{Ty}
use Rattle.format.specs.Decoding.{kind_of, optional, type_body, type_at, type}

-- ---- the same bits

-- the n bits of t at q are those of s at p, and t has them all
pub record SameBits (s : List ℕ) (p : ℕ) (t : List ℕ) (q n : ℕ) : Type 0 where
  pub each : (k : ℕ) → k < n → bit_at t (q + k) ≡ bit_at s (p + k)
  pub room : q + n ≤ 8 * length t

module _ {s t : List ℕ} {p q : ℕ} where
  -- the first m of them
  same_first : {n : ℕ} (m : ℕ) → m ≤ n → SameBits s p t q n → SameBits s p t q m
  same_first m l h = record { each = λ k o. h.each k (omega arith); room = omega (arith, h.room) }

  -- those behind the first m
  same_behind : {n : ℕ} (m : ℕ) → m ≤ n → SameBits s p t q n → SameBits s (p + m) t (q + m) (n - m)
  same_behind {n} m l h = record { each = λ k o. shifted k (h.each (m + k) (omega arith)); room = omega (arith, h.room) }
    where
      shifted : (k : ℕ) → bit_at t (q + (m + k)) ≡ bit_at s (p + (m + k)) → bit_at t (q + m + k) ≡ bit_at s (p + m + k)
      shifted k e =
          let a : q + m + k ≡ q + (m + k) = omega arith in
          let b : p + m + k ≡ p + (m + k) = omega arith in
          rw (a, b) e

bit_below : (s : List ℕ) (i : ℕ) → bit_at s i < 2
unfolding bit_at
bit_below s i = let n = get_or s (i / 8) 0 / 2 ^ (7 - i % 8) in omega arith

module _ (s t : List ℕ) (p q : ℕ) where
  -- as a number
  bits_same : (n : ℕ) → ((k : ℕ) → k < n → bit_at t (q + k) ≡ bit_at s (p + k)) → bits_at t q n ≡ bits_at s p n
  unfolding bits_at
  bits_same zero h = refl
  bits_same (suc n) h = rw (bits_same n (λ k o. h k (omega arith)), h n (omega arith))

  number_same : (n : ℕ) → bits_at s p n ≡ bits_at t q n → (k : ℕ) → k < n → bit_at t (q + k) ≡ bit_at s (p + k)
  unfolding bits_at
  number_same zero e k o = absurd (omega arith)
  number_same (suc n) e k o =
      let a = bit_below s (p + n) in
      let b = bit_below t (q + n) in
      let first : bits_at s p n ≡ bits_at t q n = omega (arith, e, a, b) in
      let last : bit_at t (q + n) ≡ bit_at s (p + n) = omega (arith, e, a, b) in
      by_cases (eqb k n) (λ y. let z : k ≡ n = eqb-true k n y in rw z last)
      (λ y. number_same n first k (omega (arith, o, eqb-false k n y)))

  -- where the n bits at p and at q are one number, they are the same bits
  pub same_number : (n : ℕ) → bits_at s p n ≡ bits_at t q n → q + n ≤ 8 * length t → SameBits s p t q n
  same_number n e l = record { each = number_same n e; room = l }

-- ---- decoders

-- d gave x of s at p and ends at m: not before p, and it gives x wherever the m - p bits from p on stand
pub record Again {A : Type 0} (d : Dec A) (s : List ℕ) (p : ℕ) (x : A) (m : ℕ) : Type 0 where
  pub onward : p ≤ m
  pub again : (t : List ℕ) (q : ℕ) → SameBits s p t q (m - p) → d t q ≡ got x (q + (m - p))

pub record Local {A : Type 0} (d : Dec A) : Type 0 where
  pub gives : (s : List ℕ) (p : ℕ) (x : A) (m : ℕ) → d s p ≡ got x m → Again d s p x m

no_value : {A : Type 0} {P : Type 0} {e : Refusal} {x : A} {n : ℕ} → fault e ≡ got x n → P
no_value q = absurd (let z : ◌≡◌ {A = ℕ} 0 1 = cc in omega arith)

value_is : {A : Type 0} {x y : A} {m n : ℕ} → got x m ≡ got y n → x ≡ y
value_is q = cc

end_is : {A : Type 0} {x y : A} {m n : ℕ} → got x m ≡ got y n → m ≡ n
end_is q = cc

module _ {A B : Type 0} where
  pub then_local : {d : Dec A} {k : A → Dec B} → Local d → ((x : A) → Local (k x)) → Local (d >> k)
  then_local {d} {k} f h = record { gives = λ s p y m e. go s p y m (d s p) refl e }
    where
      go : (s : List ℕ) (p : ℕ) (y : B) (m : ℕ) (g : Got A) → d s p ≡ g → after g (λ x n. k x s n) ≡ got y m →
          Again (d >> k) s p y m
      go s p y m (fault r) a e = no_value e
      go s p y m (got x n) a e =
          let u = f.gives s p x n a in
          let v = (h x).gives s n y m e in
          record {
            onward = omega (arith, u.onward, v.onward);
            again = λ t q same.
                let o = u.onward in
                let l = v.onward in
                let z : p + (n - p) ≡ n = omega arith in
                let w : m - p - (n - p) ≡ m - n = omega arith in
                let c : q + (n - p) + (m - n) ≡ q + (m - p) = omega arith in
                let i : n - p ≤ m - p = omega arith in
                let first = u.again t q (same_first (n - p) i same) in
                let rest = v.again t (q + (n - p)) (rw (z, w) at (same_behind (n - p) i same)) in
                rw first (rest ∙ ap (got y) c);
          }

module _ {A : Type 0} where
  pub pure_local : (x : A) → Local (pure x)
  pure_local x =
      record {
        gives = λ s p y m e.
            let v = value_is e in
            let n = end_is e in
            record {
              onward = omega (arith, n);
              again = λ t q same. let z : q ≡ q + (m - p) = omega (arith, n) in rw (← z, v);
            };
      }

  pub refuse_local : (e : Refusal) → Local (refuse {A = A} e)
  refuse_local e = record { gives = λ s p x m q. no_value q }

  pub pick_local : (b : Bool) {d e : Dec A} → Local d → Local e → Local (pick b d e)
  pick_local true f g = f
  pick_local false f g = g

  pub unless_local : (b : Bool) (e : Refusal) {d : Dec A} → Local d → Local (unless b e d)
  unless_local true e f = record { gives = f.gives }
  unless_local false e f = record { gives = λ s p x m q. no_value q }

pub many_local : {A : Type 0} (n : ℕ) {d : Dec A} → Local d → Local (many n d)
unfolding many
many_local zero f = let none = pure_local [] in record { gives = none.gives }
many_local (suc n) {d} f =
    let all : Local (d >> λ x. many n d >> λ xs. pure (x ∷ xs)) =
    then_local f (λ x. then_local (many_local n f) (λ xs. pure_local (x ∷ xs))) in
    record { gives = all.gives }

-- ---- fields

pub bits_local : (n : ℕ) → Local (bits n)
unfolding bits
bits_local n = record { gives = λ s p x m e. go s p x m (leb (p + n) (8 * length s)) e }
  where
    go : (s : List ℕ) (p x m : ℕ) (b : Bool) → pick b (got (bits_at s p n) (p + n)) (fault CutSheet) ≡ got x m →
        Again (bits n) s p x m
    go s p x m true e =
        let v = value_is e in
        let o = end_is e in
        let z : m - p ≡ n = omega (arith, o) in
        record {
          onward = omega (arith, o);
          again = λ t q same. rw (z, le-leb (q + n) (8 * length t) (rw z at same.room), ← v)
              (ap (λ (w : ℕ). got w (q + n)) (bits_same s t p q n (rw z at same.each)));
        }
    go s p x m false e = no_value e

pub bit_local : Local bit
unfolding bit
bit_local = then_local (bits_local 1) (λ b. pure_local _)

pub index_local : (n : ℕ) → Local (index n)
unfolding index
index_local n = then_local (bits_local (width_of n)) (λ i. unless_local (ltb i n) LooseIndex (pure_local i))

-- ---- types

pub optional_local : {ty : Dec Ty} → Local ty → Local (optional ty)
optional_local f = then_local bit_local (λ b. pick_local b (then_local f (λ t. pure_local _)) (pure_local _))

pub type_body_local : (k : TypeKind) (items : ℕ) {ty : Dec Ty} → Local ty → Local (type_body k items ty)
type_body_local Kind.Atom items f = then_local (bits_local 4) (λ a. pure_local _)
type_body_local Kind.Named items f = then_local (index_local items) (λ i. pure_local _)
type_body_local (Kind.Template k) items f = then_local f (λ t. pure_local _)
type_body_local (Kind.Pointer k) items f = then_local bit_local (λ m. then_local f (λ t. pure_local _))
type_body_local Kind.Str items f = pure_local _
type_body_local Kind.Fn items f =
    then_local (optional_local f) (λ r.
    then_local (bits_local 4) (λ n. then_local (many_local n f) (λ ts. pure_local _)))
type_body_local Kind.Array items f = then_local f (λ t. then_local (bits_local 32) (λ n. pure_local _))
type_body_local Kind.Bad items f = refuse_local _

pub type_at_local : (items levels : ℕ) → Local (type_at items levels)
unfolding type_at
type_at_local items zero =
    let none : Local (bits 4 >> λ k. refuse _) = then_local (bits_local 4) (λ k. refuse_local _) in
    record { gives = none.gives }
type_at_local items (suc levels) =
    let all : Local (bits 4 >> λ k. type_body (kind_of k) items (type_at items levels)) =
    then_local (bits_local 4) (λ k. type_body_local (kind_of k) items (type_at_local items levels)) in
    record { gives = all.gives }

-- a type depends on its bits alone
pub type_local : (items : ℕ) → Local (type items)
unfolding type
type_local items = type_at_local items most_levels

-- ---- by number

-- where the n bits at q are, as a number, those of which d gave x, it gives x there too
pub local_number : {A : Type 0} {d : Dec A} → Local d → (s t : List ℕ) (p q n : ℕ) {x : A} → d s p ≡ got x (p + n) →
    bits_at s p n ≡ bits_at t q n → q + n ≤ 8 * length t → d t q ≡ got x (q + n)
local_number f s t p q n {x} h e l =
    let z : p + n - p ≡ n = omega arith in
    rw z at ((f.gives s p x (p + n) h).again t q (rw z (same_number s t p q n e l)))

pub type_number : (items : ℕ) (s t : List ℕ) (p q n : ℕ) {x : Ty} → type items s p ≡ got x (p + n) →
    bits_at s p n ≡ bits_at t q n → q + n ≤ 8 * length t → type items t q ≡ got x (q + n)
type_number items = local_number (type_local items)
