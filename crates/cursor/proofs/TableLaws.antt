-- Laws of a table that is filled from a decoder of numbers, and of random access by a table of positions.
use mathlib.Core.Path.{◌≡◌, refl, sym, ap, ◌∙◌}
use mathlib.Core.List.{List, [], ◌∷◌, ◌++◌, append_assoc, append-nil}
use Prim.Native.Nat.{ℕ, zero, suc, ◌+◌, ◌-◌, ◌<◌, ◌≤◌}
use native.Mathlib.Omega.{arith}
use native.Mathlib.Numerals.{add-one}
use lib.ListN.{length, take, set, get_or}
use lib.Seq.{take-suc-set, get_or-take}
use Rattle.refusal.specs.declared.Refusal.{Refusal}
use Rattle.format.specs.Decode.{Got, fault, got, Dec, after, many}
use Rattle.cursor.specs.declared.Cursor.{Cursor}
use Rattle.cursor.specs.Checking.{step_of, Checks, position_of, filled_of, Fills, Table}
use Rattle.cursor.proofs.CheckLaws.{checks_like}
use Rattle.std.specs.Prelude.{Result, Ok, Err, IsErrAnd}

-- ---- a loop that fills a table

abbrev pub prefixed : List ℕ → Got (List ℕ) → Got (List ℕ)
prefixed xs p = after p (λ ys e. got (xs ++ ys) e)

prefixed_one : (xs : List ℕ) (x : ℕ) (p : Got (List ℕ)) →
    prefixed xs (after p (λ ys e. got (x ∷ ys) e)) ≡ prefixed (xs ++ (x ∷ [])) p
prefixed_one xs x (fault e) = refl
prefixed_one xs x (got ys e) = rw append_assoc

prefixed_none : (p : Got (List ℕ)) → p ≡ prefixed [] p
prefixed_none (fault e) = refl
prefixed_none (got ys e) = refl

module _ (d : Dec ℕ) (s : List ℕ) (n : ℕ) (at₀ : ℕ) where
  -- i numbers stand in b, and the rest is read at the position
  pub record Filling (i : ℕ) (b : List ℕ) (at : ℕ) : Type 0 where
    pub so_far : many n d s at₀ ≡ prefixed (take i b) (many (n - i) d s at)

  pub fill_none : (b : List ℕ) → Filling 0 b at₀
  fill_none b = record { so_far = (let z : n - 0 ≡ n = omega arith in rw z (prefixed_none (many n d s at₀))) }

  pub fill_turn : {i at m x : ℕ} {b : List ℕ} → Filling i b at → i < n → i < length b → d s at ≡ got x m →
      Filling (i + 1) (set b i x) m
  unfolding many
  fill_turn {i} {at} {m} {x} {b} f h l e =
      let z : n - i ≡ suc (n - (i + 1)) = omega arith in
      let y : take (suc i) (set b i x) ≡ take i b ++ (x ∷ []) = take-suc-set b i x l in
      record {
        so_far = f.so_far ∙ (rw (add-one i, y)
            (rw (← add-one i) (rw (z, e) (prefixed_one (take i b) x (many (n - (i + 1)) d s m)))));
      }

  pub fill_stop : {i at : ℕ} {e : Refusal} {r : Result Cursor Refusal} {b c : List ℕ} → Filling i b at → i < n →
      IsErrAnd r (λ x. x ≡ e) → d s at ≡ fault e → Fills (many n d s at₀) r n c
  unfolding many
  fill_stop {r = Ok a} f h y q = absurd y
  fill_stop {i} {r = Err a} f h y q =
      let z : n - i ≡ suc (n - (i + 1)) = omega arith in
      record { filled = f.so_far ∙ rw (z, q, y) }

  pub fill_done : {i : ℕ} {c : Cursor} {b : List ℕ} → Filling i b c.at → i ≤ n → n ≤ i →
      Fills (many n d s at₀) (Ok c) n b
  unfolding many
  fill_done {i} {c} {b} f h l =
      let z : n - i ≡ 0 = omega arith in
      let y : i ≡ n = omega arith in
      record { filled = f.so_far ∙ rw (z, y, append-nil) }

-- what a filled table was read from
module _ {p : Got (List ℕ)} {r : Result Cursor Refusal} {n : ℕ} {b : List ℕ} where
  pub filled_at : {c : Cursor} → Fills p r n b → r ≡ Ok c → p ≡ got (take n b) c.at
  filled_at f t = f.filled ∙ ap (λ (x : Result Cursor Refusal). filled_of x n b) t

  pub filled_fault : {e : Refusal} → Fills p r n b → r ≡ Err e → p ≡ fault e
  filled_fault f t = f.filled ∙ ap (λ (x : Result Cursor Refusal). filled_of x n b) t

pub fills_checks : {p : Got (List ℕ)} {r : Result Cursor Refusal} {n : ℕ} {b : List ℕ} → Fills p r n b → Checks p r
fills_checks {r = Ok c} f = record { step = sym (ap step_of f.filled) }
fills_checks {r = Err e} f = record { step = sym (ap step_of f.filled) }

-- ---- positions

module _ {A : Type 0} (d : Dec A) {s : List ℕ} {at : ℕ} where
  pub placed_got : {x : A} {m : ℕ} → d s at ≡ got x m → position_of d s at ≡ got at m
  placed_got e = rw e

  pub placed_fault : {e : Refusal} → d s at ≡ fault e → position_of d s at ≡ fault e
  placed_fault e = rw e

-- a checker sees no difference between values and their positions
placed_step : {A : Type 0} (at : ℕ) (p : Got A) → step_of p ≡ step_of (after p (λ x m. got at m))
placed_step at (fault e) = refl
placed_step at (got x m) = refl

pub placed_checks : {A : Type 0} (d : Dec A) (n : ℕ) (s : List ℕ) (at : ℕ) {r : Result Cursor Refusal} →
    Checks (many n (position_of d) s at) r → Checks (many n d s at) r
placed_checks d n s at h = checks_like d (position_of d) s (λ m. placed_step m (d s m)) n at h

-- ---- random access: entry i of a table of positions is where value i stands

pub record Located {A : Type 0} (d : Dec A) (s : List ℕ) (n at : ℕ) (offsets : List ℕ) (e : ℕ) : Type 0 where
  pub values : List A
  pub decoded : many n d s at ≡ got values e
  pub table : Table d s n offsets values

module _ {A : Type 0} (d : Dec A) (s : List ℕ) where
  located_more : (n at m : ℕ) (x : A) (os : List ℕ) (e : ℕ) → d s at ≡ got x m → Located d s n m os e →
      Located d s (suc n) at (at ∷ os) e
  unfolding many
  located_more n at m x os e q l = record {
    values = x ∷ l.values;
    decoded = rw (q, l.decoded);
    table = record { count = ap suc l.table.count; each = λ i z h. at_each i z h };
  }
    where
      at_each : (i : ℕ) (z : A) → i < suc n →
          (k : ℕ) × (d s (get_or (at ∷ os) i 0) ≡ got (get_or (x ∷ l.values) i z) k)
      at_each zero z h = (m, q)
      at_each (suc i) z h = l.table.each i z (omega arith)

  positions : (n at : ℕ) {os : List ℕ} {e : ℕ} → many n (position_of d) s at ≡ got os e → Located d s n at os e
  unfolding many
  positions zero at {os} {e} h = record {
    values = [];
    decoded = (let z : at ≡ e = cc in rw z);
    table = record { count = refl; each = λ i z l. absurd (omega arith) };
  }
  positions (suc n) at {os} {e} h = by_first (λ m os' e' g. positions n m g) (d s at) refl h
    where
      by_rest : (m : ℕ) (x : A) → d s at ≡ got x m →
          ((os' : List ℕ) (e' : ℕ) → many n (position_of d) s m ≡ got os' e' → Located d s n m os' e') →
          (r : Got (List ℕ)) → many n (position_of d) s m ≡ r → after r (λ os e. got (at ∷ os) e) ≡ got os e →
          Located d s (suc n) at os e
      by_rest m x q ih (fault y) w h = absurd (let z : ◌≡◌ {A = ℕ} 0 1 = cc in omega arith)
      by_rest m x q ih (got os' e') w h =
          let a : at ∷ os' ≡ os = cc in
          let b : e' ≡ e = cc in
          rw (← a, ← b) (located_more n at m x os' e' q (ih os' e' w))

      by_first : ((m : ℕ) (os' : List ℕ) (e' : ℕ) → many n (position_of d) s m ≡ got os' e' → Located d s n m os' e') →
          (p : Got A) → d s at ≡ p →
          after (after p (λ x m. got at m)) (λ o m. after (many n (position_of d) s m) (λ os e. got (o ∷ os) e)) ≡
          got os e → Located d s (suc n) at os e
      by_first ih (fault x) q h = absurd (let z : ◌≡◌ {A = ℕ} 0 1 = cc in omega arith)
      by_first ih (got x m) q h = by_rest m x q (ih m) (many n (position_of d) s m) refl h

  -- the values, and the table that was filled
  pub located : (n at : ℕ) {r : Result Cursor Refusal} {b : List ℕ} {c : Cursor} → Fills (many n (position_of d) s at) r n b → r ≡ Ok c →
      Located d s n at b c.at
  located n at {b} f t =
      let l = positions n at (filled_at f t) in
      record {
        values = l.values;
        decoded = l.decoded;
        table = record {
          count = l.table.count;
          each = λ i z h. ((l.table.each i z h).0, rw (get_or-take) at (l.table.each i z h).1);
        };
      }
