-- Laws by which code gathers the facts of its decoder's value. Each call gives one equation of its decoder and one of the facts.
use mathlib.Core.Path.{◌≡◌, refl, sym, ap, ◌∙◌}
use mathlib.Core.List.{List, ◌∷◌}
use Prim.Native.Nat.{ℕ, suc, ◌+◌, ◌-◌, ◌<◌, ◌≤◌}
use native.Mathlib.Omega.{arith}
use Rattle.refusal.specs.declared.Refusal.{Refusal}
use Rattle.format.specs.Decode.{Got, fault, got, Dec, after, many}
use Rattle.cursor.specs.declared.Cursor.{Cursor}
use Rattle.format.specs.Limits.{most_bits}
use Rattle.cursor.specs.Checking.{step_of, Checks, step_in}
use Rattle.cursor.proofs.CheckLaws.{stopped}
use Rattle.cursor.proofs.CodeLaws.{fault_in}
use Rattle.marks.specs.Gathering.{each, gathered_of, answered, Gathers}
use Rattle.std.specs.Prelude.{Result, Ok, Err, IsErrAnd}

module _ {A S : Type 0} {f : A → S → S} where
  -- the answer alone
  pub gathers_checks : {p : Got A} {u v : S} {r : Result Cursor Refusal} → Gathers f p u r v → Checks p r
  gathers_checks {p} {u} {v} {r} h = record { step = by_answer p r h.gathered }
    where
      by_answer : (p : Got A) (r : Result Cursor Refusal) → gathered_of f p u ≡ answered r v → r ≡ step_of p
      by_answer (fault e) (Ok c) g = absurd (let z : ◌≡◌ {A = ℕ} 0 1 = cc in omega arith)
      by_answer (fault e) (Err d) g = let z : e ≡ d = cc in rw z
      by_answer (got x n) (Ok c) g = let z : n ≡ c.at = cc in rw z
      by_answer (got x n) (Err d) g = absurd (let z : ◌≡◌ {A = ℕ} 0 1 = cc in omega arith)

  -- a call that gave a position: its decoder's value, and the facts
  pub moved : {p : Got A} {u v : S} {r : Result Cursor Refusal} {c : Cursor} → Gathers f p u r v → r ≡ Ok c →
      (x : A) × (p ≡ got x c.at) × (v ≡ f x u)
  moved {p} {u} {v} {r} {c} h t = by_value p (h.gathered ∙ ap (λ (z : Result Cursor Refusal). answered z v) t)
    where
      by_value : (p : Got A) → gathered_of f p u ≡ got v c.at → (x : A) × (p ≡ got x c.at) × (v ≡ f x u)
      by_value (fault e) g = absurd (let z : ◌≡◌ {A = ℕ} 0 1 = cc in omega arith)
      by_value (got x n) g =
          let z : n ≡ c.at = cc in
          let y : f x u ≡ v = cc in
          (x, ap (λ (m : ℕ). got x m) z, sym y)

  -- where the value is known
  pub facts : {p : Got A} {u v : S} {r : Result Cursor Refusal} {c : Cursor} {x : A} {m : ℕ} → Gathers f p u r v → r ≡ Ok c → p ≡ got x m →
      v ≡ f x u
  facts {p} {u} {v} {r} {c} {x} {m} h t e =
      let g : gathered_of f p u ≡ got v c.at = h.gathered ∙ ap (λ (z : Result Cursor Refusal). answered z v) t in
      let k : got (f x u) m ≡ got v c.at = sym (ap (λ (q : Got A). gathered_of f q u) e) ∙ g in
      let y : f x u ≡ v = cc in
      sym y

  -- a call that refused
  pub halted : {p : Got A} {u v : S} {r : Result Cursor Refusal} {e : Refusal} → Gathers f p u r v → r ≡ Err e → p ≡ fault e
  halted {p} {u} {v} {r} {e} h t = by_value p (h.gathered ∙ ap (λ (z : Result Cursor Refusal). answered z v) t)
    where
      by_value : (p : Got A) → gathered_of f p u ≡ fault e → p ≡ fault e
      by_value (fault d) g = let z : d ≡ e = cc in rw z
      by_value (got x n) g = absurd (let z : ◌≡◌ {A = ℕ} 0 1 = cc in omega arith)

  -- the last call's facts are the whole's, whatever is made of the value
  pub made : {B : Type 0} {h : B → S → S} (g : A → B) {p : Got A} {u v w : S} {r : Result Cursor Refusal} →
      ((x : A) → h (g x) w ≡ f x u) → Gathers f p u r v → Gathers h (after p (λ x n. got (g x) n)) w r v
  made {B} {h} g {p} {u} {v} {w} {r} like k = record { gathered = by_value p k.gathered }
    where
      by_value : (p : Got A) → gathered_of f p u ≡ answered r v →
          gathered_of h (after p (λ x n. got (g x) n)) w ≡ answered r v
      by_value (fault e) q = q
      by_value (got x n) q = ap (λ (y : S). got y n) (like x) ∙ q

  -- what refuses says nothing of the facts
  pub refused : {p : Got A} {u v : S} {e : Refusal} → p ≡ fault e → Gathers f p u (Err e) v
  refused e = rw e record { gathered = refl }

  -- a refusal of its part, which the whole hands on
  pub abandoned : {p : Got A} {u v : S} {r : Result Cursor Refusal} {e : Refusal} → IsErrAnd r (λ d. d ≡ e) → p ≡ fault e →
      Gathers f p u r v
  abandoned {r = Ok c} i h = absurd i
  abandoned {r = Err d} i h = rw (i, h) record { gathered = refl }

  -- the same, where the answer of the whole is known
  pub ended : {p : Got A} {u v : S} {r : Result Cursor Refusal} {e : Refusal} → IsErrAnd r (λ d. d ≡ e) →
      gathered_of f p u ≡ fault e → Gathers f p u r v
  ended {r = Ok c} i h = absurd i
  ended {r = Err d} i h = record { gathered = rw i h }

-- what comes behind a refusal that is passed on does not matter
pub stays : {A B S T : Type 0} {f : A → S → S} {g : B → T → T} (k : A → ℕ → Got B) {p : Got A} {u v : S} {w x : T} {r : ℕ} →
    Gathers f p u (step_in r) v → most_bits < r → Gathers g (after p k) w (step_in r) x
stays k {r} h l = rw (fault_in l, halted h (fault_in l)) record { gathered = refl }

pub stays_checks : {A B T : Type 0} {g : B → T → T} (k : A → ℕ → Got B) {p : Got A} {w x : T} {r : ℕ} →
    Checks p (step_in r) → most_bits < r → Gathers g (after p k) w (step_in r) x
stays_checks k {r} h l = rw (fault_in l, stopped h (fault_in l)) record { gathered = refl }

-- a call with no facts
pub idle : {A B S : Type 0} {h : B → S → S} (g : A → B) {p : Got A} {u v : S} {r : Result Cursor Refusal} →
    ((x : A) → h (g x) u ≡ v) → Checks p r → Gathers h (after p (λ x n. got (g x) n)) u r v
idle {A} {B} {S} {h} g {p} {u} {v} {r} like k = rw k.step record { gathered = by_value p }
  where
    by_value : (p : Got A) → gathered_of h (after p (λ x n. got (g x) n)) u ≡ answered (step_of p) v
    by_value (fault e) = refl
    by_value (got x n) = ap (λ (y : S). got y n) (like x)

-- ---- a loop over a counted list: what is left decides the answer and the facts

module _ {A S : Type 0} (f : A → S → S) (d : Dec A) (s : List ℕ) where
  -- the facts of n values
  abbrev pub folded : ℕ → ℕ → S → Got S
  folded n at u = gathered_of (each f) (many n d s at) u

  pub fold_none : (n at : ℕ) (u : S) → folded n at u ≡ folded (n - 0) at u
  fold_none n at u = let z : n - 0 ≡ n = omega arith in rw z

  fold_first : (x : A) (q : Got (List A)) (u : S) →
      gathered_of (each f) (after q (λ xs e. got (x ∷ xs) e)) u ≡ gathered_of (each f) q (f x u)
  unfolding each
  fold_first x (fault e) u = refl
  fold_first x (got xs m) u = refl

  module _ (n i : ℕ) where
    pub fold_turn : {at m : ℕ} {x : A} {u v : S} → i < n → d s at ≡ got x m → v ≡ f x u →
        folded (n - i) at u ≡ folded (n - (i + 1)) m v
    unfolding many
    fold_turn {m} {x} {u} h e k =
        let z : n - i ≡ suc (n - (i + 1)) = omega arith in
        rw (z, e, k) (fold_first x (many (n - (i + 1)) d s m) u)

    pub fold_stop : {at : ℕ} {e : Refusal} (u : S) → i < n → d s at ≡ fault e → folded (n - i) at u ≡ fault e
    unfolding many
    fold_stop u h e =
        let z : n - i ≡ suc (n - (i + 1)) = omega arith in
        rw (z, e)

    pub fold_done : (at : ℕ) (u : S) → n ≤ i → folded (n - i) at u ≡ got u at
    unfolding many each
    fold_done at u h = let z : n - i ≡ 0 = omega arith in rw z
