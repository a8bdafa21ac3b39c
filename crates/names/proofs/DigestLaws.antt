-- Laws of digests.
use mathlib.Core.Path.{◌≡◌, refl, sym, ap, ◌∙◌}
use mathlib.Core.List.{List, [], ◌∷◌, map}
use mathlib.Core.Bool.{Bool, true, false}
use Prim.Native.Nat.{ℕ, zero, suc, ◌+◌, ◌-◌, ◌*◌, ◌/◌, ◌%◌, ◌^◌, ◌<◌, ◌≤◌, min}
use native.Mathlib.Omega.{arith}
use native.Mathlib.Numerals.{add-one}
use lib.ListN.{length, get_or, take, drop, drop_of_length-le}
use lib.Pow.{pow-add, pow_mono}
use lib.Seq.{drop-cons}
use Rattle.refusal.specs.declared.Refusal.{Refusal}
use Rattle.refusal.specs.declared.Refusal.TheVariants.{CutSheet, BadName}
use Rattle.format.specs.Decode.{Got, fault, got, Dec, many}
use Rattle.format.specs.Bits.{bits_at, bits}
use Rattle.format.specs.Sheet.{Name}
use Rattle.format.specs.Decoding.{name_by}
use Rattle.cursor.specs.declared.Cursor.{Cursor}
use Rattle.cursor.specs.Checking.{Fills}
use Rattle.cursor.proofs.BitLaws.{bits_split}
use Rattle.cursor.proofs.TableLaws.{filled_at}
use Rattle.cursor.proofs.YieldLaws.{in_turn, got_value, got_next}
use Rattle.text.specs.Text.{chars_at}
use Rattle.text.proofs.CharLaws.{field_end, chars_whole, chars_cut}
use Rattle.names.specs.Digests.{mix, window_from, digest_from, digest, digest_of, Digests}
use Rattle.std.specs.Prelude.{Result, Ok, Err, IsErrAnd}
use Rattle.cursor.specs.declared.Found.{Found}

-- ---- windows of characters in a sheet

module _ (s : List ℕ) (h : ℕ) where
  -- the characters of a window behind m bits of it, where those behind the window do not fit into it
  window_rest : (p m k d n : ℕ) → (0 < n → d ≡ 0) → window_from (k + d) h (bits_at s p m) (chars_at s (p + m) (k + n)) ≡
      digest_from (mix h (bits_at s p (m + 7 * k))) (chars_at s (p + (m + 7 * k)) n)
  unfolding window_from digest_from chars_at
  window_rest p m zero d zero l = let z : m + 7 * 0 ≡ m = omega arith in rw z
  window_rest p m zero d (suc n) l =
      let z : m + 7 * 0 ≡ m = omega arith in
      let y : 0 + suc n ≡ suc n = omega arith in
      rw (z, y, l (omega arith))
  window_rest p m (suc k) d n l =
      let z : m + 7 * suc k ≡ m + 7 + 7 * k = omega arith in
      let y : p + m + 7 ≡ p + (m + 7) = omega arith in
      let a : suc k + d ≡ suc (k + d) = omega arith in
      let b : suc k + n ≡ suc (k + n) = omega arith in
      rw (a, b, z, y) (ap (λ (x : ℕ). window_from (k + d) h x (chars_at s (p + (m + 7)) (k + n))) (sym (bits_split s p m 7)) ∙
      window_rest p (m + 7) k d n l)

  -- k characters are a window: eight, or the last ones
  pub digest_window : (at k n : ℕ) → 0 < k → k ≤ 8 → (0 < n → k ≡ 8) →
      digest_from h (chars_at s at (k + n)) ≡ digest_from (mix h (bits_at s at (7 * k))) (chars_at s (at + 7 * k) n)
  unfolding digest_from chars_at
  digest_window at zero n l r q = absurd (omega arith)
  digest_window at (suc k) n l r q =
      let z : 7 * suc k ≡ 7 + 7 * k = omega arith in
      let b : suc k + n ≡ suc (k + n) = omega arith in
      let d : 7 ≡ k + (7 - k) = omega arith in
      rw (b, z) (ap (λ (room : ℕ). window_from room h (bits_at s at 7) (chars_at s (at + 7) (k + n))) d ∙
      window_rest at 7 k (7 - k) n (λ g. omega (arith, q g)))

  -- the characters counted by the bits up to their end
  pub digest_start : (at n : ℕ) → digest_from h (chars_at s at n) ≡ digest_from h (chars_at s at ((at + 7 * n - at) / 7))
  digest_start at n = let z : (at + 7 * n - at) / 7 ≡ n = omega arith in rw z

  -- a turn: the window's b bits are 56, or those left
  pub digest_turn : {at end b x y : ℕ} → at < end → (end - at) % 7 ≡ 0 → b ≡ min (end - at) 56 →
      x ≡ bits_at s at b → y ≡ mix h x →
      digest_from h (chars_at s at ((end - at) / 7)) ≡ digest_from y (chars_at s (at + b) ((end - (at + b)) / 7))
  digest_turn {at} {end} {b} l z e f g =
      let k = b / 7 in
      let n = (end - (at + b)) / 7 in
      let u : (end - at) / 7 ≡ k + n = omega arith in
      let v : 7 * k ≡ b = omega arith in
      rw (g, f, u) (rw v at (digest_window at k n (omega arith) (omega arith) (λ y. omega arith)))

  pub digest_end : {at end : ℕ} → end ≤ at → digest_from h (chars_at s at ((end - at) / 7)) ≡ h
  unfolding digest_from chars_at
  digest_end {at} {end} l = let z : (end - at) / 7 ≡ 0 = omega arith in rw z

-- ---- a list of at most eight bytes: one window

-- i bytes as one number
module _ (i x : ℕ) (h : x + 3 ≤ 2 ^ (7 * i + 2)) where
  pub short_fits : (k : ℕ) → i ≤ k → x + 3 ≤ 2 ^ (7 * k + 2)
  short_fits k l =
      let r : 7 * i + 2 ≤ 7 * k + 2 = omega arith in
      omega (arith, pow_mono r)

  pub short_more : {c : ℕ} → c < 256 → x * 128 + c + 3 ≤ 2 ^ (7 * (i + 1) + 2)
  short_more l =
      let z : 7 * (i + 1) + 2 ≡ 7 + (7 * i + 2) = omega arith in
      rw (z, pow-add 2 7 (7 * i + 2)) (omega arith)

pub short_digest : (w : List ℕ) → digest w ≡ window_from 8 0 0 w
unfolding digest_from window_from mix
short_digest [] = refl
short_digest (c ∷ w) = let z : c ≡ 0 * 128 + c = omega arith in ap (λ (x : ℕ). window_from 7 0 x w) z

module _ (w : List ℕ) (i x : ℕ) where
  pub short_turn : {c y : ℕ} → i < length w → length w ≤ 8 → c ≡ get_or w i 0 → y ≡ x * 128 + c →
      window_from (8 - i) 0 x (drop i w) ≡ window_from (8 - (i + 1)) 0 y (drop (i + 1) w)
  unfolding window_from
  short_turn l h e f =
      let z : 8 - i ≡ suc (8 - (i + 1)) = omega arith in
      rw (z, drop-cons w i 0, f, e, add-one)

  pub short_end : length w ≤ i → window_from (8 - i) 0 x (drop i w) ≡ mix 0 x
  unfolding window_from
  short_end l = rw (drop_of_length-le w l)

-- ---- a walk that digests

-- a name that was checked, and its digest
pub digested : {p : Got Name} {r : Result Found Refusal} {f : Found} → Digests p r → r ≡ Ok f →
    (x : Name) × (p ≡ got x f.next.at) × (f.value ≡ digest x)
digested {p = fault e} {r} d t = let s = d.step in absurd (let z : ◌≡◌ {A = ℕ} 0 1 = cc in omega arith)
digested {p = got x n} {r} {f} d t =
    let y : Ok (record { value = digest x; next = record { at = n } }) ≡ Ok f = sym d.step ∙ t in
    let b : record { value = digest x; next = record { at = n } } ≡ f = cc in
    (x, ap (λ (z : Found). got x z.next.at) b, sym (ap (λ (z : Found). z.value) b))

pub undigested : {p : Got Name} {r : Result Found Refusal} {e : Refusal} → Digests p r → r ≡ Err e → p ≡ fault e
undigested {p = fault e} {r} {e = f} d t = let s = d.step in let z : e ≡ f = cc in rw z
undigested {p = got x n} {r} d t = let s = d.step in absurd (let z : ◌≡◌ {A = ℕ} 0 1 = cc in omega arith)

-- a refusal of its part, which the whole hands on
pub unread : {p : Got Name} {r : Result Found Refusal} {e : Refusal} → IsErrAnd r (λ d. d ≡ e) → p ≡ fault e → Digests p r
unread {r = Ok f} i h = absurd i
unread {r = Err d} i h = record { step = rw (i, h) }

-- a name whose length was read
module _ (rule : List ℕ → Bool) (s : List ℕ) (at : ℕ) {n m : ℕ} (q : bits 6 s at ≡ got n m) where
  pub name_short : 8 * length s < m + 7 * n → Digests (name_by rule s at) (Err CutSheet)
  unfolding name_by
  name_short h = rw (q, chars_cut s m n (field_end 6 s at q) h) record { step = refl }

  pub name_good : {h : ℕ} → m + 7 * n ≤ 8 * length s → rule (chars_at s m n) ≡ true → h ≡ digest (chars_at s m n) →
      Digests (name_by rule s at) (Ok (record { value = h; next = record { at = m + 7 * n } }))
  unfolding name_by
  name_good l e f = rw (q, chars_whole s m n l, e, f) record { step = refl }

  pub name_bad : m + 7 * n ≤ 8 * length s → rule (chars_at s m n) ≡ false → Digests (name_by rule s at) (Err BadName)
  unfolding name_by
  name_bad l e = rw (q, chars_whole s m n l, e) record { step = refl }

module _ (d : Dec Name) {s : List ℕ} {at : ℕ} where
  pub digest_got : {x : Name} {m h : ℕ} → d s at ≡ got x m → h ≡ digest x → digest_of d s at ≡ got h m
  digest_got e k = rw (e, k)

  pub digest_fault : {e : Refusal} → d s at ≡ fault e → digest_of d s at ≡ fault e
  digest_fault e = rw e

pub digests_many : (d : Dec Name) (s : List ℕ) (n at : ℕ) {xs : List Name} {e : ℕ} → many n d s at ≡ got xs e →
    many n (digest_of d) s at ≡ got (map digest xs) e
unfolding many
digests_many d s zero at h =
    let z : [] ≡ _ = got_value h in
    rw (← z, got_next h)
digests_many d s (suc n) at h =
    in_turn (d s at) _ h (λ x m e₁ h₁.
    in_turn (many n d s m) _ h₁ (λ ys k e₂ h₂.
    rw (← got_value h₂, ← got_next h₂, e₁, digests_many d s n m e₂)))

-- what a filled table holds
pub digests_filled : (d : Dec Name) (s : List ℕ) (n at : ℕ) {xs : List Name} {r : Result Cursor Refusal} {b : List ℕ} {c : Cursor} →
    Fills (many n (digest_of d) s at) r n b → r ≡ Ok c → many n d s at ≡ got xs c.at → take n b ≡ map digest xs
digests_filled d s n at f t h = got_value (sym (filled_at f t) ∙ digests_many d s n at h)
