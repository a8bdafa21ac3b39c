-- Laws of a name that is judged window by window.
use mathlib.Core.Path.{◌≡◌, refl, sym, ◌∙◌}
use mathlib.Core.List.{List}
use mathlib.Core.Bool.{Bool, true, false}
use Prim.Native.Nat.{ℕ, ◌+◌, ◌-◌, ◌*◌, ◌/◌, ◌%◌, ◌<◌, ◌≤◌, min}
use native.Mathlib.Omega.{arith}
use Rattle.lexical.specs.Bytes.{chars_in}
use Rattle.lexical.specs.Names.{table_of, sheet_name}
use Rattle.lexical.proofs.BoolLaws.{known}
use Rattle.format.specs.Bits.{bits_at}
use Rattle.text.specs.Text.{chars_at}
use Rattle.text.proofs.CharLaws.{chars_split, chars_in_lem}
use Rattle.words.specs.declared.State.{State}
use Rattle.words.specs.Walking.{walk, verdict, start}
use Rattle.words.specs.Words.{words_in, added_in, Right}
use Rattle.words.proofs.WalkLaws.{walk_more}
use Rattle.words.proofs.TableLaws.{sheet_verdict}
use Rattle.std.specs.Prelude.{Option, Some, None}
use Rattle.names.specs.Digests.{digest, judged_of}

-- ---- the state, turn by turn

module _ (words : List (List ℕ)) (s : List ℕ) (q : State) where
  pub state_start : (at n : ℕ) → walk words q (chars_at s at n) ≡ walk words q (chars_at s at ((at + 7 * n - at) / 7))
  state_start at n = let z : (at + 7 * n - at) / 7 ≡ n = omega arith in rw z

  pub state_turn : {at end b x : ℕ} {r : State} → at < end → (end - at) % 7 ≡ 0 → b ≡ min (end - at) 56 →
      x ≡ bits_at s at b → r ≡ walk words q (chars_in (b / 7) x) →
      walk words q (chars_at s at ((end - at) / 7)) ≡ walk words r (chars_at s (at + b) ((end - (at + b)) / 7))
  state_turn {at} {end} {b} l z e f g =
      let u : (end - at) / 7 ≡ b / 7 + (end - (at + b)) / 7 = omega arith in
      let v : 7 * (b / 7) ≡ b = omega arith in
      let y : chars_at s at (b / 7) ≡ chars_in (b / 7) (bits_at s at b) = rw v at (chars_in_lem s at (b / 7)) in
      let a = chars_split s at (b / 7) ((end - (at + b)) / 7) in
      rw (u, a, v, walk_more words (chars_at s at (b / 7)) (chars_at s (at + b) ((end - (at + b)) / 7)) q, y, g, f)

  pub state_end : {at end : ℕ} → end ≤ at → walk words q (chars_at s at ((end - at) / 7)) ≡ q
  unfolding walk chars_at
  state_end {at} {end} l = let z : (end - at) / 7 ≡ 0 = omega arith in rw z

-- ---- the answer

module _ {t : List ℕ} (r : Right t) (e : ℕ) (cs : List ℕ) {q : State} {h : ℕ} {b : Bool}
    (w : walk (words_in t) start cs ≡ q) (d : digest cs ≡ h) (v : b ≡ verdict (words_in t) (added_in t) e q) where
  rule : b ≡ sheet_name (table_of e) cs
  rule = v ∙ rw (← w) (sheet_verdict r cs e)

  pub judged_good : b ≡ true → Some h ≡ judged_of (sheet_name (table_of e) cs) (digest cs)
  judged_good k = rw (known rule k, d)

  pub judged_bad : b ≡ false → None ≡ judged_of (sheet_name (table_of e) cs) (digest cs)
  judged_bad k = rw (known rule k)

-- what the answer says
module _ (b : Bool) (d : ℕ) {j : Option ℕ} (e : j ≡ judged_of b d) where
  pub told_good : {h : ℕ} → j ≡ Some h → (b ≡ true) × (h ≡ d)
  told_good {h} g = by_test b e
    where
      by_test : (b : Bool) → j ≡ judged_of b d → (b ≡ true) × (h ≡ d)
      by_test true f = (refl, (let z : Some h ≡ Some d = sym g ∙ f in cc))
      by_test false f = absurd (let z : Some h ≡ None = sym g ∙ f in let o : ◌≡◌ {A = ℕ} 0 1 = cc in omega arith)

  pub told_bad : j ≡ None → b ≡ false
  told_bad g = by_test b e
    where
      by_test : (b : Bool) → j ≡ judged_of b d → b ≡ false
      by_test true f = absurd (let z : None ≡ Some d = sym g ∙ f in let o : ◌≡◌ {A = ℕ} 0 1 = cc in omega arith)
      by_test false f = refl
