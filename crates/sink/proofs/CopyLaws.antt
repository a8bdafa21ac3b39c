-- A text copied into a buffer of its length, eight bytes at a time.
use mathlib.Core.Path.{◌≡◌, refl, sym, ap, ◌∙◌}
use mathlib.Core.List.{List}
use Prim.Native.Nat.{ℕ, ◌+◌, ◌≤◌, ◌<◌}
use native.Mathlib.Omega.{arith}
use native.Mathlib.Numerals.{add-one}
use lib.ListN.{length, get_or, set, take, length-set}
use lib.Seq.{take-suc, take-suc-set, take-take, take_all}
use Rattle.sink.specs.Copying.{Copied}

module _ {text : List ℕ} where
  pub copied_none : {buf : List ℕ} → length buf ≡ length text → Copied text 0 buf
  copied_none e = record { long = e; front = refl }

  -- one more
  pub copied_next : {i j x : ℕ} {buf : List ℕ} → Copied text i buf → i < length text → x ≡ get_or text i 0 → j ≡ i + 1 →
      Copied text j (set buf i x)
  copied_next {i} {j} {x} {buf} c h e n =
      let p = take-suc-set buf i x (omega (arith, c.long)) in
      record { long = length-set buf i x ∙ c.long; front = rw (n, add-one, p, c.front, e, take-suc text i 0) }

  -- the first k of i
  pub copied_less : {i : ℕ} (k : ℕ) {buf : List ℕ} → Copied text i buf → k ≤ i → Copied text k buf
  copied_less {i} k {buf} c h = record {
    long = c.long;
    front = sym (take-take k i buf h) ∙ ap (take k) c.front ∙ take-take k i text h;
  }

  -- all
  pub copied_all : {i : ℕ} {buf : List ℕ} → Copied text i buf → length text ≤ i → buf ≡ text
  copied_all {i} {buf} c h = sym (take_all i buf (omega (arith, c.long))) ∙ c.front ∙ take_all i text h

  pub copied_eight : (i : ℕ) {x₀ x₁ x₂ x₃ x₄ x₅ x₆ x₇ : ℕ} {buf : List ℕ} → Copied text i buf → i + 8 ≤ length text →
      x₀ ≡ get_or text i 0 → x₁ ≡ get_or text (i + 1) 0 → x₂ ≡ get_or text (i + 2) 0 → x₃ ≡ get_or text (i + 3) 0 →
      x₄ ≡ get_or text (i + 4) 0 → x₅ ≡ get_or text (i + 5) 0 → x₆ ≡ get_or text (i + 6) 0 → x₇ ≡ get_or text (i + 7) 0 →
      Copied text (i + 8)
      (set (set (set (set (set (set (set (set buf i x₀) (i + 1) x₁) (i + 2) x₂) (i + 3) x₃) (i + 4) x₄) (i + 5) x₅)
      (i + 6) x₆) (i + 7) x₇)
  copied_eight i c h e₀ e₁ e₂ e₃ e₄ e₅ e₆ e₇ =
      copied_next (copied_next (copied_next (copied_next (copied_next (copied_next (copied_next (copied_next
      c (omega arith) e₀ refl) (omega arith) e₁ (omega arith)) (omega arith) e₂ (omega arith)) (omega arith) e₃ (omega arith))
      (omega arith) e₄ (omega arith)) (omega arith) e₅ (omega arith)) (omega arith) e₆ (omega arith)) (omega arith) e₇
      (omega arith)
