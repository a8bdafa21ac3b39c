-- The parts of a table.
use mathlib.Core.Path.{◌≡◌, refl, sym, ap, ◌∙◌}
use mathlib.Core.List.{List}
use Prim.Native.Nat.{ℕ, ◌+◌, ◌-◌, ◌<◌}
use native.Mathlib.Omega.{arith}
use lib.ListN.{length, get_or, take, drop, replicate, length-drop, length-replicate, replicate-append-replicate}
use lib.ListN.{get_or-replicate}
use lib.Seq.{length-take-le, drop_at, get_or-drop}
use Rattle.format.specs.Bits.{width_of}
use Rattle.view.specs.Values.{Whole}
use Rattle.tables.specs.Tables.{names_in, items_in, Listed, Tabled}

pub names_part : (t : List ℕ) → take (get_or t 1023 0) t ≡ names_in t
unfolding names_in
names_part t = refl

pub items_part : (t : List ℕ) → take (1024 + get_or t 1279 0 - 1024) (drop 1024 t) ≡ items_in t
unfolding items_in
items_part t = let z : 1024 + get_or t 1279 0 - 1024 ≡ get_or t 1279 0 = omega arith in rw z

-- as many items as the table says
pub items_count_lem : {s t : List ℕ} → Tabled s t → length (items_in t) ≡ get_or t 1279 0
unfolding items_in
items_count_lem {t = t} h =
    length-take-le (get_or t 1279 0) (drop 1024 t) (omega (arith, h.items, h.long, length-drop 1024 t))

-- the width of an item's index
pub width_is : {s t : List ℕ} {w : ℕ} → Tabled s t → w ≡ width_of (get_or t 1279 0) → w ≡ width_of (length (items_in t))
width_is h e = rw (items_count_lem h) e

-- a word of a table that has none
pub zero_word : (t : List ℕ) → drop 1280 t ≡ replicate 1788 0 → (j : ℕ) → j < 1788 → get_or t (1280 + j) 0 ≡ 0
zero_word t zeros j h =
    sym (get_or-drop 1280 t j 0) ∙ ap (λ (l : List ℕ). get_or l j 0) zeros ∙ get_or-replicate 1788 j 0 0 h

-- the table of a sheet's names and items, without words
pub tabled : {s names items t : List ℕ} → Whole s names items → Listed names items t → drop 1280 t ≡ replicate 1788 0 →
    Tabled s t
tabled {t = t} w l zeros = record {
  long = l.long;
  names = l.names_count;
  items = l.items_count;
  whole = rw (l.names_are, l.items_are) w;
  met = λ k h n.
      let e : 2940 + k ≡ 1280 + (1660 + k) = omega arith in
      absurd (n (rw e (zero_word t zeros (1660 + k) (omega arith))));
}

-- the words of a table that began as zeros
pub words_zero : {t words : List ℕ} → t ≡ replicate 3068 0 → words ≡ drop 1280 t → words ≡ replicate 1788 0
words_zero z e =
    e ∙ ap (drop 1280) (z ∙ sym (replicate-append-replicate 1280 1788 0))
    ∙ drop_at (replicate 1280 0) (replicate 1788 0) 1280 (length-replicate {A = ℕ} 1280 0)
