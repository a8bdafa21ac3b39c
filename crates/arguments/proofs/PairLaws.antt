-- Laws of pairs of names, by their indexes.
use mathlib.Core.Path.{◌≡◌, sym, ap₂, ◌∙◌}
use mathlib.Core.List.{List, []}
use mathlib.Core.Bool.{Bool, true, false}
use Prim.Native.Nat.{ℕ, ◌+◌, ◌<◌, ◌≤◌}
use lib.ListN.{length, get_or, drop, length-map}
use Rattle.lexical.specs.Bytes.{same}
use Rattle.format.specs.Sheet.{Name}
use Rattle.rules.specs.Rules.{any, twice}
use Rattle.rules.proofs.SearchLaws.{any_turn, any_hit, any_end, twice_turn, twice_hit, twice_end}
use Rattle.names.specs.Naming.{name_at}
use Rattle.names.proofs.NameLaws.{map_at}
use Rattle.arguments.specs.Arguments.{names_of}

module _ (s names numbers : List ℕ) where
  abbrev all : List Name
  all = names_of s names numbers

  count : length all ≡ length numbers
  unfolding names_of
  count = length-map numbers (λ (k : ℕ). name_at s (get_or names k 0))

  name_at_lem : (i : ℕ) → i < length numbers → get_or all i [] ≡ name_at s (get_or names (get_or numbers i 0) 0)
  unfolding names_of
  name_at_lem i l = map_at (λ (k : ℕ). name_at s (get_or names k 0)) numbers i [] l

  inside : (j : ℕ) → j < length numbers → j < length all
  inside j k = rw count k

  module _ {i : ℕ} (l : i < length numbers) where
    abbrev row : ℕ → Bool
    row j = any (same (get_or all i [])) (drop j all)

    module _ {j : ℕ} (k : j < length numbers) {r : Bool}
        (h : r ≡ same (name_at s (get_or names (get_or numbers i 0) 0)) (name_at s (get_or names (get_or numbers j 0) 0))) where
      pair : same (get_or all i []) (get_or all j []) ≡ r
      pair = ap₂ same (name_at_lem i l) (name_at_lem j k) ∙ sym h

      pub pair_turn : r ≡ false → row j ≡ row (j + 1)
      pair_turn e = any_turn all j [] (inside j k) (same (get_or all i [])) (pair ∙ e)

      pub pair_hit : r ≡ true → row (i + 1) ≡ row j → twice same (drop i all) ≡ true
      pair_hit e q =
          twice_hit all i [] (inside i l) same (q ∙ any_hit all j [] (inside j k) (same (get_or all i [])) (pair ∙ e))

    pub row_end : {j : ℕ} → length numbers ≤ j → row (i + 1) ≡ row j →
        twice same (drop i all) ≡ twice same (drop (i + 1) all)
    row_end {j} k q =
        twice_turn all i [] (inside i l) same (q ∙ any_end all {i = j} (rw count k) (same (get_or all i [])))

  pub rows_end : {i : ℕ} → length numbers ≤ i → twice same (drop i all) ≡ false
  rows_end {i} k = twice_end all {i = i} (rw count k) same
