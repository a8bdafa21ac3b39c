-- Laws of searches through the items of a decoded sheet.
use mathlib.Core.Path.{◌≡◌, refl, sym, ap, ◌∙◌}
use mathlib.Core.List.{List, []}
use mathlib.Core.Bool.{Bool, true, false}
use Prim.Native.Nat.{ℕ, ◌+◌, ◌<◌, ◌≤◌}
use lib.ListN.{length, get_or, drop, length-map}
use Rattle.format.specs.Sheet.{cxx_type, Item}
use Rattle.syntax.specs.Items.{item_at}
use Rattle.rules.specs.Rules.{any, twice}
use Rattle.view.specs.Values.{one_item_at, items_at, item_no}
use Rattle.rules.proofs.SearchLaws.{any_turn, any_hit, any_end, twice_turn, twice_hit, twice_end}

abbrev no_item : Item
no_item = record { namespace = []; cxx = []; body = cxx_type false }

module _ (s names items : List ℕ) where
  abbrev all : List Item
  all = items_at s names items

  count : length all ≡ length items
  unfolding items_at
  count = length-map items (one_item_at s names items)

  item_is : (i : ℕ) → get_or all i no_item ≡ item_no s names items i
  unfolding item_at
  item_is i = refl

  module _ {i : ℕ} (l : i < length items) where
    inside : i < length all
    inside = rw count l

    pub items_turn : (test : Item → Bool) {r : Bool} → r ≡ test (item_no s names items i) → r ≡ false →
        any test (drop i all) ≡ any test (drop (i + 1) all)
    items_turn test h e = any_turn all i no_item inside test (ap test (item_is i) ∙ sym h ∙ e)

    pub items_hit : (test : Item → Bool) {r : Bool} → r ≡ test (item_no s names items i) → r ≡ true →
        any test (drop i all) ≡ true
    items_hit test h e = any_hit all i no_item inside test (ap test (item_is i) ∙ sym h ∙ e)

    module _ (equal : Item → Item → Bool) {r : Bool}
        (h : r ≡ any (equal (item_no s names items i)) (drop (i + 1) all)) where
      first_item : any (equal (get_or all i no_item)) (drop (i + 1) all) ≡ r
      first_item = ap (λ (x : Item). any (equal x) (drop (i + 1) all)) (item_is i) ∙ sym h

      pub pairs_turn : r ≡ false → twice equal (drop i all) ≡ twice equal (drop (i + 1) all)
      pairs_turn e = twice_turn all i no_item inside equal (first_item ∙ e)

      pub pairs_hit : r ≡ true → twice equal (drop i all) ≡ true
      pairs_hit e = twice_hit all i no_item inside equal (first_item ∙ e)

  module _ {i : ℕ} (l : length items ≤ i) where
    past : length all ≤ i
    past = rw count l

    pub items_end : (test : Item → Bool) → any test (drop i all) ≡ false
    items_end test = any_end all past test

    pub pairs_end : (equal : Item → Item → Bool) → twice equal (drop i all) ≡ false
    pairs_end equal = twice_end all past equal
