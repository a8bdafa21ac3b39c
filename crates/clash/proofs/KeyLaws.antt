-- Where no key repeats, no two items clash.
use mathlib.Core.Path.{◌≡◌, sym, ap, ◌∙◌}
use mathlib.Core.List.{List, [], map}
use mathlib.Core.Bool.{Bool, false, ◌||◌}
use Prim.Native.Nat.{ℕ, ◌<◌}
use native.Mathlib.Omega.{arith}
use lib.Dec.{eqb}
use lib.ListN.{length, get_or, take, length-map, get_or-map}
use lib.Seq.{get_or-take, length-take-le, ext_get_or}
use Rattle.lexical.specs.Bytes.{same}
use Rattle.format.specs.Sheet.{cxx_type, Item}
use Rattle.syntax.specs.Items.{item_at}
use Rattle.rules.specs.Rules.{twice, gather, type_name, symbol}
use Rattle.rules.proofs.SearchLaws.{apart_among}
use Rattle.cursor.proofs.CheckLaws.{get_d_same}
use Rattle.view.specs.Values.{one_item_at, items_at, Whole}
use Rattle.names.specs.Digests.{digest}
use Rattle.clash.specs.Clashes.{clashes, own_name, Keyed}
use Rattle.clash.proofs.ItemLaws.{Proper, proper}
use Rattle.clash.proofs.SameLaws.{clash_own}
use Rattle.clash.proofs.PairLaws.{pairs}

abbrev no_item : Item
no_item = record { namespace = []; cxx = []; body = cxx_type false }

key_of : Item → ℕ
key_of x = digest (own_name x)

map_item : (xs : List Item) (f : Item → ℕ) (i : ℕ) → i < length xs → get_or (map f xs) i 0 ≡ f (item_at xs i)
unfolding item_at
map_item xs f i l =
    let k : i < length (map f xs) = rw (length-map xs f) l in
    get_d_same (map f xs) i 0 _ k ∙ get_or-map f xs i _

module _ {s names items keys : List ℕ} (whole : Whole s names items) (k : Keyed s names items keys) where
  abbrev all : List Item
  all = items_at s names items

  count : length all ≡ length items
  unfolding items_at
  count = length-map items (one_item_at s names items)

  pub few_keys : length (take (length items) keys) < 4294967296
  few_keys =
      let a = length-take-le (length items) keys k.room in
      let b = whole.few in
      omega arith

  keys_are : take (length items) keys ≡ map key_of all
  unfolding key_of item_at
  keys_are =
      let a : length (take (length items) keys) ≡ length items = length-take-le (length items) keys k.room in
      let b : length (map key_of all) ≡ length items = length-map all key_of ∙ count in
      ext_get_or 0 (take (length items) keys) (map key_of all) (a ∙ sym b)
      (λ i l.
      let h : i < length items = omega arith in
      get_or-take (length items) keys i 0 h ∙ (k.key i h ∙ sym (map_item all key_of i (rw count h))))

  no_pair : twice eqb (take (length items) keys) ≡ false → twice (clashes all) all ≡ false
  unfolding key_of item_at
  no_pair e =
      apart_among (Proper all) key_of (clashes all) (λ x y p q h. ap digest (clash_own p q h)) all
      (λ z i l.
      let h : i < length items = rw (← count) l in
      let g : get_or all i z ≡ item_at all i = get_d_same all i z no_item l in
      rw g (proper whole i h))
      (sym (ap (twice eqb) keys_are) ∙ e)

  pub no_clash : {r : Bool} → r ≡ twice eqb (take (length items) keys) → r ≡ false →
      false ≡ (twice same (gather type_name all) || twice same (gather (symbol all) all))
  no_clash h e = sym (no_pair (sym h ∙ e)) ∙ pairs all
