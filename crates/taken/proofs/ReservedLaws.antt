-- Laws of an item's first namespace.
use mathlib.Core.Path.{◌≡◌, refl, sym, ◌∙◌}
use mathlib.Core.List.{List, [], ◌∷◌}
use mathlib.Core.Bool.{Bool, true, false, ◌||◌}
use Prim.Native.Nat.{ℕ, ◌<◌}
use native.Mathlib.Omega.{arith}
use lib.ListN.{length, get_or}
use Rattle.lexical.specs.Bytes.{bytes, same}
use Rattle.format.specs.Sheet.{Name}
use Rattle.rules.specs.Rules.{reserved_namespace}
use Rattle.view.specs.declared.ItemView.{ItemView}
use Rattle.view.specs.Views.{ItemAt}
use Rattle.view.specs.Values.{item_no}

none_here : (ns : List Name) → length ns ≡ 0 → reserved_namespace ns ≡ false
none_here [] h = refl
none_here (n ∷ ns) h = absurd (omega arith)

first_here : (ns : List Name) → 0 < length ns →
    reserved_namespace ns ≡ (same (get_or ns 0 []) (bytes "std") || same (get_or ns 0 []) (bytes "rust"))
first_here [] h = absurd (omega arith)
first_here (n ∷ ns) h = refl

module _ {s names items : List ℕ} {v : ItemView} {i : ℕ} (a : ItemAt s names items v) (e : v.number ≡ i) where
  abbrev spaces : List Name
  spaces = (item_no s names items i).namespace

  depth : length spaces ≡ v.depth
  depth = rw (← e) (sym a.view.depth)

  pub no_namespace : v.depth ≡ 0 → false ≡ reserved_namespace spaces
  no_namespace z = sym (none_here spaces (depth ∙ z))

  module _ (d : v.depth ≡ 0 → ⊥) {m : Name} (h : m ≡ get_or (item_no s names items v.number).namespace 0 [])
      {r : Bool} (t : r ≡ same m (bytes "std")) where
    first : reserved_namespace spaces ≡ (r || same m (bytes "rust"))
    first =
        first_here spaces (let l = depth in omega arith) ∙
        rw (t, h, e)

    pub in_std : r ≡ true → true ≡ reserved_namespace spaces
    in_std q = sym (first ∙ rw q)

    pub in_rust : {p : Bool} → r ≡ false → p ≡ same m (bytes "rust") → p ≡ reserved_namespace spaces
    in_rust q k = sym (first ∙ rw q (sym k))
