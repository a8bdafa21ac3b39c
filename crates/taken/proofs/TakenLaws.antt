-- Rule 10 from its parts.
use mathlib.Core.Path.{◌≡◌}
use mathlib.Core.List.{List}
use mathlib.Core.Bool.{Bool, true, false, ◌||◌}
use Rattle.lexical.specs.Bytes.{same}
use Rattle.format.specs.Sheet.{Item}
use Rattle.rules.specs.Rules.{any, twice, gather, functions, reserved_namespace, type_name, symbol, argument_names, taken}

module _ (items : List Item) {a : Bool} (ha : a ≡ any (λ x. reserved_namespace x.namespace) items) where
  pub taken_reserved : a ≡ true → true ≡ taken items
  unfolding taken
  taken_reserved e = rw (← ha, e)

  module _ (e : a ≡ false) {b : Bool}
      (hb : b ≡ (twice same (gather type_name items) || twice same (gather (symbol items) items))) where
    pub taken_clash : b ≡ true → true ≡ taken items
    unfolding taken
    taken_clash d = rw (← ha, e, ← hb, d)

    pub taken_argument : {c : Bool} → b ≡ false → c ≡ any (λ f. twice same (argument_names f)) (functions items) →
        c ≡ taken items
    unfolding taken
    taken_argument d hc = rw (← ha, e, ← hb, d) hc
