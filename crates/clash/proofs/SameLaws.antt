-- Full names and symbols are equal where the names that they are made of are.
use mathlib.Core.Path.{◌≡◌, refl, sym, ap}
use mathlib.Core.List.{List, [], ◌∷◌, ◌++◌}
use mathlib.Core.Bool.{Bool, true, false, ◌&&◌, false≢true}
use Rattle.lexical.specs.Bytes.{same}
use Rattle.lexical.specs.Names.{is_name}
use Rattle.lexical.proofs.BoolLaws.{both, by_cases}
use Rattle.lexical.proofs.ByteLaws.{same_eq, same_refl, every_snoc}
use Rattle.format.specs.Sheet.{Name, Item}
use Rattle.syntax.specs.Items.{full_name, is_function}
use Rattle.syntax.specs.Mangle.{extern_fn}
use Rattle.view.specs.Values.{function_in}
use Rattle.names.specs.Digests.{digest}
use Rattle.clash.specs.Clashes.{same_names, owner_names, item_symbol, clashes, own_name}
use Rattle.clash.proofs.SegmentLaws.{end_eq, path_eq, symbol_eq}
use Rattle.clash.proofs.NameLaws.{names_eq, names_refl}
use Rattle.clash.proofs.ItemLaws.{Proper}

both_ways : (a b : Bool) → (a ≡ true → b ≡ true) → (b ≡ true → a ≡ true) → a ≡ b
both_ways true b f g = sym (f refl)
both_ways false true f g = g refl
both_ways false false f g = refl

and-true : {a b : Bool} → a ≡ true → b ≡ true → (a && b) ≡ true
and-true p q = rw (p, q)

module _ {items : List Item} {x y : Item} (px : Proper items x) (py : Proper items y) where
  full_name_parts : full_name x ≡ full_name y → (x.namespace ≡ y.namespace) × (x.cxx ≡ y.cxx)
  unfolding full_name
  full_name_parts e =
      end_eq x.namespace y.namespace x.cxx y.cxx
      (path_eq (x.namespace ++ (x.cxx ∷ [])) (y.namespace ++ (y.cxx ∷ []))
      (every_snoc is_name x.namespace x.cxx px.spaces px.cxx)
      (every_snoc is_name y.namespace y.cxx py.spaces py.cxx) e)

  full_name_lem : x.namespace ≡ y.namespace → x.cxx ≡ y.cxx → full_name x ≡ full_name y
  unfolding full_name
  full_name_lem e d = rw (e, d)

  -- "two types with the same full name"
  pub full_name_same : same (full_name x) (full_name y) ≡ (same_names x.namespace y.namespace && same x.cxx y.cxx)
  full_name_same =
      both_ways (same (full_name x) (full_name y)) (same_names x.namespace y.namespace && same x.cxx y.cxx)
      (λ h. let q = full_name_parts (same_eq (full_name x) (full_name y) h) in
      rw (q.0, q.1) (and-true (names_refl y.namespace) (same_refl y.cxx)))
      (λ h. let q = both (same_names x.namespace y.namespace) (same x.cxx y.cxx) h in
      let e : full_name x ≡ full_name y = full_name_lem (names_eq _ _ q.0) (same_eq _ _ q.1) in
      rw e (same_refl (full_name y)))

  module _ (fx : is_function x.body ≡ true) (fy : is_function y.body ≡ true) where
    abbrev rust_x : Name
    rust_x = (function_in x.body).rust

    abbrev rust_y : Name
    rust_y = (function_in y.body).rust

    abbrev owner_x : List Name
    owner_x = owner_names items (function_in x.body).form

    abbrev owner_y : List Name
    owner_y = owner_names items (function_in y.body).form

    symbol_parts : item_symbol items x ≡ item_symbol items y → (x.namespace ≡ y.namespace) × (owner_x ≡ owner_y) × (rust_x ≡ rust_y)
    unfolding item_symbol extern_fn owner_names
    symbol_parts e =
        symbol_eq x.namespace y.namespace owner_x owner_y rust_x rust_y px.spaces py.spaces (px.owner fx)
        (py.owner fy) (px.rust fx) (py.rust fy) e

    symbol : x.namespace ≡ y.namespace → rust_x ≡ rust_y → owner_x ≡ owner_y → item_symbol items x ≡ item_symbol items y
    unfolding item_symbol extern_fn owner_names
    symbol e d c = rw (e, c, d)

    abbrev parts : Bool
    parts = same_names x.namespace y.namespace && (same rust_x rust_y && same_names owner_x owner_y)

    -- "two functions with the same symbol"
    pub symbol_same : same (item_symbol items x) (item_symbol items y) ≡ parts
    symbol_same =
        both_ways (same (item_symbol items x) (item_symbol items y)) parts
        (λ h. let q = symbol_parts (same_eq (item_symbol items x) (item_symbol items y) h) in
        rw (q.0, q.1, q.2)
        (and-true (names_refl y.namespace) (and-true (same_refl rust_y) (names_refl owner_y))))
        (λ h. let q = both (same_names x.namespace y.namespace) (same rust_x rust_y && same_names owner_x owner_y) h in
        let p = both (same rust_x rust_y) (same_names owner_x owner_y) q.1 in
        let e : item_symbol items x ≡ item_symbol items y =
        symbol (names_eq _ _ q.0) (same_eq _ _ p.0) (names_eq _ _ p.1) in
        rw e (same_refl (item_symbol items y)))

  -- ---- items that clash have the same own name

  types_clash : is_function x.body ≡ false → is_function y.body ≡ false → clashes items x y ≡ true →
      own_name x ≡ own_name y
  unfolding clashes own_name
  types_clash fx fy h =
      let q : same (full_name x) (full_name y) ≡ true = rw (fx, fy) at h in
      rw (fx, fy) (full_name_parts (same_eq (full_name x) (full_name y) q)).1

  functions_clash : is_function x.body ≡ true → is_function y.body ≡ true → clashes items x y ≡ true →
      own_name x ≡ own_name y
  unfolding clashes own_name
  functions_clash fx fy h =
      let q : same (item_symbol items x) (item_symbol items y) ≡ true = rw (fx, fy) at h in
      rw (fx, fy) (symbol_parts fx fy (same_eq (item_symbol items x) (item_symbol items y) q)).2

  pub clash_own : clashes items x y ≡ true → own_name x ≡ own_name y
  unfolding clashes
  clash_own h =
      by_cases (is_function x.body)
      (λ fx. by_cases (is_function y.body) (λ fy. functions_clash fx fy h)
      (λ fy. absurd (false≢true (rw (fx, fy) at h))))
      (λ fx. by_cases (is_function y.body) (λ fy. absurd (false≢true (rw (fx, fy) at h)))
      (λ fy. types_clash fx fy h))

  pub keys_differ : (digest (own_name x) ≡ digest (own_name y) → ⊥) → clashes items x y ≡ false
  keys_differ d = by_cases (clashes items x y) (λ h. absurd (d (ap digest (clash_own h)))) (λ h. h)
