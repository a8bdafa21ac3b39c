-- What the views of two items say of their names.
use mathlib.Core.Path.{◌≡◌, refl, sym, ap, ap₂, ◌∙◌}
use mathlib.Core.List.{List, [], ◌∷◌}
use mathlib.Core.Bool.{Bool, true, false, ◌&&◌}
use Prim.Native.Nat.{ℕ, zero, suc, ◌+◌, ◌<◌, ◌≤◌}
use lib.ListN.{length, get_or, drop}
use Rattle.lexical.specs.Bytes.{same}
use Rattle.format.specs.Bits.{bits, width_of}
use Rattle.format.specs.Sheet.{Name, Item}
use native.Mathlib.Omega.{arith}
use Rattle.std.specs.Prelude.{Option, None, Some, is_some, not}
use Rattle.view.specs.Views.{form_of, form_view, self_number}
use Rattle.view.proofs.FormLaws.{free_form, self_there}
use Rattle.syntax.specs.Items.{item_at, full_name, is_function}
use Rattle.cursor.specs.declared.Found.{Found}
use Rattle.view.specs.declared.ItemView.{ItemView}
use Rattle.view.specs.declared.FunctionView.{FunctionView}
use Rattle.view.specs.declared.FormView.{FormView}
use Rattle.view.specs.declared.FormView.TheVariants.{Free, ConstMethod, MutMethod, Associated}
use Rattle.view.specs.Values.{name_at, items_at, function_in, function_at, Whole, item_no}
use Rattle.cursor.specs.Yielding.{Finds}
use Rattle.names.specs.Digests.{digest, digests_at}
use Rattle.names.proofs.NameLaws.{digest_there, name_read}
use Rattle.view.proofs.FunctionLaws.{function_there}
use Rattle.view.specs.Views.{is_function_kind, ItemAt, FunctionAt}
use Rattle.clash.specs.Clashes.{same_names, owner_names, item_symbol, clashes, own_name, Keyed}
use Rattle.clash.proofs.NameLaws.{names_turn, names_differ, names_end, names_unlike}
use Rattle.clash.proofs.ItemLaws.{function_kind, kind_is, Proper, proper}
use Rattle.clash.proofs.SameLaws.{full_name_same, symbol_same, keys_differ}

and_nothing : (b : Bool) → (b && true) ≡ b
and_nothing true = refl
and_nothing false = refl

-- ---- one item

module _ {s names items : List ℕ} {v : ItemView} {i : ℕ} (a : ItemAt s names items v) (e : v.number ≡ i) where
  pub callable : {b : Bool} → is_function_kind v.kind ≡ b → is_function (item_no s names items i).body ≡ b
  callable h =
      rw (← e) (sym (kind_is (item_no s names items v.number).body) ∙ sym (ap is_function_kind a.view.kind) ∙ h)

  pub own_type : is_function_kind v.kind ≡ false →
      (v.name < length names) × (name_at s (get_or names v.name 0) ≡ own_name (item_no s names items i))
  unfolding own_name
  own_type h = (a.view.named, rw (callable h) (rw (← e) a.view.cxx))

  -- the Rust name's index stands first in a function's body
  pub own_function : {w : ℕ} {r : Found} → is_function_kind v.kind ≡ true → w ≡ width_of (length names) →
      Finds (bits w s v.body.at) w r →
      (r.value < length names) × (name_at s (get_or names r.value 0) ≡ own_name (item_no s names items i))
  unfolding own_name function_at
  own_function {w} {r} h z f =
      let t = function_there a (function_kind v.kind h) in
      let q = name_read s names v.body.at t.1.rust (rw z at f) in
      (q.there, rw (callable h) (rw (← e) q.name))

-- the digest of the name of this index
pub key_there : (s names : List ℕ) {digests : List ℕ} (n : ℕ) {x : Name} → digests ≡ digests_at s names → n < length names →
    name_at s (get_or names n 0) ≡ x → get_or digests n 0 ≡ digest x
key_there s names n e l h =
    ap (λ (d : List ℕ). get_or d n 0) e ∙ digest_there s names n l ∙ ap digest h

-- ---- two items

module _ {s names items : List ℕ} (whole : Whole s names items) {v w : ItemView} (a : ItemAt s names items v)
    (b : ItemAt s names items w) where
  abbrev all : List Item
  all = items_at s names items

  abbrev x : Item
  x = item_no s names items v.number

  abbrev y : Item
  y = item_no s names items w.number

  proper_x : Proper all x
  proper_x = proper whole v.number a.there

  proper_y : Proper all y
  proper_y = proper whole w.number b.there

  pub depths_differ : (v.depth ≡ w.depth → ⊥) → false ≡ same_names x.namespace y.namespace
  depths_differ d =
      sym (names_unlike x.namespace y.namespace (λ q. d (a.view.depth ∙ q ∙ sym b.view.depth)))

  module _ (e : v.depth ≡ w.depth) {d : ℕ} where
    module _ (l : d < v.depth) {m n : Name} {r : Bool} (h : m ≡ get_or x.namespace d [])
        (k : n ≡ get_or y.namespace d []) (t : r ≡ same m n) where
      in_x : d < length x.namespace
      in_x = rw (← a.view.depth) l

      in_y : d < length y.namespace
      in_y = rw (← b.view.depth, ← e) l

      here : same (get_or x.namespace d []) (get_or y.namespace d []) ≡ r
      here = sym (t ∙ ap₂ same h k)

      pub spaces_turn : r ≡ true → same_names (drop d x.namespace) (drop d y.namespace) ≡
          same_names (drop (d + 1) x.namespace) (drop (d + 1) y.namespace)
      spaces_turn q = names_turn x.namespace y.namespace d in_x in_y (here ∙ q)

      pub spaces_differ : r ≡ false → same_names (drop d x.namespace) (drop d y.namespace) ≡ false
      spaces_differ q = names_differ x.namespace y.namespace d in_x in_y (here ∙ q)

    pub spaces_end : v.depth ≤ d → same_names (drop d x.namespace) (drop d y.namespace) ≡ true
    spaces_end l =
        names_end x.namespace y.namespace d (rw (← a.view.depth) l) (rw (← b.view.depth, ← e) l)

  module _ {near : Bool} (h : near ≡ same_names x.namespace y.namespace) where
    pub full_name_apart : near ≡ false → false ≡ same (full_name x) (full_name y)
    full_name_apart q = sym (full_name_same proper_x proper_y ∙ rw (← h, q))

    pub full_name_beside : {m n : Name} {r : Bool} → near ≡ true → m ≡ x.cxx → n ≡ y.cxx → r ≡ same m n →
        r ≡ same (full_name x) (full_name y)
    full_name_beside q d c t = sym (full_name_same proper_x proper_y ∙ rw (← h, q, ← d, ← c) (sym t))

    module _ (kv : is_function_kind v.kind ≡ true) (kw : is_function_kind w.kind ≡ true) where
      abbrev owner_of : Item → List Name
      owner_of z = owner_names all (function_in z.body).form

      apart : same (item_symbol all x) (item_symbol all y) ≡
          (same_names x.namespace y.namespace &&
          (same (function_in x.body).rust (function_in y.body).rust && same_names (owner_of x) (owner_of y)))
      apart = symbol_same proper_x proper_y (callable a refl kv) (callable b refl kw)

      pub symbol_apart : near ≡ false → false ≡ same (item_symbol all x) (item_symbol all y)
      symbol_apart q = sym (apart ∙ rw (← h, q))

      module _ {f g : FunctionView} (nf : f.number ≡ v.number) (ng : g.number ≡ w.number)
          (ff : FunctionAt s names items f) (fg : FunctionAt s names items g) {alike : Bool}
          (k : alike ≡ same (name_at s (get_or names f.rust 0)) (name_at s (get_or names g.rust 0))) (q : near ≡ true) where
        rust_names : same (function_in x.body).rust (function_in y.body).rust ≡ alike
        unfolding function_at
        rust_names = rw (← nf, ← ng, ← ff.view.rust, ← fg.view.rust) (sym k)

        pub symbol_unlike : alike ≡ false → false ≡ same (item_symbol all x) (item_symbol all y)
        symbol_unlike z = sym (apart ∙ rw (← h, q, rust_names, z))

        pub symbol_alike : {r : Bool} → alike ≡ true →
            r ≡ same_names (owner_names all (function_at s names items f.number).form)
            (owner_names all (function_at s names items g.number).form) → r ≡ same (item_symbol all x) (item_symbol all y)
        unfolding function_at
        symbol_alike z t = sym (apart ∙ rw (← h, q, rust_names, z) (rw (← nf, ← ng) (sym t)))

  -- ---- clashes

  module _ {j : ℕ} (e : w.number ≡ j) where
    abbrev z : Item
    z = item_no s names items j

    pub clash_functions : {r : Bool} → is_function_kind v.kind ≡ true → is_function_kind w.kind ≡ true →
        r ≡ same (item_symbol all x) (item_symbol all y) → r ≡ clashes all x z
    unfolding clashes
    clash_functions kv kw t = rw (callable a refl kv, callable b e kw) (rw (← e) t)

    pub clash_types : {r : Bool} → is_function_kind v.kind ≡ false → is_function_kind w.kind ≡ false →
        r ≡ same (full_name x) (full_name y) → r ≡ clashes all x z
    unfolding clashes
    clash_types kv kw t = rw (callable a refl kv, callable b e kw) (rw (← e) t)

    pub function_type : is_function_kind v.kind ≡ true → is_function_kind w.kind ≡ false → false ≡ clashes all x z
    unfolding clashes
    function_type kv kw = rw (callable a refl kv, callable b e kw)

    pub type_function : is_function_kind v.kind ≡ false → is_function_kind w.kind ≡ true → false ≡ clashes all x z
    unfolding clashes
    type_function kv kw = rw (callable a refl kv, callable b e kw)

pub keys_apart : {s names items keys : List ℕ} {v : ItemView} {j : ℕ} → Whole s names items →
    Keyed s names items keys → ItemAt s names items v → j < length items →
    (get_or keys v.number 0 ≡ get_or keys j 0 → ⊥) →
    false ≡ clashes (items_at s names items) (item_no s names items v.number) (item_no s names items j)
keys_apart {v} {j} whole k a l d =
    sym (keys_differ (proper whole v.number a.there) (proper whole j l)
    (λ q. d (k.key v.number a.there ∙ q ∙ sym (k.key j l))))

-- ---- owners

abbrev owners_of : List ℕ → List ℕ → List ℕ → FunctionView → List Name
owners_of s names items f = owner_names (items_at s names items) (function_at s names items f.number).form

owner_number : (all : List Item) (k i : ℕ) → (k ≡ 0 → ⊥) →
    owner_names all (form_of (form_view k i)) ≡ (item_at all i).cxx ∷ []
unfolding owner_names
owner_number all zero i h = absurd (h refl)
owner_number all (suc zero) i h = refl
owner_number all (suc (suc zero)) i h = refl
owner_number all (suc (suc (suc k))) i h = refl

module _ {s names items : List ℕ} {f : FunctionView} (a : FunctionAt s names items f) {o : Option ℕ}
    (e : o ≡ self_number f.form) where
  pub owner_none : o ≡ None → owners_of s names items f ≡ []
  unfolding owner_names
  owner_none t = rw (free_form a.view.form e t)

  pub owner_one : {i : ℕ} → o ≡ Some i → owners_of s names items f ≡ (item_no s names items i).cxx ∷ []
  unfolding owner_names
  owner_one t = rw (self_there a.view.form e t)

-- of two lists of none or one
pub lists_none : {xs ys : List Name} {b : Bool} (o : Option ℕ) (n : ℕ → Name) → xs ≡ [] → is_some o ≡ not b →
    (o ≡ None → ys ≡ []) → ((i : ℕ) → o ≡ Some i → ys ≡ n i ∷ []) → b ≡ same_names xs ys
unfolding same_names
lists_none {b = true} None n x t y z = rw (x, y refl)
lists_none {b = false} None n x t y z = absurd (let q : ◌≡◌ {A = ℕ} 0 1 = cc in omega arith)
lists_none {b = false} (Some i) n x t y z = rw (x, z i refl)
lists_none {b = true} (Some i) n x t y z = absurd (let q : ◌≡◌ {A = ℕ} 0 1 = cc in omega arith)

pub lists_differ : {xs ys : List Name} {n : Name} → xs ≡ n ∷ [] → ys ≡ [] → false ≡ same_names xs ys
unfolding same_names
lists_differ x y = rw (x, y)

pub lists_both : {xs ys : List Name} {n m a b : Name} {r : Bool} → xs ≡ n ∷ [] → ys ≡ m ∷ [] → a ≡ n → b ≡ m →
    r ≡ same a b → r ≡ same_names xs ys
unfolding same_names
lists_both x y a b t = rw (x, y, ← a, ← b, and_nothing) t

-- the name of an item of that number
pub name_of_number : {s names items : List ℕ} {v : ItemView} {i : ℕ} → ItemAt s names items v → v.number ≡ i →
    name_at s (get_or names v.name 0) ≡ (item_no s names items i).cxx
name_of_number a e = rw (← e) a.view.cxx

none_free : (v : FormView) → None ≡ self_number v → v ≡ Free
none_free Free q = refl
none_free (ConstMethod i) q = absurd (let o : ◌≡◌ {A = ℕ} 0 1 = cc in omega arith)
none_free (MutMethod i) q = absurd (let o : ◌≡◌ {A = ℕ} 0 1 = cc in omega arith)
none_free (Associated i) q = absurd (let o : ◌≡◌ {A = ℕ} 0 1 = cc in omega arith)

-- of two functions, by their forms
module _ {s names items : List ℕ} {f g : FunctionView} (a : FunctionAt s names items f) (b : FunctionAt s names items g) where
  pub owners_none : f.form ≡ Free →
      not (is_some (self_number g.form)) ≡ same_names (owners_of s names items f) (owners_of s names items g)
  unfolding same_names
  owners_none e = by_number (self_number g.form) refl
    where
      by_number : (o : Option ℕ) → o ≡ self_number g.form →
          not (is_some o) ≡ same_names (owners_of s names items f) (owners_of s names items g)
      by_number None q = rw (owner_none a refl (rw e refl), owner_none b q refl)
      by_number (Some i) q = rw (owner_none a refl (rw e refl), owner_one b q refl)

  pub owners_differ : (f.form ≡ Free → ⊥) → g.form ≡ Free →
      false ≡ same_names (owners_of s names items f) (owners_of s names items g)
  owners_differ h e = by_number (self_number f.form) refl
    where
      by_number : (o : Option ℕ) → o ≡ self_number f.form →
          false ≡ same_names (owners_of s names items f) (owners_of s names items g)
      by_number None q = absurd (h (none_free f.form q))
      by_number (Some i) q = lists_differ (owner_one a q refl) (owner_none b refl (rw e refl))

  pub owners_both : {v w : ItemView} {r : Bool} {i j : ℕ} → self_number f.form ≡ Some i → self_number g.form ≡ Some j →
      ItemAt s names items v → v.number ≡ i → ItemAt s names items w → w.number ≡ j →
      r ≡ same (name_at s (get_or names v.name 0)) (name_at s (get_or names w.name 0)) →
      r ≡ same_names (owners_of s names items f) (owners_of s names items g)
  owners_both h k x d y e t =
      lists_both (owner_one a refl h) (owner_one b refl k) (name_of_number x d) (name_of_number y e) t
