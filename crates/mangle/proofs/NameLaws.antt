-- Laws of the names and symbols of items, from what was written of them.
use mathlib.Core.Path.{◌≡◌, refl, sym}
use mathlib.Core.List.{List, [], ◌∷◌, ◌++◌, map, append-nil}
use Prim.Native.Nat.{ℕ, zero, suc, ◌+◌, ◌<◌, ◌≤◌}
use lib.ListN.{get_or, take}
use Rattle.lexical.specs.Bytes.{bytes}
use Rattle.format.specs.Sheet.{Name, Function, Item}
use Rattle.std.specs.Prelude.{Option, None, Some}
use Rattle.view.specs.Views.{form_of, form_view, self_number}
use Rattle.view.proofs.FormLaws.{free_form, self_there}
use Rattle.syntax.specs.Items.{item_at, full_name, self_type}
use Rattle.syntax.specs.Symbol.{push_all, join}
use Rattle.syntax.specs.Mangle.{version, extern_fn, operator}
use Rattle.sink.specs.Sink.{Sink, Wrote}
use Rattle.sink.proofs.SinkLaws.{◌▷◌, wrote_nil, wrote_as}
use Rattle.view.specs.declared.ItemView.{ItemView}
use Rattle.view.specs.declared.FunctionView.{FunctionView}
use Rattle.view.specs.Values.{name_at, items_at, function_at}
use Rattle.view.specs.Views.{ItemAt, FunctionAt}
use Rattle.mangle.specs.Segments.{each_between}
use Rattle.mangle.proofs.SegmentLaws.{segments_turn, segments_all, path_end, join_version, push_two, push_three}

-- ---- one segment more

pub pushed : {r t u : Sink} {x : List ℕ} → Wrote r (bytes "$") t → Wrote t x u → Wrote r (push_all (x ∷ [])) u
unfolding push_all
pushed p q = wrote_as (p ▷ q) (sym (append-nil _))

-- ---- an item

module _ {s names items : List ℕ} {v : ItemView} (a : ItemAt s names items v) where
  abbrev item_of : ℕ → Item
  item_of i = item_at (items_at s names items) i

  abbrev spaces : List Name
  spaces = (item_of v.number).namespace

  -- the loop over its namespaces
  module _ (before behind : List ℕ) where
    pub spaces_none : (r : Sink) → Wrote r (each_between before behind (take 0 spaces)) r
    unfolding each_between
    spaces_none r = wrote_nil r

    module _ {d : ℕ} {r t : Sink} where
      pub spaces_turn : {u w z : Sink} {x : Name} → d < v.depth → x ≡ get_or spaces d [] →
          Wrote r (each_between before behind (take d spaces)) t → Wrote t before u → Wrote u x w → Wrote w behind z →
          Wrote r (each_between before behind (take (d + 1) spaces)) z
      spaces_turn h e p q x y = segments_turn before behind spaces (rw (← a.view.depth) h) e p q x y

      pub spaces_all : v.depth ≤ d → Wrote r (each_between before behind (take d spaces)) t →
          Wrote r (each_between before behind spaces) t
      spaces_all h p = segments_all before behind spaces {d = d} (rw (← a.view.depth) h) p

  module _ {r t : Sink} where
    -- its C++ name
    pub cxx_name_lem : {i : ℕ} → v.number ≡ i → Wrote r (name_at s (get_or names v.name 0)) t → Wrote r (item_of i).cxx t
    cxx_name_lem e p = wrote_as p (rw (← e) a.view.cxx)

    -- its full name
    pub full_name_lem : {i : ℕ} {u w : Sink} → v.number ≡ i → Wrote r (each_between (bytes "::") [] spaces) t →
        Wrote t (bytes "::") u → Wrote u (name_at s (get_or names v.name 0)) w → Wrote r (full_name (item_of i)) w
    unfolding full_name
    full_name_lem e p q x =
        wrote_as (p ▷ q ▷ x) (rw (← e, a.view.cxx) (sym (path_end spaces (item_of v.number).cxx)))

    -- what its symbols begin with
    pub begun : {u : Sink} → Wrote r (each_between [] (bytes "$") spaces) t → Wrote t (bytes "cxxbridge1$205") u →
        Wrote r (join (spaces ++ version)) u
    begun p q = wrote_as (p ▷ q) (sym (join_version spaces))

    -- its layout's symbol
    pub layout : (name : List ℕ) {u w z : Sink} → Wrote r (join (spaces ++ version)) t →
        Wrote t (push_all (name_at s (get_or names v.name 0) ∷ [])) u → Wrote u (push_all (bytes "operator" ∷ [])) w →
        Wrote w (push_all (name ∷ [])) z → Wrote r (operator (item_of v.number) name) z
    unfolding operator
    layout name p x y q =
        wrote_as (p ▷ x ▷ y ▷ q)
        (rw a.view.cxx (push_three spaces (item_of v.number).cxx (bytes "operator") name))

-- ---- a function

self_is : (all : List Item) (k i : ℕ) → (k ≡ 0 → ⊥) →
    map (λ j. (item_at all j).cxx) (self_type (form_of (form_view k i))) ≡ (item_at all i).cxx ∷ []
self_is all zero i h = absurd (h refl)
self_is all (suc zero) i h = refl
self_is all (suc (suc zero)) i h = refl
self_is all (suc (suc (suc k))) i h = refl

module _ {s names items : List ℕ} {f : FunctionView} (b : FunctionAt s names items f) where
  abbrev function : Function
  function = function_at s names items f.number

  -- the C++ name of its self type, in a list of none or one
  abbrev self : List Name
  self = map (λ i. (item_at (items_at s names items) i).cxx) (self_type function.form)

  module _ {o : Option ℕ} (e : o ≡ self_number f.form) where
    pub self_none : o ≡ None → (r : Sink) → Wrote r (push_all self) r
    unfolding push_all
    self_none q r = rw (free_form b.view.form e q) (wrote_nil r)

    pub self_one : {i : ℕ} {v : ItemView} {r t : Sink} → o ≡ Some i → ItemAt s names items v → v.number ≡ i →
        Wrote r (push_all (name_at s (get_or names v.name 0) ∷ [])) t → Wrote r (push_all self) t
    self_one q a h p = wrote_as p (rw (self_there b.view.form e q, ← h, a.view.cxx))

  -- its symbol
  pub symbol : (ns : List Name) {r t u w : Sink} → Wrote r (join (ns ++ version)) t → Wrote t (push_all self) u →
      Wrote u (push_all (name_at s (get_or names f.rust 0) ∷ [])) w →
      Wrote r (extern_fn (items_at s names items) ns function) w
  unfolding extern_fn
  symbol ns p x q =
      wrote_as (p ▷ x ▷ q) (rw b.view.rust (push_two ns self (function.rust ∷ [])))
