-- The names of a decoded sheet's items keep the name rule.
use mathlib.Core.Path.{◌≡◌, refl, sym, ap, ◌∙◌}
use mathlib.Core.List.{List, [], ◌∷◌}
use mathlib.Core.Bool.{true, false≢true}
use Prim.Native.Nat.{ℕ, zero, suc, ◌<◌}
use lib.Dec.{eqb}
use lib.ListN.{length, get_or}
use Rattle.refusal.specs.declared.Refusal.TheVariants.{BadName}
use Rattle.lexical.specs.Bytes.{every}
use Rattle.lexical.specs.Names.{is_name}
use Rattle.lexical.proofs.BoolLaws.{by_cases}
use Rattle.format.specs.Decode.{got, many}
use Rattle.format.specs.Bits.{bits, index}
use Rattle.format.specs.Sheet.{Name, Form, Function, Body, struct, enum, cxx_type, rust_type, function, Item}
use Rattle.format.specs.Decoding.{name_by, name, name_of, form_of, form, part_of, item_body}
use Rattle.format.specs.declared.ItemKind.{ItemKind}
use Rattle.format.specs.declared.ItemKind.TheVariants.{Struct, Enum, CxxType, RustType, RustFunction, Bad}
use Rattle.syntax.specs.Items.{item_at, is_function}
use Rattle.cursor.proofs.WidthLaws.{index_lt}
use Rattle.view.specs.Values.{name_at, names_at, items_at, function_in, Whole, item_no}
use Rattle.view.specs.Views.{kind_of_body, is_function_kind}
use Rattle.cursor.proofs.YieldLaws.{in_turn, passed, test_passed, got_value}
use Rattle.view.proofs.PartLaws.{ItemParts, item_parts, FunctionParts, function_parts, body_kind}
use Rattle.names.proofs.NameLaws.{indexed}
use Rattle.clash.specs.Clashes.{owner_names}

pub function_kind : (k : ItemKind) → is_function_kind k ≡ true → k ≡ RustFunction
function_kind RustFunction h = refl
function_kind Struct h = absurd (false≢true h)
function_kind Enum h = absurd (false≢true h)
function_kind CxxType h = absurd (false≢true h)
function_kind RustType h = absurd (false≢true h)
function_kind Bad h = absurd (false≢true h)

pub kind_is : (b : Body) → is_function_kind (kind_of_body b) ≡ is_function b
kind_is (struct p ts) = refl
kind_is (enum p a c) = refl
kind_is (cxx_type p) = refl
kind_is (rust_type p) = refl
kind_is (function f) = refl

-- the item's names are names
pub record Proper (items : List Item) (x : Item) : Type 0 where
  pub spaces : every is_name x.namespace ≡ true
  pub cxx : is_name x.cxx ≡ true
  pub rust : is_function x.body ≡ true → is_name (function_in x.body).rust ≡ true
  pub owner : is_function x.body ≡ true → every is_name (owner_names items (function_in x.body).form) ≡ true

module _ {s names items : List ℕ} (whole : Whole s names items) where
  abbrev table : List Name
  table = names_at s names

  abbrev all : List Item
  all = items_at s names items

  pub name_ok_lem : (i : ℕ) → i < length names → is_name (name_at s (get_or names i 0)) ≡ true
  unfolding name name_by
  name_ok_lem i l =
      in_turn (bits 6 s (get_or names i 0)) _ (whole.named.each i l).is (λ n a e₁ h₁.
      in_turn (many n (bits 7) s a) _ h₁ (λ cs b e₂ h₂.
      rw (← got_value (passed (is_name cs) (got cs b) BadName h₂)) (test_passed (is_name cs) (got cs b) BadName h₂)))

  index_ok : (at : ℕ) {x : Name} {m : ℕ} → name_of table s at ≡ got x m → is_name x ≡ true
  index_ok at h = let q = indexed s names at h in rw (← q.1.name) (name_ok_lem q.0 q.1.there)

  indexes_ok : (d at : ℕ) {xs : List Name} {m : ℕ} → many d (name_of table) s at ≡ got xs m → every is_name xs ≡ true
  unfolding many every
  indexes_ok zero at {xs} h = let z : [] ≡ xs = got_value h in rw (← z)
  indexes_ok (suc d) at {xs} h =
      in_turn (name_of table s at) _ h (λ y a e₁ h₁.
      in_turn (many d (name_of table) s a) _ h₁ (λ ys b e₂ h₂.
      let z : y ∷ ys ≡ xs = got_value h₂ in
      rw (← z) (rw (index_ok at e₁) (indexes_ok d a e₂))))

  parts : (i : ℕ) → i < length items → ItemParts table (length items) s (get_or items i 0) (item_at all i)
  parts i l = item_parts table (length items) s (get_or items i 0) (whole.each i l).is

  cxx_ok : (i : ℕ) → i < length items → is_name (item_at all i).cxx ≡ true
  cxx_ok i l = let p = parts i l in index_ok p.cxx_at p.cxx

  owner_ok : (k i : ℕ) → i < length items → every is_name (owner_names all (form_of k i)) ≡ true
  unfolding owner_names every
  owner_ok zero i l = refl
  owner_ok (suc zero) i l = rw (cxx_ok i l)
  owner_ok (suc (suc zero)) i l = rw (cxx_ok i l)
  owner_ok (suc (suc (suc k))) i l = rw (cxx_ok i l)

  form_ok_lem : (at : ℕ) {x : Form} {m : ℕ} → form (length items) s at ≡ got x m → every is_name (owner_names all x) ≡ true
  unfolding form owner_names every
  form_ok_lem at {x} {m} h =
      in_turn (bits 2 s at) _ h (λ k a e₁ h₁.
      by_cases (eqb k 0)
      (λ t. let z = got_value (rw t at h₁) in rw (← z))
      (λ t. in_turn (index (length items) s a) _ (rw t at h₁) (λ j b e₂ h₂.
      let z : form_of k j ≡ x = got_value h₂ in
      rw (← z) (owner_ok k j (index_lt (length items) s a e₂)))))

  module _ (i : ℕ) (l : i < length items) (f : is_function (item_at all i).body ≡ true) where
    function_parts_of : (g : Function) × ((item_at all i).body ≡ function g) ×
        FunctionParts table (length items) s (parts i l).body_at g
    function_parts_of =
        let p = parts i l in
        let k = body_kind table (length items) s p.body_at (part_of p.number) p.body in
        let z : part_of p.number ≡ RustFunction =
        function_kind (part_of p.number) (ap is_function_kind k ∙ kind_is (item_at all i).body ∙ f) in
        function_parts table (length items) s p.body_at
        (ap (λ (j : ItemKind). item_body j table (length items) s p.body_at) (sym z) ∙ p.body)

    rust_ok : is_name (function_in (item_at all i).body).rust ≡ true
    rust_ok = let q = function_parts_of in rw q.1 (index_ok (parts i l).body_at q.2.rust)

    owners_ok : every is_name (owner_names all (function_in (item_at all i).body).form) ≡ true
    owners_ok = let q = function_parts_of in rw q.1 (form_ok_lem q.2.form_at q.2.form)

  pub proper : (i : ℕ) → i < length items → Proper all (item_no s names items i)
  proper i l = record {
    spaces = (let p = parts i l in indexes_ok p.levels p.spaces_at p.spaces);
    cxx = cxx_ok i l;
    rust = rust_ok i l;
    owner = owners_ok i l;
  }
