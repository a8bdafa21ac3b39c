-- Laws of a shim's head.
use mathlib.Core.Path.{◌≡◌, refl, sym, ◌∙◌}
use mathlib.Core.List.{List, [], ◌∷◌, ◌++◌, map}
use mathlib.Core.Bool.{Bool, true, false, not, ◌&&◌, and-false, true≢false}
use mathlib.Core.Logic.{◌⊎◌, inl, inr}
use Prim.Native.Nat.{ℕ, zero, suc}
use native.Mathlib.Omega.{arith}
use lib.Dec.{eqb}
use lib.ListN.{length, get_or}
use borrow.Author.Tests.{ne_eqb}
use Rattle.lexical.specs.Bytes.{bytes, same}
use Rattle.lexical.specs.Decimal.{pick_text}
use Rattle.sink.specs.Sink.{Sink, Wrote}
use Rattle.sink.proofs.SinkLaws.{◌▷◌, wrote_nil, wrote_as}
use Rattle.format.specs.Sheet.{Name, Function, Item}
use Rattle.format.specs.Decoding.{argument}
use Rattle.format.specs.Sheet.{Form}
use Rattle.std.specs.Prelude.{Option, None, Some, is_some}
use Rattle.view.specs.Views.{form_of, form_view, self_number}
use Rattle.view.specs.declared.FormView.{FormView}
use Rattle.view.specs.declared.FormView.TheVariants.{Free, ConstMethod, MutMethod, Associated}
use Rattle.view.proofs.FormLaws.{free_form, self_there as form_self}
use Rattle.cursor.proofs.CheckLaws.{many_length}
use Rattle.syntax.specs.Items.{item_at, self_type}
use Rattle.rules.specs.Rules.{gather}
use Rattle.bridge.specs.WriteType.{write_type_space, write_return_type}
use Rattle.bridge.specs.Write.{commas, is_root, is_free, is_const, is_none, is_cxx_main, local_name, shim_decl}
use Rattle.view.specs.declared.ItemView.{ItemView}
use Rattle.view.specs.declared.FunctionView.{FunctionView}
use Rattle.view.specs.Values.{name_at, names_at, items_at, function_at, type_here}
use Rattle.view.specs.Views.{ItemAt, FunctionAt}
use Rattle.shape.proofs.FunctionLaws.{returned, returned_none}
use Rattle.shape.proofs.CommaLaws.{gather_one, gather_none}

-- ---- main

root_is : (ns : List Name) → is_root ns ≡ eqb (length ns) 0
root_is [] = refl
root_is (n ∷ ns) = sym (ne_eqb (length (n ∷ ns)) 0 (omega arith))

free_is : {x : Form} (r : FormView) {o : Option ℕ} (b : Bool) → x ≡ form_of r → o ≡ self_number r →
    b ≡ is_some o → is_free x ≡ not b
free_is Free b f e h = rw (f, h, e)
free_is (ConstMethod i) b f e h = rw (f, h, e)
free_is (MutMethod i) b f e h = rw (f, h, e)
free_is (Associated i) b f e h = rw (f, h, e)

const_is : (k i : ℕ) → is_const (form_of (form_view k i)) ≡ eqb k 1
const_is zero i = refl
const_is (suc zero) i = refl
const_is (suc (suc zero)) i = refl
const_is (suc (suc (suc k))) i = sym (ne_eqb (suc (suc (suc k))) 1 (omega arith))

-- the first of six asked last, and the fourth first
name_last : (n d g a r t : Bool) → (n && d && g && a && r && t) ≡ (a && d && g && r && t && n)
name_last false d g a r t = sym (and-false (a && d && g && r && t))
name_last true false g true r t = refl
name_last true false g false r t = refl
name_last true true false true r t = refl
name_last true true false false r t = refl
name_last true true true false r t = refl
name_last true true true true false t = refl
name_last true true true true true false = refl
name_last true true true true true true = refl

name_apart : (a d g r t n : Bool) → (a && d && g && r && t) ≡ false → (a && d && g && r && t && n) ≡ false
name_apart false d g r t n h = refl
name_apart true false g r t n h = refl
name_apart true true false r t n h = refl
name_apart true true true false t n h = refl
name_apart true true true true false n h = refl
name_apart true true true true true n h = absurd (true≢false h)

module _ {s names items : List ℕ} {f : FunctionView} (a : FunctionAt s names items f) where
  abbrev this : Function
  this = function_at s names items f.number

  count_is : length this.arguments ≡ f.arguments
  count_is =
      many_length (argument (names_at s names) (length items)) s f.arguments f.first.at a.view.arguments.is

  none_is : is_none this.return ≡ not f.returns
  none_is = by_bit f.returns refl
    where
      by_bit : (b : Bool) → f.returns ≡ b → is_none this.return ≡ not b
      by_bit true e = rw (returned a e).0
      by_bit false e = rw (returned_none a e)

  -- what is asked, in the order of the code
  module _ {v : ItemView} (x : ItemAt s names items v) where
    abbrev named : Bool
    named = same (name_at s (get_or names v.name 0)) (bytes "main")

    abbrev main : Bool
    main = is_cxx_main (item_at (items_at s names items) v.number) this

    -- b says whether it has a self type
    module _ {o : Option ℕ} (b : Bool) (e : o ≡ self_number f.form) (h : b ≡ is_some o) where
      main_is : main ≡ (eqb f.arguments 0 && eqb v.depth 0 && not b && not f.returns && not f.throws && named)
      unfolding is_cxx_main
      main_is =
          rw (
            ← x.view.cxx,
            root_is (item_at (items_at s names items) v.number).namespace,
            ← x.view.depth,
            free_is f.form b a.view.form.form e h,
            count_is,
            none_is,
            ← a.view.throws,
          )
          (name_last named (eqb v.depth 0) (not b) (eqb f.arguments 0) (not f.returns) (not f.throws))

      -- where one of the first five does not hold, the name is not asked
      pub main_other : (eqb f.arguments 0 && eqb v.depth 0 && not b && not f.returns && not f.throws) ≡ false →
          false ≡ main
      main_other q =
          sym (main_is ∙ name_apart (eqb f.arguments 0) (eqb v.depth 0) (not b) (not f.returns) (not f.throws) named q)

      pub main_owned : b ≡ true → false ≡ main
      main_owned q = sym (main_is ∙ simp (q, and-false))

      pub main_named : {r : Bool} → b ≡ false → (f.arguments ≡ 0) × (v.depth ≡ 0) → not f.returns ≡ true →
          not f.throws ≡ true → r ≡ named → r ≡ main
      main_named m k p q z = z ∙ sym (main_is ∙ rw (k.0, k.1, m, p, q))

      pub main_more : (f.arguments ≡ 0 × (v.depth ≡ 0 → ⊥)) ⊎ (f.arguments ≡ 0 → ⊥) → false ≡ main
      main_more (inl k) = sym (main_is ∙ rw (k.0, ne_eqb v.depth 0 k.1))
      main_more (inr k) = sym (main_is ∙ rw (ne_eqb f.arguments 0 k))

      pub main_returns : not f.returns ≡ false → false ≡ main
      main_returns q = sym (main_is ∙ simp (q, and-false))

      pub main_throws : not f.throws ≡ false → false ≡ main
      main_throws q = sym (main_is ∙ simp (q, and-false))

  -- ---- the type that it returns

  pub return_gives : {r t : Sink} → f.returns ≡ true →
      Wrote r (write_type_space (items_at s names items) (type_here (length items) s f.result.at)) t →
      Wrote r (write_return_type (items_at s names items) this.return) t
  return_gives e p = wrote_as p (rw (returned a e).0)

  pub return_none : {r t : Sink} → f.returns ≡ false → Wrote r (bytes "void ") t →
      Wrote r (write_return_type (items_at s names items) this.return) t
  return_none e p = wrote_as p (rw (returned_none a e))

  -- ---- its self type

  self_there : (k i : ℕ) → (k ≡ 0 → ⊥) → self_type (form_of (form_view k i)) ≡ i ∷ []
  self_there zero i h = absurd (h refl)
  self_there (suc zero) i h = refl
  self_there (suc (suc zero)) i h = refl
  self_there (suc (suc (suc k))) i h = refl

  module _ {o : Option ℕ} (e : o ≡ self_number f.form) where
    pub self_none : (g : ℕ → List ℕ) (r : Sink) → o ≡ None → Wrote r (gather g (self_type this.form)) r
    self_none g r h = rw (free_form a.view.form e h, gather_none g) (wrote_nil r)

    pub self_one : (g : ℕ → List ℕ) {i : ℕ} {r t : Sink} → o ≡ Some i → Wrote r (g i) t →
        Wrote r (gather g (self_type this.form)) t
    self_one g h p = wrote_as p (rw (form_self a.view.form e h, gather_one g))

-- ---- the head

pub local_name_written : {s names items : List ℕ} {v : ItemView} (f : Function) {r t u : Sink} → ItemAt s names items v →
    Wrote r (gather (λ i. (item_at (items_at s names items) i).cxx ++ bytes "::") (self_type f.form)) t →
    Wrote t (name_at s (get_or names v.name 0)) u →
    Wrote r (local_name (items_at s names items) (item_at (items_at s names items) v.number) f) u
unfolding local_name
local_name_written f x p q = p ▷ wrote_as q x.view.cxx

pub head_written : {s names items : List ℕ} {f : FunctionView} (x : Item) {r t u v w y z a : Sink} {b : Bool} →
    FunctionAt s names items f →
    Wrote r (pick_text (is_cxx_main x (function_at s names items f.number)) (bytes "int ")
    (write_return_type (items_at s names items) (function_at s names items f.number).return)) t →
    Wrote t (local_name (items_at s names items) x (function_at s names items f.number)) u → Wrote u (bytes "(") v →
    Wrote v (commas false (map (λ a. write_type_space (items_at s names items) a.type ++ a.name)
    (function_at s names items f.number).arguments)) w →
    Wrote w (bytes ")") y → b ≡ is_const (form_of f.form) → Wrote y (pick_text b (bytes " const") []) z →
    Wrote z (pick_text f.throws [] (bytes " noexcept")) a →
    Wrote r (shim_decl (items_at s names items) x (function_at s names items f.number)) a
unfolding shim_decl
head_written {f = f} x at p₁ p₂ p₃ p₄ p₅ e p₆ p₇ =
    p₁ ▷ p₂ ▷ p₃ ▷ p₄ ▷ p₅ ▷ wrote_as p₆ (rw (e, at.view.form.form)) ▷
    wrote_as p₇ (rw at.view.throws)
