-- Which shims a header shows.
use mathlib.Core.Path.{◌≡◌, refl, sym, ap, ◌∙◌}
use mathlib.Core.Bool.{Bool, true, false, not, ◌&&◌}
use Prim.Native.Nat.{ℕ, zero, suc}
use Rattle.format.specs.Sheet.{Form, Function, Item, Sheet}
use Rattle.view.specs.Views.{form_of, form_view}
use Rattle.bridge.specs.Out as machine
use Rattle.bridge.specs.Out.{next_section, set_namespace}
use Rattle.bridge.specs.Write.{is_free, function_shim, write_rust_function_shim}
use Rattle.pieces.proofs.Machine.{nothing_written}
use Rattle.sections.specs.Runs.{hidden_form, shim_section}

pub hidden_free : (header : Bool) (form owner : ℕ) → form ≡ 0 → false ≡ hidden_form header (form_of (form_view form owner))
hidden_free true form owner e = rw e
hidden_free false form owner e = refl

pub hidden_method : (header : Bool) (form owner : ℕ) → (form ≡ 0 → ⊥) →
    header ≡ hidden_form header (form_of (form_view form owner))
hidden_method true zero owner h = absurd (h refl)
hidden_method true (suc zero) owner h = refl
hidden_method true (suc (suc zero)) owner h = refl
hidden_method true (suc (suc (suc form))) owner h = refl
hidden_method false form owner h = refl

hidden_form_lem : (header : Bool) (form owner : ℕ) →
    (header && not (is_free (form_of (form_view form owner)))) ≡ hidden_form header (form_of (form_view form owner))
hidden_form_lem header form owner = refl

-- ---- the shim of the function of a number

module _ (s : Sheet) (x : Item) (F : ℕ → Function) {n k : ℕ} (number : n ≡ k) {form : Form} (e : (F n).form ≡ form) where
  the_form : (F k).form ≡ form
  the_form = sym (ap (λ (i : ℕ). (F i).form) number) ∙ e

  -- a header does not show a method
  pub hidden_shim : hidden_form s.header form ≡ true → (m : machine.Content) →
      set_namespace x.namespace (next_section m) ≡ shim_section s x (F k) m
  unfolding write_rust_function_shim
  hidden_shim h m = rw (the_form, h) (sym (nothing_written (set_namespace x.namespace (next_section m))))

  pub shown_shim : hidden_form s.header form ≡ false → (m : machine.Content) →
      machine.write (function_shim s x (F n)) (set_namespace x.namespace (next_section m)) ≡ shim_section s x (F k) m
  unfolding write_rust_function_shim
  shown_shim h m =
      ap (λ (i : ℕ). machine.write (function_shim s x (F i)) (set_namespace x.namespace (next_section m))) number
      ∙ rw (the_form, h)
