-- Laws of a form's view.
use mathlib.Core.Path.{◌≡◌, refl, sym, ◌∙◌}
use mathlib.Core.List.{[], ◌∷◌}
use Prim.Native.Nat.{ℕ, ◌<◌}
use native.Mathlib.Omega.{arith}
use Rattle.std.specs.Prelude.{Option, None, Some, IfSome}
use Rattle.format.specs.Sheet.{Form, free}
use Rattle.syntax.specs.Items.{self_type}
use Rattle.view.specs.declared.FormView.{FormView}
use Rattle.view.specs.declared.FormView.TheVariants.{Free, ConstMethod, MutMethod, Associated}
use Rattle.view.specs.Views.{form_of, self_number, FormOf}

-- where it has no self type
by_none : {x : Form} (r : FormView) → x ≡ form_of r → self_number r ≡ None → x ≡ free
by_none Free f q = f
by_none (ConstMethod i) f q = absurd (let z : ◌≡◌ {A = ℕ} 0 1 = cc in omega arith)
by_none (MutMethod i) f q = absurd (let z : ◌≡◌ {A = ℕ} 0 1 = cc in omega arith)
by_none (Associated i) f q = absurd (let z : ◌≡◌ {A = ℕ} 0 1 = cc in omega arith)

-- where it has one
by_some : {x : Form} (r : FormView) {i : ℕ} → x ≡ form_of r → self_number r ≡ Some i → self_type x ≡ i ∷ []
by_some Free f q = absurd (let z : ◌≡◌ {A = ℕ} 0 1 = cc in omega arith)
by_some (ConstMethod j) {i} f q = let z : j ≡ i = cc in rw (f, z)
by_some (MutMethod j) {i} f q = let z : j ≡ i = cc in rw (f, z)
by_some (Associated j) {i} f q = let z : j ≡ i = cc in rw (f, z)

module _ {x : Form} {n : ℕ} {r : FormView} (h : FormOf x n r) {o : Option ℕ} (e : o ≡ self_number r) where
  pub free_form : o ≡ None → x ≡ free
  free_form t = by_none r h.form (sym e ∙ t)

  pub self_there : {i : ℕ} → o ≡ Some i → self_type x ≡ i ∷ []
  self_there t = by_some r h.form (sym e ∙ t)

  pub self_below : {i : ℕ} → o ≡ Some i → i < n
  self_below t = rw (sym e ∙ t) at h.owner
