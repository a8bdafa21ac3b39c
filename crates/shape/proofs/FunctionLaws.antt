-- Laws of a function's view: what it returns, its receiver, its arguments.
use mathlib.Core.Path.{◌≡◌, refl, sym, ap, ◌∙◌}
use mathlib.Core.List.{List, [], ◌∷◌}
use mathlib.Core.Bool.{Bool, true, false, false≢true}
use Prim.Native.Nat.{ℕ, zero, suc}
use native.Mathlib.Omega.{arith}
use lib.Dec.{eqb}
use lib.ListN.{length}
use borrow.Author.Tests.{ne_eqb}
use Rattle.lexical.proofs.BoolLaws.{by_cases}
use Rattle.format.specs.Types.{Ret, none, gives}
use Rattle.format.specs.Sheet.{Function}
use Rattle.format.specs.Decoding.{type}
use Rattle.syntax.specs.Types.{needs_indirect_abi}
use Rattle.rules.specs.Rules.{is_method}
use Rattle.bridge.specs.Write.{indirect_return, slot, direct}
use Rattle.view.specs.declared.FunctionView.{FunctionView}
use Rattle.view.specs.Values.{Yields, items_at, function_at, type_here}
use Rattle.view.specs.Views.{form_of, form_view, return_of, FunctionAt, ArgumentsAt}
use Rattle.cursor.proofs.YieldLaws.{in_turn, got_value, yields}
use Rattle.shape.proofs.TypeLaws.{here_is, here_yields}

-- ---- what a function returns

module _ (n : ℕ) (s : List ℕ) (at : ℕ) where
  result_there : {r : Ret} (b : Bool) → Yields (return_of b (type n) s at) r → b ≡ true →
      (r ≡ gives (type_here n s at)) × Yields (type n s at) (type_here n s at)
  result_there true y e =
      in_turn (type n s at) _ y.is (λ t a d h.
      (sym (got_value h) ∙ ap gives (sym (here_is n s at (yields d))), here_yields n s at (yields d)))
  result_there false y e = absurd (false≢true e)

  result_none : {r : Ret} (b : Bool) → Yields (return_of b (type n) s at) r → b ≡ false → r ≡ none
  result_none true y e = absurd (false≢true (sym e))
  result_none false y e = sym (got_value y.is)

module _ {s names items : List ℕ} {f : FunctionView} (a : FunctionAt s names items f) where
  abbrev this : Function
  this = function_at s names items f.number

  pub returned : f.returns ≡ true →
      (this.return ≡ gives (type_here (length items) s f.result.at)) ×
      Yields (type (length items) s f.result.at) (type_here (length items) s f.result.at)
  returned = result_there (length items) s f.result.at f.returns a.view.result

  pub returned_none : f.returns ≡ false → this.return ≡ none
  returned_none = result_none (length items) s f.result.at f.returns a.view.result

  -- ---- whether it does by a slot

  pub slot_none : f.returns ≡ false → false ≡ indirect_return (items_at s names items) this this.return
  unfolding indirect_return
  slot_none e = rw (returned_none e)

  pub slot_throws : f.returns ≡ true → f.throws ≡ true →
      true ≡ indirect_return (items_at s names items) this this.return
  unfolding indirect_return
  slot_throws e t = rw ((returned e).0, ← a.view.throws, t)

  pub slot_by_type : {b : Bool} → f.returns ≡ true → f.throws ≡ false →
      b ≡ needs_indirect_abi (items_at s names items) (type_here (length items) s f.result.at) →
      b ≡ indirect_return (items_at s names items) this this.return
  unfolding indirect_return
  slot_by_type e t h = rw ((returned e).0, ← a.view.throws, t) h

  -- ---- the type of its slot, and that of a direct return

  pub indirect_returns : {b : Bool} → b ≡ indirect_return (items_at s names items) this this.return → b ≡ true →
      f.returns ≡ true
  indirect_returns h e =
      by_cases f.returns (λ q. q) (λ q. absurd (false≢true (slot_none q ∙ sym h ∙ e)))

  module _ {b : Bool} (h : b ≡ indirect_return (items_at s names items) this this.return) where
    pub slot_some : b ≡ true → slot (items_at s names items) this ≡ type_here (length items) s f.result.at ∷ []
    unfolding slot
    slot_some e = rw (← h, e, (returned (indirect_returns h e)).0)

    pub slot_empty : b ≡ false → slot (items_at s names items) this ≡ []
    unfolding slot
    slot_empty e =
        rw (← h, e)
        (by_cases f.returns (λ q. rw (returned q).0) (λ q. rw (returned_none q)))

    pub direct_some : b ≡ false → f.returns ≡ true →
        direct (items_at s names items) this ≡ type_here (length items) s f.result.at ∷ []
    unfolding direct
    direct_some e q = rw (← h, e, (returned q).0)

    pub direct_slot : b ≡ true → direct (items_at s names items) this ≡ []
    unfolding direct
    direct_slot e = rw (← h, e, (returned (indirect_returns h e)).0)

  pub direct_none : f.returns ≡ false → direct (items_at s names items) this ≡ []
  unfolding direct
  direct_none q = rw (returned_none q)

  -- ---- its receiver and its arguments

  pub method_is : {b : Bool} → b ≡ is_method (form_of f.form) → b ≡ is_method this.form
  method_is h = rw a.view.form.form h

-- as many as the view says
pub arguments_count : {s names items offsets : List ℕ} {f : FunctionView} → ArgumentsAt s names items f offsets →
    length (function_at s names items f.number).arguments ≡ f.arguments
arguments_count a = a.count

pub method_const : (k i : ℕ) → k ≡ 1 → true ≡ is_method (form_of (form_view k i))
method_const k i e = rw e

pub method_other : (k i : ℕ) → (k ≡ 1 → ⊥) → eqb k 2 ≡ is_method (form_of (form_view k i))
method_other zero i h = refl
method_other (suc zero) i h = absurd (h refl)
method_other (suc (suc zero)) i h = refl
method_other (suc (suc (suc k))) i h = ne_eqb (suc (suc (suc k))) 2 (omega arith)
