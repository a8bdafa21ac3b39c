-- Laws of the arguments of a shim's call.
use Rattle.std.proofs.Common.{◌≡◌, ℕ, zero, suc, Bool, true, false, ◌||◌, ltb, List, [], ◌∷◌, ◌++◌, map, sym, refl, ap, ◌∙◌}
use Rattle.lexical.specs.Bytes.{bytes}
use Rattle.lexical.specs.Decimal.{pick_text}
use Rattle.sink.specs.Sink.{Sink, Wrote}
use Rattle.sink.proofs.SinkLaws.{◌▷◌, wrote_as}
use Rattle.format.specs.Decode.{pick}
use Rattle.format.specs.Sheet.{Function}
use Rattle.view.specs.Views.{form_of}
use Rattle.rules.specs.Rules.{is_method}
use Rattle.bridge.specs.Write.{commas, indirect_return, slot, operand, operands}
use Rattle.view.specs.declared.FunctionView.{FunctionView}
use Rattle.view.specs.Values.{items_at, function_at}
use Rattle.view.specs.Views.{FunctionAt, ArgumentsAt}
use Rattle.shape.proofs.FunctionLaws.{slot_some, slot_empty, method_is, arguments_count}
use Rattle.shape.proofs.CommaLaws.{is_some, some_map, some_count, some_pick, commas_three, commas_none, commas_one}
use Rattle.summary.specs.Ends.{owner_end}

-- what stands behind an argument's name, by its view
pub end_by_owner : {o k : ℕ} (held : Bool) {r t : Sink} → o ≡ k → Wrote r (owner_end k held) t → Wrote r (owner_end o held) t
end_by_owner held e p = rw e p

pub end_of_others : (o : ℕ) {u : Type 0} (held : Bool) {r t : Sink} → (u × (o ≡ 1 → ⊥)) × (o ≡ 2 → ⊥) →
    Wrote r (pick_text held (bytes "$.value") []) t → Wrote r (owner_end o held) t
end_of_others zero held h p = p
end_of_others (suc zero) held h p = absurd (h.0.1 refl)
end_of_others (suc (suc zero)) held h p = absurd (h.1 refl)
end_of_others (suc (suc (suc o))) held h p = p

-- ---- the operands of a call

receiver_is : (m : Bool) (x : List ℕ) → commas false (pick m (x ∷ []) []) ≡ pick_text m x []
receiver_is true x = commas_one false x
receiver_is false x = commas_none false

module _ {s names items offsets : List ℕ} {f : FunctionView} (a : FunctionAt s names items f)
    (g : ArgumentsAt s names items f offsets) {indirect : Bool}
    (i : indirect ≡ indirect_return (items_at s names items) (function_at s names items f.number)
    (function_at s names items f.number).return) where
  abbrev this : Function
  this = function_at s names items f.number

  slot_is : (b : Bool) (x : List ℕ) →
      pick_text indirect (pick_text b (bytes ", ") [] ++ x) [] ≡ commas b (map (λ t. x) (slot (items_at s names items) this))
  slot_is b x = by_bit indirect refl
    where
      by_bit : (d : Bool) → indirect ≡ d → pick_text d (pick_text b (bytes ", ") [] ++ x) [] ≡
          commas b (map (λ t. x) (slot (items_at s names items) this))
      by_bit true e = sym (rw (slot_some a i e) (commas_one b x))
      by_bit false e = sym (rw (slot_empty a i e) (commas_none b))

  pub operands_written : {method comma : Bool} {r t u v : Sink} → method ≡ is_method (form_of f.form) →
      Wrote r (pick_text method (bytes "*this") []) t →
      Wrote t (commas method (map (operand (items_at s names items)) this.arguments)) u →
      comma ≡ (method || ltb 0 f.arguments) →
      Wrote u (pick_text indirect (pick_text comma (bytes ", ") [] ++ bytes "&return$.value") []) v →
      Wrote r (commas false (operands (items_at s names items) this)) v
  unfolding operands
  operands_written {method} {comma} m p q e z =
      let is = method_is a m in
      let x = pick (is_method this.form) (bytes "*this" ∷ []) [] in
      let y = map (operand (items_at s names items)) this.arguments in
      let some : is_some x ≡ method = some_pick (is_method this.form) (bytes "*this") ∙ sym is in
      let any : is_some y ≡ ltb 0 f.arguments =
      some_map (operand (items_at s names items)) this.arguments ∙ some_count this.arguments (arguments_count g) in
      wrote_as
      (wrote_as p (ap (λ (b : Bool). pick_text b (bytes "*this") []) is ∙
      sym (receiver_is (is_method this.form) (bytes "*this"))) ▷
      q ▷ wrote_as z (slot_is comma (bytes "&return$.value")))
      (sym (commas_three x y (map (λ t. bytes "&return$.value") (slot (items_at s names items) this)) ∙
      rw (some, any, e)))
