use native.Mathlib.Omega.{arith}
use mathlib.Core.Path.{refl}
use Rattle.cursor.proofs.WidthLaws.{width_le}
use Rattle.view.proofs.FunctionLaws.{function_there, rust_room, form_there, both_room, return_there, count_room}
use Rattle.view.proofs.FunctionLaws.{function_of_lem}
use Rattle.view.proofs.function.Goals as goal

pub extract-rust-requires : goal.extract-rust-requires
extract-rust-requires c = (
  c.requires.0.named.limited,
  width_le _ c.width-w.ensures,
  rust_room _ _ _ _ _ (function_there c.requires.1
      c.requires.2).1 c.requires.0.named.limited c.width-w.ensures,
)

pub overflow_add-v : goal.overflow_add-v
overflow_add-v c =
    omega (
      arith,
      c.requires.0.named.limited,
      rust_room _ _ _ _ _ (function_there c.requires.1 c.requires.2).1
          c.requires.0.named.limited c.width-w.ensures,
    )

pub form_at-form-requires : goal.form_at-form-requires
form_at-form-requires c = (
  c.requires.0.named.limited,
  rw c.new.ensures (form_there _ _ _ _ _ (function_there c.requires.1 c.requires.2).1
      c.requires.0.named.limited c.width-w.ensures),
)

pub extract-both-requires : goal.extract-both-requires
extract-both-requires c = (
  c.requires.0.named.limited,
  omega arith,
  both_room _ _ _ _ _ (function_there c.requires.1 c.requires.2).1
      c.requires.0.named.limited c.width-w.ensures (rw c.new.ensures at c.form_at-form.ensures),
)

pub overflow_add-form : goal.overflow_add-form
overflow_add-form c =
    omega (
      arith,
      c.requires.0.named.limited,
      both_room _ _ _ _ _ (function_there c.requires.1 c.requires.2).1
          c.requires.0.named.limited c.width-w.ensures (rw c.new.ensures at c.form_at-form.ensures),
    )

pub past_return-end-requires : goal.past_return-end-requires
past_return-end-requires c = (
  c.requires.0.named.limited,
  rw c.new-result.ensures (return_there _ _ _ _ _ (function_there c.requires.1
      c.requires.2).1 c.requires.0.named.limited c.width-w.ensures (rw c.new.ensures at c.form_at-form.ensures)
      c.extract-both.ensures),
)

pub extract-arguments-requires : goal.extract-arguments-requires
extract-arguments-requires c = (
  c.requires.0.named.limited,
  omega arith,
  count_room _ _ _ _ _ (function_there c.requires.1 c.requires.2).1
      c.requires.0.named.limited c.width-w.ensures (rw c.new.ensures at c.form_at-form.ensures)
      c.extract-both.ensures (rw c.new-result.ensures at c.past_return-end.ensures),
)

pub overflow_add-end : goal.overflow_add-end
overflow_add-end c =
    omega (
      arith,
      c.requires.0.named.limited,
      count_room _ _ _ _ _ (function_there c.requires.1 c.requires.2).1
          c.requires.0.named.limited c.width-w.ensures (rw c.new.ensures at c.form_at-form.ensures)
          c.extract-both.ensures (rw c.new-result.ensures at c.past_return-end.ensures),
    )

pub returns : goal.returns
returns c = (
  refl,
  record {
    there = c.requires.1.there;
    body = (function_there c.requires.1 c.requires.2).0;
    view = rw
        (c.new-first.ensures, c.new-result.ensures) (function_of_lem _ _ _ _ _ (function_there c.requires.1
        c.requires.2).1 c.requires.0.named.limited c.width-w.ensures (rw c.new.ensures at c.form_at-form.ensures)
        c.extract-both.ensures (rw c.new-result.ensures at c.past_return-end.ensures) _ c.extract-rust.ensures
        c.extract-arguments.ensures);
  },
)
