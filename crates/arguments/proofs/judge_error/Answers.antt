use native.Mathlib.Omega.{arith}
use mathlib.Core.Path.{sym, ap, ◌∙◌}
use mathlib.Core.Logic.{inl, inr}
use Rattle.cursor.proofs.WidthLaws.{width_le}
use Rattle.types.proofs.KindLaws.{kind_room}
use Rattle.arguments.proofs.ErrorLaws.{atom_room, judge_atom, named_room, judge_named, judge_template}
use Rattle.arguments.proofs.ErrorLaws.{judge_array, judge_plain, is_plain_kind}
use Rattle.arguments.proofs.judge_error.Goals as goal

pub overflow_add-body : goal.overflow_add-body
overflow_add-body c = omega (arith, c.requires.0, kind_room _ _ _ c.requires.1)

pub extract-a-requires : goal.extract-a-requires
extract-a-requires c = (c.requires.0, omega arith, atom_room _ _ _ c.requires.1 (sym c.in-Atom.is ∙ c.requires.2))

pub returns-in-Atom : goal.returns-in-Atom
returns-in-Atom c =
    judge_atom _ _ _ c.requires.1 (sym c.in-Atom.is ∙ c.requires.2) _ c.extract-a.ensures c.mark_if.ensures

pub extract-i-requires : goal.extract-i-requires
extract-i-requires c = (
  c.requires.0,
  width_le _ c.width.ensures,
  named_room _ _ _ c.requires.1 (sym c.in-Named.is ∙ c.requires.2)
      c.width.ensures,
)

pub returns-in-Named : goal.returns-in-Named
returns-in-Named c =
    judge_named _ _ _ c.requires.1 (sym c.in-Named.is ∙ c.requires.2) c.width.ensures _ c.extract-i.ensures
    c.mark_if-in-Named.ensures

pub returns-in-Template : goal.returns-in-Template
returns-in-Template c =
    judge_template _ _ (sym c.in-Template.is ∙ c.requires.2) c.is_indirect_template.ensures
    c.mark_if-in-Template.ensures

pub returns-in-Array : goal.returns-in-Array
returns-in-Array c = judge_array _ _ (sym c.in-Array.is ∙ c.requires.2) c.set_mark.ensures

pub returns-in-Pointer : goal.returns-in-Pointer
returns-in-Pointer c =
    judge_plain _ _ _ c.requires.2 (elim c.in-Pointer.is [
      | inl p ↦ ap is_plain_kind p.1
      | inr p ↦ elim p [
        | inl p ↦ ap is_plain_kind p
        | inr p ↦ elim p [ inl p ↦ ap is_plain_kind p | inr p ↦ ap is_plain_kind p ]
      ]
    ])
