use mathlib.Core.Path.{sym, ◌∙◌}
use Rattle.taken.proofs.TakenLaws.{taken_reserved, taken_clash, taken_argument}
use Rattle.taken.proofs.taken.Goals.{then-any_reserved, else-any_reserved}
use Rattle.taken.proofs.taken.Goals as goal

pub returns-then-name_clash : goal.returns-then-name_clash
returns-then-name_clash c =
    c.if-name_clash.true ∙ elim c.if-any_reserved.branch [
      | then-any_reserved w ↦ taken_reserved _ c.any_reserved.ensures w.if-any_reserved.true
      | else-any_reserved w ↦
          taken_clash _ c.any_reserved.ensures w.if-any_reserved.false w.name_clash.ensures
          (sym w.value-is ∙ c.if-name_clash.true)
    ]

pub repeated_name-requires : goal.repeated_name-requires
repeated_name-requires c = (c.requires.0.whole, c.requires.1)

pub returns-else-name_clash : goal.returns-else-name_clash
returns-else-name_clash c =
    elim c.if-any_reserved.branch [
      | then-any_reserved w ↦ cc
      | else-any_reserved w ↦
          taken_argument _ c.any_reserved.ensures w.if-any_reserved.false w.name_clash.ensures
          (sym w.value-is ∙ c.if-name_clash.false) c.repeated_name.ensures
    ]
