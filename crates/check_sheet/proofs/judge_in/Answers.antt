use mathlib.Core.Path.{sym, ap, ◌∙◌}
use Rattle.check_sheet.specs.Ruled.{ringed, ruled_items}
use Rattle.check_sheet.proofs.CheckLaws.{refused_parts}
use Rattle.check_sheet.proofs.judge_in.Goals as goal

pub returns-in_err-judge_parts : goal.returns-in_err-judge_parts
returns-in_err-judge_parts c =
    refused_parts _ c.from_residual.ensures.1 c.judge_parts.ensures c.in_err-judge_parts.was

pub returns : goal.returns
unfolding ruled_items
returns c =
    rw (sym c.judge_parts.ensures ∙ c.in_ok-judge_parts.was) (c.judge_ring.ensures ∙ ap ringed c.ring_in.ensures)
