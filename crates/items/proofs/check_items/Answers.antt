use native.Mathlib.Omega.{arith}
use mathlib.Core.Path.{◌∙◌}
use lib.ListN.{length-set}
use Rattle.format.specs.Decoding.{item}
use Rattle.cursor.specs.Checking.{position_of}
use Rattle.cursor.proofs.TableLaws.{placed_got, placed_fault, fill_turn, fill_stop, fill_done}
use Rattle.marks.specs.Marking.{mark_item}
use Rattle.marks.proofs.GatherLaws.{moved, halted, ended, fold_turn, fold_stop, fold_done}
use Rattle.items.proofs.check_items.Goals as goal

pub returns-in_err-behind : goal.returns-in_err-behind
returns-in_err-behind c =
    let h = halted c.check_item.ensures c.in_err-behind.was in (
      fill_stop (position_of (item _ _)) _ _ _ c.loop-i.invariant.2 (omega arith) c.from_residual.ensures.1
          (placed_fault (item _ _) h),
      ended c.from_residual.ensures.1 (c.loop-i.invariant.3 ∙ fold_stop mark_item (item _ _) _ _ _ _ (omega arith) h),
    )

pub loop-i-preserved : goal.loop-i-preserved
loop-i-preserved c =
    let m = moved c.check_item.ensures c.in_ok-behind.was in (
      simp length-set (omega arith),
      omega arith,
      fill_turn (position_of (item _ _)) _ _ _ c.loop-i.invariant.2 (omega arith) (omega arith)
          (placed_got (item _ _) m.1),
      c.loop-i.invariant.3 ∙ fold_turn mark_item (item _ _) _ _ _ (omega arith) m.1 m.2,
    )

pub returns : goal.returns
returns c = (
  fill_done (position_of (item _ _)) _ _ _ c.loop-i.invariant.2 (omega arith) (omega arith),
  record { gathered = c.loop-i.invariant.3 ∙ fold_done mark_item (item _ _) _ _ _ _ _ (omega arith) },
)
