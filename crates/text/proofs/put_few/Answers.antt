use native.Mathlib.Omega.{arith}
use mathlib.Core.Path.{refl, ◌∙◌}
use Prim.Native.Nat.{◌*◌}
use lib.ListN.{length-set}
use Rattle.text.proofs.CharLaws.{char_in, hold_none, hold_next, hold_less}
use Rattle.text.proofs.put_few.Goals as goal

pub loop-i-init : goal.loop-i-init
loop-i-init c = (refl, hold_none _ _ _)

pub loop-i-preserved : goal.loop-i-preserved
loop-i-preserved c = (
  simp length-set (omega arith),
  hold_next _ _ c.loop-i.invariant.1 (omega arith) refl
      (c.char_in.ensures ∙ char_in _ _ (7 * c.loop-i.i) _ c.extract_wide-x.ensures (omega arith) refl) refl,
)

pub returns : goal.returns
returns c = hold_less _ _ _ c.loop-i.invariant.1 (omega arith)
