use native.Mathlib.Omega.{arith}
use Rattle.format.specs.Decoding.{type}
use Rattle.cursor.proofs.WidthLaws.{width_le}
use Rattle.cursor.proofs.CodeLaws.{at_in}
use Rattle.cursor.proofs.YieldLaws.{yields}
use Rattle.types.proofs.KindLaws.{type_yields}
use Rattle.marks.proofs.GatherLaws.{moved}
use Rattle.arguments.proofs.ArgumentLaws.{passes_cut, passes_loose, passes_stop, passes_done}
use Rattle.arguments.proofs.check_argument.Goals as goal

pub overflow_cast-n : goal.overflow_cast-n
overflow_cast-n c = omega (arith, c.requires.0.few)

pub overflow_add-of : goal.overflow_add-of
overflow_add-of c = omega (arith, width_le _ c.width-w.ensures)

pub end_of-requires : goal.end_of-requires
end_of-requires c = c.requires.0.limited

pub returns-then-end_of-of : goal.returns-then-end_of-of
returns-then-end_of-of c = passes_cut _ _ _ _ c.width-w.ensures (omega (arith, c.end_of.ensures))

pub extract-name-requires : goal.extract-name-requires
extract-name-requires c = (c.requires.0.limited, width_le _ c.width-w.ensures, omega (arith, c.end_of.ensures))

pub returns-then-n-name : goal.returns-then-n-name
returns-then-n-name c =
    passes_loose _ _ _ _ c.width-w.ensures (omega (arith, c.end_of.ensures)) c.extract-name.ensures c.if-n-name.true

pub walk_type-next-requires : goal.walk_type-next-requires
walk_type-next-requires c = (c.requires.0.limited, omega (arith, c.requires.0.limited, c.end_of.ensures))

pub returns-then-next-gt-LAST : goal.returns-then-next-gt-LAST
unfolding type
returns-then-next-gt-LAST c =
    passes_stop _ _ _ _ c.width-w.ensures (omega (arith, c.end_of.ensures)) c.extract-name.ensures (omega arith)
    c.walk_type-next.ensures c.if-next-gt-LAST.true

pub judge_argument-requires : goal.judge_argument-requires
unfolding type
judge_argument-requires c = (
  c.requires.0,
  c.requires.1,
  omega arith,
  type_yields _ _ _ (yields (moved c.walk_type-next.ensures
      (at_in (omega arith))).1),
)

pub returns : goal.returns
unfolding type
returns c =
    passes_done _ _ _ _ c.width-w.ensures (omega (arith, c.end_of.ensures)) c.extract-name.ensures (omega arith)
    c.walk_type-next.ensures (omega arith) c.judge_argument.ensures
