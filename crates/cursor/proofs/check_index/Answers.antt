use mathlib.Core.Path.{refl}
use native.Mathlib.Omega.{arith}
use borrow.Author.Tests.{lt-ltb, le-ltb}
use Rattle.format.specs.Bits.{index}
use Rattle.cursor.proofs.FieldLaws.{value, cut}
use Rattle.cursor.proofs.CheckLaws.{refused}
use Rattle.cursor.proofs.WidthLaws.{width_le}
use Rattle.cursor.proofs.check_index.Goals as goal

pub read-requires : goal.read-requires
read-requires c = (omega arith, width_le _ c.width.ensures)

pub returns-then-i-n : goal.returns-then-i-n
unfolding index
returns-then-i-n c =
    rw (← c.width.ensures, value c.read.ensures c.in_ok-i.was, lt-ltb _ _ c.if-i-n.true) record { step = refl }

pub returns-in_err-i : goal.returns-in_err-i
unfolding index
returns-in_err-i c =
    refused c.from_residual.ensures.1 (rw (← c.width.ensures, cut c.read.ensures c.in_err-i.was))

pub returns : goal.returns
unfolding index
returns c =
    rw (← c.width.ensures, value c.read.ensures c.in_ok-i.was, le-ltb _ _ c.if-i-n.false) record { step = refl }
