use mathlib.Core.Path.{refl}
use Rattle.format.specs.Decoding.{namespace}
use Rattle.cursor.proofs.FieldLaws.{value, cut}
use Rattle.cursor.proofs.CheckLaws.{refused}
use Rattle.items.proofs.ItemLaws.{names_of_lem}
use Rattle.items.proofs.check_namespace.Goals as goal

pub returns-in_err-count : goal.returns-in_err-count
unfolding namespace
returns-in_err-count c = refused c.from_residual.ensures.1 (rw (cut c.read.ensures c.in_err-count.was) refl)

pub returns : goal.returns
unfolding namespace
returns c =
    rw (value c.read.ensures c.in_ok-count.was) (names_of_lem c.args.s.now c.args.names.now _ _ c.check_indexes.ensures)
