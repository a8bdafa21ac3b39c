use native.Mathlib.Omega.{arith}
use mathlib.Core.Path.{sym, ap, ◌∙◌}
use borrow.Author.Tests.{ne_eqb}
use lib.ListN.{length}
use Rattle.names.proofs.NameLaws.{digests_length, unlike}
use Rattle.names.proofs.name_is.Goals as goal

pub bounds-digests-k : goal.bounds-digests-k
bounds-digests-k c = omega (arith, ap length c.requires.1, digests_length c.args.s.now c.args.names.now)

pub returns-else-digests-k : goal.returns-else-digests-k
returns-else-digests-k c =
    ne_eqb _ _ c.if-digests-k.false ∙
    sym (unlike c.args.s.now c.args.names.now c.args.text.now c.requires.1 c.requires.2 c.digest.ensures
    c.if-digests-k.false)
