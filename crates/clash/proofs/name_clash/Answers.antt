use mathlib.Core.Path.{◌∙◌}
use Rattle.clash.proofs.PairLaws.{pairs}
use Rattle.clash.proofs.KeyLaws.{no_clash}
use Rattle.clash.proofs.name_clash.Goals as goal

pub returns-then-repeats : goal.returns-then-repeats
returns-then-repeats c = c.clashing.ensures ∙ pairs _

pub returns-else-repeats : goal.returns-else-repeats
returns-else-repeats c = c.if-repeats.false ∙ no_clash c.requires.whole c.fill_keys.ensures c.repeats.ensures c.if-repeats.false
