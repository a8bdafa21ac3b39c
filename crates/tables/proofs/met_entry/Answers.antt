use native.Mathlib.Omega.{arith}
use Rattle.types.proofs.KindLaws.{kind_room}
use Rattle.tables.proofs.MetLaws.{entry_named}
use Rattle.tables.proofs.met_entry.Goals as goal

pub overflow_mul-result : goal.overflow_mul-result
overflow_mul-result c = omega (arith, c.requires.0.whole.named.limited, kind_room _ _ _ c.requires.2.there)

pub overflow_add-result : goal.overflow_add-result
overflow_add-result c = omega (arith, c.requires.0.whole.named.limited, kind_room _ _ _ c.requires.2.there)

pub overflow_add-result-2 : goal.overflow_add-result-2
overflow_add-result-2 c = omega (arith, c.requires.0.whole.named.limited, kind_room _ _ _ c.requires.2.there)

pub returns : goal.returns
returns c = entry_named _ _ _ _ _ c.requires.1 (omega arith) c.requires.2.facts
