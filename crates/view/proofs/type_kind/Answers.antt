use Rattle.view.proofs.TypeLaws.{type_kind}
use Rattle.view.proofs.type_kind.Goals as goal

pub returns : goal.returns
returns c = type_kind _ _ _ c.requires.1 c.field-k.ensures c.kind_of.ensures
