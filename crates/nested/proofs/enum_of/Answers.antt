use Rattle.nested.proofs.ViewLaws.{enum_there}
use Rattle.nested.proofs.enum_of.Goals as goal

pub returns : goal.returns
returns c = enum_there c.requires.1 c.requires.2 c.field-pointer.ensures c.field-atom.ensures c.field-owned.ensures
