use Rattle.out.proofs.StateLaws.{item_spaces, sets_item}
use Rattle.out.proofs.set_namespace.Goals as goal

pub set_spaces-requires : goal.set_spaces-requires
set_spaces-requires c = (c.requires.0.named, c.requires.1, c.requires.2, (item_spaces _ _ _ c.requires.3.view).1)

pub returns : goal.returns
returns c = sets_item _ _ c.requires.3.view c.set_spaces.ensures
