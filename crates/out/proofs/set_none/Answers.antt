use Rattle.out.proofs.StateLaws.{no_spaces, sets_none}
use Rattle.out.proofs.set_none.Goals as goal

pub set_spaces-requires : goal.set_spaces-requires
set_spaces-requires c =
    rw c.names_in.ensures (
      c.requires.0.whole.named,
      c.requires.1,
      c.requires.2,
      rw c.new.ensures
          (no_spaces _ _).1,
    )

pub returns : goal.returns
returns c = sets_none _ _ (rw c.new.ensures at (rw c.names_in.ensures at c.set_spaces.ensures))
