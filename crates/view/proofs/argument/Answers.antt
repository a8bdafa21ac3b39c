use Rattle.view.proofs.argument.Goals as goal

pub returns : goal.returns
returns c = rw c.new-of.ensures
