use Rattle.sink.proofs.put_spaces.Goals as goal

pub returns : goal.returns
returns c = c.put_repeat.ensures
