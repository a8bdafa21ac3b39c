use Rattle.words.proofs.step_shape.Goals as goal

pub returns-in-Empty : goal.returns-in-Empty
returns-in-Empty c = rw c.in-Empty.is c.begin.ensures
