use Rattle.write_atom.proofs.write_space_after_type.Goals as goal

pub returns : goal.returns
returns c = rw (← c.is_spaced-spaced.ensures) c.put_when.ensures
