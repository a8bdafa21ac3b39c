use Rattle.sink.proofs.SinkLaws.{◌▷◌}
use Rattle.write_chain.proofs.write_chain.Goals as goal

pub enter-e-requires : goal.enter-e-requires
enter-e-requires c = (c.requires.0.tabled.whole.named.limited, c.requires.1)

pub write_inner-here-requires : goal.write_inner-here-requires
write_inner-here-requires c = (c.requires.0, c.enter-e.ensures.0.there, c.enter-e.ensures.1)

pub returns : goal.returns
returns c = c.enter-e.ensures.0.remains.done (c.write_inner-here.ensures ▷ c.leave.ensures)
