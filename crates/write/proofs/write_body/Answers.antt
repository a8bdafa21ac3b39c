use Rattle.sections.proofs.StateLaws.{representing_after, representing_stood, stood_standing}
use Rattle.write.proofs.PassLaws.{ends_flushed}
use Rattle.write.proofs.write_body.Goals as goal

pub flush-requires : goal.flush-requires
flush-requires c = (
  c.requires.0,
  c.requires.1,
  stood_standing (representing_stood (representing_after c.requires.3
      c.write_functions.ensures)),
)

pub returns : goal.returns
returns c = ends_flushed c.write_functions.ensures c.flush.ensures
