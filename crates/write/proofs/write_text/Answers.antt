use Rattle.write.proofs.PassLaws.{begun, whole_text}
use Rattle.write.proofs.write_text.Goals as goal

pub write_body-requires : goal.write_body-requires
write_body-requires c =
    (c.requires.0, c.requires.1, c.requires.2, begun c.behind_forward.ensures c.write_forward_declarations-at.ensures)

pub returns : goal.returns
returns c = whole_text _ c.behind_forward.ensures c.write_forward_declarations-at.ensures c.write_body.ensures
