use Rattle.out.proofs.BlockLaws.{known_begin, known_end, begin_text, end_text}
use Rattle.out.proofs.flush_boundary.Goals as goal

pub write_begin-requires : goal.write_begin-requires
write_begin-requires c = (c.requires.0, known_begin _ c.in-Begin.is c.requires.1)

pub write_end-requires : goal.write_end-requires
write_end-requires c = (c.requires.0, known_end _ c.in-End.is c.requires.1)

pub returns-in-Begin : goal.returns-in-Begin
returns-in-Begin c = begin_text _ _ _ c.in-Begin.is c.put_when-next.ensures c.write_begin.ensures

pub returns-in-End : goal.returns-in-End
returns-in-End c = end_text _ _ _ c.in-End.is c.write_end.ensures
