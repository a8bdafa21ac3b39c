use Rattle.mangle.proofs.FullLaws.{filled_same}
use Rattle.intern.proofs.InternLaws.{entries_front}
use Rattle.intern.proofs.intern_arguments.Goals as goal

pub loop-entry-init : goal.loop-entry-init
loop-entry-init c = (entries_front c.fill_arguments.ensures.0, filled_same _ c.requires.0 c.requires.1)
