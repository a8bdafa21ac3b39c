use Rattle.words.proofs.TableLaws.{first_step}
use Rattle.words.proofs.step_word.Goals as goal

pub returns-then-word-eq0 : goal.returns-then-word-eq0
returns-then-word-eq0 c =
    first_step c.requires.0 c.args.c c.if-word-eq0.true c.if-matched-eq0.true c.first_word.ensures
