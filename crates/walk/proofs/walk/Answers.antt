use Rattle.words.specs.Words.{words_in}
use Rattle.walk.proofs.WindowLaws.{halves}
use Rattle.walk.proofs.walk.Goals as goal

pub walk_word-p-requires : goal.walk_word-p-requires
walk_word-p-requires c = (c.requires.0, c.requires.1, c.requires.2, c.requires.3, c.requires.4)

pub returns : goal.returns
returns c = halves (words_in c.args.t.now) c.args.q _ c.walk_word-p.ensures c.walk_shape.ensures
