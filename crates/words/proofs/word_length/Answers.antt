use Rattle.words.proofs.TableLaws.{length_at}
use Rattle.words.proofs.word_length.Goals as goal

pub returns : goal.returns
returns c = length_at c.requires.0 _ c.requires.1
