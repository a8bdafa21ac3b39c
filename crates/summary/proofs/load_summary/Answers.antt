use Rattle.summary.proofs.SummaryLaws.{summary_loaded, comment_loaded}
use Rattle.summary.proofs.load_summary.Goals as goal

pub returns : goal.returns
returns c = (
  summary_loaded _ c.requires.1 c.requires.2 c.kept_length-start.ensures c.if-start-eq0.false c.requires.3
      c.copy_words.ensures,
  comment_loaded _ c.requires.1 c.requires.2 c.kept_length-start.ensures
      c.if-start-eq0.false c.requires.3 c.copy_words.ensures c.new.ensures,
)
