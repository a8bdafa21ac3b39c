use Rattle.tables.proofs.FillLaws.{listed, words_stay}
use Rattle.tables.proofs.fill_table.Goals as goal

pub returns : goal.returns
returns c = (
  listed _ c.copy_from_slice.ensures.after c.copy_from_slice-2.ensures.after c.requires.0 c.requires.1 c.requires.2,
  words_stay _ c.copy_from_slice.ensures.after c.copy_from_slice-2.ensures.after c.requires.0 c.requires.1 c.requires.2,
)
