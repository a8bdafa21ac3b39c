use Rattle.summary.proofs.make_summary.Goals as goal

pub fill_summary-requires : goal.fill_summary-requires
fill_summary-requires c = (c.requires.0.tabled, c.requires.1, c.requires.2)

pub count_summary-requires : goal.count_summary-requires
count_summary-requires c = (c.requires.0, c.requires.1, c.fill_summary.ensures.0)

pub returns : goal.returns
returns c = c.count_summary.ensures
