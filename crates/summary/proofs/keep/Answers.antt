use Rattle.std.proofs.Common.{arith, length-drop, length-take}
use Rattle.summary.proofs.SummaryLaws.{both_long, keeping_turn}
use Rattle.summary.proofs.keep.Goals as goal

pub function-f-requires : goal.function-f-requires
function-f-requires c = (c.requires.0.tabled, c.requires.1, c.requires.2)

pub make_summary-requires : goal.make_summary-requires
make_summary-requires c =
    (c.requires.0, c.function-f.ensures.1, simp (length-take, length-drop) (omega (arith, c.requires.4)))

pub bounds-kept-i : goal.bounds-kept-i
bounds-kept-i c =
    let l = both_long c.requires.3 c.function-f.ensures.1 c.function-f.ensures.0
    (omega (arith, c.requires.0.tabled.whole.few, c.requires.1.there)) c.requires.4 c.make_summary.ensures
    c.make_summary.auto.words in
    omega (arith, l, c.requires.0.tabled.whole.few, c.requires.1.there, c.requires.3.first, c.requires.3.near)

pub overflow_cast-kept : goal.overflow_cast-kept
overflow_cast-kept c = omega (arith, c.requires.3.near, c.requires.3.small)

pub overflow_add-result : goal.overflow_add-result
overflow_add-result c = omega (arith, c.function-f.ensures.1.view.few)

pub overflow_add-result-2 : goal.overflow_add-result-2
overflow_add-result-2 c = omega (arith, c.function-f.ensures.1.view.few, c.requires.3.near, c.requires.3.small)

pub returns : goal.returns
returns c =
    keeping_turn c.requires.3 c.function-f.ensures.1 c.function-f.ensures.0
    (omega (arith, c.requires.0.tabled.whole.few, c.requires.1.there)) c.requires.4 c.make_summary.ensures
    c.make_summary.auto.words
