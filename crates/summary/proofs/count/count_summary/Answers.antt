use Rattle.std.proofs.Common.{arith}
use Rattle.summary.proofs.LengthLaws.{later, counted_word}
use Rattle.summary.proofs.SummaryLaws.{summary_stored}
use Rattle.summary.proofs.count.count_summary.Goals as goal

pub length_word-requires-2 : goal.length_word-requires-2
length_word-requires-2 c = later (c.count_arguments-p.ensures.defined_to c.if-p-eq0.false) (omega arith) (omega arith)

pub length_word-requires-3 : goal.length_word-requires-3
length_word-requires-3 c = later (c.count_arguments-p.ensures.held_to c.if-p-eq0.false) (omega arith) (omega arith)

pub length_word-requires-4 : goal.length_word-requires-4
length_word-requires-4 c =
    later (c.count_arguments-p.ensures.operands_to c.if-p-eq0.false) (omega arith) (omega arith)

pub returns : goal.returns
returns c =
    let r = c.count_arguments-p.ensures in
    summary_stored c.requires.2
    (counted_word (r.declared_to c.if-p-eq0.false) c.length_word.ensures)
    (counted_word (r.defined_to c.if-p-eq0.false) c.length_word-2.ensures)
    (counted_word (r.held_to c.if-p-eq0.false) c.length_word-3.ensures)
    (counted_word (r.operands_to c.if-p-eq0.false) c.length_word-4.ensures)
