use Rattle.std.proofs.Common.{arith}
use Rattle.shape.proofs.CommaLaws.{listed_none, gathered_none}
use Rattle.shape.proofs.ArgumentLaws.{listed_argument, listed_arguments, gathered_argument, gathered_arguments}
use Rattle.summary.proofs.LengthLaws.{passed, placed, placed_behind, passed_all}
use Rattle.summary.proofs.count.count_arguments.Goals as goal

pub loop-j-init : goal.loop-j-init
loop-j-init c = (listed_none _ _ _ _, listed_none _ _ _ _, gathered_none _ _ _, listed_none _ _ _ _)

pub count_argument-p-requires : goal.count_argument-p-requires
count_argument-p-requires c =
    let h = placed c.loop-j.invariant.0.wrote c.loop-j.invariant.1.wrote c.loop-j.invariant.2.wrote
    c.loop-j.invariant.3.wrote in
    (c.requires.0, c.requires.1, omega arith, c.requires.2, placed_behind _ h c.behind_gap-q.ensures)

pub loop-j-preserved : goal.loop-j-preserved
loop-j-preserved c =
    let h = placed c.loop-j.invariant.0.wrote c.loop-j.invariant.1.wrote c.loop-j.invariant.2.wrote
    c.loop-j.invariant.3.wrote in
    let g = c.behind_gap-q.ensures in (
      listed_argument _ c.requires.1 (omega arith) c.loop-j.invariant.0
          (passed c.comma_length-gap.ensures h.exts.0 h.exts.1 g.0)
          (c.count_argument-p.ensures.declared_to c.if-p-eq0.false),
      listed_argument _ c.requires.1 (omega arith) c.loop-j.invariant.1
          (passed c.comma_length-gap.ensures h.pars.0 h.pars.1 g.1)
          (c.count_argument-p.ensures.defined_to c.if-p-eq0.false),
      gathered_argument _ c.requires.1 (omega arith) c.loop-j.invariant.2
          (rw g.2 at (c.count_argument-p.ensures.held_to c.if-p-eq0.false)),
      listed_argument _ c.requires.1 (omega arith) c.loop-j.invariant.3
          (passed c.comma_length-gap.ensures h.operands.0 h.operands.1 g.3)
          (c.count_argument-p.ensures.operands_to c.if-p-eq0.false),
    )

pub returns : goal.returns
returns c =
    passed_all (listed_arguments _ c.requires.1 (omega arith) c.loop-j.invariant.0) (listed_arguments _ c.requires.1
    (omega arith) c.loop-j.invariant.1) (gathered_arguments _ c.requires.1 (omega arith) c.loop-j.invariant.2)
    (listed_arguments _ c.requires.1 (omega arith) c.loop-j.invariant.3)
