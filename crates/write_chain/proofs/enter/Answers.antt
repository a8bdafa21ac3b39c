use Rattle.std.proofs.Common.{arith}
use Rattle.format.specs.Decoding.{kind_of}
use Rattle.write_chain.proofs.InnerLaws.{end_few, pointer_prefix, reads_template, reads_pointer}
use Rattle.write_chain.proofs.InnerLaws.{type_room, level_left, inner_room}
use Rattle.write_chain.proofs.ChainLaws.{entering_whole, entering_turn}
use Rattle.write_chain.proofs.enter.Goals as goal

pub extract-k-requires : goal.extract-k-requires
extract-k-requires c = (c.requires.0, omega arith, type_room _ _ _ _ c.requires.1)

pub overflow_mul-stack : goal.overflow_mul-stack
overflow_mul-stack c = omega (arith, end_few c.args.spaced _ c.end_length-stack.ensures)

pub loop-prefix-init : goal.loop-prefix-init
loop-prefix-init c = (
  entering_whole _ _ _ _ _ c.args.spaced _ c.requires.1 c.extract-k.ensures c.end_length-stack.ensures,
  c.extract-k.ensures,
  c.prefix_of-prefix.ensures,
)

pub returns-then-stack-ge-HIGH : goal.returns-then-stack-ge-HIGH
returns-then-stack-ge-HIGH c = (c.loop-prefix.invariant.0, c.loop-prefix.invariant.1)

pub overflow_sub-left : goal.overflow_sub-left
overflow_sub-left c = omega (arith, level_left _ _ _ _ c.loop-prefix.invariant.0.there c.loop-prefix.invariant.1)

pub overflow_mul-stack-then-prefix-eq4 : goal.overflow_mul-stack-then-prefix-eq4
overflow_mul-stack-then-prefix-eq4 c = omega (arith, c.if-stack-ge-HIGH.false)

pub overflow_add-stack : goal.overflow_add-stack
overflow_add-stack c = omega (arith, c.if-stack-ge-HIGH.false)

pub overflow_add-p : goal.overflow_add-p
overflow_add-p c =
    omega (
      arith,
      c.requires.0,
      inner_room _ _ _ _ c.loop-prefix.invariant.0.there c.loop-prefix.invariant.1
          c.loop-prefix.invariant.2 c.loop-prefix-test.true,
    )

pub extract-k-requires-then-prefix-eq4 : goal.extract-k-requires-then-prefix-eq4
extract-k-requires-then-prefix-eq4 c = (
  c.requires.0,
  omega arith,
  omega (
    arith,
    c.if-prefix-eq4.true,
    inner_room _ _ _ _ c.loop-prefix.invariant.0.there
        c.loop-prefix.invariant.1 c.loop-prefix.invariant.2 c.loop-prefix-test.true,
  ),
)

pub loop-prefix-smaller-then-prefix-eq4 : goal.loop-prefix-smaller-then-prefix-eq4
loop-prefix-smaller-then-prefix-eq4 c =
    omega (arith, level_left _ _ _ _ c.loop-prefix.invariant.0.there c.loop-prefix.invariant.1)

pub loop-prefix-preserved-then-prefix-eq4 : goal.loop-prefix-preserved-then-prefix-eq4
loop-prefix-preserved-then-prefix-eq4 c = (
  entering_turn _ _ _ c.loop-prefix.invariant.0 c.loop-prefix.invariant.1 c.loop-prefix.invariant.2
      c.loop-prefix-test.true c.put_begin-here.ensures (reads_template _ _ (kind_of _)
      (omega (arith, c.loop-prefix.invariant.2, c.if-prefix-eq4.true)) c.extract-k-then-prefix-eq4.ensures),
  c.extract-k-then-prefix-eq4.ensures,
  c.prefix_of-prefix-then-prefix-eq4.ensures,
)

pub overflow_add-p-in-loop-prefix : goal.overflow_add-p-in-loop-prefix
overflow_add-p-in-loop-prefix c = omega (arith, c.requires.0, type_room _ _ _ _ c.loop-prefix.invariant.0.there)

pub extract-m-requires : goal.extract-m-requires
extract-m-requires c = (
  c.requires.0,
  omega arith,
  omega (
    arith,
    c.loop-prefix.invariant.2,
    pointer_prefix _ c.loop-prefix.invariant.2
        c.loop-prefix-test.true c.if-prefix-eq4.false,
    inner_room _ _ _ _ c.loop-prefix.invariant.0.there
        c.loop-prefix.invariant.1 c.loop-prefix.invariant.2 c.loop-prefix-test.true,
  ),
)

pub overflow_mul-stack-in-loop-prefix : goal.overflow_mul-stack-in-loop-prefix
overflow_mul-stack-in-loop-prefix c = omega (arith, c.if-stack-ge-HIGH.false)

pub overflow_add-stack-in-loop-prefix : goal.overflow_add-stack-in-loop-prefix
overflow_add-stack-in-loop-prefix c =
    omega (
      arith,
      c.if-stack-ge-HIGH.false,
      (reads_pointer _ _ (kind_of _) (pointer_prefix _ c.loop-prefix.invariant.2
          c.loop-prefix-test.true c.if-prefix-eq4.false) c.extract-m.ensures c.code_of.ensures).small,
    )

pub overflow_add-p-in-loop-prefix-2 : goal.overflow_add-p-in-loop-prefix-2
overflow_add-p-in-loop-prefix-2 c =
    omega (
      arith,
      c.requires.0,
      c.loop-prefix.invariant.2,
      pointer_prefix _ c.loop-prefix.invariant.2
          c.loop-prefix-test.true c.if-prefix-eq4.false,
      inner_room _ _ _ _ c.loop-prefix.invariant.0.there
          c.loop-prefix.invariant.1 c.loop-prefix.invariant.2 c.loop-prefix-test.true,
    )

pub loop-prefix-smaller : goal.loop-prefix-smaller
loop-prefix-smaller c = omega (arith, level_left _ _ _ _ c.loop-prefix.invariant.0.there c.loop-prefix.invariant.1)

pub loop-prefix-preserved : goal.loop-prefix-preserved
loop-prefix-preserved c = (
  entering_turn _ _ _ c.loop-prefix.invariant.0 c.loop-prefix.invariant.1 c.loop-prefix.invariant.2
      c.loop-prefix-test.true c.put_begin-here.ensures (reads_pointer _ _ (kind_of _) (pointer_prefix _
      c.loop-prefix.invariant.2 c.loop-prefix-test.true c.if-prefix-eq4.false) c.extract-m.ensures
      c.code_of.ensures),
  (reads_pointer _ _ (kind_of _) (pointer_prefix _ c.loop-prefix.invariant.2
      c.loop-prefix-test.true c.if-prefix-eq4.false) c.extract-m.ensures c.code_of.ensures).kind,
  c.prefix_of-prefix-in-loop-prefix.ensures,
)

pub returns : goal.returns
returns c = (c.loop-prefix.invariant.0, c.loop-prefix.invariant.1)
