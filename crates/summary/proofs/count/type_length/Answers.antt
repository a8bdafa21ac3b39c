use Rattle.std.proofs.Common.{arith}
use Rattle.write_type.proofs.TypeLaws.{outermost_yields}
use Rattle.shape.proofs.TypeLaws.{type_at}
use Rattle.count_type.proofs.CountLaws.{part_counts}
use Rattle.summary.proofs.LengthLaws.{counted}
use Rattle.summary.proofs.SummaryLaws.{counted_none}
use Rattle.sink.proofs.SinkLaws.{wrote_place}
use Rattle.summary.proofs.count.type_length.Goals as goal

pub type_word-word-requires : goal.type_word-word-requires
type_word-word-requires c = c.requires.0

pub returns-then-word-gt0 : goal.returns-then-word-gt0
returns-then-word-gt0 c = part_counts (c.type_word-word.ensures (λ z. omega (arith, c.if-word-gt0.true, z)))

pub count_type-n-requires : goal.count_type-n-requires
count_type-n-requires c = (c.requires.0, outermost_yields _ _ _ c.requires.1)

pub returns-then-n-gt0 : goal.returns-then-n-gt0
returns-then-n-gt0 c = rw (type_at _ _ _) c.count_type-n.ensures

pub write_outermost_space-end-requires : goal.write_outermost_space-end-requires
write_outermost_space-end-requires c = c.requires

pub overflow_sub-result : goal.overflow_sub-result
overflow_sub-result c = omega (arith, wrote_place c.write_outermost_space-end.ensures (omega arith))

pub returns-then-end-lt4294967295 : goal.returns-then-end-lt4294967295
returns-then-end-lt4294967295 c = counted c.write_outermost_space-end.ensures (omega arith)

pub returns : goal.returns
returns c = counted_none _
