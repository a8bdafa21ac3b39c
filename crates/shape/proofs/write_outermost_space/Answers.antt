use native.Mathlib.Omega.{arith}
use Rattle.sink.proofs.SinkLaws.{wrote_as}
use Rattle.write_type.proofs.TypeLaws.{outermost_yields}
use Rattle.shape.proofs.TypeLaws.{type_at}
use Rattle.shape.proofs.write_outermost_space.Goals as goal

pub type_word-word-requires : goal.type_word-word-requires
type_word-word-requires c = c.requires.0

pub put_part-requires : goal.put_part-requires
put_part-requires c = (c.type_word-word.ensures (λ z. omega (arith, c.if-word-gt0.true, z))).near

pub returns-then-word-gt0 : goal.returns-then-word-gt0
returns-then-word-gt0 c =
    wrote_as c.put_part.ensures (c.type_word-word.ensures (λ z. omega (arith, c.if-word-gt0.true, z))).is

pub write_spaced-requires : goal.write_spaced-requires
write_spaced-requires c = (c.requires.0, outermost_yields _ _ _ c.requires.1)

pub returns : goal.returns
returns c = rw (type_at _ _ _) c.write_spaced.ensures
