use mathlib.Core.Path.{refl}
use native.Mathlib.Omega.{arith}
use Prim.Native.Nat.{◌-◌}
use Rattle.format.specs.Decoding.{kind_of}
use Rattle.cursor.proofs.WidthLaws.{width_le}
use Rattle.tables.proofs.TableLaws.{width_is}
use Rattle.write_chain.proofs.InnerLaws.{pointer_prefix, reads_template, reads_pointer}
use Rattle.write_chain.proofs.InnerLaws.{type_room, inner_room, atom_room, atom_text, str_text}
use Rattle.write_chain.proofs.InnerLaws.{named_room, named_low, named_text}
use Rattle.count_type.proofs.CountLaws.{counting_whole, counting_turn, counting_near, counting_done, counts_none, atom_fits, begin_fits, one_long}
use Rattle.count_type.proofs.count_type.Goals as goal

pub extract-k-requires : goal.extract-k-requires
extract-k-requires c = (c.requires.0.tabled.whole.named.limited, omega arith, type_room _ _ _ _ c.requires.1)

pub loop-prefix-init : goal.loop-prefix-init
loop-prefix-init c = (
  counting_whole _ _ _ _ _ c.args.spaced c.requires.1 c.extract-k.ensures c.end_length-sum.ensures,
  c.extract-k.ensures,
  c.prefix_of-prefix.ensures,
)

pub overflow_add-sum : goal.overflow_add-sum
overflow_add-sum c =
    omega (
      arith,
      c.requires.0.tabled.whole.named.limited,
      (counting_near _ _ _ c.loop-prefix.invariant.0).1,
      begin_fits _ c.begin_length-sum.ensures,
    )

pub overflow_add-sum-then-prefix-eq4 : goal.overflow_add-sum-then-prefix-eq4
overflow_add-sum-then-prefix-eq4 c =
    omega (
      arith,
      c.requires.0.tabled.whole.named.limited,
      (counting_near _ _ _ c.loop-prefix.invariant.0).1,
      begin_fits _ c.begin_length-sum.ensures,
    )

pub overflow_add-at : goal.overflow_add-at
overflow_add-at c =
    omega (
      arith,
      c.requires.0.tabled.whole.named.limited,
      inner_room _ _ _ _ c.loop-prefix.invariant.0.there
          c.loop-prefix.invariant.1 c.loop-prefix.invariant.2 c.loop-prefix-test.true,
    )

pub extract-k-requires-then-prefix-eq4 : goal.extract-k-requires-then-prefix-eq4
extract-k-requires-then-prefix-eq4 c = (
  c.requires.0.tabled.whole.named.limited,
  omega arith,
  omega (
    arith,
    c.if-prefix-eq4.true,
    inner_room _ _ _ _
        c.loop-prefix.invariant.0.there c.loop-prefix.invariant.1 c.loop-prefix.invariant.2 c.loop-prefix-test.true,
  ),
)

pub loop-prefix-smaller-then-prefix-eq4 : goal.loop-prefix-smaller-then-prefix-eq4
loop-prefix-smaller-then-prefix-eq4 c = omega (arith, (counting_near _ _ _ c.loop-prefix.invariant.0).0)

pub loop-prefix-preserved-then-prefix-eq4 : goal.loop-prefix-preserved-then-prefix-eq4
loop-prefix-preserved-then-prefix-eq4 c = (
  counting_turn _ _ _ c.loop-prefix.invariant.0 c.loop-prefix.invariant.1 c.loop-prefix.invariant.2
      c.loop-prefix-test.true c.begin_length-sum.ensures (reads_template _ _ (kind_of _)
      (omega (arith, c.loop-prefix.invariant.2, c.if-prefix-eq4.true)) c.extract-k-then-prefix-eq4.ensures)
      one_long,
  c.extract-k-then-prefix-eq4.ensures,
  c.prefix_of-prefix-then-prefix-eq4.ensures,
)

pub overflow_add-at-in-loop-prefix : goal.overflow_add-at-in-loop-prefix
overflow_add-at-in-loop-prefix c =
    omega (arith, c.requires.0.tabled.whole.named.limited, (counting_near _ _ _ c.loop-prefix.invariant.0).0)

pub extract-m-requires : goal.extract-m-requires
extract-m-requires c = (
  c.requires.0.tabled.whole.named.limited,
  omega arith,
  omega (
    arith,
    c.loop-prefix.invariant.2,
    pointer_prefix _
        c.loop-prefix.invariant.2 c.loop-prefix-test.true c.if-prefix-eq4.false,
    inner_room _ _ _ _
        c.loop-prefix.invariant.0.there c.loop-prefix.invariant.1 c.loop-prefix.invariant.2 c.loop-prefix-test.true,
  ),
)

pub overflow_add-sum-in-loop-prefix : goal.overflow_add-sum-in-loop-prefix
overflow_add-sum-in-loop-prefix c =
    omega (
      arith,
      c.requires.0.tabled.whole.named.limited,
      (counting_near _ _ _ (counting_turn _ _ _
          c.loop-prefix.invariant.0 c.loop-prefix.invariant.1 c.loop-prefix.invariant.2 c.loop-prefix-test.true
          c.begin_length-sum.ensures (reads_pointer _ _ (kind_of _) (pointer_prefix _ c.loop-prefix.invariant.2
          c.loop-prefix-test.true c.if-prefix-eq4.false) c.extract-m.ensures c.code_of.ensures)
          c.close_length-sum.ensures)).1,
    )

pub overflow_add-at-in-loop-prefix-2 : goal.overflow_add-at-in-loop-prefix-2
overflow_add-at-in-loop-prefix-2 c =
    omega (
      arith,
      c.requires.0.tabled.whole.named.limited,
      c.loop-prefix.invariant.2,
      pointer_prefix _
          c.loop-prefix.invariant.2 c.loop-prefix-test.true c.if-prefix-eq4.false,
      inner_room _ _ _ _
          c.loop-prefix.invariant.0.there c.loop-prefix.invariant.1 c.loop-prefix.invariant.2 c.loop-prefix-test.true,
    )

pub loop-prefix-smaller : goal.loop-prefix-smaller
loop-prefix-smaller c = omega (arith, (counting_near _ _ _ c.loop-prefix.invariant.0).0)

pub loop-prefix-preserved : goal.loop-prefix-preserved
loop-prefix-preserved c = (
  counting_turn _ _ _ c.loop-prefix.invariant.0 c.loop-prefix.invariant.1 c.loop-prefix.invariant.2
      c.loop-prefix-test.true c.begin_length-sum.ensures (reads_pointer _ _ (kind_of _) (pointer_prefix _
      c.loop-prefix.invariant.2 c.loop-prefix-test.true c.if-prefix-eq4.false) c.extract-m.ensures
      c.code_of.ensures) c.close_length-sum.ensures,
  (reads_pointer _ _ (kind_of _) (pointer_prefix _
      c.loop-prefix.invariant.2 c.loop-prefix-test.true c.if-prefix-eq4.false) c.extract-m.ensures
      c.code_of.ensures).kind,
  c.prefix_of-prefix-in-loop-prefix.ensures,
)

pub overflow_add-at-then-k-eq0 : goal.overflow_add-at-then-k-eq0
overflow_add-at-then-k-eq0 c =
    omega (arith, c.requires.0.tabled.whole.named.limited, (counting_near _ _ _ c.loop-prefix.invariant.0).0)

pub extract-a-requires : goal.extract-a-requires
extract-a-requires c = (
  c.requires.0.tabled.whole.named.limited,
  omega arith,
  omega (
    arith,
    atom_room _ _ _ _
        c.loop-prefix.invariant.0.there c.loop-prefix.invariant.1 c.if-k-eq0.true,
  ),
)

pub overflow_add-result : goal.overflow_add-result
overflow_add-result c =
    omega (
      arith,
      c.requires.0.tabled.whole.named.limited,
      (counting_near _ _ _ c.loop-prefix.invariant.0).1,
      atom_fits _ c.atom_length.ensures,
    )

pub returns-then-k-eq0 : goal.returns-then-k-eq0
returns-then-k-eq0 c =
    counting_done _ _ _ c.loop-prefix.invariant.0 (atom_text _ _ _ _ c.loop-prefix.invariant.0.there
    c.loop-prefix.invariant.1 _ c.if-k-eq0.true c.extract-a.ensures) c.atom_length.ensures

pub overflow_add-result-then-k-eq9 : goal.overflow_add-result-then-k-eq9
overflow_add-result-then-k-eq9 c =
    omega (arith, c.requires.0.tabled.whole.named.limited, (counting_near _ _ _ c.loop-prefix.invariant.0).1)

pub returns-then-k-eq9 : goal.returns-then-k-eq9
returns-then-k-eq9 c =
    counting_done _ _ _ c.loop-prefix.invariant.0 (str_text _ _ _ _ c.loop-prefix.invariant.0.there
    c.loop-prefix.invariant.1 _ c.if-k-eq9.true) refl

pub overflow_add-at-then-k-eq1 : goal.overflow_add-at-then-k-eq1
overflow_add-at-then-k-eq1 c =
    omega (arith, c.requires.0.tabled.whole.named.limited, (counting_near _ _ _ c.loop-prefix.invariant.0).0)

pub extract-i-requires : goal.extract-i-requires
extract-i-requires c = (
  c.requires.0.tabled.whole.named.limited,
  width_le _ c.width-w.ensures,
  named_room _ _ _ _
      c.loop-prefix.invariant.0.there c.loop-prefix.invariant.1 (width_is c.requires.0.tabled c.width-w.ensures)
      c.if-k-eq1.true,
)

pub full_length-n-requires : goal.full_length-n-requires
full_length-n-requires c = (
  c.requires.0,
  named_low _ _ _ _ c.loop-prefix.invariant.0.there c.loop-prefix.invariant.1
      (width_is c.requires.0.tabled c.width-w.ensures) c.if-k-eq1.true c.extract-i.ensures,
)

pub overflow_add-result-then-n-gt0 : goal.overflow_add-result-then-n-gt0
overflow_add-result-then-n-gt0 c =
    omega (
      arith,
      c.requires.0.tabled.whole.named.limited,
      (counting_near _ _ _ c.loop-prefix.invariant.0).1,
      c.full_length-n.ensures.0,
    )

pub returns-then-n-gt0 : goal.returns-then-n-gt0
returns-then-n-gt0 c =
    counting_done _ _ _ c.loop-prefix.invariant.0 (named_text _ _ _ _ c.loop-prefix.invariant.0.there
    c.loop-prefix.invariant.1 (width_is c.requires.0.tabled c.width-w.ensures) c.if-k-eq1.true _
    c.extract-i.ensures) (c.full_length-n.ensures.1.exact (λ z. omega (arith, c.if-n-gt0.true, z)))

pub returns-else-n-gt0 : goal.returns-else-n-gt0
returns-else-n-gt0 c = counts_none _

pub returns-else-k-eq1 : goal.returns-else-k-eq1
returns-else-k-eq1 c = counts_none _
