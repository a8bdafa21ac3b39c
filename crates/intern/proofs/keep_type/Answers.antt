use native.Mathlib.Omega.{arith}
use mathlib.Core.Path.{refl}
use Rattle.types.proofs.KindLaws.{kind_room}
use Rattle.tables.proofs.TableLaws.{items_count_lem}
use Rattle.tables.proofs.MetLaws.{met}
use Rattle.tables.proofs.TypeLaws.{filled_met}
use Rattle.mangle.proofs.FullLaws.{filled_same}
use Rattle.intern.proofs.InternLaws.{type_long}
use Rattle.intern.proofs.keep_type.Goals as goal

pub overflow_mul-size : goal.overflow_mul-size
overflow_mul-size c = omega (arith, c.requires.0.tabled.whole.named.limited)

pub returns-then-size-window : goal.returns-then-size-window
returns-then-size-window c = filled_same _ c.requires.0 c.requires.1

pub extract-bits-requires : goal.extract-bits-requires
extract-bits-requires c = (c.requires.0.tabled.whole.named.limited, omega arith, omega arith)

pub returns-then-t-k-ne0 : goal.returns-then-t-k-ne0
returns-then-t-k-ne0 c = filled_same _ c.requires.0 c.requires.1

pub returns-then-t-spelling-ne0 : goal.returns-then-t-spelling-ne0
returns-then-t-spelling-ne0 c = filled_same _ c.requires.0 c.requires.1

pub skip_type-next-requires : goal.skip_type-next-requires
skip_type-next-requires c =
    rw (c.new.ensures, ← items_count_lem c.requires.0.tabled) (c.requires.0.tabled.whole.named.limited, c.requires.2)

pub overflow_add-end_at : goal.overflow_add-end_at
overflow_add-end_at c = omega (arith, c.requires.0.tabled.whole.named.limited, kind_room _ _ _ c.requires.2)

pub returns-then-end_at-next : goal.returns-then-end_at-next
returns-then-end_at-next c = filled_same _ c.requires.0 c.requires.1

pub overflow_shr-t : goal.overflow_shr-t
overflow_shr-t c =
    let next = rw (c.new.ensures, ← items_count_lem c.requires.0.tabled) at c.skip_type-next.ensures in
    omega (arith, next, type_long _ _ _ c.requires.2)

pub overflow_mul-t : goal.overflow_mul-t
overflow_mul-t c = omega (arith, c.requires.0.tabled.whole.named.limited, kind_room _ _ _ c.requires.2)

pub overflow_mul-t-2 : goal.overflow_mul-t-2
overflow_mul-t-2 c =
    let next = rw (c.new.ensures, ← items_count_lem c.requires.0.tabled) at c.skip_type-next.ensures in
    omega (arith, next, type_long _ _ _ c.requires.2)

pub overflow_add-t-2 : goal.overflow_add-t-2
overflow_add-t-2 c =
    let next = rw (c.new.ensures, ← items_count_lem c.requires.0.tabled) at c.skip_type-next.ensures in
    omega (
      arith,
      next,
      type_long _ _ _ c.requires.2,
      c.requires.0.tabled.whole.named.limited,
      kind_room _ _ _
          c.requires.2,
    )

pub overflow_add-t-3 : goal.overflow_add-t-3
overflow_add-t-3 c =
    let next = rw (c.new.ensures, ← items_count_lem c.requires.0.tabled) at c.skip_type-next.ensures in
    omega (
      arith,
      next,
      type_long _ _ _ c.requires.2,
      c.requires.0.tabled.whole.named.limited,
      kind_room _ _ _
          c.requires.2,
    )

pub returns : goal.returns
returns c =
    let next = rw (c.new.ensures, ← items_count_lem c.requires.0.tabled) at c.skip_type-next.ensures in
    filled_met (filled_same _ c.requires.0 c.requires.1) _ _ c.row_of-k.ensures c.if-t-k-ne0.false
    (met _ refl c.requires.2 next (omega arith) (omega (arith, next, type_long _ _ _ c.requires.2))
    c.extract-bits.ensures c.requires.3)
