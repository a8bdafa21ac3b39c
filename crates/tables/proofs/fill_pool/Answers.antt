use native.Mathlib.Omega.{arith}
use mathlib.Core.Path.{refl, ◌∙◌}
use Rattle.tables.proofs.PoolLaws.{filled_none, name_left, place_inside, turn_long, filled_turn}
use borrow.Author.Rules.{rules}
use Rattle.tables.proofs.fill_pool.Goals as goal

pub loop-i-init : goal.loop-i-init
loop-i-init c = (omega arith, refl, filled_none _ c.requires.0 c.requires.1)

pub unpack-requires : goal.unpack-requires
unpack-requires c =
    let found = rw c.new.ensures at c.field-length.ensures in (
      c.loop-i.invariant.2.lent.tabled.whole.named.limited,
      place_inside c.loop-i.invariant.2.lent.tabled _
          (name_left c.loop-i.invariant.2 c.requires.0 (omega arith)) found,
      search rules,
    )

pub loop-i-preserved : goal.loop-i-preserved
loop-i-preserved c =
    let found = rw c.new.ensures at c.field-length.ensures in
    let part = c.unpack.new.buf in
    let kept = c.unpack.auto.buf in (
      omega arith,
      turn_long c.loop-i.invariant.2 _ part found kept ∙ c.loop-i.invariant.1,
      filled_turn c.loop-i.invariant.2 _ part found kept (name_left c.loop-i.invariant.2 c.requires.0 (omega arith))
          c.unpack.ensures
          (omega (arith, c.loop-i.invariant.1)),
    )
