use native.Mathlib.Omega.{arith}
use Rattle.mangle.proofs.FullLaws.{item_left}
use Rattle.mangle.proofs.full.fill_full_names.Goals as goal

pub fill_full_name-end-requires : goal.fill_full_name-end-requires
fill_full_name-end-requires c = (
  c.loop-i.invariant.1.lent,
  c.loop-i.invariant.1.room,
  item_left c.loop-i.invariant.1 c.requires.0.tabled
      (omega arith),
  c.loop-i.invariant.0,
)
