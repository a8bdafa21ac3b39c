use mathlib.Core.Path.{refl}
use native.Mathlib.Omega.{arith}
use Rattle.holds.proofs.fill_edges.Goals as goal

pub flag_structs-requires : goal.flag_structs-requires
flag_structs-requires c = (c.requires, refl)

pub fill_rows-requires : goal.fill_rows-requires
fill_rows-requires c = (
  c.requires,
  c.flag_structs.ensures,
  omega (arith, c.fill_rows-arg-1.given),
  omega
      (arith, c.fill_rows-arg-2-1.given),
)
