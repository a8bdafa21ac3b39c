use native.Mathlib.Omega.{arith}
use Rattle.cursor.proofs.byte_in.Goals as goal

pub returns : goal.returns
returns c = (c.to_u64.ensures, omega (arith, c.to_u64.ensures, c.shared_slice_known-2-1.given c.args.i))
