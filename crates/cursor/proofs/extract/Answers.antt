use native.Mathlib.Omega.{arith}
use Rattle.cursor.proofs.BitLaws.{extract_fits}
use Rattle.cursor.proofs.extract.Goals as goal

pub overflow_cast-result : goal.overflow_cast-result
overflow_cast-result c =
    omega (arith, c.extract_wide.ensures, extract_fits c.args.s.now c.args.at c.args.n (omega arith))
