use native.Mathlib.Omega.{arith}
use mathlib.Core.Path.{refl}
use Rattle.names.specs.Digests.{mix}
use Rattle.names.proofs.mix.Goals as goal

pub returns : goal.returns
unfolding mix
returns c = (refl, omega arith)
