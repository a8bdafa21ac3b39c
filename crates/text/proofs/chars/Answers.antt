use native.Mathlib.Omega.{arith}
use mathlib.Core.Path.{refl}
use Rattle.text.proofs.CharLaws.{fills_whole, fills_cut}
use Rattle.text.proofs.chars.Goals as goal

pub returns-then-left-n : goal.returns-then-left-n
returns-then-left-n c = fills_cut _ _ _ c.requires.1 (omega arith)

pub returns : goal.returns
returns c = fills_whole _ _ _ (omega arith) refl c.unpack.ensures
