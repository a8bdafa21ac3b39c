use native.Mathlib.Omega.{arith}
use Rattle.shape.proofs.CommaLaws.{listed_none}
use Rattle.count_type.proofs.CountLaws.{wrote_counted}
use Rattle.shape.proofs.ArgumentLaws.{listed_argument, listed_arguments}
use Rattle.summary.proofs.LengthLaws.{kept}
use Rattle.head.proofs.write_parameters.Goals as goal

pub kept_length-n-requires : goal.kept_length-n-requires
kept_length-n-requires c = omega (arith, c.requires.1.room)

pub returns-then-n-gt0 : goal.returns-then-n-gt0
returns-then-n-gt0 c =
    wrote_counted c.if-out-at.true (kept c.kept_length-n.ensures c.requires.1.defined) c.if-n-gt0.true (omega arith)
    c.advance.ensures

pub loop-j-init : goal.loop-j-init
loop-j-init c = listed_none _ _ _ _

pub write_parameter-here-requires : goal.write_parameter-here-requires
write_parameter-here-requires c =
    (c.requires.0, c.requires.1.arguments, omega arith, omega (arith, c.requires.1.room))

pub loop-j-preserved : goal.loop-j-preserved
loop-j-preserved c =
    listed_argument _ c.requires.1.arguments (omega arith) c.loop-j.invariant
    c.put_when-behind.ensures c.write_parameter-here.ensures

pub returns : goal.returns
returns c = listed_arguments _ c.requires.1.arguments (omega arith) c.loop-j.invariant
