use mathlib.Core.Path.{refl}
use native.Mathlib.Omega.{arith}
use lib.ListN.{length-set}
use Rattle.sink.proofs.CopyLaws.{copied_eight}
use Rattle.sink.proofs.copy_eight.Goals as goal

pub bounds-buf-i : goal.bounds-buf-i
bounds-buf-i c = omega (arith, c.requires.1.long)

pub bounds-buf-i-2 : goal.bounds-buf-i-2
bounds-buf-i-2 c = simp length-set (omega (arith, c.requires.1.long))

pub bounds-buf-i-3 : goal.bounds-buf-i-3
bounds-buf-i-3 c = simp length-set (omega (arith, c.requires.1.long))

pub bounds-buf-i-4 : goal.bounds-buf-i-4
bounds-buf-i-4 c = simp length-set (omega (arith, c.requires.1.long))

pub bounds-buf-i-5 : goal.bounds-buf-i-5
bounds-buf-i-5 c = simp length-set (omega (arith, c.requires.1.long))

pub bounds-buf-i-6 : goal.bounds-buf-i-6
bounds-buf-i-6 c = simp length-set (omega (arith, c.requires.1.long))

pub bounds-buf-i-7 : goal.bounds-buf-i-7
bounds-buf-i-7 c = simp length-set (omega (arith, c.requires.1.long))

pub bounds-buf-i-8 : goal.bounds-buf-i-8
bounds-buf-i-8 c = simp length-set (omega (arith, c.requires.1.long))

pub returns : goal.returns
returns c = copied_eight _ c.requires.1 c.requires.0 refl refl refl refl refl refl refl refl
