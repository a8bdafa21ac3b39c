use native.Mathlib.Omega.{arith}
use Rattle.out.proofs.EntryLaws.{small_index}
use Rattle.out.proofs.pack_block.Goals as goal

pub overflow_add-result : goal.overflow_add-result
overflow_add-result c = omega (arith, small_index c.in-UserDefinedNamespace.is c.requires)

pub overflow_cast-result : goal.overflow_cast-result
overflow_cast-result c = omega (arith, small_index c.in-UserDefinedNamespace.is c.requires)

pub returns-in-UserDefinedNamespace : goal.returns-in-UserDefinedNamespace
returns-in-UserDefinedNamespace c = rw c.in-UserDefinedNamespace.is

pub returns-in-ExternC : goal.returns-in-ExternC
returns-in-ExternC c = rw c.in-ExternC.is
