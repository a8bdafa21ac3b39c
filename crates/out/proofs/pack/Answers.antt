use native.Mathlib.Omega.{arith}
use Rattle.out.proofs.EntryLaws.{small_begin, small_end, begin_number, end_number, begin_packed, end_packed}
use Rattle.out.proofs.pack.Goals as goal

pub pack_block-code-requires : goal.pack_block-code-requires
pack_block-code-requires c = small_begin c.in-Begin.is c.requires

pub overflow_mul-code : goal.overflow_mul-code
overflow_mul-code c = omega (arith, begin_number c.in-Begin.is c.pack_block-code.ensures c.requires)

pub pack_block-requires : goal.pack_block-requires
pack_block-requires c = small_end c.in-End.is c.requires

pub overflow_mul-code-in-End : goal.overflow_mul-code-in-End
overflow_mul-code-in-End c = omega (arith, end_number c.in-End.is c.pack_block.ensures c.requires)

pub overflow_add-code : goal.overflow_add-code
overflow_add-code c = omega (arith, end_number c.in-End.is c.pack_block.ensures c.requires)

pub returns-in-Begin : goal.returns-in-Begin
returns-in-Begin c = begin_packed c.in-Begin.is c.pack_block-code.ensures

pub returns-in-End : goal.returns-in-End
returns-in-End c = end_packed c.in-End.is c.pack_block.ensures
