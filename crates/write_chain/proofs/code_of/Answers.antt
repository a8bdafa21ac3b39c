use Rattle.std.proofs.Common.{refl, arith}
use Rattle.write_chain.proofs.InnerLaws.{base_fits, code_fits}
use Rattle.write_chain.proofs.code_of.Goals as goal

pub overflow_add-result : goal.overflow_add-result
overflow_add-result c = omega (arith, base_fits _ c.base_of.ensures)

pub overflow_add-result-2 : goal.overflow_add-result-2
overflow_add-result-2 c = omega (arith, code_fits _ _ c.base_of.ensures c.space_length.ensures)

pub returns : goal.returns
returns c = rw (← c.base_of.ensures, c.space_length.ensures) refl
