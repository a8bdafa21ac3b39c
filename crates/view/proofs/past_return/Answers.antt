use Rattle.view.proofs.FunctionLaws.{return_type, return_next, return_none}
use Rattle.view.proofs.past_return.Goals as goal

pub skip_type-requires : goal.skip_type-requires
skip_type-requires c = (c.requires.0, return_type _ _ _ c.if-returns.true c.requires.1)

pub returns-then-returns : goal.returns-then-returns
returns-then-returns c = return_next _ _ _ c.if-returns.true c.requires.1 c.skip_type.ensures

pub returns : goal.returns
returns c = return_none _ _ _ c.if-returns.false
