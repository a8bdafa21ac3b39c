use Rattle.lexical.specs.Decimal.{decimal}
use borrow.Author.Rules.{rules}
use Rattle.sink.proofs.put_decimal.Goals as goal

pub returns : goal.returns
unfolding decimal
returns c = search rules
