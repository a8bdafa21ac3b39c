use Rattle.arguments.proofs.ErrorLaws.{vector_number}
use Rattle.arguments.proofs.is_vector.Goals as goal

pub returns : goal.returns
returns c = vector_number _
