use Rattle.parameters.proofs.ParameterLaws.{parameters}
use Rattle.parameters.proofs.write_parameters.Goals as goal

pub returns : goal.returns
returns c =
    parameters c.requires.1 c.requires.2.arguments c.is_method-method.ensures c.needs_comma-comma.ensures
    c.write_receiver-received.ensures c.write_extern_args-listed.ensures c.write_slot.ensures
