use mathlib.Core.Path.{ap}
use mathlib.Core.List.{append_assoc}
use Rattle.sink.proofs.SinkLaws.{◌▷◌, wrote_nil, wrote_as}
use Rattle.view.specs.Views.{self_number}
use Rattle.parameters.proofs.ParameterLaws.{receiver_const, receiver_mut, receiver_associated, receiver_free, self_below}
use Rattle.parameters.proofs.write_receiver.Goals as goal

pub write_full_name-named-requires : goal.write_full_name-named-requires
write_full_name-named-requires c = (c.requires.0, self_below c.requires.1 (ap self_number c.in-ConstMethod.is))

-- The text is compared as a whole, wherever one literal of it ends.
pub returns-in-ConstMethod : goal.returns-in-ConstMethod
returns-in-ConstMethod c =
    let e = receiver_const c.requires.1 c.in-ConstMethod.is in
    wrote_as (c.write_full_name-named.ensures ▷ c.put_bytes-qualified.ensures ▷ c.put_bytes.ensures)
    (rw append_assoc (rw append_assoc at e))

pub write_full_name-named-requires-in-MutMethod : goal.write_full_name-named-requires-in-MutMethod
write_full_name-named-requires-in-MutMethod c =
    (c.requires.0, self_below c.requires.1 (ap self_number c.in-MutMethod.is))

pub returns-in-MutMethod : goal.returns-in-MutMethod
returns-in-MutMethod c =
    wrote_as (c.write_full_name-named-in-MutMethod.ensures ▷ c.put_bytes-in-MutMethod.ensures) (receiver_mut
    c.requires.1 c.in-MutMethod.is)

pub returns-in-Associated : goal.returns-in-Associated
returns-in-Associated c = wrote_as (wrote_nil _) (receiver_associated c.requires.1 c.in-Associated.is)

pub returns-in-Free : goal.returns-in-Free
returns-in-Free c = wrote_as (wrote_nil _) (receiver_free c.requires.1 c.in-Free.is)
