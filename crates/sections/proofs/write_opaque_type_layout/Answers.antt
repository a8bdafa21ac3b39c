use Rattle.bridge.specs.Write.{write_opaque_type_layout}
use Rattle.sections.proofs.StateLaws.{representing_after, representing_stood, stood_standing, runs_set, runs_then}
use Rattle.sections.proofs.write_opaque_type_layout.Goals as goal

pub set_namespace-requires : goal.set_namespace-requires
set_namespace-requires c =
    (c.requires.0.tabled, c.requires.1, stood_standing (representing_stood c.requires.3), c.requires.2)

pub write_layout-requires : goal.write_layout-requires
write_layout-requires c =
    (c.requires.0, c.requires.2, representing_after c.requires.3 (runs_set c.set_namespace.ensures))

pub write_layout-requires-2 : goal.write_layout-requires-2
write_layout-requires-2 c = (
  c.requires.0,
  c.requires.2,
  representing_after (representing_after c.requires.3
      (runs_set c.set_namespace.ensures)) c.write_layout.ensures,
)

pub returns : goal.returns
unfolding write_opaque_type_layout
returns c = runs_then (runs_then (runs_set c.set_namespace.ensures) c.write_layout.ensures) c.write_layout-2.ensures
