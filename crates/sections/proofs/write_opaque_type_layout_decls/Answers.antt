use Rattle.bridge.specs.Write.{write_opaque_type_layout_decls}
use Rattle.pieces.proofs.TextPieces.{some_layout_decl}
use Rattle.sink.proofs.SinkLaws.{◌▷◌}
use Rattle.out.proofs.PlaceLaws.{from_place}
use Rattle.sections.proofs.StateLaws.{representing_stood, stood_set, stood_turned, stood_ready, stood_placed, stood_standing}
use Rattle.sections.proofs.StateLaws.{stood_listed, runs_declared_two}
use Rattle.sections.proofs.write_opaque_type_layout_decls.Goals as goal

pub set_namespace-requires : goal.set_namespace-requires
set_namespace-requires c =
    (c.requires.0.tabled, c.requires.1, stood_standing (representing_stood c.requires.3), c.requires.2)

pub begin_extern_c-requires : goal.begin_extern_c-requires
begin_extern_c-requires c = (
  c.requires.0.tabled,
  c.requires.1,
  stood_standing (stood_set (representing_stood c.requires.3)
      c.set_namespace.ensures),
)

pub prepare-requires : goal.prepare-requires
prepare-requires c = (
  c.requires.0,
  stood_listed (stood_turned (stood_set (representing_stood c.requires.3) c.set_namespace.ensures)
      c.begin_extern_c.ensures),
)

pub write_layout_decl-next-requires : goal.write_layout_decl-next-requires
write_layout_decl-next-requires c = (c.requires.0, c.requires.2)

pub write_layout_decl-at-requires : goal.write_layout_decl-at-requires
write_layout_decl-at-requires c = (c.requires.0, c.requires.2)

pub end_extern_c-requires : goal.end_extern_c-requires
end_extern_c-requires c = (
  c.requires.0.tabled,
  c.requires.1,
  stood_standing (stood_placed (stood_ready (stood_turned
      (stood_set (representing_stood c.requires.3) c.set_namespace.ensures) c.begin_extern_c.ensures)
      c.prepare.ensures) (from_place c.prepare.new.c (c.write_layout_decl-next.ensures ▷
      c.write_layout_decl-at.ensures)) c.placed.ensures),
)

pub returns : goal.returns
unfolding write_opaque_type_layout_decls
returns c =
    runs_declared_two c.set_namespace.ensures c.begin_extern_c.ensures _ _ (some_layout_decl _ _) (some_layout_decl _
    _) c.prepare.ensures (from_place c.prepare.new.c (c.write_layout_decl-next.ensures ▷
    c.write_layout_decl-at.ensures)) c.placed.ensures c.end_extern_c.ensures
