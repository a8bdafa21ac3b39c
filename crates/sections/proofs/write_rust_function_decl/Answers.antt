use Rattle.bridge.specs.Write.{write_rust_function_decl}
use Rattle.pieces.proofs.TextPieces.{some_function_decl}
use Rattle.out.proofs.PlaceLaws.{from_place}
use Rattle.sections.proofs.StateLaws.{representing_stood, stood_set, stood_turned, stood_asked, stood_ready, stood_placed}
use Rattle.sections.proofs.StateLaws.{stood_standing, stood_listed, runs_declared}
use Rattle.sections.proofs.write_rust_function_decl.Goals as goal

pub load_summary-requires : goal.load_summary-requires
load_summary-requires c = (c.requires.0.tabled, c.function-f.ensures.1, c.requires.4, c.requires.5)

pub set_namespace-requires : goal.set_namespace-requires
set_namespace-requires c =
    (c.requires.0.tabled, c.requires.1, stood_standing (representing_stood c.requires.6), c.requires.2)

pub begin_extern_c-requires : goal.begin_extern_c-requires
begin_extern_c-requires c = (
  c.requires.0.tabled,
  c.requires.1,
  stood_standing (stood_set (representing_stood c.requires.6)
      c.set_namespace.ensures),
)

pub prepare-requires : goal.prepare-requires
prepare-requires c = (
  c.requires.0,
  stood_listed (stood_asked (stood_turned (stood_set (representing_stood c.requires.6)
      c.set_namespace.ensures) c.begin_extern_c.ensures) c.next_section.ensures),
)

pub write_function_decl-at-requires : goal.write_function_decl-at-requires
write_function_decl-at-requires c =
    (c.requires.0, c.requires.2, c.function-f.ensures.1, c.function-f.ensures.0, c.load_summary.ensures.0)

pub end_extern_c-requires : goal.end_extern_c-requires
end_extern_c-requires c = (
  c.requires.0.tabled,
  c.requires.1,
  stood_standing (stood_placed (stood_ready (stood_asked (stood_turned
      (stood_set (representing_stood c.requires.6) c.set_namespace.ensures) c.begin_extern_c.ensures)
      c.next_section.ensures) c.prepare.ensures) (from_place c.prepare.new.c c.write_function_decl-at.ensures)
      c.placed.ensures),
)

pub returns : goal.returns
unfolding write_rust_function_decl
returns c =
    runs_declared c.set_namespace.ensures c.begin_extern_c.ensures _ (some_function_decl _ _ _) c.next_section.ensures
    c.prepare.ensures (from_place c.prepare.new.c c.write_function_decl-at.ensures) c.placed.ensures
    c.end_extern_c.ensures
