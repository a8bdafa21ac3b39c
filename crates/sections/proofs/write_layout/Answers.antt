use Rattle.pieces.proofs.TextPieces.{some_layout_definition}
use Rattle.out.proofs.PlaceLaws.{from_place}
use Rattle.sections.proofs.StateLaws.{representing_stood, stood_asked, stood_listed, runs_asked, runs_written, runs_then}
use Rattle.sections.proofs.write_layout.Goals as goal

pub prepare-requires : goal.prepare-requires
prepare-requires c =
    (c.requires.0, stood_listed (stood_asked (representing_stood c.requires.2) c.next_section.ensures))

pub returns : goal.returns
returns c =
    runs_then (runs_asked c.next_section.ensures) (runs_written (some_layout_definition _ _ _) c.prepare.ensures
    (from_place c.prepare.new.c c.write_layout_definition-at.ensures) c.placed.ensures)
