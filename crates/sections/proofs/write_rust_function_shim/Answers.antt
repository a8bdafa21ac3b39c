use mathlib.Core.Path.{sym, ◌∙◌}
use Rattle.tables.specs.Tables.{function_of}
use Rattle.pieces.proofs.TextPieces.{some_shim}
use Rattle.out.proofs.PlaceLaws.{from_place}
use Rattle.sections.proofs.StateLaws.{representing_stood, stood_set, stood_asked, stood_standing, stood_listed}
use Rattle.sections.proofs.StateLaws.{runs_as, runs_then, runs_asked, runs_set, runs_written}
use Rattle.sections.proofs.ShimLaws.{hidden_shim, shown_shim}
use Rattle.sections.proofs.write_rust_function_shim.Goals as goal

pub load_summary-comment-requires : goal.load_summary-comment-requires
load_summary-comment-requires c = (c.requires.0.tabled, c.function-f.ensures.1, c.requires.4, c.requires.5)

pub set_namespace-requires : goal.set_namespace-requires
set_namespace-requires c = (
  c.requires.0.tabled,
  c.requires.1,
  stood_standing (stood_asked (representing_stood c.requires.6)
      c.next_section.ensures),
  c.requires.2,
)

pub returns-then-is_hidden : goal.returns-then-is_hidden
returns-then-is_hidden c =
    runs_as (hidden_shim _ _ (function_of _ _) c.function-f.ensures.0 c.function-f.ensures.1.view.form.form (sym c.is_hidden.ensures ∙ c.if-is_hidden.true))
    (runs_then (runs_asked c.next_section.ensures) (runs_set c.set_namespace.ensures))

pub prepare-requires : goal.prepare-requires
prepare-requires c = (
  c.requires.0,
  stood_listed (stood_set (stood_asked (representing_stood c.requires.6) c.next_section.ensures)
      c.set_namespace.ensures),
)

pub write_function_shim-at-requires : goal.write_function_shim-at-requires
write_function_shim-at-requires c = (
  c.requires.0,
  c.requires.2,
  c.function-f.ensures.1,
  c.function-f.ensures.0,
  c.load_summary-comment.ensures.0,
  c.load_summary-comment.ensures.1,
)

pub returns : goal.returns
returns c =
    runs_as (shown_shim _ _ (function_of _ _) c.function-f.ensures.0 c.function-f.ensures.1.view.form.form (sym c.is_hidden.ensures ∙ c.if-is_hidden.false))
    (runs_then (runs_then (runs_asked c.next_section.ensures) (runs_set c.set_namespace.ensures)) (runs_written
    (some_shim _ _ _) c.prepare.ensures (from_place c.prepare.new.c c.write_function_shim-at.ensures)
    c.placed.ensures))
