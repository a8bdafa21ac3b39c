use mathlib.Core.Path.{◌∙◌}
use mathlib.Core.Logic.{inl, inr}
use Rattle.cursor.proofs.FieldLaws.{value, cut, bit_value, bit_cut}
use Rattle.decode.proofs.SheetLaws.{denied, sheet_cut, sheet_without_edition, sheet_of_later, sheet_of_known, header_cut, doxygen_cut, both_bits}
use Rattle.decode.proofs.decode_fields.Goals as goal

pub returns-in_err-edition : goal.returns-in_err-edition
returns-in_err-edition c = denied c.from_residual.ensures.1 (sheet_cut _ _ (cut c.read.ensures c.in_err-edition.was))

pub returns-in_err-header : goal.returns-in_err-header
returns-in_err-header c =
    denied c.from_residual-in_err-header.ensures.1 (sheet_of_known _ _ (value c.read.ensures c.in_ok-edition.was)
    c.if-edition-eq0.false c.if-edition-gt-LAST_EDITION.false ∙ header_cut _ _ _ (bit_cut _ _ c.read-2.ensures
    c.in_err-header.was))

pub returns-in_err-doxygen : goal.returns-in_err-doxygen
returns-in_err-doxygen c =
    denied c.from_residual-in_err-doxygen.ensures.1 (sheet_of_known _ _ (value c.read.ensures c.in_ok-edition.was)
    c.if-edition-eq0.false c.if-edition-gt-LAST_EDITION.false ∙ doxygen_cut _ _ _ (bit_value _ _ c.read-2.ensures
    c.in_ok-header.was) (bit_cut _ _ c.read-3.ensures c.in_err-doxygen.was))

pub returns : goal.returns
returns c =
    rw (sheet_of_known _ _ (value c.read.ensures c.in_ok-edition.was) c.if-edition-eq0.false
    c.if-edition-gt-LAST_EDITION.false ∙ both_bits _ _ _ (bit_value _ _ c.read-2.ensures c.in_ok-header.was)
    (bit_value _ _ c.read-3.ensures c.in_ok-doxygen.was)) c.decode_tables.ensures

pub returns-then-edition-eq0 : goal.returns-then-edition-eq0
returns-then-edition-eq0 c =
    let q = value c.read.ensures c.in_ok-edition.was in
    record {
      says = elim c.then-edition-eq0.either [
        | inl h ↦ sheet_without_edition _ _ q h
        | inr h ↦ sheet_of_later _ _ q h.1
      ];
    }
