use Rattle.lexical.proofs.BoolLaws.{known}
use Rattle.holds.proofs.FieldLaws.{yields_named, tells_by_name, tells_other}
use Rattle.holds.proofs.held_at.Goals as goal

pub named_at-requires : goal.named_at-requires
named_at-requires c = (
  c.requires.0,
  c.requires.1,
  yields_named _ _ _ c.requires.2 c.field-f.ensures c.kind_of.ensures
      (known c.is_named.ensures c.if-is_named.true),
)

pub returns-then-is_named : goal.returns-then-is_named
returns-then-is_named c =
    tells_by_name _ _ _ c.requires.2 c.field-f.ensures c.kind_of.ensures (known c.is_named.ensures
    c.if-is_named.true) c.named_at.ensures

pub returns : goal.returns
returns c =
    tells_other _ _ _ c.requires.2 c.field-f.ensures _ c.kind_of.ensures (known c.is_named.ensures
    c.if-is_named.false) c.past_type.ensures
