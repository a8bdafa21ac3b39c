use native.Mathlib.Omega.{arith}
use mathlib.Core.Path.{refl}
use Rattle.holds.proofs.FieldLaws.{struct_body_lem, fields_there, struct_puts}
use Rattle.holds.proofs.put_struct.Goals as goal

pub put_fields-requires : goal.put_fields-requires
put_fields-requires c =
    let y = struct_body_lem _ _ _ _ c.requires.3 c.requires.2.view.body in (
      c.requires.0,
      c.requires.1,
      fields_there _
          _ _ y c.field-bit.ensures c.field-count.ensures,
      omega (arith, c.field-count.ensures.low),
    )

pub returns : goal.returns
returns c =
    let y = struct_body_lem _ _ _ _ c.requires.3 c.requires.2.view.body in struct_puts _ _ _ y c.field-bit.ensures
    c.field-count.ensures _ _ refl c.put_fields.ensures
