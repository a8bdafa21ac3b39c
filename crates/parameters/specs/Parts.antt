-- A part of bridge's Write that the code writes by itself.
use Rattle.std.specs.Prelude.{List, ◌++◌, ℕ}
use Rattle.lexical.specs.Bytes.{bytes}
use Rattle.format.specs.Types.{Ty}
use Rattle.format.specs.Sheet.{Item}
use Rattle.bridge.specs.WriteType.{space_after_type}
use Rattle.bridge.specs.Write.{shape, slot_type}

-- the slot's parameter in `extern_parameters`
abbrev pub slot_parameter : List Item → Ty → List ℕ
slot_parameter items t = slot_type items t (shape t) ++ space_after_type t ++ bytes "*return$"
