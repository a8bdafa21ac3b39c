use mathlib.Core.Logic.{⊎_elim}
use mathlib.Core.Path.{refl}
use Rattle.sink.proofs.SinkLaws.{wrote_nil}
use Rattle.forward.proofs.LineLaws.{line_written}
use Rattle.forward.proofs.write_line.Goals as goal

pub returns-in-Struct : goal.returns-in-Struct
returns-in-Struct c =
    ⊎_elim (λ e. line_written c.requires.1 e refl c.write_struct_decl.ensures)
    (λ e. line_written c.requires.1 e refl c.write_struct_decl.ensures) c.in-Struct.is

pub returns-in-CxxType : goal.returns-in-CxxType
returns-in-CxxType c = line_written c.requires.1 c.in-CxxType.is refl c.write_struct_using.ensures

pub returns-in-RustFunction : goal.returns-in-RustFunction
returns-in-RustFunction c =
    ⊎_elim (λ e. line_written c.requires.1 e refl (wrote_nil _)) (λ e. line_written c.requires.1 e refl (wrote_nil _))
    c.in-RustFunction.is
