use mathlib.Core.Path.{sym, ◌∙◌}
use Rattle.sink.proofs.SinkLaws.{first_text, second_text}
use Rattle.shape.proofs.FunctionLaws.{returned}
use Rattle.head.proofs.HeadLaws.{return_gives, return_none}
use Rattle.head.proofs.write_shim_type.Goals as goal

pub returns-then-is_main : goal.returns-then-is_main
returns-then-is_main c = first_text _ (sym c.is_main.ensures ∙ c.if-is_main.true) c.put_bytes.ensures

pub write_outermost_space-requires : goal.write_outermost_space-requires
write_outermost_space-requires c = (c.requires.0, (returned c.requires.2 c.if-f.true).1)

pub returns-then-f : goal.returns-then-f
returns-then-f c =
    second_text _ (sym c.is_main.ensures ∙ c.if-is_main.false) (return_gives c.requires.2 c.if-f.true
    c.write_outermost_space.ensures)

pub returns : goal.returns
returns c =
    second_text _ (sym c.is_main.ensures ∙ c.if-is_main.false) (return_none c.requires.2 c.if-f.false
    c.put_bytes-2.ensures)
