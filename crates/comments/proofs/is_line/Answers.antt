use borrow.Author.Tests.{eq-eqb}
use mathlib.Core.Path.{◌∙◌}
use Rattle.format.specs.Decoding.{line_ok}
use Rattle.lexical.proofs.BoolLaws.{known}
use Rattle.text.proofs.CharLaws.{chars_length}
use Rattle.comments.proofs.LineLaws.{chars_last, last_none}
use Rattle.comments.proofs.is_line.Goals as goal

pub returns-else-all_line_chars : goal.returns-else-all_line_chars
unfolding line_ok
returns-else-all_line_chars c = rw (known c.all_line_chars.ensures c.if-all_line_chars.false) c.if-all_line_chars.false

pub returns-then-n-eq0 : goal.returns-then-n-eq0
unfolding line_ok
returns-then-n-eq0 c =
    rw (
      known c.all_line_chars.ensures c.if-all_line_chars.true,
      last_none _ (chars_length _ _ _ ∙ c.if-n-eq0.true),
    ) (eq-eqb _ _ c.if-n-eq0.true)

pub returns-else-n-eq0 : goal.returns-else-n-eq0
unfolding line_ok
returns-else-n-eq0 c =
    rw (
      known c.all_line_chars.ensures c.if-all_line_chars.true,
      chars_last _ _ _ c.if-n-eq0.false,
      c.extract.ensures,
    )
