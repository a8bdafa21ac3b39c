use native.Mathlib.Omega.{arith}
use Rattle.sink.proofs.SinkLaws.{◌▷◌, wrote_as}
use Rattle.sink.proofs.DigitLaws.{digits_none, digits_small, digits_more}
use Rattle.sink.proofs.+put_digits.Goals as goal

pub returns-then-more-eq0 : goal.returns-then-more-eq0
returns-then-more-eq0 t c =
    let args = c.args in
    wrote_as c.put_byte.ensures (digits_none args.more args.n (omega arith))

pub returns-then-n-lt10 : goal.returns-then-n-lt10
returns-then-n-lt10 t c =
    let args = c.args in
    wrote_as c.put_byte-then-n-lt10.ensures (digits_small args.more args.n (omega arith))

pub returns : goal.returns
returns t c =
    let args = c.args in
    wrote_as
    (c.put_digits-next.ensures ▷ c.put_byte-2.ensures)
    (digits_more args.more args.n (omega arith) (omega arith))
