use native.Mathlib.Omega.{arith}
use Rattle.cursor.proofs.BitLaws.{word_is}
use Rattle.cursor.proofs.word.Goals as goal

pub returns : goal.returns
returns c =
    word_is c.args.s.now c.args.b c.byte_in-w0.ensures c.byte_in.ensures c.byte_in-2.ensures c.byte_in-3.ensures
    c.byte_in-4.ensures c.byte_in-5.ensures c.byte_in-6.ensures c.byte_in-7.ensures (omega arith)
