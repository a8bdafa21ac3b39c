use native.Mathlib.Omega.{arith}
use mathlib.Core.Path.{sym}
use lib.Seq.{length-take-le}
use Rattle.sink.proofs.SinkLaws.{wrote_length}
use Rattle.deliver.proofs.DeliverLaws.{deliver_long, deliver_short, deliver_fits}
use borrow.Author.Rules.{rules}
use Rattle.deliver.proofs.deliver_text.Goals as goal

pub returns-then-buf-length : goal.returns-then-buf-length
returns-then-buf-length c = deliver_long _ c.write_text-length.ensures c.if-buf-length.true

pub slice_bounds-put_bytes-end : goal.slice_bounds-put_bytes-end
slice_bounds-put_bytes-end c = omega (arith, c.if-length-short.true, wrote_length c.write_text-length.ensures)

pub slice_bounds-put_bytes-end-then-length-short : goal.slice_bounds-put_bytes-end-then-length-short
slice_bounds-put_bytes-end-then-length-short c =
    sym (length-take-le _ _ (omega (arith, c.if-length-short.true, wrote_length c.write_text-length.ensures)))

pub returns-then-length-short : goal.returns-then-length-short
returns-then-length-short c =
    deliver_short _ c.write_text-length.ensures c.if-buf-length.false (omega arith)
    (omega (arith, c.if-length-short.true, wrote_length c.write_text-length.ensures)) (omega arith)
    c.put_bytes.ensures

pub slice_bounds-write_text-end-2 : goal.slice_bounds-write_text-end-2
slice_bounds-write_text-end-2 c = search (rules, length-take-le, c.if-buf-length.false)

pub returns : goal.returns
returns c = deliver_fits _ c.write_text-length.ensures c.if-buf-length.false (omega arith) c.write_text.ensures
