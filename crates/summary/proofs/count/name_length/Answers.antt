use Rattle.std.proofs.Common.{ap, arith}
use Rattle.sink.proofs.SinkLaws.{wrote_as, wrote_place}
use Rattle.view.specs.Values.{name_at}
use Rattle.tables.proofs.PoolLaws.{place_is}
use Rattle.summary.proofs.LengthLaws.{name_spelled}
use Rattle.summary.proofs.count.name_length.Goals as goal

pub put_name-requires : goal.put_name-requires
put_name-requires c =
    let named = c.requires.0.tabled.whole.named in
    rw (place_is c.requires.0.tabled _ c.requires.1) (named.limited, named.each _ c.requires.1)

pub returns-then-e-eq0 : goal.returns-then-e-eq0
returns-then-e-eq0 c =
    let p = wrote_as c.put_name.ensures (ap (name_at _) (place_is c.requires.0.tabled _ c.requires.1)) in
    omega (arith, wrote_place p (omega arith))

pub returns : goal.returns
returns c = name_spelled _ c.requires.0 c.requires.1 c.if-e-eq0.false
