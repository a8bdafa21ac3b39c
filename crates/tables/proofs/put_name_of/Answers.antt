use mathlib.Core.Path.{ap}
use Rattle.sink.proofs.SinkLaws.{wrote_as}
use Rattle.view.specs.Values.{name_at}
use Rattle.tables.proofs.PoolLaws.{place_is}
use Rattle.tables.proofs.put_name_of.Goals as goal

pub put_name-requires : goal.put_name-requires
put_name-requires c =
    let named = c.requires.0.tabled.whole.named in
    rw (place_is c.requires.0.tabled _ c.requires.1) (named.limited, named.each _ c.requires.1)

pub returns-then-e-eq0 : goal.returns-then-e-eq0
returns-then-e-eq0 c = wrote_as c.put_name.ensures (ap (name_at _) (place_is c.requires.0.tabled _ c.requires.1))

pub put_part-requires : goal.put_part-requires
put_part-requires c = (c.requires.0.names _ c.requires.1 c.if-e-eq0.false).near

pub returns : goal.returns
returns c = wrote_as c.put_part.ensures (c.requires.0.names _ c.requires.1 c.if-e-eq0.false).is
