use Rattle.sink.proofs.SinkLaws.{◌▷◌}
use Rattle.view.proofs.FormLaws.{self_below}
use Rattle.head.proofs.HeadLaws.{self_none, self_one, local_name_written}
use Rattle.head.proofs.write_local_name.Goals as goal

pub put_name_of-requires : goal.put_name_of-requires
put_name_of-requires c = (c.requires.0, c.requires.1.view.named)

pub returns-in-None : goal.returns-in-None
returns-in-None c =
    local_name_written _ c.requires.1 (self_none c.requires.2 c.self_type.ensures _ _ c.in-None.is)
    c.put_name_of.ensures

pub write_cxx_name-owned-requires : goal.write_cxx_name-owned-requires
write_cxx_name-owned-requires c =
    (c.requires.0, self_below c.requires.2.view.form c.self_type.ensures c.in-Some.is)

pub put_name_of-requires-in-Some : goal.put_name_of-requires-in-Some
put_name_of-requires-in-Some c = (c.requires.0, c.requires.1.view.named)

pub returns-in-Some : goal.returns-in-Some
returns-in-Some c =
    local_name_written _ c.requires.1 (self_one c.requires.2 c.self_type.ensures _ c.in-Some.is
    (c.write_cxx_name-owned.ensures ▷ c.put_bytes-behind.ensures)) c.put_name_of-in-Some.ensures
