use Rattle.mangle.proofs.NameLaws.{self_none, self_one, symbol}
use Rattle.view.proofs.FormLaws.{self_below}
use Rattle.mangle.proofs.mangle.write_extern_fn.Goals as goal

pub push_name-requires : goal.push_name-requires
push_name-requires c = (c.requires.0, c.requires.2.view.named)

pub returns-in-None : goal.returns-in-None
returns-in-None c =
    symbol c.requires.2 _ c.write_version-version.ensures (self_none c.requires.2 c.self_type.ensures c.in-None.is _)
    c.push_name.ensures

pub item-self_type-requires : goal.item-self_type-requires
item-self_type-requires c =
    (c.requires.0.tabled, self_below c.requires.2.view.form c.self_type.ensures c.in-Some.is)

pub push_name-receiver-requires : goal.push_name-receiver-requires
push_name-receiver-requires c = (c.requires.0, c.item-self_type.ensures.1.view.named)

pub push_name-requires-in-Some : goal.push_name-requires-in-Some
push_name-requires-in-Some c = (c.requires.0, c.requires.2.view.named)

pub returns-in-Some : goal.returns-in-Some
returns-in-Some c =
    symbol c.requires.2 _ c.write_version-scope.ensures (self_one c.requires.2 c.self_type.ensures c.in-Some.is
    c.item-self_type.ensures.1 c.item-self_type.ensures.0 c.push_name-receiver.ensures) c.push_name-in-Some.ensures
