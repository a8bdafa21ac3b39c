use Rattle.mangle.proofs.NameLaws.{layout}
use Rattle.mangle.proofs.mangle.write_operator.Goals as goal

pub push_name-receiver-requires : goal.push_name-receiver-requires
push_name-receiver-requires c = (c.requires.0, c.requires.1.view.named)

pub returns : goal.returns
returns c =
    layout c.requires.1 _ c.write_version-version.ensures c.push_name-receiver.ensures c.push-here.ensures
    c.push.ensures
