use Rattle.clash.proofs.ViewLaws.{owner_none, owner_one, lists_none, lists_differ, lists_both, name_of_number}
use Rattle.view.proofs.FormLaws.{self_below}
use Rattle.view.specs.Values.{item_no}
use Rattle.clash.proofs.same_owner.Goals as goal

pub returns-in-None : goal.returns-in-None
returns-in-None c =
    let e = c.self_type-in-None.ensures in
    lists_none _ (λ i. (item_no c.args.s.now c.args.names.now c.args.items.now i).cxx)
    (owner_none c.requires.1 c.self_type.ensures c.in-None.is)
    c.is_none.ensures (owner_none c.requires.2 e) (λ i. owner_one c.requires.2 e)

pub returns-in-None-self_type : goal.returns-in-None-self_type
returns-in-None-self_type c =
    lists_differ (owner_one c.requires.1 c.self_type.ensures c.in-Some.is)
    (owner_none c.requires.2 c.self_type-in-Some.ensures c.in-None-self_type.is)

pub item-v-requires : goal.item-v-requires
item-v-requires c =
    (c.requires.0.whole, self_below c.requires.1.view.form c.self_type.ensures c.in-Some.is)

pub item-w-requires : goal.item-w-requires
item-w-requires c =
    (c.requires.0.whole, self_below c.requires.2.view.form c.self_type-in-Some.ensures c.in-Some-self_type.is)

pub same_name-requires : goal.same_name-requires
same_name-requires c =
    (c.requires.0.whole.named, c.requires.0.digested, c.item-v.ensures.1.view.named, c.item-w.ensures.1.view.named)

pub returns-in-Some-self_type : goal.returns-in-Some-self_type
returns-in-Some-self_type c =
    lists_both (owner_one c.requires.1 c.self_type.ensures c.in-Some.is)
    (owner_one c.requires.2 c.self_type-in-Some.ensures c.in-Some-self_type.is)
    (name_of_number c.item-v.ensures.1 c.item-v.ensures.0) (name_of_number c.item-w.ensures.1 c.item-w.ensures.0)
    c.same_name.ensures
