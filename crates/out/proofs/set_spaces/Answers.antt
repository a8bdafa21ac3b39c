use Rattle.out.specs.State.{content_of}
use Rattle.out.proofs.StateLaws.{standing_turned, sets, sets_outermost}
use Rattle.out.proofs.PlaceLaws.{listed_places, place_spaces}
use Rattle.out.proofs.set_spaces.Goals as goal

pub returns-then-depth-eq0 : goal.returns-then-depth-eq0
unfolding content_of
returns-then-depth-eq0 c = sets_outermost _ _ c.requires.3 c.if-c-eq0.true c.if-depth-eq0.true

pub begin_namespaces-requires : goal.begin_namespaces-requires
begin_namespaces-requires c =
    (c.requires.0, c.requires.1, standing_turned c.end_namespaces.ensures c.requires.2, c.requires.3)

pub returns : goal.returns
returns c =
    rw (place_spaces _ (listed_places _ (standing_turned c.begin_namespaces.ensures (standing_turned
    c.end_namespaces.ensures c.requires.2)).there.stands.listed) _ _) (sets _ _ c.requires.3
    c.end_namespaces.ensures c.begin_namespaces.ensures)
