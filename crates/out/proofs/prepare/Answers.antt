use Rattle.out.proofs.FlushLaws.{prepares}
use Rattle.out.proofs.PlaceLaws.{listed_places, place_settled}
use Rattle.out.proofs.prepare.Goals as goal

pub returns : goal.returns
returns c =
    rw (place_settled c.args.c.now (listed_places c.args.c.now c.requires.1) _) (prepares _ _ c.flush_blocks-f.ensures
    c.is_blank.ensures c.put_when-at.ensures)
