use Rattle.cursor.proofs.WidthLaws.{width_le}
use Rattle.types.proofs.MarkLaws.{index_there, index_known}
use Rattle.types.proofs.check_item_index.Goals as goal

pub extract-index-requires : goal.extract-index-requires
extract-index-requires c =
    (c.requires, width_le _ c.width.ensures, (index_there _ _ _ c.check_index.ensures c.in_ok-next.was c.width.ensures).0)

pub returns : goal.returns
returns c =
    index_known _ _ _ c.check_index.ensures c.in_ok-next.was c.width.ensures c.extract-index.ensures c.set_mark.ensures
