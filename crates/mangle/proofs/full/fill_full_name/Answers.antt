use native.Mathlib.Omega.{arith}
use Rattle.mangle.proofs.FullLaws.{filled_item}
use Rattle.mangle.proofs.full.fill_full_name.Goals as goal

pub returns : goal.returns
returns c =
    filled_item c.requires.0 c.requires.2 c.write_full_name-count.ensures c.requires.3 (omega arith)
    c.put_text.ensures (omega arith) (omega arith)
