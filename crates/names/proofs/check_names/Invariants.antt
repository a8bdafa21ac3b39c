use mathlib.Core.Path.{◌≡◌}
use lib.ListN.{length}
use Rattle.cursor.specs.Checking.{position_of}
use Rattle.cursor.proofs.TableLaws.{Filling}
use Rattle.lexical.specs.Names.{table_of}
use Rattle.format.specs.Decoding.{table_name}
use Rattle.names.specs.Digests.{digest_of}
use Rattle.names.proofs.check_names.Given as goal

abbrev pub invariant-loop-i : goal.invariant-loop-i
invariant-loop-i l =
    (length l.offsets ≡ length l.initial.offsets) × (length l.digests ≡ length l.initial.digests) ×
    Filling (position_of (table_name (table_of l.edition))) l.s l.n l.initial.next.at l.i l.offsets l.next.at ×
    Filling (digest_of (table_name (table_of l.edition))) l.s l.n l.initial.next.at l.i l.digests l.next.at
