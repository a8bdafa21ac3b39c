use native.Mathlib.Omega.{arith}
use mathlib.Core.Path.{refl}
use lib.ListN.{length-set}
use Rattle.cursor.specs.Checking.{position_of}
use Rattle.cursor.proofs.TableLaws.{placed_got, placed_fault, fill_none, fill_turn, fill_stop, fill_done}
use Rattle.lexical.specs.Names.{table_of}
use Rattle.format.specs.Decoding.{table_name}
use Rattle.names.specs.Digests.{digest_of}
use Rattle.names.proofs.DigestLaws.{digested, undigested, digest_got, digest_fault}
use Rattle.names.proofs.check_names.Goals as goal

pub loop-i-init : goal.loop-i-init
loop-i-init c = (refl, refl, fill_none _ _ _ _ _, fill_none _ _ _ _ _)

pub returns-in_err-name : goal.returns-in_err-name
returns-in_err-name c =
    let d = table_name (table_of c.args.edition) in
    let e = undigested c.check_name.ensures c.in_err-name.was in (
      fill_stop (position_of d) _ _ _ c.loop-i.invariant.2 (omega arith) c.from_residual.ensures.1 (placed_fault d e),
      fill_stop (digest_of d) _ _ _ c.loop-i.invariant.3 (omega arith) c.from_residual.ensures.1 (digest_fault d e),
    )

pub loop-i-preserved : goal.loop-i-preserved
loop-i-preserved c =
    let d = table_name (table_of c.args.edition) in
    let q = digested c.check_name.ensures c.in_ok-name.was in (
      simp length-set (omega arith),
      simp length-set (omega arith),
      fill_turn (position_of d) _ _ _ c.loop-i.invariant.2 (omega arith) (omega arith) (placed_got d q.1),
      fill_turn (digest_of d) _ _ _ c.loop-i.invariant.3 (omega arith) (omega arith) (digest_got d q.1 q.2),
    )

pub returns : goal.returns
returns c =
    let d = table_name (table_of c.args.edition) in (
      fill_done (position_of d) _ _ _ c.loop-i.invariant.2 (omega arith) (omega arith),
      fill_done (digest_of d) _ _ _ c.loop-i.invariant.3 (omega arith) (omega arith),
    )
