use native.Mathlib.Omega.{arith}
use mathlib.Core.Path.{refl, ap}
use lib.ListN.{length, length-set}
use Rattle.names.proofs.NameLaws.{digests_length}
use Rattle.arguments.proofs.ArgumentLaws.{noting_none, noting_turn, noting_stop, noting_done}
use Rattle.arguments.proofs.check_each.Goals as goal

pub loop-i-init : goal.loop-i-init
loop-i-init c = (c.requires.2, refl, refl, refl, noting_none _ _ _ _ _ _ _ _ _ _)

pub returns-then-a-gt-LAST : goal.returns-then-a-gt-LAST
returns-then-a-gt-LAST c =
    noting_stop _ _ _ _ _ _ _ _ c.loop-i.invariant.4 (omega arith) c.check_argument-a.ensures
    c.if-a-gt-LAST.true

pub bounds-digests-a : goal.bounds-digests-a
bounds-digests-a c =
    omega (
      arith,
      ap length c.requires.1,
      digests_length c.args.s.now c.args.names.now,
      c.check_argument-a.ensures.there (omega arith),
    )

pub loop-i-preserved : goal.loop-i-preserved
loop-i-preserved c = (
  omega arith,
  simp length-set (omega arith),
  simp length-set (omega arith),
  omega arith,
  noting_turn
      _ _ _ _ _ _ _ _ c.loop-i.invariant.4 (omega arith) c.check_argument-a.ensures c.requires.1 (omega arith)
      (omega arith) (omega arith),
)

pub returns : goal.returns
returns c =
    noting_done _ _ _ _ _ _ _ _ c.loop-i.invariant.4 (omega arith) (omega arith) c.loop-i.invariant.0
