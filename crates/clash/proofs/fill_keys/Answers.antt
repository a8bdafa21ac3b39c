use native.Mathlib.Omega.{arith}
use mathlib.Core.Path.{◌≡◌, ap}
use lib.ListN.{length, length-set}
use Rattle.names.specs.Digests.{digest}
use Rattle.names.proofs.NameLaws.{digests_length}
use Rattle.view.specs.Values.{item_no}
use Rattle.clash.specs.Clashes.{own_name}
use Rattle.rules.proofs.SearchLaws.{filled_turn}
use Rattle.clash.proofs.ViewLaws.{key_there}
use Rattle.clash.proofs.fill_keys.Goals as goal

pub bounds-digests-name : goal.bounds-digests-name
bounds-digests-name c =
    omega (
      arith,
      ap length c.requires.0.digested,
      digests_length c.args.s.now c.args.names.now,
      c.own_name-name.ensures.0,
    )

pub loop-i-preserved : goal.loop-i-preserved
loop-i-preserved c = (
  simp length-set (omega arith),
  filled_turn (λ k x. x ≡ digest (own_name (item_no c.args.s.now
      c.args.names.now c.args.items.now k))) c.loop-i.keys c.loop-i.i (omega arith) (key_there c.args.s.now
      c.args.names.now c.own_name-name.result c.requires.0.digested c.own_name-name.ensures.0
      c.own_name-name.ensures.1) c.loop-i.invariant.1,
)
