use mathlib.Core.Path.{◌∙◌}
use Prim.Native.Nat.{◌%◌}
use lib.ListN.{get_or, length-set}
use Rattle.marks.proofs.KeyLaws.{apart_none, keys_hit, keys_turn}
use Rattle.marks.proofs.repeats_in.Goals as goal

pub loop-i-init : goal.loop-i-init
loop-i-init c = (c.requires.1, apart_none _ _)

pub returns-then-seen_before : goal.returns-then-seen_before
returns-then-seen_before c =
    keys_hit c.args.keys.now c.loop-i.seen c.loop-i.i c.loop-i-test.true c.seen_before.ensures c.if-seen_before.true

pub loop-i-preserved : goal.loop-i-preserved
loop-i-preserved c = (
  length-set c.loop-i.seen (get_or c.args.keys.now c.loop-i.i 0 % 256) 1 ∙ c.loop-i.invariant.0,
  keys_turn c.args.keys.now c.loop-i.seen c.loop-i.i c.loop-i-test.true c.seen_before.ensures
      c.loop-i.invariant.0 c.loop-i.invariant.1 c.if-seen_before.false,
)
