use native.Mathlib.Omega.{arith}
use native.Mathlib.Nat.{mod-lt}
use mathlib.Core.Path.{◌≡◌, refl, sym, ◌∙◌}
use Prim.Native.Nat.{◌-◌}
use lib.Pow.{pow_pos}
use Rattle.walk.proofs.WindowLaws.{whole_rest, shifted, shifted_pos, shape_turn, shape_end}
use Rattle.walk.specs.Windows.{settled}
use mathlib.Core.Bool.{true}
use Rattle.walk.proofs.walk_shape.Goals as goal
use Rattle.walk.proofs.walk_shape.Goals.{then-loop-low-test+else-not-is_settled, else-loop-low-test}

pub loop-low-init : goal.loop-low-init
loop-low-init c = (omega arith, c.requires.1, whole_rest c.args.x c.args.bits c.requires.2, refl)

pub nonzero_rem-rest : goal.nonzero_rem-rest
nonzero_rem-rest c = shifted_pos (c.loop-low.low - 7) (omega (arith, c.requires.0))

pub loop-low-preserved : goal.loop-low-preserved
loop-low-preserved c = (
  omega arith,
  omega arith,
  rw (shifted (c.loop-low.low - 7) (omega (arith, c.requires.0))),
  rw
      (shifted (c.loop-low.low - 7) (omega (arith, c.requires.0))) (shape_turn c.args.x c.loop-low.low c.args.shape
      c.loop-low.q _ c.loop-low.invariant.2 c.loop-low.invariant.3 c.loop-low-test.true c.loop-low.invariant.1
      c.char_in.ensures c.step_shape-q.ensures),
)

pub returns-then-low-eq0 : goal.returns-then-low-eq0
returns-then-low-eq0 c =
    shape_end c.args.x c.loop-low.low c.args.shape c.loop-low.q _ c.loop-low.invariant.2 c.loop-low.invariant.3
    c.if-low-eq0.true

pub shape_behind-requires : goal.shape_behind-requires
shape_behind-requires c =
    let done : settled c.loop-low.q ≡ true =
    elim c.loop-low-test.branch [
      | then-loop-low-test+else-not-is_settled w ↦ sym w.is_settled.ensures ∙ w.if-not-is_settled.false
      | else-loop-low-test w ↦ let n : c.loop-low.low ≡ 0 → ⊥ = c.if-low-eq0.false in absurd (omega arith)
    ] in (
      done,
      omega (arith, c.requires.0),
      c.loop-low.invariant.1,
      rw c.loop-low.invariant.2 (mod-lt c.args.x
          (pow_pos c.loop-low.low)),
    )

pub returns : goal.returns
returns c = c.shape_behind.ensures ∙ sym c.loop-low.invariant.3
