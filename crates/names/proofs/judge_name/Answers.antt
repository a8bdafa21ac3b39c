use native.Mathlib.Omega.{arith}
use mathlib.Core.Path.{◌∙◌}
use Rattle.cursor.proofs.BitLaws.{bits_short, bits_lt}
use Rattle.words.specs.Words.{words_in}
use Rattle.words.proofs.WalkLaws.{fits_walk}
use Rattle.names.proofs.DigestLaws.{digest_turn, digest_end}
use Rattle.names.proofs.JudgeLaws.{state_turn, state_end, judged_good, judged_bad}
use Rattle.names.proofs.judge_name.Goals as goal

pub mix-h-requires : goal.mix-h-requires
mix-h-requires c = (c.loop-next.invariant.2, omega (arith, bits_short _ _ _ c.extract_wide-x.ensures (omega arith)))

pub walk-q-requires : goal.walk-q-requires
walk-q-requires c = (
  c.requires.0,
  c.loop-next.invariant.4,
  omega (arith, c.min-bits.ensures),
  omega
      (arith, c.min-bits.ensures, c.loop-next.invariant.1),
  rw c.extract_wide-x.ensures (bits_lt _ _ _),
)

pub loop-next-preserved : goal.loop-next-preserved
loop-next-preserved c = (
  omega arith,
  omega arith,
  c.mix-h.ensures.1,
  c.loop-next.invariant.3 ∙ digest_turn _ _ c.loop-next-test.true
      c.loop-next.invariant.1 c.min-bits.ensures c.extract_wide-x.ensures c.mix-h.ensures.0,
  rw
      c.walk-q.ensures (fits_walk (words_in c.args.t.now) _ _ c.loop-next.invariant.4),
  c.loop-next.invariant.5 ∙
      state_turn (words_in c.args.t.now) _ _ c.loop-next-test.true c.loop-next.invariant.1
      c.min-bits.ensures c.extract_wide-x.ensures c.walk-q.ensures,
)

pub returns-then-verdict : goal.returns-then-verdict
returns-then-verdict c =
    judged_good c.requires.0 _ _ (c.loop-next.invariant.5 ∙ state_end (words_in c.args.t.now) _ _
    c.loop-next-test.false) (c.loop-next.invariant.3 ∙ digest_end _ _ c.loop-next-test.false)
    c.verdict.ensures c.if-verdict.true

pub returns : goal.returns
returns c =
    judged_bad c.requires.0 _ _ (c.loop-next.invariant.5 ∙ state_end (words_in c.args.t.now) _ _
    c.loop-next-test.false) (c.loop-next.invariant.3 ∙ digest_end _ _ c.loop-next-test.false)
    c.verdict.ensures c.if-verdict.false
