use native.Mathlib.Omega.{arith}
use mathlib.Core.Path.{refl}
use Rattle.words.proofs.TableLaws.{seek_begin, seek_found, seek_past, seek_next, seek_apart, seek_shares, seek_end}
use Rattle.words.proofs.seek.Goals.{else-next-lt92-via-then-next-lt92+else-shared_by-matched, else-next-lt92-via-else-next-lt92}
use Rattle.words.proofs.seek.Goals as goal

pub loop-w-init : goal.loop-w-init
loop-w-init c = let b = seek_begin c.requires.0 _ _ _ c.requires.2 refl c.requires.1 in (b.1, b.2)

pub returns-in-Same : goal.returns-in-Same
returns-in-Same c =
    seek_found c.requires.0 _ _ _ c.requires.2 _ (omega arith) c.loop-w.invariant.0 c.loop-w.invariant.1
    c.compare.ensures c.in-Same.is

pub returns-in-Larger : goal.returns-in-Larger
returns-in-Larger c =
    seek_past c.requires.0 _ _ _ c.requires.2 _ (omega arith) c.loop-w.invariant.0 c.loop-w.invariant.1
    c.compare.ensures c.in-Larger.is

pub returns-then-shared_by-matched : goal.returns-then-shared_by-matched
returns-then-shared_by-matched c =
    let next = seek_next c.requires.0 _ _ _ c.requires.2 _ (omega arith) c.loop-w.invariant.0 c.loop-w.invariant.1
    c.compare.ensures c.in-Other.is in
    seek_apart c.requires.0 _ _ _ c.requires.2 _ (omega arith) c.loop-w.invariant.0 c.loop-w.invariant.1 refl next
    c.if-next-lt92.true c.shared_by.ensures c.if-shared_by-matched.true

pub loop-w-preserved : goal.loop-w-preserved
loop-w-preserved c = (
  seek_next c.requires.0 _ _ _ c.requires.2 _ (omega arith) c.loop-w.invariant.0 c.loop-w.invariant.1
      c.compare.ensures c.in-Other.is,
  elim c.else-next-lt92.branch [
    | else-next-lt92-via-then-next-lt92+else-shared_by-matched w ↦
        seek_shares c.requires.0 _ _ _ c.requires.2 _ (omega arith) c.loop-w.invariant.0 c.loop-w.invariant.1 refl
        w.shared_by.ensures w.if-shared_by-matched.false
    | else-next-lt92-via-else-next-lt92 w ↦ λ k. absurd (omega (arith, w.if-next-lt92.false, k))
  ],
)

pub returns : goal.returns
returns c = seek_end c.requires.0 _ _ _ c.requires.2 _ (omega arith) (omega arith) c.loop-w.invariant.0
