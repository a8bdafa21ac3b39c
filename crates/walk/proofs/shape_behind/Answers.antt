use native.Mathlib.Omega.{arith}
use mathlib.Core.Path.{refl, sym}
use Prim.Native.Nat.{◌≤◌}
use Rattle.words.proofs.ShapeLaws.{broken_stays}
use lib.Bits.{and_le_r}
use Rattle.lexical.proofs.LaneLaws.{lanes, name_marks, score_marks}
use Rattle.walk.proofs.WindowLaws.{Score, score_none, score_under, all_here, none_here, sum_room, window_broken, window_reserved, window_double, window_score, window_plain}
use Rattle.walk.proofs.shape_behind.Goals as goal
use Rattle.walk.proofs.shape_behind.Goals.{in-Empty, in-Underscore}

pub overflow_add-letters : goal.overflow_add-letters
unfolding lanes
overflow_add-letters c = record { fits = omega (arith, and_le_r c.args.x (lanes 8 31)) }

pub overflow_add-letters-2 : goal.overflow_add-letters-2
unfolding lanes
overflow_add-letters-2 c = record { fits = omega (arith, and_le_r c.args.x (lanes 8 31)) }

pub overflow_add-scores : goal.overflow_add-scores
unfolding lanes
overflow_add-scores c = record { fits = omega (arith, and_le_r c.args.x (lanes 8 63)) }

pub overflow_add-scores-2 : goal.overflow_add-scores-2
unfolding lanes
overflow_add-scores-2 c = record { fits = omega (arith, and_le_r c.args.x (lanes 8 63)) }

pub overflow_add-digits : goal.overflow_add-digits
unfolding lanes
overflow_add-digits c = record { fits = omega (arith, and_le_r c.args.x (lanes 8 63)) }

pub overflow_add-digits-2 : goal.overflow_add-digits-2
unfolding lanes
overflow_add-digits-2 c = record { fits = omega (arith, and_le_r c.args.x (lanes 8 63)) }

pub returns-then-good-bits : goal.returns-then-good-bits
unfolding lanes name_marks
returns-then-good-bits c =
    window_broken _ _ c.requires.0 (none_here c.args.x c.args.bits c.requires.1 c.requires.2 c.requires.3
    c.if-good-bits.true)

pub returns-in-Reserved : goal.returns-in-Reserved
unfolding lanes name_marks
returns-in-Reserved c =
    rw c.in-Reserved.is (window_reserved _ (all_here c.args.x c.args.bits c.requires.1 c.requires.2 c.requires.3
    c.if-good-bits.false))

pub returns-in-Broken : goal.returns-in-Broken
returns-in-Broken c = rw c.in-Broken.is (sym (broken_stays _))

pub overflow_add-u : goal.overflow_add-u
unfolding lanes score_marks
overflow_add-u c =
    let low : c.match-shape.score ≤ 64 =
    elim c.match-shape.branch [
      | in-Empty w ↦ omega arith
      | in-Underscore w ↦ omega arith
    ] in
    record { fits = sum_room c.args.x c.args.bits c.requires.1 c.requires.2 c.requires.3 _ low }

pub returns-then-u-ne0 : goal.returns-then-u-ne0
unfolding lanes name_marks score_marks
returns-then-u-ne0 c =
    let s : Score c.args.shape c.match-shape.score =
    elim c.match-shape.branch [
      | in-Empty w ↦ score_none c.requires.0 w.in-Empty.is w.score-is
      | in-Underscore w ↦ score_under w.in-Underscore.is w.score-is
    ] in
    window_double c.args.x c.args.bits c.requires.1 c.requires.2 c.requires.3 s refl (all_here c.args.x c.args.bits
    c.requires.1 c.requires.2 c.requires.3 c.if-good-bits.false) c.if-u-ne0.true

pub returns-then-u-ne0-2 : goal.returns-then-u-ne0-2
unfolding lanes name_marks score_marks
returns-then-u-ne0-2 c =
    let s : Score c.args.shape c.match-shape.score =
    elim c.match-shape.branch [
      | in-Empty w ↦ score_none c.requires.0 w.in-Empty.is w.score-is
      | in-Underscore w ↦ score_under w.in-Underscore.is w.score-is
    ] in
    window_score c.args.x c.args.bits c.requires.1 c.requires.2 c.requires.3 s refl (all_here c.args.x c.args.bits
    c.requires.1 c.requires.2 c.requires.3 c.if-good-bits.false) c.if-u-ne0.false c.if-u-ne0-2.true

pub returns : goal.returns
unfolding lanes name_marks score_marks
returns c =
    let s : Score c.args.shape c.match-shape.score =
    elim c.match-shape.branch [
      | in-Empty w ↦ score_none c.requires.0 w.in-Empty.is w.score-is
      | in-Underscore w ↦ score_under w.in-Underscore.is w.score-is
    ] in
    window_plain c.args.x c.args.bits c.requires.1 c.requires.2 c.requires.3 s refl (all_here c.args.x c.args.bits
    c.requires.1 c.requires.2 c.requires.3 c.if-good-bits.false) c.if-u-ne0.false c.if-u-ne0-2.false
