use native.Mathlib.Omega.{arith}
use Prim.Native.Nat.{◌/◌}
use Rattle.lexical.specs.Bytes.{chars_in}
use Rattle.words.specs.Words.{words_in}
use Rattle.words.proofs.TableLaws.{table_count, length_short}
use Rattle.walk.specs.Windows.{walk_word}
use Rattle.walk.proofs.WindowLaws.{word_begin, word_step, step_fits, word_over, word_done}
use Rattle.walk.proofs.walk_word.Goals as goal

pub loop-down-init : goal.loop-down-init
loop-down-init c = (
  omega arith,
  c.requires.3,
  c.requires.1,
  word_begin (words_in c.args.t.now) c.args.word c.args.matched c.args.x
      c.args.bits c.requires.3 c.requires.4,
)

pub char_in-requires : goal.char_in-requires
char_in-requires c = omega (arith, c.requires.2)

pub step_word-w-requires : goal.step_word-w-requires
step_word-w-requires c =
    (c.requires.0, c.if-w-lt-NONE.true, c.loop-down.invariant.2 (rw (table_count c.requires.0) c.if-w-lt-NONE.true))

pub overflow_add-m : goal.overflow_add-m
overflow_add-m c =
    record {
      fits = omega (
        arith,
        length_short c.requires.0 c.loop-down.w c.if-w-lt-NONE.true,
        c.loop-down.invariant.2
            (rw (table_count c.requires.0) c.if-w-lt-NONE.true),
      );
    }

pub loop-down-preserved : goal.loop-down-preserved
loop-down-preserved c = (
  omega arith,
  omega arith,
  step_fits (words_in c.args.t.now) c.loop-down.w c.loop-down.m c.char_in.result
      (rw (table_count c.requires.0) c.if-w-lt-NONE.true) c.step_word-w.ensures c.loop-down.invariant.2,
  word_step
      (words_in c.args.t.now) (walk_word (words_in c.args.t.now) c.args.word c.args.matched (chars_in (c.args.bits /
      7) c.args.x)) c.loop-down.w c.loop-down.m c.loop-down.down c.args.x (rw (table_count c.requires.0)
      c.if-w-lt-NONE.true) c.loop-down-test.true c.loop-down.invariant.1 c.char_in.ensures c.step_word-w.ensures
      c.loop-down.invariant.3,
)

pub returns-else-w-lt-NONE : goal.returns-else-w-lt-NONE
returns-else-w-lt-NONE c =
    word_over (words_in c.args.t.now) (walk_word (words_in c.args.t.now) c.args.word c.args.matched
    (chars_in (c.args.bits / 7) c.args.x)) c.loop-down.w c.loop-down.m c.args.x c.loop-down.down
    (rw (table_count c.requires.0) c.if-w-lt-NONE.false) c.loop-down.invariant.3

pub returns-after-loop-down : goal.returns-after-loop-down
returns-after-loop-down c =
    word_done (words_in c.args.t.now) (walk_word (words_in c.args.t.now) c.args.word c.args.matched
    (chars_in (c.args.bits / 7) c.args.x)) c.loop-down.w c.loop-down.m c.args.x c.loop-down.down
    c.loop-down-test.false c.loop-down.invariant.3
