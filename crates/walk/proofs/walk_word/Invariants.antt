use mathlib.Core.Path.{◌≡◌}
use Prim.Native.Nat.{◌≤◌, ◌%◌, ◌/◌, ◌^◌}
use Rattle.lexical.specs.Bytes.{chars_in}
use Rattle.words.specs.declared.Shape.TheVariants.{Empty}
use Rattle.words.specs.Walking.{Fits}
use Rattle.words.specs.Words.{words_in}
use Rattle.walk.specs.Windows.{walk_word}
use Rattle.walk.proofs.WindowLaws.{Alike}
use Rattle.walk.proofs.walk_word.Given as goal

abbrev pub invariant-loop-down : goal.invariant-loop-down
invariant-loop-down l =
    (l.down ≤ l.bits) × (l.down % 7 ≡ 0) × Fits (words_in l.t) (record { word = l.w; matched = l.m; shape = Empty }) ×
    Alike (words_in l.t) (walk_word (words_in l.t) l.initial.w l.initial.m (chars_in (l.bits / 7) l.x))
    (walk_word (words_in l.t) l.w l.m (chars_in (l.down / 7) (l.x % 2 ^ l.down)))

abbrev pub decreases-loop-down : goal.decreases-loop-down
decreases-loop-down l = l.down
