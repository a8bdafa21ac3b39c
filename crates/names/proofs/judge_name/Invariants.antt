use mathlib.Core.Path.{◌≡◌}
use Prim.Native.Nat.{◌/◌, ◌%◌, ◌^◌, ◌<◌, ◌≤◌, ◌-◌}
use Rattle.text.specs.Text.{chars_at}
use Rattle.words.specs.Walking.{walk, Fits, start}
use Rattle.words.specs.Words.{words_in}
use Rattle.names.specs.Digests.{digest, digest_from}
use Rattle.names.proofs.judge_name.Given as goal

abbrev pub invariant-loop-next : goal.invariant-loop-next
invariant-loop-next l =
    (l.next ≤ l.end) × ((l.end - l.next) % 7 ≡ 0) × (l.h < 2 ^ 32) × (digest (chars_at l.s l.at l.n) ≡ digest_from l.h
    (chars_at l.s l.next ((l.end - l.next) / 7))) × Fits (words_in l.t) l.q × (walk (words_in l.t) start
    (chars_at l.s l.at l.n) ≡ walk (words_in l.t) l.q (chars_at l.s l.next ((l.end - l.next) / 7)))

abbrev pub decreases-loop-next : goal.decreases-loop-next
decreases-loop-next l = l.end - l.next
