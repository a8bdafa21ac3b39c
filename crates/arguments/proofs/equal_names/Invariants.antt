use mathlib.Core.Path.{◌≡◌}
use mathlib.Core.List.{[]}
use mathlib.Core.Bool.{false}
use Prim.Native.Nat.{◌+◌}
use lib.ListN.{get_or, drop}
use Rattle.lexical.specs.Bytes.{same}
use Rattle.rules.specs.Rules.{any, twice}
use Rattle.arguments.specs.Arguments.{names_of}
use Rattle.arguments.proofs.equal_names.Given as goal

abbrev pub invariant-loop-j : goal.invariant-loop-j
invariant-loop-j l =
    (l.found ≡ false) × (any (same (get_or (names_of l.s l.names l.numbers) l.i [])) (drop (l.i + 1) (names_of l.s
    l.names l.numbers)) ≡ any (same (get_or (names_of l.s l.names l.numbers) l.i [])) (drop l.j (names_of l.s l.names
    l.numbers)))

abbrev pub invariant-pairs : goal.invariant-pairs
invariant-pairs l =
    (l.found ≡ false) × (twice same (names_of l.s l.names l.numbers) ≡ twice same (drop l.i (names_of l.s l.names
    l.numbers)))
