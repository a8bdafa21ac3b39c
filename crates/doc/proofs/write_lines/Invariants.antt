use mathlib.Core.List.{◌++◌}
use Prim.Native.Nat.{◌-◌}
use Rattle.lexical.specs.Bytes.{bytes}
use Rattle.lexical.specs.Decimal.{pick_text}
use Rattle.sink.specs.Sink.{sink}
use Rattle.doc.proofs.DocLaws.{Writing}
use Rattle.doc.proofs.write_lines.Given as goal

abbrev pub invariant-loop : goal.invariant-loop
invariant-loop w =
    Writing (λ l. pick_text w.doxygen (bytes "///") (bytes "//") ++ l ++ bytes "\n") w.s w.n w.initial.next.at (w.n
    - w.counter) w.next.at (sink w.initial.out w.initial.here) (sink w.out w.here)
