-- Loops over the arguments of a function.
use mathlib.Core.Path.{◌≡◌}
use mathlib.Core.List.{List, [], map}
use mathlib.Core.Bool.{Bool, true}
use Prim.Native.Nat.{ℕ, ◌+◌, ◌<◌, ◌≤◌}
use lib.ListN.{length, get_or}
use Rattle.lexical.specs.Bytes.{bytes}
use Rattle.lexical.specs.Decimal.{pick_text}
use Rattle.format.specs.Types.{str}
use Rattle.format.specs.Sheet.{Argument}
use Rattle.rules.specs.Rules.{gather}
use Rattle.bridge.specs.Write.{commas}
use Rattle.sink.specs.Sink.{Sink, Wrote}
use Rattle.view.specs.declared.FunctionView.{FunctionView}
use Rattle.view.specs.Values.{function_at, argument_at}
use Rattle.view.specs.declared.ArgumentView.{ArgumentView}
use Rattle.view.specs.Views.{ArgumentOf, FactsOf, unpacked, ArgumentsAt}
use Rattle.shape.proofs.FunctionLaws.{arguments_count}
use Rattle.shape.proofs.CommaLaws.{Listed, listed_turn, listed_all, Gathered, gathered_turn, gathered_all}

module _ (g : Argument → List ℕ) {s names items offsets : List ℕ} {f : FunctionView}
    (a : ArgumentsAt s names items f offsets) where
  abbrev arguments : List Argument
  arguments = (function_at s names items f.number).arguments

  module _ {j : ℕ} (h : j < f.arguments) where
    there : j < length arguments
    there = rw (arguments_count a) h

    pub listed_argument : {b comma : Bool} {r t u v : Sink} → Listed g b arguments j comma r t →
        Wrote t (pick_text comma (bytes ", ") []) u → Wrote u (g (argument_at s names items f.number j)) v →
        Listed g b arguments (j + 1) true r v
    unfolding argument_at
    listed_argument p q w = listed_turn g _ arguments (record { name = []; type = str }) there p q w

    pub gathered_argument : {r t u : Sink} → Gathered g arguments j r t →
        Wrote t (g (argument_at s names items f.number j)) u → Gathered g arguments (j + 1) r u
    unfolding argument_at
    gathered_argument p w = gathered_turn g arguments (record { name = []; type = str }) there p w

  module _ {j : ℕ} (h : f.arguments ≤ j) where
    pub listed_arguments : {b comma : Bool} {r t : Sink} → Listed g b arguments j comma r t →
        Wrote r (commas b (map g arguments)) t
    listed_arguments p = listed_all g _ arguments (rw (arguments_count a) h) p

    pub gathered_arguments : {r t : Sink} → Gathered g arguments j r t → Wrote r (gather g arguments) t
    gathered_arguments p = gathered_all g arguments (rw (arguments_count a) h) p

-- the view of argument j
pub argument_at_lem : {s names items offsets : List ℕ} {f : FunctionView} {j : ℕ} {v : ArgumentView} →
    ArgumentsAt s names items f offsets → j < f.arguments → v ≡ unpacked (get_or offsets j 0) →
    ArgumentOf s names (length items) (argument_at s names items f.number j) v × FactsOf s names items v
argument_at_lem {j = j} a h e = rw e (a.each j h)
