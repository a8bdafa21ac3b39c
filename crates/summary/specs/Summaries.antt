-- What is kept of a function's arguments, for all that a text says of them.
use Rattle.std.specs.Prelude.{◌≡◌, ℕ, ◌+◌, ◌<◌, ◌≤◌, false, List, ◌++◌, map, length, drop, ◌≢◌, slice_index}
use Rattle.bridge.specs.WriteType.{write_type_space}
use Rattle.rules.specs.Rules.{gather}
use Rattle.bridge.specs.Write.{commas, extern_arg, held_local, operand}
use Rattle.view.specs.declared.FunctionView.{FunctionView}
use Rattle.view.specs.Values.{Yields}
use Rattle.view.specs.Views.{comment_lines}
use Rattle.tables.specs.Tables.{items_of, function_of, Function, Arguments}
use Rattle.count_type.specs.Counts.{Counts}

-- the front of words: a view of each argument, the length of their text in the declaration and in the shim's head, that
-- of the locals that hold some of them and of the operands, each or 0, and the position of the comment
pub record Summary (s t : List ℕ) (f : FunctionView) (words : List ℕ) : Type 0 where
  pub room : f.arguments + 5 ≤ length words
  pub arguments : Arguments s t f words
  pub declared : Counts (commas false (map (extern_arg (items_of s t)) (function_of s t f.number).arguments))
      (slice_index words f.arguments)
  pub defined : Counts (commas false (map (λ a. write_type_space (items_of s t) a.type ++ a.name)
      (function_of s t f.number).arguments)) (slice_index words (f.arguments + 1))
  pub held : Counts (gather (held_local (items_of s t)) (function_of s t f.number).arguments)
      (slice_index words (f.arguments + 2))
  pub operands : Counts (commas false (map (operand (items_of s t)) (function_of s t f.number).arguments))
      (slice_index words (f.arguments + 3))
  pub comment : Yields (comment_lines s (slice_index words (f.arguments + 4))) (function_of s t f.number).comment

-- entry i of kept is 0, or says where the summary of function i begins
pub record Summaries (s t kept : List ℕ) : Type 0 where
  pub each : (f : FunctionView) → Function s t f → (slice_index kept f.number ≢ 0) →
      Summary s t f (drop (slice_index kept f.number) kept)

-- the summaries of the functions among the first i items that had room, one behind the other, from place 255 on up to
-- `end`
pub record Keeping (s t : List ℕ) (i end : ℕ) (kept : List ℕ) : Type 0 where
  pub first : 255 ≤ end
  pub near : end ≤ length kept
  pub small : length kept ≤ 65536
  pub each : (f : FunctionView) → Function s t f → f.number < i → (slice_index kept f.number ≢ 0) →
      (255 ≤ slice_index kept f.number) × (slice_index kept f.number + (f.arguments + 5) ≤ end) ×
      Summary s t f (drop (slice_index kept f.number) kept)
  pub later : (k : ℕ) → i ≤ k → k < 255 → slice_index kept k ≡ 0
