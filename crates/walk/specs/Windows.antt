-- The two halves of a walk over a window: the word, and the shape.
use Rattle.std.specs.Prelude.{List, Bool, true, false, ℕ}
use Rattle.words.specs.declared.Shape.{Shape}
use Rattle.words.specs.declared.Shape.TheVariants.{Empty, Leading, Plain, Underscore, Reserved, Broken}
use Rattle.words.specs.declared.State.{State}
use Rattle.words.specs.Walking.{walk}

-- a walk from a word and a number of characters; its shape is not asked for
abbrev pub walk_word : List (List ℕ) → ℕ → ℕ → List ℕ → State
walk_word words i m cs = walk words (record { word = i; matched = m; shape = Empty }) cs

-- a shape that no longer waits for the first characters
abbrev pub settled : Shape → Bool
settled Empty = false
settled Leading = false
settled Plain = true
settled Underscore = true
settled Reserved = true
settled Broken = true
