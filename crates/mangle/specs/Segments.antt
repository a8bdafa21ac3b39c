-- Segments in a row.
use Rattle.std.specs.Prelude.{List, [], ◌∷◌, ◌++◌, ℕ}

-- each segment between two texts
unfoldable pub each_between : List ℕ → List ℕ → List (List ℕ) → List ℕ
each_between before behind [] = []
each_between before behind (segment ∷ segments) = before ++ segment ++ behind ++ each_between before behind segments
