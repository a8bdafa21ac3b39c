-- syntax/symbol.rs: "Segments joined by `$`".
use Rattle.std.specs.Prelude.{List, [], ◌∷◌, ◌++◌, ℕ}
use Rattle.lexical.specs.Bytes.{bytes}

-- each segment behind a `$`
unfoldable pub push_all : List (List ℕ) → List ℕ
push_all [] = []
push_all (segment ∷ segments) = bytes "$" ++ segment ++ push_all segments

unfoldable pub join : List (List ℕ) → List ℕ
join [] = []
join (segment ∷ segments) = segment ++ push_all segments
