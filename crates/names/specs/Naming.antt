-- The names of a sheet by number, as functions of its bytes and of the table of their positions.
use Rattle.std.specs.Prelude.{List, [], map, ℕ, ◌<◌, ◌≤◌, length, get_or}
use Rattle.format.specs.Limits.{most_names}
use Rattle.format.specs.Sheet.{Name}
use Rattle.format.specs.Decoding.{name}
use Rattle.cursor.specs.Checking.{Limited}
use Rattle.cursor.specs.Yielding.{value_or, Yields}

-- the name at a position
unfoldable pub name_at : List ℕ → ℕ → Name
name_at s at = value_or [] (name s at)

-- the names of a table of positions
unfoldable pub names_at : List ℕ → List ℕ → List Name
names_at s names = map (name_at s) names

-- at each position of the table stands a name
pub record Named (s names : List ℕ) : Type 0 where
  pub limited : Limited s
  pub few : length names ≤ most_names
  pub each : (i : ℕ) → i < length names → Yields (name s (get_or names i 0)) (name_at s (get_or names i 0))
