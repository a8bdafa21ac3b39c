-- How a table of marks is asked.
use Rattle.std.specs.Prelude.{List, Bool, false, ◌||◌, ℕ, zero, suc, ◌+◌, get_or, eqb}

-- one of the k numbers from i on passes the test
unfoldable pub some_from : (ℕ → Bool) → ℕ → ℕ → Bool
some_from test i zero = false
some_from test i (suc k) = test i || some_from test (i + 1) k

-- the table has a mark at this place
abbrev pub marked : List ℕ → ℕ → Bool
marked u k = eqb (get_or u k 0) 1
