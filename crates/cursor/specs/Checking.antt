-- What the code that walks a sheet promises, by the decoder of the definition that it stands for.
use Rattle.std.specs.Prelude.{◌≡◌, List, [], ◌∷◌, ℕ, ◌-◌, ◌≤◌, ◌<◌, leb, length, take, get_or, Result, Ok, Err}
use Rattle.refusal.specs.declared.Refusal.{Refusal}
use Rattle.refusal.specs.declared.Refusal.TheVariants.{CutSheet, Edition, BadName, LooseIndex, BadKind, TooDeep}
use Rattle.refusal.specs.declared.Refusal.TheVariants.{BadComment, Tail, WrongPart, Taken, UnfitArgument, Ring}
use Rattle.refusal.specs.declared.Refusal.TheVariants.{Overrun}
use Rattle.format.specs.Limits.{most_bytes, most_bits}
use Rattle.format.specs.Decode.{Got, fault, got, Dec, pick, after}
use Rattle.cursor.specs.declared.Cursor.{Cursor}
use Rattle.cursor.specs.declared.Found.{Found}

-- no longer than a sheet may be
abbrev pub Limited : List ℕ → Type 0
Limited s = length s ≤ most_bytes

-- ---- fields

-- the value and the position behind it, or the refusal
abbrev pub field_of : Got ℕ → Result Found Refusal
field_of (fault e) = Err e
field_of (got v n) = Ok (record { value = v; next = record { at = n } })

-- a field that was read is the decoder's p
pub record ReadsField (p : Got ℕ) (r : Result Found Refusal) : Type 0 where
  pub field : r ≡ field_of p

-- ---- checkers

-- the position or the refusal, without the value
abbrev pub step_of : {A : Type 0} → Got A → Result Cursor Refusal
step_of (fault e) = Err e
step_of (got x n) = Ok (record { at = n })

-- a checker's answer is that of the decoder's p
pub record Checks {A : Type 0} (p : Got A) (r : Result Cursor Refusal) : Type 0 where
  pub step : r ≡ step_of p

-- ---- checkers that answer by one number

-- the refusals by number; 0 is none's
abbrev pub refusals : List Refusal
refusals =
    Overrun ∷ CutSheet ∷ Edition ∷ BadName ∷ LooseIndex ∷ BadKind ∷ TooDeep ∷ BadComment ∷ Tail ∷ WrongPart ∷ Taken ∷
    UnfitArgument ∷ Ring ∷ Overrun ∷ []

unfoldable pub refusal_of : ℕ → Refusal
refusal_of n = get_or refusals n Overrun

-- what a number says: a position, or behind the last one a refusal's number
unfoldable pub step_in : ℕ → Result Cursor Refusal
step_in r = pick (leb r most_bits) (Ok (record { at = r })) (Err (refusal_of (r - most_bits)))

-- ---- tables that are filled

-- the position at which d reads, where it reads anything
abbrev pub position_of : {A : Type 0} → Dec A → Dec ℕ
position_of d s at = after (d s at) (λ x n. got at n)

-- what the answer r says, where the first n entries of b were to be filled
abbrev pub filled_of : Result Cursor Refusal → ℕ → List ℕ → Got (List ℕ)
filled_of (Ok c) n b = got (take n b) c.at
filled_of (Err e) n b = fault e

-- the first n entries of b are the decoder's p
pub record Fills (p : Got (List ℕ)) (r : Result Cursor Refusal) (n : ℕ) (b : List ℕ) : Type 0 where
  pub filled : p ≡ filled_of r n b

-- random access: n values, and at the i-th of the offsets d reads the i-th value
pub record Table {A : Type 0} (d : Dec A) (s : List ℕ) (n : ℕ) (offsets : List ℕ) (values : List A) : Type 0 where
  pub count : length values ≡ n
  pub each : (i : ℕ) (z : A) → i < n → (m : ℕ) × (d s (get_or offsets i 0) ≡ got (get_or values i z) m)
