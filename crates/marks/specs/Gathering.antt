-- What is promised of code that gathers facts of what it decodes.
use Rattle.std.specs.Prelude.{◌≡◌, List, [], ◌∷◌, Result, Ok, Err}
use Rattle.format.specs.Decode.{Got, fault, got, after}
use Rattle.cursor.specs.declared.Cursor.{Cursor}
use Rattle.refusal.specs.declared.Refusal.{Refusal}

-- the facts of a list: those of its entries, the first first
unfoldable pub each : {A S : Type 0} → (A → S → S) → List A → S → S
each f [] u = u
each f (x ∷ xs) u = each f xs (f x u)

-- where the decoder's p yields x, the facts u become f x u
abbrev pub gathered_of : {A S : Type 0} → (A → S → S) → Got A → S → Got S
gathered_of f p u = after p (λ x n. got (f x u) n)

-- what the answer r says, with the facts v behind it: of the facts nothing where it refuses
abbrev pub answered : {S : Type 0} → Result Cursor Refusal → S → Got S
answered (Ok c) v = got v c.at
answered (Err e) v = fault e

-- the answer is that of the decoder's p, and where p yields x the facts at entry, u, are f x u at exit
pub record Gathers {A S : Type 0} (f : A → S → S) (p : Got A) (u : S) (r : Result Cursor Refusal) (v : S) : Type 0 where
  pub gathered : gathered_of f p u ≡ answered r v
