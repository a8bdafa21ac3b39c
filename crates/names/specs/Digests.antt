-- Digests: numbers that tell most unequal names apart.
use Rattle.std.specs.Prelude.{◌≡◌, List, [], ◌∷◌, map, Bool, true, false, ℕ, zero, suc, ◌+◌, ◌*◌, ◌/◌, ◌%◌}
use Rattle.std.specs.Prelude.{Option, Some, None, Result, Ok, Err}
use Rattle.refusal.specs.declared.Refusal.{Refusal}
use Rattle.format.specs.Decode.{Got, fault, got, Dec, after}
use Rattle.format.specs.Sheet.{Name}
use Rattle.cursor.specs.declared.Found.{Found}
use Rattle.names.specs.Naming.{name_at}

-- a digest with a window of at most eight characters more, which is one number of 7 bits each: a multiplicative hash
-- (Knuth, TAOCP 6.4), whose multipliers no proof asks for
unfoldable pub mix : ℕ → ℕ → ℕ
mix h x = (h * 786033569 + x / 268435456 * 7116134815 + x % 268435456 * 10617743077) / 1048576 % 4294967296

-- h behind the windows before, x the characters of this one, which has room for `room` more
unfoldable pub window_from : ℕ → ℕ → ℕ → List ℕ → ℕ
window_from room h x [] = mix h x
window_from zero h x (c ∷ cs) = window_from 7 (mix h x) c cs
window_from (suc room) h x (c ∷ cs) = window_from room h (x * 128 + c) cs

-- h behind the windows before
unfoldable pub digest_from : ℕ → List ℕ → ℕ
digest_from h [] = h
digest_from h (c ∷ cs) = window_from 7 h c cs

-- of a list of characters: window by window, the last one shorter
abbrev pub digest : List ℕ → ℕ
digest cs = digest_from 0 cs

-- of each name of a table of positions
unfoldable pub digests_at : List ℕ → List ℕ → List ℕ
digests_at s names = map (λ at. digest (name_at s at)) names

-- ---- a walk that digests

-- the digest h, where the test holds
abbrev pub judged_of : Bool → ℕ → Option ℕ
judged_of true h = Some h
judged_of false h = None

-- the digest of the name that d reads
abbrev pub digest_of : Dec Name → Dec ℕ
digest_of d s at = after (d s at) (λ x m. got (digest x) m)

-- a name's digest and the position behind the name, or the refusal
abbrev pub digested_of : Got Name → Result Found Refusal
digested_of (fault e) = Err e
digested_of (got x n) = Ok (record { value = digest x; next = record { at = n } })

-- a checker's answer is that of the decoder's p
pub record Digests (p : Got Name) (r : Result Found Refusal) : Type 0 where
  pub step : r ≡ digested_of p
