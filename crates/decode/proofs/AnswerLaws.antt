-- Laws for those who use the answer to a sheet and the tables.
use mathlib.Core.Path.{◌≡◌, refl}
use mathlib.Core.List.{List, []}
use mathlib.Core.Bool.{Bool, true, false}
use Prim.Native.Nat.{ℕ, ◌<◌}
use native.Mathlib.Omega.{arith}
use lib.ListN.{length, take, get_or}
use lib.Dec.{leb}
use borrow.Author.Tests.{leb-true}
use Rattle.refusal.specs.declared.Refusal.{Refusal}
use Rattle.refusal.specs.declared.Refusal.TheVariants.{CutSheet}
use Rattle.format.specs.Limits.{most_bytes}
use Rattle.format.specs.Decode.{Got, fault, got, pick}
use Rattle.format.specs.Sheet.{Sheet}
use Rattle.format.specs.Decoding.{name, sheet, decode}
use Rattle.cursor.specs.Checking.{Limited}
use Rattle.names.specs.Fetching.{Fetched}
use Rattle.format.specs.declared.Outline.{Outline}
use Rattle.std.specs.Prelude.{Result, Ok, Err}
use Rattle.decode.specs.Tables.{Tables, Answers}

module _ {s : List ℕ} {p : Got Sheet} {r : Result Outline Refusal} {b i g m₀ m₁ : List ℕ} where
  -- what an answer says of the definition

  pub refused : {e : Refusal} → Answers s p r b i g m₀ m₁ → r ≡ Err e → p ≡ fault e
  refused {e} a t = rw t at a.says

  pub whole : {o : Outline} → Answers s p r b i g m₀ m₁ → r ≡ Ok o → Tables s p o b i g m₀ m₁
  whole {o} a t = rw t at a.says

-- a sheet that is decoded is not too long
pub decoded_limited : (s : List ℕ) {x : Sheet} {m : ℕ} → decode s ≡ got x m → Limited s
unfolding decode
decoded_limited s {x} {m} e = by_test (leb (length s) most_bytes) refl e
  where
    by_test : (t : Bool) → leb (length s) most_bytes ≡ t → pick t (sheet s 0) (fault CutSheet) ≡ got x m → Limited s
    by_test true h e = leb-true (length s) most_bytes h
    by_test false h e = absurd (let z : ◌≡◌ {A = ℕ} 0 1 = cc in omega arith)

-- a name that is fetched from where the table says
pub fetched : {s : List ℕ} {p : Got Sheet} {o : Outline} {b i g m₀ m₁ : List ℕ} (t : Tables s p o b i g m₀ m₁) (j : ℕ) → j < o.names →
    {n : ℕ} {buf : List ℕ} → Fetched (name s (get_or b j 0)) n buf → take n buf ≡ get_or t.names j []
fetched t j h f = f.chars _ _ (t.table.each j [] h).1
