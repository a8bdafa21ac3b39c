-- Laws of a name that is fetched from its position.
use mathlib.Core.Path.{◌≡◌}
use mathlib.Core.List.{List}
use mathlib.Core.Bool.{Bool, true, false}
use Prim.Native.Nat.{ℕ, ◌≤◌}
use native.Mathlib.Omega.{arith}
use lib.ListN.{take}
use Rattle.lexical.specs.Names.{is_name}
use Rattle.refusal.specs.declared.Refusal.{Refusal}
use Rattle.refusal.specs.declared.Refusal.TheVariants.{BadName}
use Rattle.format.specs.Limits.{longest_name}
use Rattle.format.specs.Decode.{Got, fault, got, pick}
use Rattle.format.specs.Sheet.{Name}
use Rattle.format.specs.Decoding.{name_by, name}
use Rattle.text.specs.Text.{ruled_text, Spelled}
use Rattle.text.proofs.TextLaws.{text_value, text_none, text_lt}
use Rattle.names.specs.Fetching.{Fetched}
use Rattle.std.specs.Prelude.{Result, Ok, Err}
use Rattle.cursor.specs.declared.Found.{Found}

no_name : {p : Got Name} (e : Refusal) (n : ℕ) (b : List ℕ) → n ≤ longest_name → p ≡ fault e → Fetched p n b
no_name e n b l h = record {
  short = l;
  chars = λ cs m g. absurd (let z : ◌≡◌ {A = ℕ} 0 1 = cc in omega arith);
}

module _ (s : List ℕ) (at : ℕ) {b : List ℕ} {r : Result Found Refusal} (h : Spelled 6 s at r b) where
  pub fetch_none : {e : Refusal} → r ≡ Err e → Fetched (name s at) 0 b
  unfolding name name_by ruled_text
  fetch_none t = no_name _ 0 b (omega arith) (text_none 6 s at h t is_name BadName)

  pub fetch_value : {f : Found} → r ≡ Ok f → Fetched (name s at) f.value b
  unfolding name name_by ruled_text
  fetch_value {f} t =
      by_rule (omega (arith, text_lt 6 s at h t)) (is_name (take f.value b)) (text_value 6 s at h t is_name BadName)
    where
      by_rule : f.value ≤ longest_name → (x : Bool) →
          name s at ≡ pick x (got (take f.value b) f.next.at) (fault BadName) → Fetched (name s at) f.value b
      by_rule l true e = record { short = l; chars = λ cs m g. cc }
      by_rule l false e = no_name BadName f.value b l e
