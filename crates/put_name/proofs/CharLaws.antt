-- Laws of characters in a row.
use mathlib.Core.Path.{◌≡◌, sym, ap, ◌∙◌}
use mathlib.Core.List.{List, []}
use Prim.Native.Nat.{ℕ, zero, suc, ◌+◌, ◌*◌, ◌<◌, ◌≤◌}
use native.Mathlib.Omega.{arith}
use lib.ListN.{length}
use lib.Seq.{take_all}
use Rattle.lexical.specs.Names.{is_name}
use Rattle.refusal.specs.declared.Refusal.TheVariants.{BadName}
use Rattle.format.specs.Decode.{Got, got, many}
use Rattle.format.specs.Bits.{bits}
use Rattle.format.specs.Decoding.{name_by, name}
use Rattle.cursor.proofs.FieldLaws.{field_next}
use Rattle.cursor.specs.declared.Found.{Found}
use Rattle.view.specs.Values.{Yields, name_at}
use Rattle.view.specs.Views.{Finds}
use Rattle.cursor.proofs.YieldLaws.{in_turn, passed, got_value, yields, field_end}
use Rattle.text.specs.Text.{Holds, chars_at as text_at}
use Rattle.text.proofs.CharLaws.{chars_whole, chars_length}
use Rattle.put_name.specs.Chars.{chars_at}
use Rattle.put_name.proofs.RowLaws.{row}

-- ---- a field that is there

pub found_value : {p : Got ℕ} {n : ℕ} {r : Found} {v m : ℕ} → Finds p n r → p ≡ got v m → r.value ≡ v
found_value f e = f.value ∙ rw e

pub found_next : {p : Got ℕ} {n : ℕ} {r : Found} {v m : ℕ} → Finds p n r → p ≡ got v m → r.next.at ≡ m
found_next f e = f.next ∙ rw e

-- ---- characters that are there

pub chars_are : (s : List ℕ) (n at : ℕ) {cs : List ℕ} {m : ℕ} → many n (bits 7) s at ≡ got cs m → chars_at n s at ≡ cs
unfolding chars_at
chars_are s n at e = rw e

pub no_chars : (s : List ℕ) (n at : ℕ) → n ≡ 0 → chars_at n s at ≡ []
unfolding chars_at many
no_chars s n at e = rw e

-- they lie in the sheet
in_sheet : (s : List ℕ) (n at : ℕ) {cs : List ℕ} {m : ℕ} → 0 < n → many n (bits 7) s at ≡ got cs m →
    at + 7 * n ≤ 8 * length s
in_sheet s zero at h e = absurd (omega arith)
in_sheet s (suc zero) at h e =
    let r = row (bits 7) s 0 at e in
    omega (arith, field_end 7 s at r.first, field_next 7 s at r.first)
in_sheet s (suc (suc n)) at h e =
    let r = row (bits 7) s (suc n) at e in
    omega (arith, field_next 7 s at r.first, in_sheet s (suc n) r.next (omega arith) r.others)

module _ (s : List ℕ) (n at : ℕ) (h : 0 < n) (y : Yields (many n (bits 7) s at) (chars_at n s at)) where
  pub chars_inside : at + 7 * n ≤ 8 * length s
  chars_inside = in_sheet s n at h y.is

-- they are as many as those of the text there, which a buffer of their number holds
module _ (s : List ℕ) (n at : ℕ) (l : at + 7 * n ≤ 8 * length s) where
  same_chars : chars_at n s at ≡ text_at s at n
  same_chars = chars_are s n at (chars_whole s at n l)

  pub chars_count : length (chars_at n s at) ≡ n
  chars_count = ap length same_chars ∙ chars_length s at n

  pub chars_held : {b : List ℕ} → Holds s at n b → length b ≡ n → b ≡ chars_at n s at
  chars_held {b} g k = sym (take_all n b (omega (arith, k))) ∙ g.chars ∙ sym same_chars

-- ---- a name is its length and its characters

module _ (s : List ℕ) (at : ℕ) {f : Found} (y : Yields (name s at) (name_at s at)) (h : Finds (bits 6 s at) 6 f) where
  pub name_chars : Yields (many f.value (bits 7) s f.next.at) (name_at s at)
  unfolding name name_by
  name_chars =
      in_turn (bits 6 s at) _ y.is (λ n a e₁ h₁.
      in_turn (many n (bits 7) s a) _ h₁ (λ cs b e₂ h₂.
      let e : cs ≡ name_at s at = got_value (passed (is_name cs) (got cs b) BadName h₂) in
      rw (found_value h e₁, found_next h e₁, ← e) (yields e₂)))

  pub name_is : chars_at f.value s f.next.at ≡ name_at s at
  name_is = chars_are s f.value f.next.at name_chars.is

  -- its characters are put into a buffer of its length

  pub name_inside : f.next.at + 7 * f.value ≤ 8 * length s
  unfolding name name_by
  name_inside = by_count f.value name_chars
    where
      start : f.next.at ≤ 8 * length s
      start = in_turn (bits 6 s at) _ y.is (λ n a e h₁. rw (found_next h e) (field_end 6 s at e))

      by_count : (n : ℕ) → Yields (many n (bits 7) s f.next.at) (name_at s at) → f.next.at + 7 * n ≤ 8 * length s
      by_count zero z = omega (arith, start)
      by_count (suc n) z = in_sheet s (suc n) f.next.at (omega arith) z.is

  pub name_held : {b : List ℕ} → Holds s f.next.at f.value b → length b ≡ f.value → b ≡ name_at s at
  name_held g l = chars_held s f.value f.next.at name_inside g l ∙ name_is
