-- Laws of a text at a position.
use mathlib.Core.Path.{◌≡◌, refl, sym, ap, ◌∙◌}
use mathlib.Core.List.{List, ◌∷◌}
use mathlib.Core.Bool.{Bool, true}
use Prim.Native.Nat.{ℕ, zero, suc, ◌^◌, ◌<◌}
use native.Mathlib.Omega.{arith}
use lib.ListN.{take}
use lib.Pow.{pow_pos}
use Rattle.refusal.specs.declared.Refusal.{Refusal}
use Rattle.refusal.specs.declared.Refusal.TheVariants.{CutSheet}
use Rattle.format.specs.Decode.{Got, fault, got, pick, after, many}
use Rattle.format.specs.Bits.{bits}
use Rattle.cursor.specs.declared.Cursor.{Cursor}
use Rattle.cursor.proofs.FieldLaws.{field_lt, field_fault}
use Rattle.text.specs.Text.{ruled_text, text_of, Spelled}
use Rattle.std.specs.Prelude.{Result, Ok, Err, IsErrAnd}
use Rattle.cursor.specs.declared.Found.{Found}

-- fields in a row are refused in one way only
fields_cut : (w n : ℕ) (s : List ℕ) (at : ℕ) {e : Refusal} → many n (bits w) s at ≡ fault e → e ≡ CutSheet
unfolding many
fields_cut w zero s at {e} h = absurd (let z : ◌≡◌ {A = ℕ} 0 1 = cc in omega arith)
fields_cut w (suc n) s at {e} h = by_first (λ m f g. fields_cut w n s m g) (bits w s at) refl h
  where
    by_rest : (v : ℕ) (q : Got (List ℕ)) → ((f : Refusal) → q ≡ fault f → f ≡ CutSheet) →
        after q (λ xs k. got (v ∷ xs) k) ≡ fault e → e ≡ CutSheet
    by_rest v (fault f) ih h = let z : f ≡ e = cc in sym z ∙ ih f refl
    by_rest v (got xs k) ih h = absurd (let z : ◌≡◌ {A = ℕ} 0 1 = cc in omega arith)

    by_first : ((m : ℕ) (f : Refusal) → many n (bits w) s m ≡ fault f → f ≡ CutSheet) → (p : Got ℕ) → bits w s at ≡ p →
        after p (λ v m. after (many n (bits w) s m) (λ xs k. got (v ∷ xs) k)) ≡ fault e → e ≡ CutSheet
    by_first ih (fault f) q h = let z : f ≡ e = cc in sym z ∙ field_fault w s at q
    by_first ih (got v m) q h = by_rest v (many n (bits w) s m) (ih m) h

module _ (w : ℕ) (s : List ℕ) (at : ℕ) {b : List ℕ} where
  -- what the code answers is the text

  pub text_cut : {e : Refusal} {r : Result Found Refusal} → IsErrAnd r (λ d. d ≡ e) → bits w s at ≡ fault e →
      Spelled w s at r b
  unfolding ruled_text
  text_cut {r = Ok g} i q = absurd i
  text_cut {r = Err d} i q = record { text = λ rule e. rw (i, q); short = pow_pos w }

  pub text_short : {n m : ℕ} {e : Refusal} {r : Result Found Refusal} → IsErrAnd r (λ d. d ≡ e) → bits w s at ≡ got n m →
      many n (bits 7) s m ≡ fault e → Spelled w s at r b
  unfolding ruled_text
  text_short {r = Ok g} i q h = absurd i
  text_short {r = Err d} i q h = record { text = λ rule e. rw (i, q, h); short = pow_pos w }

  pub text_whole : {n m : ℕ} {c : Cursor} → bits w s at ≡ got n m → many n (bits 7) s m ≡ got (take n b) c.at →
      Spelled w s at (Ok (record { value = n; next = c })) b
  unfolding ruled_text
  text_whole q f = record { text = λ rule e. rw (q, f); short = field_lt w s at q }

  -- what the answer says

  pub text_value : {r : Result Found Refusal} {f : Found} → Spelled w s at r b → r ≡ Ok f → (rule : List ℕ → Bool) (e : Refusal) →
      ruled_text w rule e s at ≡ pick (rule (take f.value b)) (got (take f.value b) f.next.at) (fault e)
  text_value h t rule e = h.text rule e ∙ ap (λ (x : Result Found Refusal). text_of x b rule e) t

  pub text_none : {r : Result Found Refusal} {f : Refusal} → Spelled w s at r b → r ≡ Err f → (rule : List ℕ → Bool) (e : Refusal) →
      ruled_text w rule e s at ≡ fault f
  text_none h t rule e = h.text rule e ∙ ap (λ (x : Result Found Refusal). text_of x b rule e) t

  -- it refuses in one way only
  pub spelled_cut : {r : Result Found Refusal} {f : Refusal} → Spelled w s at r b → r ≡ Err f → f ≡ CutSheet
  unfolding ruled_text
  spelled_cut {r} {f} h t = by_length (bits w s at) refl (text_none h t (λ cs. true) CutSheet)
    where
      by_chars : (q : Got (List ℕ)) → ((e : Refusal) → q ≡ fault e → e ≡ CutSheet) → after q (λ cs k. got cs k) ≡ fault f →
          f ≡ CutSheet
      by_chars (fault e) c g = let z : e ≡ f = cc in sym z ∙ c e refl
      by_chars (got cs k) c g = absurd (let z : ◌≡◌ {A = ℕ} 0 1 = cc in omega arith)

      by_length : (p : Got ℕ) → bits w s at ≡ p → after p (λ n m. after (many n (bits 7) s m) (λ cs k. got cs k)) ≡ fault f →
          f ≡ CutSheet
      by_length (fault e) q g = let z : e ≡ f = cc in sym z ∙ field_fault w s at q
      by_length (got n m) q g = by_chars (many n (bits 7) s m) (λ e. fields_cut 7 n s m) g

  pub text_lt : {r : Result Found Refusal} {f : Found} → Spelled w s at r b → r ≡ Ok f → f.value < 2 ^ w
  text_lt h t = rw t at h.short
