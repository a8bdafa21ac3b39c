-- Laws of items and functions: where the whole is decoded, so are its parts.
use mathlib.Core.Path.{◌≡◌, refl, sym, ap, ◌∙◌}
use mathlib.Core.List.{List}
use mathlib.Core.Bool.{Bool, not}
use Prim.Native.Nat.{ℕ, ◌+◌, ◌*◌, ◌≤◌}
use native.Mathlib.Omega.{arith}
use lib.ListN.{length}
use Rattle.refusal.specs.declared.Refusal.TheVariants.{BadKind}
use Rattle.lexical.specs.Bytes.{within}
use Rattle.format.specs.Decode.{got, many}
use Rattle.format.specs.Bits.{bits_at, bits, bit, width_of}
use Rattle.format.specs.Sheet.{Name, Function, Body, function, Item}
use Rattle.format.specs.Decoding.{name_of, type, optional, argument, form, line, function_body, struct_body, enum_body}
use Rattle.format.specs.Decoding.{part_of, is_bad, item_body, namespace, item}
use Rattle.format.specs.declared.ItemKind.{ItemKind}
use Rattle.format.specs.declared.ItemKind.TheVariants as Part
use Rattle.cursor.specs.Checking.{Limited}
use Rattle.cursor.proofs.BitLaws.{bits_lt}
use Rattle.cursor.proofs.CodeLaws.{bits_whole}
use Rattle.cursor.proofs.YieldLaws.{in_turn, passed, got_value, got_next, bits_there}
use Rattle.names.proofs.NameLaws.{indexed}
use Rattle.view.specs.Values.{names_at}
use Rattle.view.specs.Views.{Finds, kind_of_body}

-- ---- fields that are there, read without a test

-- such a field is what a test would have found
pub finds : (n : ℕ) (s : List ℕ) (at : ℕ) {v : ℕ} → Limited s → at + n ≤ 8 * length s → v ≡ bits_at s at n →
    Finds (bits n s at) n (record { value = v; next = record { at = at + n } })
finds n s at l h e =
    let b = bits_whole n s at h refl in
    record { value = rw b e; next = rw b; low = rw e (bits_lt s at n); near = omega arith }

-- all bits of a name's index are there
pub name_room : (s names : List ℕ) (at : ℕ) {x : Name} {m w : ℕ} → name_of (names_at s names) s at ≡ got x m →
    w ≡ width_of (length names) → at + w ≤ 8 * length s
name_room s names at h z = rw z (bits_there (width_of (length names)) s at (indexed s names at h).1.field).0

pub bit_room : (s : List ℕ) (at : ℕ) {b : Bool} {m : ℕ} → bit s at ≡ got b m → at + 1 ≤ 8 * length s
unfolding bit
bit_room s at h = in_turn (bits 1 s at) _ h (λ v a e g. (bits_there 1 s at e).0)

pub bit_end : (s : List ℕ) (at : ℕ) {b : Bool} {m : ℕ} → bit s at ≡ got b m → m ≡ at + 1
unfolding bit
bit_end s at e = in_turn (bits 1 s at) _ e (λ v a f h. sym (got_next h) ∙ (bits_there 1 s at f).2)

-- ---- parts

module _ (ns : List Name) (n : ℕ) (s : List ℕ) where
  pub record ItemParts (at : ℕ) (x : Item) : Type 0 where
    pub number : ℕ
    pub levels : ℕ
    pub deep_at : ℕ
    pub spaces_at : ℕ
    pub cxx_at : ℕ
    pub body_at : ℕ
    pub end : ℕ
    pub kind : bits 3 s at ≡ got number deep_at
    pub deep : bits 3 s deep_at ≡ got levels spaces_at
    pub spaces : many levels (name_of ns) s spaces_at ≡ got x.namespace cxx_at
    pub cxx : name_of ns s cxx_at ≡ got x.cxx body_at
    pub body : item_body (part_of number) ns n s body_at ≡ got x.body end

  pub item_parts : (at : ℕ) {m : ℕ} {x : Item} → item ns n s at ≡ got x m → ItemParts at x
  unfolding item namespace
  item_parts at {x} h =
      in_turn (bits 3 s at) _ h (λ k a e₁ h₁.
      in_turn (namespace ns s a) _ (passed (not (is_bad (part_of k))) _ BadKind h₁) (λ xs b e₂ h₂.
      in_turn (bits 3 s a) _ e₂ (λ d c e₃ h₃.
      in_turn (name_of ns s b) _ h₂ (λ y e e₄ h₄.
      in_turn (item_body (part_of k) ns n s e) _ h₄ (λ z g e₅ h₅.
      let w : record { namespace = xs; cxx = y; body = z } ≡ x = got_value h₅ in
      rw (← w) record {
        number = k;
        levels = d;
        deep_at = a;
        spaces_at = c;
        cxx_at = b;
        body_at = e;
        end = g;
        kind = e₁;
        deep = e₃;
        spaces = h₃;
        cxx = e₄;
        body = e₅;
      })))))

  pub record FunctionParts (at : ℕ) (f : Function) : Type 0 where
    pub form_at : ℕ
    pub throws_at : ℕ
    pub return_at : ℕ
    pub count_at : ℕ
    pub count : ℕ
    pub first : ℕ
    pub comment_at : ℕ
    pub lines : ℕ
    pub line_at : ℕ
    pub end : ℕ
    pub rust : name_of ns s at ≡ got f.rust form_at
    pub form : form n s form_at ≡ got f.form throws_at
    pub throws : bit s throws_at ≡ got f.throws return_at
    pub return : optional (type n) s return_at ≡ got f.return count_at
    pub counted : bits 5 s count_at ≡ got count first
    pub arguments : many count (argument ns n) s first ≡ got f.arguments comment_at
    pub lined : bits 5 s comment_at ≡ got lines line_at
    pub comment : many lines line s line_at ≡ got f.comment end

  pub function_parts : (at : ℕ) {m : ℕ} {x : Body} → function_body ns n s at ≡ got x m →
      (f : Function) × (x ≡ function f) × FunctionParts at f
  unfolding function_body
  function_parts at {x} h =
      in_turn (name_of ns s at) _ h (λ r a e₁ h₁.
      in_turn (form n s a) _ h₁ (λ f b e₂ h₂.
      in_turn (bit s b) _ h₂ (λ t c e₃ h₃.
      in_turn (optional (type n) s c) _ h₃ (λ y d e₄ h₄.
      in_turn (bits 5 s d) _ h₄ (λ k e e₅ h₅.
      in_turn (many k (argument ns n) s e) _ h₅ (λ xs g e₆ h₆.
      in_turn (bits 5 s g) _ h₆ (λ l i e₇ h₇.
      in_turn (many l line s i) _ h₇ (λ ls m e₈ h₈. (
        record { rust = r; form = f; throws = t; return = y; arguments = xs; comment = ls },
        sym (got_value h₈),
        record {
          form_at = a;
          throws_at = b;
          return_at = c;
          count_at = d;
          count = k;
          first = e;
          comment_at = g;
          lines = l;
          line_at = i;
          end = m;
          rust = e₁;
          form = e₂;
          throws = e₃;
          return = e₄;
          counted = e₅;
          arguments = e₆;
          lined = e₇;
          comment = e₈;
        },
      )))))))))

  -- a body says its kind
  pub body_kind : (at : ℕ) {m : ℕ} {x : Body} (k : ItemKind) → item_body k ns n s at ≡ got x m → k ≡ kind_of_body x
  unfolding struct_body enum_body
  body_kind at Part.Struct h =
      in_turn (bit s at) _ h (λ p a e₁ h₁.
      in_turn (bits 6 s a) _ h₁ (λ k b e₂ h₂.
      in_turn (many k (type n) s b) _ h₂ (λ ts c e₃ h₃. ap kind_of_body (got_value h₃))))
  body_kind at Part.Enum h =
      in_turn (bit s at) _ h (λ p a e₁ h₁.
      in_turn (bits 4 s a) _ h₁ (λ k b e₂ h₂.
      in_turn (bit s b) _ (passed (within 2 11 k) _ BadKind h₂) (λ t c e₃ h₃. ap kind_of_body (got_value h₃))))
  body_kind at Part.CxxType h = in_turn (bit s at) _ h (λ p a e₁ h₁. ap kind_of_body (got_value h₁))
  body_kind at Part.RustType h = in_turn (bit s at) _ h (λ p a e₁ h₁. ap kind_of_body (got_value h₁))
  body_kind at Part.RustFunction h = ap kind_of_body (sym (function_parts at h).1)
  body_kind at Part.Bad h = absurd (let z : ◌≡◌ {A = ℕ} 0 1 = cc in omega arith)
