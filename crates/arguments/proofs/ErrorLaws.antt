-- Laws of what rule 11 wants of a type, by its outermost kind.
use mathlib.Core.Path.{◌≡◌, refl, sym, ap, ◌∙◌}
use mathlib.Core.List.{List}
use mathlib.Core.Bool.{Bool, true, false, false≢true}
use Prim.Native.Nat.{ℕ, zero, suc, ◌+◌, ◌*◌, ◌≤◌}
use native.Mathlib.Omega.{arith}
use lib.ListN.{length}
use lib.Dec.{eqb, ltb}
use borrow.Author.Tests.{ne_eqb}
use Rattle.format.specs.Decode.{got}
use Rattle.format.specs.Bits.{bits_at, bits, width_of, index}
use Rattle.format.specs.Types.{Ty, atom, named, template, pointer, str, fn, array}
use Rattle.format.specs.declared.Template.{Template}
use Rattle.format.specs.declared.TypeKind.{TypeKind}
use Rattle.format.specs.declared.TypeKind.TheVariants as Kind
use Rattle.format.specs.Decoding.{kind_of, atom_of, type_body, type_at, type}
use Rattle.syntax.specs.Types.{is_indirect_template}
use Rattle.syntax.proofs.AtomLaws.{atom_number_lem}
use Rattle.rules.specs.Rules.{is_cxx_vector}
use Rattle.cursor.specs.Yielding.{next_of, Yields}
use Rattle.cursor.proofs.FieldLaws.{field_lt}
use Rattle.cursor.proofs.WidthLaws.{index_field}
use Rattle.cursor.proofs.YieldLaws.{in_turn, got_value, bits_there}
use Rattle.types.specs.Kinds.{kind_of_type}
use Rattle.types.proofs.KindLaws.{behind_kind}
use Rattle.marks.specs.Gathering.{each}
use Rattle.marks.specs.Marking.{unfit_at, error_at, mark, mark_if}
use Rattle.arguments.specs.Arguments.{is_vector_kind, judge_error}

pub vector_type : (t : Ty) → is_vector_kind (kind_of_type t) ≡ is_cxx_vector t
vector_type (atom a) = refl
vector_type (named i) = refl
vector_type (template k t) = refl
vector_type (pointer k m t) = refl
vector_type str = refl
vector_type (fn r ts) = refl
vector_type (array t n) = refl

pub vector_number : (k : ℕ) → eqb k 10 ≡ is_vector_kind (kind_of k)
unfolding kind_of
vector_number zero = refl
vector_number (suc zero) = refl
vector_number (suc (suc zero)) = refl
vector_number (suc (suc (suc zero))) = refl
vector_number (suc (suc (suc (suc zero)))) = refl
vector_number (suc (suc (suc (suc (suc zero))))) = refl
vector_number (suc (suc (suc (suc (suc (suc zero)))))) = refl
vector_number (suc (suc (suc (suc (suc (suc (suc zero))))))) = refl
vector_number (suc (suc (suc (suc (suc (suc (suc (suc zero)))))))) = refl
vector_number (suc (suc (suc (suc (suc (suc (suc (suc (suc zero))))))))) = refl
vector_number (suc (suc (suc (suc (suc (suc (suc (suc (suc (suc zero)))))))))) = refl
vector_number (suc (suc (suc (suc (suc (suc (suc (suc (suc (suc (suc zero))))))))))) = refl
vector_number (suc (suc (suc (suc (suc (suc (suc (suc (suc (suc (suc (suc zero)))))))))))) = refl
vector_number (suc (suc (suc (suc (suc (suc (suc (suc (suc (suc (suc (suc (suc zero))))))))))))) = refl
vector_number (suc (suc (suc (suc (suc (suc (suc (suc (suc (suc (suc (suc (suc (suc zero)))))))))))))) = refl
vector_number (suc (suc (suc (suc (suc (suc (suc (suc (suc (suc (suc (suc (suc (suc (suc zero))))))))))))))) = refl
vector_number (suc (suc (suc (suc (suc (suc (suc (suc (suc (suc (suc (suc (suc (suc (suc (suc k)))))))))))))))) = ne_eqb (suc (suc (suc (suc (suc (suc (suc (suc (suc (suc (suc (suc (suc (suc (suc (suc k)))))))))))))))) 10 (λ e. absurd (omega arith))

-- ---- kinds that say all

-- neither an atom, nor a name, nor indirect
abbrev pub is_plain_kind : TypeKind → Bool
is_plain_kind Kind.Atom = false
is_plain_kind Kind.Named = false
is_plain_kind (Kind.Template k) = false
is_plain_kind (Kind.Pointer k) = true
is_plain_kind Kind.Str = true
is_plain_kind Kind.Fn = true
is_plain_kind Kind.Array = false
is_plain_kind Kind.Bad = true

module _ (u : List ℕ) where
  pub judge_plain : (t : Ty) (k : TypeKind) → k ≡ kind_of_type t → is_plain_kind k ≡ true → u ≡ judge_error t u
  unfolding judge_error each
  judge_plain (atom a) k e h = absurd (false≢true (sym (ap is_plain_kind e) ∙ h))
  judge_plain (named i) k e h = absurd (false≢true (sym (ap is_plain_kind e) ∙ h))
  judge_plain (template j t) k e h = absurd (false≢true (sym (ap is_plain_kind e) ∙ h))
  judge_plain (pointer j m t) k e h = refl
  judge_plain str k e h = refl
  judge_plain (fn r ts) k e h = refl
  judge_plain (array t n) k e h = absurd (false≢true (sym (ap is_plain_kind e) ∙ h))

  pub judge_array : (t : Ty) {v : List ℕ} → Kind.Array ≡ kind_of_type t → v ≡ mark unfit_at u → v ≡ judge_error t u
  unfolding judge_error each
  judge_array (atom a) e h = absurd (let y : ◌≡◌ {A = ℕ} 0 1 = cc in omega arith)
  judge_array (named i) e h = absurd (let y : ◌≡◌ {A = ℕ} 0 1 = cc in omega arith)
  judge_array (template j t) e h = absurd (let y : ◌≡◌ {A = ℕ} 0 1 = cc in omega arith)
  judge_array (pointer j m t) e h = absurd (let y : ◌≡◌ {A = ℕ} 0 1 = cc in omega arith)
  judge_array str e h = absurd (let y : ◌≡◌ {A = ℕ} 0 1 = cc in omega arith)
  judge_array (fn r ts) e h = absurd (let y : ◌≡◌ {A = ℕ} 0 1 = cc in omega arith)
  judge_array (array t n) e h = h

  pub judge_template : (t : Ty) {k : Template} {b : Bool} {v : List ℕ} → Kind.Template k ≡ kind_of_type t →
      b ≡ is_indirect_template k → v ≡ mark_if b unfit_at u → v ≡ judge_error t u
  unfolding judge_error each
  judge_template (template j t) {k} e f h = let z : k ≡ j = cc in h ∙ rw (f, z)
  judge_template (atom a) e f h = absurd (let y : ◌≡◌ {A = ℕ} 0 1 = cc in omega arith)
  judge_template (named i) e f h = absurd (let y : ◌≡◌ {A = ℕ} 0 1 = cc in omega arith)
  judge_template (pointer j m t) e f h = absurd (let y : ◌≡◌ {A = ℕ} 0 1 = cc in omega arith)
  judge_template str e f h = absurd (let y : ◌≡◌ {A = ℕ} 0 1 = cc in omega arith)
  judge_template (fn r ts) e f h = absurd (let y : ◌≡◌ {A = ℕ} 0 1 = cc in omega arith)
  judge_template (array t n) e f h = absurd (let y : ◌≡◌ {A = ℕ} 0 1 = cc in omega arith)

-- ---- atoms and names, by what stands behind the kind

module _ (n : ℕ) (s : List ℕ) (at : ℕ) {t : Ty} (y : Yields (type n s at) t) where
  body_of : {k : TypeKind} → k ≡ kind_of_type t → type_body k n (type_at n 7) s (at + 4) ≡ got t (next_of (type n s at))
  body_of e = ap (λ (k : TypeKind). type_body k n (type_at n 7) s (at + 4)) e ∙ behind_kind n s at y

  module _ (e : Kind.Atom ≡ kind_of_type t) where
    pub atom_room : at + 4 + 4 ≤ 8 * length s
    atom_room = in_turn (bits 4 s (at + 4)) _ (body_of e) (λ a m f h. (bits_there 4 s (at + 4) f).0)

    pub judge_atom : (u : List ℕ) {a : ℕ} {v : List ℕ} → a ≡ bits_at s (at + 4) 4 → v ≡ mark_if (eqb a 14) unfit_at u →
        v ≡ judge_error t u
    unfolding judge_error each
    judge_atom u {a} q h =
        in_turn (bits 4 s (at + 4)) _ (body_of e) (λ b m f g.
        let z : b ≡ a = (bits_there 4 s (at + 4) f).1 ∙ sym q in
        let d : t ≡ atom (atom_of a) = sym (got_value g) ∙ ap (λ (j : ℕ). atom (atom_of j)) z in
        h ∙ rw (d, atom_number_lem a (rw z at (field_lt 4 s (at + 4) f))))

  module _ (e : Kind.Named ≡ kind_of_type t) {w : ℕ} (z : w ≡ width_of n) where
    pub named_room : at + 4 + w ≤ 8 * length s
    named_room =
        in_turn (index n s (at + 4)) _ (body_of e) (λ i m f h.
        rw z (bits_there (width_of n) s (at + 4) (index_field n s (at + 4) f)).0)

    pub judge_named : (u : List ℕ) {i : ℕ} {v : List ℕ} → i ≡ bits_at s (at + 4) w →
        v ≡ mark_if (ltb i 256) (error_at i) u → v ≡ judge_error t u
    unfolding judge_error each
    judge_named u {i} q h =
        in_turn (index n s (at + 4)) _ (body_of e) (λ j m f g.
        let d : j ≡ i =
        (bits_there (width_of n) s (at + 4) (index_field n s (at + 4) f)).1 ∙ sym (rw (← z) q) in
        let c : t ≡ named i = sym (got_value g) ∙ ap named d in
        h ∙ rw c)
