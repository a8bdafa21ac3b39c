-- Laws of each kind of type: what the code read of it, and what it wrote.
use Rattle.std.proofs.Common.{◌≡◌, ℕ, zero, suc, ◌-◌, ◌<◌, true, false, eqb, List, [], sym, refl, ap, ◌∙◌, arith, eq-eqb, ne_eqb}
use Rattle.lexical.specs.Bytes.{bytes}
use Rattle.lexical.specs.Decimal.{decimal}
use Rattle.sink.specs.Sink.{Sink, sink, Wrote}
use Rattle.sink.proofs.SinkLaws.{◌▷◌, wrote_as}
use Rattle.format.specs.Decode.{Got, got, Dec, after, many}
use Rattle.format.specs.Bits.{bits, bit, width_of, index}
use Rattle.format.specs.Types.{Ty, atom, named, pointer, str, fn, none, gives, tys}
use Rattle.format.specs.Sheet.{Item}
use Rattle.format.specs.declared.Template.{Template}
use Rattle.format.specs.declared.Pointer.{Pointer}
use Rattle.format.specs.declared.TypeKind.{TypeKind}
use Rattle.format.specs.declared.TypeKind.TheVariants as Kind
use Rattle.format.specs.Decoding.{atom_of, kind_of, optional, type_body, type_at}
use Rattle.syntax.specs.Items.{item_at, full_name}
use Rattle.bridge.specs.WriteType.{write_atom, template_name, pointer_begin, pointer_end}
use Rattle.bridge.specs.WriteType.{write_type, write_ret, write_type_space}
use Rattle.cursor.specs.declared.Cursor.{Cursor}
use Rattle.cursor.proofs.WidthLaws.{index_field, index_lt}
use Rattle.cursor.specs.declared.Found.{Found}
use Rattle.view.specs.Values.{value_or, next_of, Yields}
use Rattle.view.specs.Views.{Finds, kind_of_type}
use Rattle.cursor.proofs.YieldLaws.{yields, in_turn, found, found_value, found_next, bit_value, bit_next}
use Rattle.types.proofs.KindLaws.{body_type}
use Rattle.write_atom.specs.Texts.{space_of_kind}
use Rattle.write_type.specs.TypeAt.{ty_at}
use Rattle.write_type.proofs.Spelling.{There, Spells}
use Rattle.write_type.proofs.TypeLaws.{space_is}
use Rattle.write_type.proofs.ListLaws.{write_arguments}

-- what stands behind a kind, with so many levels left for an inner type
abbrev body_at : TypeKind → ℕ → ℕ → Dec Ty
body_at kind n levels = type_body kind n (type_at n levels)

-- the first of two decoders gives a value where both do
first_there : {A B : Type 0} (z : A) (p : Got A) (k : A → ℕ → Got B) {y : B} → Yields (after p k) y → There z p
first_there z p k h = in_turn p k h.is (λ x n e q. rw e (record { is = refl }))

-- a value that is known was spelled
spells_got : {A : Type 0} (spell : A → List ℕ) (z : A) {p : Got A} {x : A} {q : ℕ} {r t : Sink} {m : ℕ} → p ≡ got x q →
    Wrote r (spell x) t → m ≡ q → Spells spell z p r t m
spells_got spell z e w f = rw e (record { wrote = w; next = f })

-- what was spelled on one of two ways that meet
pub spells_met : {A : Type 0} {spell : A → List ℕ} {z : A} {p : Got A} {r : Sink} {o q : List ℕ} {i j : ℕ}
    {c d : Cursor} → q ≡ o → j ≡ i → d ≡ c → Spells spell z p r (sink o i) c.at → Spells spell z p r (sink q j) d.at
spells_met e f g w = rw (e, f, g) w

-- ---- the type at a position

module _ (n levels : ℕ) (s : List ℕ) (at : ℕ) where
  type_there : There str (type_at n levels s at) → Yields (type_at n levels s at) (ty_at n levels s at)
  unfolding ty_at
  type_there h = h

  -- an inner type
  type_first : {B : Type 0} (k : Ty → ℕ → Got B) {y : B} → Yields (after (type_at n levels s at) k) y →
      Yields (type_at n levels s at) (ty_at n levels s at)
  type_first k h = type_there (first_there str (type_at n levels s at) k h)

  module _ (h : Yields (type_at n levels s at) (ty_at n levels s at)) where
    pub level_left : 0 < levels
    unfolding type_at
    level_left = by_levels levels h.is
      where
        by_levels : (l : ℕ) {t : Ty} {m : ℕ} → type_at n l s at ≡ got t m → 0 < l
        by_levels zero e = in_turn (bits 4 s at) _ e (λ k a f q. absurd (let z : ◌≡◌ {A = ℕ} 0 1 = cc in omega arith))
        by_levels (suc l) e = omega arith

    module _ {k : Found} (f : Finds (bits 4 s at) 4 k) {kind : TypeKind} (e : kind ≡ kind_of k.value) where
      type_body_lem : type_at n levels s at ≡ body_at kind n (levels - 1) s k.next.at
      unfolding type_at
      type_body_lem = by_levels levels h.is
        where
          by_levels : (l : ℕ) {t : Ty} {m : ℕ} → type_at n l s at ≡ got t m →
              type_at n l s at ≡ body_at kind n (l - 1) s k.next.at
          by_levels zero q = in_turn (bits 4 s at) _ q (λ j a d r. absurd (let z : ◌≡◌ {A = ℕ} 0 1 = cc in omega arith))
          by_levels (suc l) q =
              in_turn (bits 4 s at) _ q (λ j a d r.
              let z : suc l - 1 ≡ l = omega arith in
              rw (z, e, ← found_value f d, ← found_next f d, d) refl)

      at_kind : {j : TypeKind} → kind ≡ j → type_at n levels s at ≡ body_at j n (levels - 1) s k.next.at
      at_kind z = type_body_lem ∙ ap (λ (i : TypeKind). body_at i n (levels - 1) s k.next.at) z

      pub kind_is : kind ≡ kind_of_type (ty_at n levels s at)
      kind_is = body_type kind n (type_at n (levels - 1)) s k.next.at (sym type_body_lem ∙ h.is)

      -- what stands behind the kind is there
      pub body_there : {j : TypeKind} → kind ≡ j → There str (body_at j n (levels - 1) s k.next.at)
      unfolding ty_at
      body_there z = rw (at_kind z) at h

      -- and where it was spelled, the type was
      pub as_type : (items : List Item) {j : TypeKind} → kind ≡ j → {r t : Sink} {m : ℕ} →
          (There str (body_at j n (levels - 1) s k.next.at) →
          Spells (write_type items) str (body_at j n (levels - 1) s k.next.at) r t m) →
          Wrote r (write_type items (ty_at n levels s at)) t × (m ≡ next_of (type_at n levels s at))
      unfolding ty_at
      as_type items z w =
          let v = w (body_there z) in
          rw (at_kind z) (v.wrote, v.next)

      pub not_bad : kind ≡ Kind.Bad → ⊥
      not_bad z = let q = sym (at_kind z) ∙ h.is in (let y : ◌≡◌ {A = ℕ} 0 1 = cc in omega arith)

  pub as_space : (items : List Item) {kind : TypeKind} {r t u : Sink} {m : ℕ} → kind ≡ kind_of_type (ty_at n levels s at) →
      Wrote r (write_type items (ty_at n levels s at)) t × (m ≡ next_of (type_at n levels s at)) →
      Wrote t (space_of_kind kind) u →
      Wrote r (write_type_space items (ty_at n levels s at)) u × (m ≡ next_of (type_at n levels s at))
  unfolding write_type_space
  as_space items e w v = (w.0 ▷ wrote_as v (ap space_of_kind e ∙ sym (space_is (ty_at n levels s at))), w.1)

-- ---- atoms, `str` and named types

module _ (items : List Item) where
  pub spells_atom : (s : List ℕ) (at : ℕ) {y : Ty} {f : Found} {r t : Sink} →
      Yields (after (bits 4 s at) (λ x m. got (atom (atom_of x)) m)) y → Finds (bits 4 s at) 4 f →
      Wrote r (write_atom (atom_of f.value)) t →
      Spells (write_type items) str (after (bits 4 s at) (λ x m. got (atom (atom_of x)) m)) r t f.next.at
  unfolding write_type
  spells_atom s at h f w =
      in_turn (bits 4 s at) _ h.is (λ x m d q. rw (found f d) (record { wrote = w; next = refl }))

  pub spells_str : {b : ℕ} {r t : Sink} → Wrote r (bytes "::rust::Str") t →
      Spells (write_type items) str (got str b) r t b
  unfolding write_type
  spells_str w = record { wrote = w; next = refl }

-- a named type: an index into the table of items
module _ (n : ℕ) (s : List ℕ) (at : ℕ) {y : Ty} {w : ℕ} {i : Found}
    (h : Yields (after (index n s at) (λ j k. got (named j) k)) y) (z : w ≡ width_of n) (f : Finds (bits w s at) w i) where
  index_is : index n s at ≡ got i.value i.next.at
  index_is =
      let j = (first_there 0 (index n s at) _ h).is in
      let e : bits w s at ≡ got (value_or 0 (index n s at)) (next_of (index n s at)) = rw z (index_field n s at j) in
      j ∙ sym e ∙ found f e

  pub item_there : i.value < n
  item_there = index_lt n s at index_is

  pub spells_named : (items : List Item) {r t : Sink} → Wrote r (full_name (item_at items i.value)) t →
      Spells (write_type items) str (after (index n s at) (λ j k. got (named j) k)) r t i.next.at
  unfolding write_type
  spells_named items v = rw index_is (record { wrote = v; next = refl })

-- ---- templates, arrays and pointers

-- a template: the inner type
module _ (k : Template) (n levels : ℕ) (s : List ℕ) (at : ℕ) {y : Ty}
    (h : Yields (body_at (Kind.Template k) n levels s at) y) where
  pub template_there : Yields (type_at n levels s at) (ty_at n levels s at)
  template_there = type_first n levels s at _ h

  pub spells_template : (items : List Item) {r a b c : Sink} {m : ℕ} → Wrote r (template_name k) a →
      Wrote a (write_type items (ty_at n levels s at)) b × (m ≡ next_of (type_at n levels s at)) → Wrote b (bytes ">") c →
      Spells (write_type items) str (body_at (Kind.Template k) n levels s at) r c m
  unfolding write_type
  spells_template items u v w = rw template_there.is (record { wrote = u ▷ v.0 ▷ w; next = v.1 })

-- an array: the inner type, then a number
module _ (n levels : ℕ) (s : List ℕ) (at : ℕ) {y : Ty} (h : Yields (body_at Kind.Array n levels s at) y) where
  pub array_there : Yields (type_at n levels s at) (ty_at n levels s at)
  array_there = type_first n levels s at _ h

  pub spells_array : (items : List Item) {f : Found} {r a b c d x : Sink} {m : ℕ} → Wrote r (bytes "::std::array<") a →
      Wrote a (write_type items (ty_at n levels s at)) b × (m ≡ next_of (type_at n levels s at)) →
      Finds (bits 32 s m) 32 f → Wrote b (bytes ", ") c → Wrote c (decimal f.value) d → Wrote d (bytes ">") x →
      Spells (write_type items) str (body_at Kind.Array n levels s at) r x f.next.at
  unfolding write_type
  spells_array items {m = m} u v g w y z =
      let e = array_there.is in
      let k = rw (e, ← v.1) at h.is in
      in_turn (bits 32 s m) _ k (λ l j o i.
      rw (e, ← v.1, found g o) (record { wrote = u ▷ v.0 ▷ w ▷ y ▷ z; next = refl }))

-- a pointer: a bit, then the inner type
module _ (k : Pointer) (n levels : ℕ) (s : List ℕ) (at : ℕ) {y : Ty} {f : Found}
    (h : Yields (body_at (Kind.Pointer k) n levels s at) y) (g : Finds (bits 1 s at) 1 f) where
  pointer_body : body_at (Kind.Pointer k) n levels s at ≡
      after (type_at n levels s f.next.at) (λ t i. got (pointer k (eqb f.value 1) t) i)
  pointer_body = in_turn (bit s at) _ h.is (λ b m e q. rw (e, bit_value s at e g, bit_next s at e g))

  pub pointer_there : Yields (type_at n levels s f.next.at) (ty_at n levels s f.next.at)
  pointer_there = type_first n levels s f.next.at _ (yields (sym pointer_body ∙ h.is))

  pub spells_pointer : (items : List Item) {r a b c : Sink} {m : ℕ} → Wrote r (pointer_begin k) a →
      Wrote a (write_type_space items (ty_at n levels s f.next.at)) b ×
      (m ≡ next_of (type_at n levels s f.next.at)) →
      Wrote b (pointer_end k (eqb f.value 1)) c →
      Spells (write_type items) str (body_at (Kind.Pointer k) n levels s at) r c m
  unfolding write_type write_type_space
  spells_pointer items {r} {c = c} {m} u v w =
      let e : body_at (Kind.Pointer k) n levels s at ≡
      got (pointer k (eqb f.value 1) (ty_at n levels s f.next.at)) (next_of (type_at n levels s f.next.at)) =
      pointer_body ∙ ap (λ (p : Got Ty). after p (λ t i. got (pointer k (eqb f.value 1) t) i)) pointer_there.is in
      spells_got (write_type items) str e (u ▷ v.0 ▷ w) v.1

-- ---- functions

-- the return type, or `void`

module _ (n levels : ℕ) (s : List ℕ) (at : ℕ) {y : Ty} (h : Yields (body_at Kind.Fn n levels s at) y) {f : Found}
    (g : Finds (bits 1 s at) 1 f) where
  return_there : There none (optional (type_at n levels) s at)
  return_there = first_there none (optional (type_at n levels) s at) _ h

  return_some : f.value ≡ 1 →
      optional (type_at n levels) s at ≡ after (type_at n levels s f.next.at) (λ t i. got (gives t) i)
  return_some z =
      in_turn (bit s at) _ return_there.is (λ b m e q.
      let v : b ≡ true = bit_value s at e g ∙ eq-eqb _ _ z in
      rw (e, v, bit_next s at e g))

  return_none : (f.value ≡ 1 → ⊥) → optional (type_at n levels) s at ≡ got none f.next.at
  return_none z =
      in_turn (bit s at) _ return_there.is (λ b m e q.
      let v : b ≡ false = bit_value s at e g ∙ ne_eqb _ _ z in
      rw (e, v, bit_next s at e g))

  pub gives_there : f.value ≡ 1 → Yields (type_at n levels s f.next.at) (ty_at n levels s f.next.at)
  gives_there z = type_first n levels s f.next.at _ (yields (sym (return_some z) ∙ return_there.is))

  pub spells_gives : (items : List Item) {r a : Sink} {m : ℕ} → f.value ≡ 1 →
      Wrote r (write_type items (ty_at n levels s f.next.at)) a × (m ≡ next_of (type_at n levels s f.next.at)) →
      Spells (write_ret items) none (optional (type_at n levels) s at) r a m
  unfolding write_ret
  spells_gives items z w =
      let e : optional (type_at n levels) s at ≡
      got (gives (ty_at n levels s f.next.at)) (next_of (type_at n levels s f.next.at)) =
      return_some z ∙ ap (λ (p : Got Ty). after p (λ t i. got (gives t) i)) (gives_there z).is in
      spells_got (write_ret items) none e w.0 w.1

  pub spells_void : (items : List Item) {r a : Sink} → (f.value ≡ 1 → ⊥) → Wrote r (bytes "void") a →
      Spells (write_ret items) none (optional (type_at n levels) s at) r a f.next.at
  unfolding write_ret
  spells_void items z w = spells_got (write_ret items) none (return_none z) w refl

-- behind the return type a number, and so many types
module _ (n levels : ℕ) (s : List ℕ) (at : ℕ) {y : Ty} (h : Yields (body_at Kind.Fn n levels s at) y) where
  abbrev ty : Dec Ty
  ty = type_at n levels

  module _ (items : List Item) {a b : Sink} {i : ℕ} {f : Found}
      (v : Spells (write_ret items) none (optional ty s at) a b i) (g : Finds (bits 4 s i) 4 f) where
    fn_body : body_at Kind.Fn n levels s at ≡
        after (many f.value ty s f.next.at) (λ ts j. got (fn (value_or none (optional ty s at)) (tys ts)) j)
    fn_body =
        in_turn (optional ty s at) _ h.is (λ r a d q.
        let z : i ≡ a = v.next ∙ ap next_of d in
        in_turn (bits 4 s a) _ q (λ k b c u.
        let v : bits 4 s i ≡ got k b = rw z c in
        rw (d, c, found_value g v, found_next g v)))

    pub types_there : There [] (many f.value ty s f.next.at)
    types_there = first_there [] (many f.value ty s f.next.at) _ (rw fn_body at h)

    pub spells_fn : {r c d x : Sink} {m : ℕ} → Wrote r (bytes "::rust::Fn<") a → Wrote b (bytes "(") c →
        Spells (write_arguments items) [] (many f.value ty s f.next.at) c d m →
        Wrote d (bytes ")>") x → Spells (write_type items) str (body_at Kind.Fn n levels s at) r x m
    unfolding write_type
    spells_fn {m = m} u w y z =
        let l = types_there.is in
        let k : m ≡ next_of (many f.value ty s f.next.at) = y.next in
        rw (fn_body, l) (record { wrote = u ▷ v.wrote ▷ w ▷ y.wrote ▷ z; next = k })
