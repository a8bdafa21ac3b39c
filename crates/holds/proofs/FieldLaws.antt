-- Laws of the fields of a struct: which struct each holds by its name.
use mathlib.Core.Path.{◌≡◌, refl, sym, ap, ◌∙◌}
use mathlib.Core.List.{List, [], ◌∷◌, ◌++◌, append_assoc, append-nil}
use mathlib.Core.Bool.{Bool, true, false}
use Rattle.std.specs.Prelude.{Option, None}
use Rattle.std.specs.Bool.{then_some}
use Prim.Native.Nat.{ℕ, suc, ◌+◌, ◌-◌, ◌<◌, ◌≤◌}
use native.Mathlib.Omega.{arith}
use lib.ListN.{length, length-append}
use Rattle.format.specs.Limits.{most_fields}
use Rattle.format.specs.Decode.{got, pick, Dec, many}
use Rattle.format.specs.Bits.{bits, bit, width_of, index}
use Rattle.format.specs.Types.{Ty, atom, named, template, pointer, str, fn, array}
use Rattle.format.specs.Sheet.{Name, Body, struct, enum, cxx_type, rust_type, function, Item}
use Rattle.format.specs.Decoding.{kind_of, optional, type_body, type_at, type, struct_body, item_body}
use Rattle.format.specs.declared.ItemKind.{ItemKind}
use Rattle.format.specs.declared.ItemKind.TheVariants as Part
use Rattle.format.specs.declared.TypeKind.{TypeKind}
use Rattle.format.specs.declared.TypeKind.TheVariants as Kind
use Rattle.syntax.specs.Items.{item_at, is_struct}
use Rattle.rules.specs.Rules.{gather, held_by, fields_of, held_structs}
use Rattle.cursor.specs.declared.Cursor.{Cursor}
use Rattle.cursor.proofs.CheckLaws.{many_length}
use Rattle.cursor.proofs.WidthLaws.{index_field, index_lt}
use Rattle.cursor.specs.declared.Found.{Found}
use Rattle.view.specs.Values.{value_or, next_of, Yields, type_here}
use Rattle.view.specs.Views.{Finds, kind_of_body, is_named_kind}
use Rattle.cursor.proofs.YieldLaws.{in_turn, found, got_value, got_next}
use Rattle.holds.specs.declared.FieldView.{FieldView}
use Rattle.holds.specs.Edges.{is_struct_kind, counted, named_at, fields_here, Tells, Puts}
use Rattle.holds.proofs.PutLaws.{put_both, put_nothing}

pub counted_some : (b : Bool) (i : ℕ) → counted (then_some b i) ≡ pick b (i ∷ []) []
counted_some true i = refl
counted_some false i = refl

-- ---- one field

-- a type of another kind holds no struct by its name
module _ (items : List Item) (n : ℕ) (ty : Dec Ty) (s : List ℕ) (at : ℕ) {t : Ty} {e : ℕ} where
  other_body : (k : TypeKind) → is_named_kind k ≡ false → type_body k n ty s at ≡ got t e → [] ≡ held_by items t
  other_body Kind.Named f h = absurd (let z : ◌≡◌ {A = ℕ} 0 1 = cc in omega arith)
  other_body Kind.Atom f h = in_turn (bits 4 s at) _ h (λ a m e₁ h₁. ap (held_by items) (got_value h₁))
  other_body (Kind.Template k) f h = in_turn (ty s at) _ h (λ a m e₁ h₁. ap (held_by items) (got_value h₁))
  other_body (Kind.Pointer k) f h =
      in_turn (bit s at) _ h (λ a m e₁ h₁. in_turn (ty s m) _ h₁ (λ b l e₂ h₂. ap (held_by items) (got_value h₂)))
  other_body Kind.Str f h = ap (held_by items) (got_value h)
  other_body Kind.Fn f h =
      in_turn (optional ty s at) _ h (λ a m e₁ h₁.
      in_turn (bits 4 s m) _ h₁ (λ b l e₂ h₂.
      in_turn (many b ty s l) _ h₂ (λ c i e₃ h₃. ap (held_by items) (got_value h₃))))
  other_body Kind.Array f h =
      in_turn (ty s at) _ h (λ a m e₁ h₁. in_turn (bits 32 s m) _ h₁ (λ b l e₂ h₂. ap (held_by items) (got_value h₂)))
  other_body Kind.Bad f h = absurd (let z : ◌≡◌ {A = ℕ} 0 1 = cc in omega arith)

-- the body of a named type reads no inner type
named_body : (n : ℕ) (ty : Dec Ty) (s : List ℕ) (at : ℕ) (k : TypeKind) → is_named_kind k ≡ true →
    type_body k n ty s at ≡ named_at n s at
named_body n ty s at Kind.Named f = refl
named_body n ty s at Kind.Atom f = absurd (let z : ◌≡◌ {A = ℕ} 0 1 = cc in omega arith)
named_body n ty s at (Kind.Template k) f = absurd (let z : ◌≡◌ {A = ℕ} 0 1 = cc in omega arith)
named_body n ty s at (Kind.Pointer k) f = absurd (let z : ◌≡◌ {A = ℕ} 0 1 = cc in omega arith)
named_body n ty s at Kind.Str f = absurd (let z : ◌≡◌ {A = ℕ} 0 1 = cc in omega arith)
named_body n ty s at Kind.Fn f = absurd (let z : ◌≡◌ {A = ℕ} 0 1 = cc in omega arith)
named_body n ty s at Kind.Array f = absurd (let z : ◌≡◌ {A = ℕ} 0 1 = cc in omega arith)
named_body n ty s at Kind.Bad f = absurd (let z : ◌≡◌ {A = ℕ} 0 1 = cc in omega arith)

module _ (n : ℕ) (s : List ℕ) (at : ℕ) (y : Yields (type n s at) (type_here n s at)) {f : Found} (g : Finds (bits 4 s at) 4 f) where
  -- behind the kind stands the rest of the type
  type_rest : type n s at ≡ type_body (kind_of f.value) n (type_at n 7) s f.next.at
  unfolding type type_at
  type_rest = in_turn (bits 4 s at) _ y.is (λ k m e h. rw (found g e))

  pub type_named : {k : TypeKind} → k ≡ kind_of f.value → is_named_kind k ≡ true → type n s at ≡ named_at n s f.next.at
  type_named {k} e b =
      type_rest ∙ ap (λ (z : TypeKind). type_body z n (type_at n 7) s f.next.at) (sym e)
      ∙ named_body n (type_at n 7) s f.next.at k b

  pub yields_named : {k : TypeKind} → k ≡ kind_of f.value → is_named_kind k ≡ true →
      Yields (named_at n s f.next.at) (value_or str (named_at n s f.next.at))
  yields_named e b = let q = type_named e b in record { is = rw (sym q ∙ y.is) }

  pub tells_by_name : {items : List Item} {k : TypeKind} {h : FieldView} → k ≡ kind_of f.value → is_named_kind k ≡ true →
      Tells items (named_at n s f.next.at) h → Tells items (type n s at) h
  tells_by_name e b t = rw (type_named e b) t

  pub tells_other : (items : List Item) {k : TypeKind} {c : Cursor} → k ≡ kind_of f.value → is_named_kind k ≡ false →
      c.at ≡ next_of (type n s at) → Tells items (type n s at) (record { held = None; next = c })
  unfolding type_here
  tells_other items {k} e b c = record {
    held =
        other_body items n (type_at n 7) s f.next.at k b
        (ap (λ (z : TypeKind). type_body z n (type_at n 7) s f.next.at) e ∙ sym type_rest ∙ y.is);
    next = c;
  }

-- an index of an item, as it was found
module _ (n : ℕ) (s : List ℕ) (at : ℕ) (y : Yields (named_at n s at) (value_or str (named_at n s at))) {w : ℕ}
    (z : w ≡ width_of n) {f : Found} (g : Finds (bits w s at) w f) where
  index_found : index n s at ≡ got f.value f.next.at
  index_found =
      in_turn (index n s at) _ y.is (λ i m e h.
      let d : bits w s at ≡ got i m = rw z (index_field n s at e) in
      e ∙ sym d ∙ found g d)

  pub found_there : f.value < n
  found_there = index_lt n s at index_found

  pub tells_named : (items : List Item) {b : Bool} {o : Option ℕ} → b ≡ is_struct (item_at items f.value).body →
      o ≡ then_some b f.value → Tells items (named_at n s at) (record { held = o; next = f.next })
  tells_named items {b} e h = record {
    held = ap counted h ∙ counted_some b f.value ∙ rw (index_found, e);
    next = rw index_found;
  }

-- ---- fields in a row

pub record First (n k : ℕ) (s : List ℕ) (at e : ℕ) (ts : List Ty) : Type 0 where
  pub field : Ty
  pub others : List Ty
  pub next : ℕ
  pub reads : type n s at ≡ got field next
  pub rest : many k (type n) s next ≡ got others e
  pub both : field ∷ others ≡ ts

pub first : (n k : ℕ) (s : List ℕ) (at : ℕ) {e : ℕ} {ts : List Ty} → many (suc k) (type n) s at ≡ got ts e → First n k s at e ts
unfolding many
first n k s at {e} h =
    in_turn (type n s at) _ h (λ t m e₁ h₁.
    in_turn (many k (type n) s m) _ h₁ (λ ts l e₂ h₂. record {
      field = t;
      others = ts;
      next = m;
      reads = e₁;
      rest = e₂ ∙ ap (λ (z : ℕ). got ts z) (got_next h₂);
      both = got_value h₂;
    }))

pub few_held : (items : List Item) (ts : List Ty) → length (gather (held_by items) ts) ≤ length ts
unfolding gather
few_held items [] = omega arith
few_held items (t ∷ ts) =
    omega (arith, one t, few_held items ts, length-append (held_by items t) (gather (held_by items) ts))
  where
    by_test : (b : Bool) (i : ℕ) → length (pick b (i ∷ []) []) ≤ 1
    by_test true i = omega arith
    by_test false i = omega arith

    one : (t : Ty) → length (held_by items t) ≤ 1
    one (named i) = by_test (is_struct (item_at items i).body) i
    one (atom a) = omega arith
    one (template k t) = omega arith
    one (pointer k m t) = omega arith
    one str = omega arith
    one (fn r ts) = omega arith
    one (array t n) = omega arith

gather_last : (items : List Item) (ts : List Ty) (t : Ty) →
    gather (held_by items) ts ++ held_by items t ≡ gather (held_by items) (ts ++ (t ∷ []))
unfolding gather
gather_last items [] t = sym (append-nil (held_by items t))
gather_last items (u ∷ ts) t =
    append_assoc (held_by items u) (gather (held_by items) ts) (held_by items t)
    ∙ ap (λ (l : List ℕ). held_by items u ++ l) (gather_last items ts t)

pub one_less : {n i : ℕ} → i < n → n - i ≡ suc (n - (i + 1))
one_less h = omega arith

-- of the fields `all`, k are left, and what the others hold was put behind the first `start`
module _ (items : List Item) (n : ℕ) (s : List ℕ) (all : List Ty) (start : ℕ) (before : List ℕ) where
  pub record Walking (k at end : ℕ) (held : List ℕ) : Type 0 where
    pub done : List Ty
    pub left : List Ty
    pub last : ℕ
    pub whole : done ++ left ≡ all
    pub reads : many k (type n) s at ≡ got left last
    pub puts : Puts (gather (held_by items) done) start before end held

  pub walk_none : {k j at : ℕ} → j ≡ k → Yields (many k (type n) s at) all → Walking j at start before
  unfolding gather
  walk_none {k} {j} {at} e y = rw e record {
    done = [];
    left = all;
    last = next_of (many k (type n) s at);
    whole = refl;
    reads = y.is;
    puts = put_nothing before start;
  }

  module _ {k at end : ℕ} {held : List ℕ} (w : Walking k at end held) where
    walk_few : end + k ≤ start + length all
    walk_few =
        let l : length w.left ≡ k = many_length (type n) s k at w.reads in
        omega (arith, w.puts.end, few_held items w.done, length-append w.done w.left, ap length w.whole)

    pub walk_room : (m at₀ : ℕ) → Yields (many m (type n) s at₀) all → 0 < k → start + m ≤ length before → end < length held
    walk_room m at₀ y h l =
        let z : length all ≡ m = many_length (type n) s m at₀ y.is in
        omega (arith, walk_few, w.puts.kept)

    module _ {j : ℕ} (h : k ≡ suc j) where
      next_field : First n j s at w.last w.left
      next_field = first n j s at (rw h at w.reads)

      pub walk_type : Yields (type n s at) (type_here n s at)
      unfolding type_here
      walk_type = record { is = rw next_field.reads }

      pub walk_next : {f : FieldView} {r : ℕ} {after : List ℕ} → Tells items (type n s at) f →
          Puts (counted f.held) end held r after → Walking j f.next.at r after
      walk_next {f} {r} {after} t p =
          let a = next_field in
          let e : counted f.held ≡ held_by items a.field = t.held ∙ rw a.reads in
          let m : f.next.at ≡ a.next = t.next ∙ rw a.reads in
          let q : Puts (gather (held_by items) w.done ++ held_by items a.field) start before r after =
          rw (← e) (put_both w.puts p) in
          record {
            done = w.done ++ (a.field ∷ []);
            left = a.others;
            last = w.last;
            whole = append_assoc w.done (a.field ∷ []) a.others ∙ ap (λ (l : List Ty). w.done ++ l) a.both ∙ w.whole;
            reads = rw m a.rest;
            puts = rw (← gather_last items w.done a.field) q;
          }

    pub walk_done : k ≡ 0 → Puts (gather (held_by items) all) start before end held
    unfolding many
    walk_done h =
        let e : got [] at ≡ got w.left w.last = rw h at w.reads in
        let z : w.done ≡ all = sym (append-nil w.done) ∙ ap (λ (l : List Ty). w.done ++ l) (got_value e) ∙ w.whole in
        rw (← z) w.puts

-- ---- a struct

kind_struct : (b : Body) → is_struct_kind (kind_of_body b) ≡ is_struct b
kind_struct (struct p ts) = refl
kind_struct (enum p a c) = refl
kind_struct (cxx_type p) = refl
kind_struct (rust_type p) = refl
kind_struct (function f) = refl

pub struct_told : (items : List Item) (i : ℕ) {b : Bool} {k : ItemKind} → b ≡ is_struct_kind k →
    k ≡ kind_of_body (item_at items i).body → b ≡ is_struct (item_at items i).body
struct_told items i e h = e ∙ ap is_struct_kind h ∙ kind_struct (item_at items i).body

pub struct_kind : (k : ItemKind) → is_struct_kind k ≡ true → k ≡ Part.Struct
struct_kind Part.Struct e = refl
struct_kind Part.Enum e = absurd (let z : ◌≡◌ {A = ℕ} 0 1 = cc in omega arith)
struct_kind Part.CxxType e = absurd (let z : ◌≡◌ {A = ℕ} 0 1 = cc in omega arith)
struct_kind Part.RustType e = absurd (let z : ◌≡◌ {A = ℕ} 0 1 = cc in omega arith)
struct_kind Part.RustFunction e = absurd (let z : ◌≡◌ {A = ℕ} 0 1 = cc in omega arith)
struct_kind Part.Bad e = absurd (let z : ◌≡◌ {A = ℕ} 0 1 = cc in omega arith)

pub struct_body_lem : {k : ItemKind} (ns : List Name) (n : ℕ) (s : List ℕ) (at : ℕ) {b : Body} → k ≡ Part.Struct →
    Yields (item_body k ns n s at) b → Yields (struct_body n s at) b
struct_body_lem {k} ns n s at {b} e y = rw e at y

module _ (n : ℕ) (s : List ℕ) (at : ℕ) {b : Body} (y : Yields (struct_body n s at) b) {p : Found}
    (gp : Finds (bits 1 s at) 1 p) {k : Found} (gk : Finds (bits 6 s p.next.at) 6 k) where
  fields_read : (e : ℕ) × (many k.value (type n) s k.next.at ≡ got (fields_of b) e)
  unfolding struct_body bit
  fields_read =
      in_turn (bit s at) _ y.is (λ x a e₁ h₁.
      in_turn (bits 1 s at) _ e₁ (λ v c e₀ h₀.
      in_turn (bits 6 s a) _ h₁ (λ m d e₂ h₂.
      in_turn (many m (type n) s d) _ h₂ (λ ts e e₃ h₃.
      let q : a ≡ p.next.at = sym (got_next h₀) ∙ got_next (sym e₀ ∙ found gp e₀) in
      let f : bits 6 s p.next.at ≡ got m d = rw (← q) e₂ in
      let g = sym f ∙ found gk f in
      (e, (rw (got_value g, got_next g) at e₃) ∙ ap (λ (l : List Ty). got l e) (ap fields_of (got_value h₃)))))))

  pub fields_there : Yields (many k.value (type n) s k.next.at) (fields_here n k.value s k.next.at)
  unfolding fields_here
  fields_there = record { is = rw fields_read.1 }

  fields_are : fields_here n k.value s k.next.at ≡ fields_of b
  unfolding fields_here
  fields_are = rw fields_read.1

  pub struct_puts : (items : List Item) (i : ℕ) {start r : ℕ} {before after : List ℕ} → (item_at items i).body ≡ b →
      Puts (gather (held_by items) (fields_here n k.value s k.next.at)) start before r after →
      Puts (held_structs items i) start before r after × (r ≤ start + most_fields)
  unfolding held_structs
  struct_puts items i {start} {r} {before} {after} e q =
      let l : length (fields_of b) ≡ k.value = many_length (type n) s k.value k.next.at fields_read.1 in
      let p : Puts (gather (held_by items) (fields_of b)) start before r after = rw (← fields_are) q in
      (rw e p, omega (arith, p.end, few_held items (fields_of b), gk.low))
