-- Laws of functions by number.
use mathlib.Core.Path.{◌≡◌, refl, sym, ap, ◌∙◌}
use mathlib.Core.List.{List}
use mathlib.Core.Bool.{Bool, true, false}
use Prim.Native.Nat.{ℕ, zero, suc, ◌<◌, ◌+◌, ◌*◌, ◌/◌, ◌%◌, ◌≤◌}
use native.Mathlib.Omega.{arith}
use lib.ListN.{length}
use lib.Dec.{eqb}
use borrow.Author.Tests.{eq-eqb, ne_eqb}
use Rattle.format.specs.Decode.{got, many}
use Rattle.format.specs.Bits.{bits_at, bits, bit, width_of, index}
use Rattle.format.specs.Types.{Ty, Ret, none}
use Rattle.format.specs.Sheet.{Form, free, Function, function}
use Rattle.format.specs.Decoding.{form, form_of as form_by, type, optional, argument, item_body, function_body}
use Rattle.format.specs.declared.ItemKind.{ItemKind}
use Rattle.format.specs.declared.ItemKind.TheVariants.{RustFunction}
use Rattle.syntax.specs.Items.{item_at}
use Rattle.cursor.specs.Checking.{Limited}
use Rattle.cursor.proofs.BitLaws.{bits_split, bits_lt}
use Rattle.cursor.proofs.WidthLaws.{index_field, index_lt}
use Rattle.cursor.specs.declared.Found.{Found}
use Rattle.cursor.specs.declared.Cursor.{Cursor}
use Rattle.std.specs.Prelude.{IfSome}
use Rattle.view.specs.declared.FormView.{FormView}
use Rattle.view.specs.declared.FormView.TheVariants.{Free}
use Rattle.view.specs.declared.ItemView.{ItemView}
use Rattle.view.specs.Values.{value_or, next_of, Yields, names_at, items_at, function_at, type_here}
use Rattle.view.specs.Views.{Finds, ItemAt, form_of, form_view, self_number, FormOf, Formed, return_of, return_here, comment_lines, FunctionOf}
use Rattle.cursor.proofs.YieldLaws.{yields, yielded, in_turn, got_value, got_next, found_value, found_next}
use Rattle.cursor.proofs.YieldLaws.{bits_there, bit_value, bit_next}
use Rattle.view.proofs.PartLaws.{finds, name_room, bit_room, bit_end, FunctionParts, function_parts}
use Rattle.names.proofs.NameLaws.{Read, name_read}
use Rattle.types.proofs.KindLaws.{type_yields}

-- ---- forms

view_form : (k i : ℕ) → form_by k i ≡ form_of (form_view k i)
view_form zero i = refl
view_form (suc zero) i = refl
view_form (suc (suc zero)) i = refl
view_form (suc (suc (suc k))) i = refl

view_below : (k i : ℕ) {n : ℕ} → i < n → IfSome (self_number (form_view k i)) (λ j. j < n)
view_below zero i h = tt
view_below (suc zero) i h = h
view_below (suc (suc zero)) i h = h
view_below (suc (suc (suc k))) i h = h

module _ (n : ℕ) (s : List ℕ) (at : ℕ) {f : Found} (ff : Finds (bits 2 s at) 2 f) where
  pub form_free : f.value ≡ 0 → Formed (form n s at) n Free f.next
  unfolding form
  form_free z = record {
    there = λ x m h. in_turn (bits 2 s at) _ h (λ k a e h₁.
        let g = rw (eq-eqb k 0 (found_value ff e ∙ z)) at h₁ in
        (record { form = sym (got_value g); owner = tt }, sym (got_next g) ∙ found_next ff e));
  }

  pub form_owned : {w : ℕ} {i : Found} {r : FormView} → (f.value ≡ 0 → ⊥) → w ≡ width_of n →
      Finds (bits w s f.next.at) w i → r ≡ form_view f.value i.value → Formed (form n s at) n r i.next
  unfolding form
  form_owned {w} {i} z u fi o = record {
    there = λ x m h. in_turn (bits 2 s at) _ h (λ k a e h₁.
        let v : k ≡ f.value = found_value ff e in
        let g = rw (ne_eqb k 0 (λ q. z (sym v ∙ q))) at h₁ in
        in_turn (index n s a) _ g (λ j b e₂ h₂.
        let d : bits w s f.next.at ≡ got j b =
        rw (u, ← found_next ff e) (index_field n s a e₂) in (
          record {
            form = rw o (sym (got_value h₂) ∙ (ap (λ (y : ℕ). form_by y j) v ∙ ap (λ (y : ℕ). form_by f.value y) (found_value fi d)) ∙ view_form f.value i.value);
            owner = rw o (view_below f.value i.value (rw (← found_value fi d) (index_lt n s a e₂)));
          },
          sym (got_next h₂) ∙ found_next fi d,
        )));
  }

-- all bits of a form that is there are, and it was read without a test
module _ (n : ℕ) (s : List ℕ) (at : ℕ) {x : Form} (l : Limited s) (y : Yields (form n s at) x) where
  pub form_room : at + 2 ≤ 8 * length s
  unfolding form
  form_room = in_turn (bits 2 s at) _ y.is (λ k a e h. (bits_there 2 s at e).0)

  module _ {k : ℕ} (f : k ≡ bits_at s at 2) where
    pub form_none : k ≡ 0 → Formed (form n s at) n Free (record { at = at + 2 })
    form_none z = form_free n s at (finds 2 s at l form_room f) z

    module _ {w : ℕ} (z : k ≡ 0 → ⊥) (u : w ≡ width_of n) where
      pub owner_room : at + 2 + w ≤ 8 * length s
      unfolding form
      owner_room =
          in_turn (bits 2 s at) _ y.is (λ j a e h.
          let q = bits_there 2 s at e in
          in_turn (index n s a) _ (rw (ne_eqb j 0 (λ o. z (f ∙ sym q.1 ∙ o))) at h) (λ i b g h₁.
          rw (u, ← q.2) (bits_there (width_of n) s a (index_field n s a g)).0))

      pub form_some : {i : ℕ} {r : FormView} → i ≡ bits_at s (at + 2) w → r ≡ form_view k i →
          Formed (form n s at) n r (record { at = at + 2 + w })
      form_some e o = form_owned n s at (finds 2 s at l form_room f) z u (finds w s (at + 2) l owner_room e) o

-- ---- what a function returns

module _ (n : ℕ) (s : List ℕ) (at : ℕ) {b : Bool} where
  pub return_none : b ≡ false → at ≡ next_of (return_of b (type n) s at)
  return_none e = rw e

  module _ (e : b ≡ true) {r : Ret} (y : Yields (return_of b (type n) s at) r) where
    gave : (t : Ty) × (type n s at ≡ got t (next_of (return_of b (type n) s at)))
    gave =
        in_turn (type n s at) _ (rw e at y.is) (λ t m f h.
        (t, f ∙ ap (got t) (got_next h ∙ ap (λ (c : Bool). next_of (return_of c (type n) s at)) (sym e))))

    pub return_type : Yields (type n s at) (type_here n s at)
    return_type = type_yields n s at (yields gave.1)

    pub return_next : {k : ℕ} → k ≡ next_of (type n s at) → k ≡ next_of (return_of b (type n) s at)
    return_next h = h ∙ ap next_of gave.1

-- ---- a view of the function at a position

module _ (s names : List ℕ) (n at : ℕ) (f : Function) (p : FunctionParts (names_at s names) n s at f) (l : Limited s)
    {w : ℕ} (z : w ≡ width_of (length names)) where
  -- all bits of its Rust name's index are there
  pub rust_room : at + w ≤ 8 * length s
  rust_room = name_room s names at p.rust z

  name : {r : ℕ} → r ≡ bits_at s at w →
      Read s names f.rust p.form_at (record { value = r; next = record { at = at + w } })
  name {r} e =
      let g : Finds (bits (width_of (length names)) s at) w (record { value = r; next = record { at = at + w } }) =
      rw (← z) (finds w s at l rust_room e) in
      name_read s names at p.rust g

  behind_name : form n s (at + w) ≡ got f.form p.throws_at
  behind_name = ap (λ (a : ℕ). form n s a) (sym (name refl).next) ∙ p.form

  pub form_there : Yields (form n s (at + w)) (value_or free (form n s (at + w)))
  form_there = let y = yields behind_name in rw (yielded free y) y

  module _ {r : FormView} {g : Cursor} (fg : Formed (form n s (at + w)) n r g) where
    formed : FormOf f.form n r × (p.throws_at ≡ g.at)
    formed = fg.there f.form p.throws_at behind_name

    throws : bit s g.at ≡ got f.throws p.return_at
    throws = ap (λ (a : ℕ). bit s a) (sym formed.1) ∙ p.throws

    return : optional (type n) s (g.at + 1) ≡ got f.return p.count_at
    return = ap (λ (a : ℕ). optional (type n) s a) (sym (bit_end s g.at throws)) ∙ p.return

    -- both bits are there
    pub both_room : g.at + 2 ≤ 8 * length s
    both_room =
        in_turn (bit s (g.at + 1)) _ return (λ v m e h. omega (arith, bit_room s (g.at + 1) e))

    module _ {h : ℕ} (both : h ≡ bits_at s g.at 2) where
      split : (h / 2 ≡ bits_at s g.at 1) × (h % 2 ≡ bits_at s (g.at + 1) 1)
      split =
          let a = both ∙ bits_split s g.at 1 1 in
          let b = bits_lt s (g.at + 1) 1 in
          (omega (arith, a, b), omega (arith, a, b))

      first_bit : Finds (bits 1 s g.at) 1 (record { value = h / 2; next = record { at = g.at + 1 } })
      first_bit = finds 1 s g.at l (omega (arith, both_room)) split.0

      second_bit : Finds (bits 1 s (g.at + 1)) 1
          (record { value = h % 2; next = record { at = g.at + 2 } })
      second_bit =
          let q : g.at + 1 + 1 ≡ g.at + 2 = omega arith in
          rw q at (finds 1 s (g.at + 1) l (omega (arith, both_room)) split.1)

      returned : return_of (eqb (h % 2) 1) (type n) s (g.at + 2) ≡ got f.return p.count_at
      returned =
          in_turn (bit s (g.at + 1)) _ return (λ v m e h₁.
          rw (← bit_value s (g.at + 1) e second_bit, ← bit_next s (g.at + 1) e second_bit) h₁)

      pub return_there : Yields (return_of (eqb (h % 2) 1) (type n) s (g.at + 2))
          (return_here (eqb (h % 2) 1) n s (g.at + 2))
      unfolding return_here
      return_there = let y = yields returned in rw (yielded none y) y

      module _ {k : ℕ} (e : k ≡ next_of (return_of (eqb (h % 2) 1) (type n) s (g.at + 2))) where
        counted : bits 5 s k ≡ got p.count p.first
        counted = let u : k ≡ p.count_at = e ∙ ap next_of returned in rw u p.counted

        -- all bits of the count are there
        pub count_room : k + 5 ≤ 8 * length s
        count_room = (bits_there 5 s k counted).0

        pub function_of_lem : (i : ℕ) {q c : ℕ} → q ≡ bits_at s at w → c ≡ bits_at s k 5 →
            FunctionOf s names n f (record {
              number = i;
              rust = q;
              form = r;
              throws = eqb (h / 2) 1;
              returns = eqb (h % 2) 1;
              result = record { at = g.at + 2 };
              arguments = c;
              first = record { at = k + 5 };
            })
        unfolding comment_lines
        function_of_lem i {q} {c} fr ec =
            let fc = finds 5 s k l count_room ec in
            let xs : many c (argument (names_at s names) n) s (k + 5) ≡ got f.arguments p.comment_at =
            rw (← found_value fc counted, ← found_next fc counted) p.arguments in
            let ls : comment_lines s p.comment_at ≡ got f.comment p.end = rw p.lined p.comment in
            record {
              named = (name fr).there;
              rust = (name fr).name;
              form = formed.0;
              throws = sym (bit_value s g.at throws first_bit);
              result = yields returned;
              few = omega (arith, fc.low);
              arguments = yields xs;
              comment = yields (ap (λ (a : ℕ). comment_lines s a) (ap next_of xs) ∙ ls);
            }

-- ---- the function of an item's view

module _ {s names items : List ℕ} {v : ItemView} (at : ItemAt s names items v) (k : v.kind ≡ RustFunction) where
  body : function_body (names_at s names) (length items) s v.body.at ≡
      got (item_at (items_at s names items) v.number).body
      (next_of (item_body v.kind (names_at s names) (length items) s v.body.at))
  body =
      ap (λ (j : ItemKind). item_body j (names_at s names) (length items) s v.body.at) (sym k) ∙ at.view.body.is

  pub function_there :
      ((item_at (items_at s names items) v.number).body ≡ function (function_at s names items v.number)) ×
      FunctionParts (names_at s names) (length items) s v.body.at (function_at s names items v.number)
  unfolding function_at
  function_there =
      let q = function_parts (names_at s names) (length items) s v.body.at body in
      (rw q.1, rw q.1 q.2)
