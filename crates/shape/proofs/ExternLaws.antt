-- An argument as a declaration has it, and as a shim has it.
use mathlib.Core.Path.{◌≡◌, refl, sym, ap, ◌∙◌}
use mathlib.Core.List.{List, [], ◌++◌}
use mathlib.Core.Bool.{Bool, true}
use Prim.Native.Nat.{ℕ, ◌+◌}
use native.Mathlib.Omega.{arith}
use lib.ListN.{length, get_or}
use Rattle.lexical.specs.Bytes.{bytes}
use Rattle.lexical.specs.Decimal.{pick_text}
use Rattle.format.specs.Decode.{got}
use Rattle.format.specs.Types.{Ty, atom, named, template, pointer, str, fn, array}
use Rattle.format.specs.Sheet.{Argument, Item}
use Rattle.format.specs.Decoding.{type_body, type_at, type}
use Rattle.format.specs.declared.Template.{Template}
use Rattle.format.specs.declared.Template.TheVariants.{RustBox, RustVec, UniquePtr, SharedPtr, WeakPtr, CxxVector}
use Rattle.format.specs.declared.Pointer.TheVariants.{Ref, Ptr, SliceRef}
use Rattle.format.specs.declared.TypeKind.TheVariants as Kind
use Rattle.syntax.specs.Types.{needs_indirect_abi}
use Rattle.bridge.specs.WriteType.{write_type_space}
use Rattle.bridge.specs.Write.{write_pointer, shape, extern_arg_type, extern_arg}
use Rattle.sink.specs.Sink.{Sink, Wrote}
use Rattle.sink.proofs.SinkLaws.{◌▷◌, wrote_as}
use Rattle.view.specs.declared.ArgumentView.{ArgumentView}
use Rattle.cursor.proofs.YieldLaws.{in_turn, got_value, yields}
use Rattle.types.proofs.KindLaws.{behind_kind}
use Rattle.view.specs.Values.{Yields, name_at, items_at, type_here}
use Rattle.view.specs.Views.{ArgumentOf, kind_of_type, owner_of}
use Rattle.write_type.specs.TypeAt.{ty_at}
use Rattle.write_type.proofs.TypeLaws.{type_is, type_yields}
use Rattle.shape.proofs.TypeLaws.{here_is}

-- ---- types by their owners

module _ (n : ℕ) (s : List ℕ) (at : ℕ) (items : List Item) where
  abbrev inner : Ty
  inner = ty_at n 7 s (at + 4)

  -- inside a template
  inside : (k : Template) {u : Ty} {m : ℕ} →
      type_body (Kind.Template k) n (type_at n 7) s (at + 4) ≡ got (template k u) m → Yields (type_at n 7 s (at + 4)) u
  inside k {u} h =
      in_turn (type_at n 7 s (at + 4)) _ h (λ v a e g.
      let q : template k v ≡ template k u = got_value g in
      let w : v ≡ u = cc in
      rw (← w) (yields e))

  owned : (t : Ty) {m : ℕ} → type_body (kind_of_type t) n (type_at n 7) s (at + 4) ≡ got t m →
      (owner_of (kind_of_type t) ≡ 0 → ⊥) →
      Yields (type_at n 7 s (at + 4)) inner × (write_pointer items true inner ≡ extern_arg_type items t (shape t))
  owned (template RustBox u) h z =
      let y = inside RustBox h in (type_yields n 7 s (at + 4) y, rw (type_is n 7 s (at + 4) y))
  owned (template UniquePtr u) h z =
      let y = inside UniquePtr h in (type_yields n 7 s (at + 4) y, rw (type_is n 7 s (at + 4) y))
  owned (template RustVec u) h z = absurd (z refl)
  owned (template SharedPtr u) h z = absurd (z refl)
  owned (template WeakPtr u) h z = absurd (z refl)
  owned (template CxxVector u) h z = absurd (z refl)
  owned (atom a) h z = absurd (z refl)
  owned (named i) h z = absurd (z refl)
  owned (pointer k m u) h z = absurd (z refl)
  owned str h z = absurd (z refl)
  owned (fn r ts) h z = absurd (z refl)
  owned (array u k) h z = absurd (z refl)

plain : (items : List Item) (t : Ty) → owner_of (kind_of_type t) ≡ 0 →
    write_type_space items t ≡ extern_arg_type items t (shape t)
plain items (template RustBox u) z = absurd (omega arith)
plain items (template UniquePtr u) z = absurd (omega arith)
plain items (template RustVec u) z = refl
plain items (template SharedPtr u) z = refl
plain items (template WeakPtr u) z = refl
plain items (template CxxVector u) z = refl
plain items (atom a) z = refl
plain items (named i) z = refl
plain items (pointer Ref m u) z = refl
plain items (pointer Ptr m u) z = refl
plain items (pointer SliceRef m u) z = refl
plain items str z = refl
plain items (fn r ts) z = refl
plain items (array u k) z = refl

module _ (s names items : List ℕ) (at : ℕ) where
  abbrev here : Ty
  here = type_here (length items) s at

  module _ (y : Yields (type (length items) s at) here) {o : ℕ} (e : o ≡ owner_of (kind_of_type here)) where
    pub arg_plain : {r t : Sink} → o ≡ 0 → Wrote r (write_type_space (items_at s names items) here) t →
        Wrote r (extern_arg_type (items_at s names items) here (shape here)) t
    arg_plain z p = wrote_as p (plain (items_at s names items) here (sym e ∙ z))

    module _ (z : o ≡ 0 → ⊥) where
      there : Yields (type_at (length items) 7 s (at + 4)) (ty_at (length items) 7 s (at + 4)) ×
          (write_pointer (items_at s names items) true (ty_at (length items) 7 s (at + 4)) ≡
          extern_arg_type (items_at s names items) here (shape here))
      there = owned (length items) s at (items_at s names items) here (behind_kind (length items) s at y) (rw (← e) z)

      pub arg_inner : Yields (type_at (length items) 7 s (at + 4)) (ty_at (length items) 7 s (at + 4))
      arg_inner = there.0

      pub arg_owner : {r t : Sink} →
          Wrote r (write_pointer (items_at s names items) true (ty_at (length items) 7 s (at + 4))) t →
          Wrote r (extern_arg_type (items_at s names items) here (shape here)) t
      arg_owner p = wrote_as p there.1

-- ---- an argument

pub argument_written : {s names : List ℕ} {n : ℕ} {x : Argument} {v : ArgumentView} (items : List Item) {b : Bool}
    {r t u w : Sink} → ArgumentOf s names n x v → b ≡ needs_indirect_abi items (type_here n s v.of.at) →
    Wrote r (extern_arg_type items (type_here n s v.of.at) (shape (type_here n s v.of.at))) t →
    Wrote t (pick_text b (bytes "*") []) u → Wrote u (name_at s (get_or names v.name 0)) w →
    Wrote r (extern_arg items x) w
unfolding extern_arg
argument_written {s} {n} {v} items o h p q z =
    wrote_as (p ▷ q ▷ z) (rw (h, here_is n s v.of.at o.of, o.name))

-- the same as a parameter of a shim
pub parameter_written : (items : List Item) {s names : List ℕ} {n : ℕ} {x : Argument} {v : ArgumentView}
    {r t u : Sink} →
    ArgumentOf s names n x v → Wrote r (write_type_space items (type_here n s v.of.at)) t →
    Wrote t (name_at s (get_or names v.name 0)) u → Wrote r (write_type_space items x.type ++ x.name) u
parameter_written items {s} {n = n} {v = v} a p q =
    wrote_as p (ap (write_type_space items) (here_is n s v.of.at a.of)) ▷ wrote_as q a.name
