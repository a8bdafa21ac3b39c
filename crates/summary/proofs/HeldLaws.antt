-- The locals that hold arguments, and operands: their texts, and how long they are.
use Rattle.std.proofs.Common.{◌≡◌, ℕ, zero, suc, ◌+◌, ◌<◌, ◌≤◌, min, Bool, true, false, not, ◌&&◌, List, [], ◌++◌, length, get_or, sym, refl, ap, ◌∙◌, arith, length-append}
use Rattle.lexical.specs.Bytes.{bytes}
use Rattle.lexical.specs.Decimal.{pick_text}
use Rattle.sink.specs.Sink.{Sink, sink, limit, Wrote}
use Rattle.sink.proofs.SinkLaws.{◌▷◌, wrote_nil, wrote_as}
use Rattle.sink.proofs.StoreLaws.{wrote_none}
use Rattle.format.specs.Decode.{pick}
use Rattle.format.specs.Types.{Ty, atom, named, template, pointer, str, fn, array}
use Rattle.format.specs.Sheet.{Argument, Item}
use Rattle.format.specs.declared.Template.TheVariants.{RustBox, RustVec, UniquePtr, SharedPtr, WeakPtr, CxxVector}
use Rattle.format.specs.declared.Pointer.TheVariants.{Ref, Ptr, SliceRef}
use Rattle.syntax.specs.Types.{needs_indirect_abi, is_rust_string}
use Rattle.bridge.specs.WriteType.{space_after_type, write_type, write_type_space}
use Rattle.bridge.specs.Write.{shape, is_held, held_local, operand_end, operand}
use Rattle.view.specs.declared.ArgumentView.{ArgumentView}
use Rattle.view.specs.Values.{name_at, items_at, type_here}
use Rattle.view.specs.Views.{ArgumentOf, FactsOf, kind_of_type, owner_of}
use Rattle.count_type.specs.Counts.{Counts}
use Rattle.shape.proofs.TypeLaws.{here_is}
use Rattle.summary.specs.Ends.{owner_end}

-- ---- lengths

-- what stands behind an operand's name, by its owner
pub end_by_owner : {o k n : ℕ} (held : Bool) → o ≡ k → n ≡ length (owner_end k held) → n ≡ length (owner_end o held)
end_by_owner held e p = rw e p

pub end_of_others : (o : ℕ) {u : Type 0} {n : ℕ} (held : Bool) → (u × (o ≡ 1 → ⊥)) × (o ≡ 2 → ⊥) →
    n ≡ length (pick_text held (bytes "$.value") []) → n ≡ length (owner_end o held)
end_of_others zero held h p = p
end_of_others (suc zero) held h p = absurd (h.0.1 refl)
end_of_others (suc (suc zero)) held h p = absurd (h.1 refl)
end_of_others (suc (suc (suc o))) held h p = p

-- behind an indirect type stands a space
indirect_space : (items : List Item) (t : Ty) → needs_indirect_abi items t ≡ true → space_after_type t ≡ bytes " "
unfolding needs_indirect_abi
indirect_space items (atom a) h = refl
indirect_space items (named i) h = refl
indirect_space items (template k t) h = refl
indirect_space items (pointer k m t) h = absurd (let z : ◌≡◌ {A = ℕ} 0 1 = cc in omega arith)
indirect_space items str h = refl
indirect_space items (fn r ts) h = refl
indirect_space items (array t n) h = refl

both_true : (a b : Bool) → (a && b) ≡ true → b ≡ true
both_true true b h = h
both_true false b h = absurd (let z : ◌≡◌ {A = ℕ} 0 1 = cc in omega arith)

held_space : (items : List Item) (t : Ty) → is_held items t ≡ true →
    length (write_type_space items t) ≡ length (write_type items t) + 1
unfolding is_held write_type_space
held_space items t h =
    length-append (write_type items t) (space_after_type t) ∙
    rw (indirect_space items t (both_true (not (is_rust_string t)) (needs_indirect_abi items t) h))

local_length : (t x : List ℕ) →
    length (bytes "  ::rust::ManuallyDrop<" ++ t ++ bytes "> " ++ x ++ bytes "$(::std::move(" ++ x ++ bytes "));\n") ≡
    43 + length t + length x + length x
local_length t x = simp length-append (omega arith)

-- ---- operands and locals, by the view of an argument
end_is : (t : Ty) (held : Bool) → owner_end (owner_of (kind_of_type t)) held ≡ operand_end (shape t) held
end_is (template RustBox u) held = refl
end_is (template UniquePtr u) held = refl
end_is (template RustVec u) held = refl
end_is (template SharedPtr u) held = refl
end_is (template WeakPtr u) held = refl
end_is (template CxxVector u) held = refl
end_is (pointer Ref m u) held = refl
end_is (pointer Ptr m u) held = refl
end_is (pointer SliceRef m u) held = refl
end_is str held = refl
end_is (atom a) held = refl
end_is (named i) held = refl
end_is (fn r ts) held = refl
end_is (array u k) held = refl

pub held_is : {s names items : List ℕ} {v : ArgumentView} {b : Bool} → FactsOf s names items v →
    b ≡ (not v.string && v.indirect) → b ≡ is_held (items_at s names items) (type_here (length items) s v.of.at)
unfolding is_held
held_is f e = e ∙ rw (f.string, f.indirect)

module _ (items : List Item) {s names : List ℕ} {n : ℕ} {x : Argument} {v : ArgumentView} (a : ArgumentOf s names n x v)
    {held : Bool} (h : held ≡ is_held items (type_here n s v.of.at)) where
  type_is : type_here n s v.of.at ≡ x.type
  type_is = here_is n s v.of.at a.of

  held_by_lem : held ≡ is_held items x.type
  held_by_lem = h ∙ ap (is_held items) type_is

  pub local_none : (r : Sink) → held ≡ false → Wrote r (held_local items x) r
  unfolding held_local
  local_none r e = rw (← held_by_lem, e) (wrote_nil r)

  pub local_written : {r t : Sink} → held ≡ true →
      Wrote r (bytes "  ::rust::ManuallyDrop<" ++ write_type items (type_here n s v.of.at) ++ bytes "> "
      ++ name_at s (get_or names v.name 0) ++ bytes "$(::std::move(" ++ name_at s (get_or names v.name 0)
      ++ bytes "));\n") t →
      Wrote r (held_local items x) t
  unfolding held_local
  local_written e p = wrote_as p (rw (← held_by_lem, e, type_is, a.name))

  pub operand_written : {o : ℕ} {indirect : Bool} {r t u w : Sink} →
      o ≡ owner_of (kind_of_type (type_here n s v.of.at)) →
      indirect ≡ needs_indirect_abi items (type_here n s v.of.at) → Wrote r (pick_text indirect (bytes "&") []) t →
      Wrote t (name_at s (get_or names v.name 0)) u → Wrote u (owner_end o held) w → Wrote r (operand items x) w
  unfolding operand
  operand_written e i p q z =
      wrote_as p (ap (λ (b : Bool). pick_text b (bytes "&") []) (i ∙ ap (needs_indirect_abi items) type_is)) ▷
      wrote_as q a.name ▷
      wrote_as z
      (ap (λ (k : ℕ). owner_end k held) e ∙ end_is (type_here n s v.of.at) held ∙ rw (type_is, held_by_lem))

  -- the place behind a local, by the lengths of its type and its name
  pub local_passed : {k m at r : ℕ} → Counts (write_type_space items (type_here n s v.of.at)) k → 0 < k →
      m ≡ min limit (length (name_at s (get_or names v.name 0))) → 0 < at → at ≤ limit →
      r ≡ pick held (min limit (at + 42 + k + m + m)) at → Wrote (sink [] at) (held_local items x) (sink [] r)
  local_passed {k} {m} {at} {r} c z e l g q = by_bit held refl
    where
      by_bit : (b : Bool) → held ≡ b → Wrote (sink [] at) (held_local items x) (sink [] r)
      by_bit true i =
          let p : r ≡ min limit (at + 42 + k + m + m) = rw i at q in
          let space = held_space items (type_here n s v.of.at) (sym h ∙ i) in
          let long = c.exact (λ y. omega arith) in
          local_written i (wrote_none
          (local_length (write_type items (type_here n s v.of.at)) (name_at s (get_or names v.name 0)))
          (omega arith) g (omega arith))
      by_bit false i =
          let p : r ≡ at = rw i at q in
          rw p (local_none (sink [] at) i)
