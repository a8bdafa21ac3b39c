-- The test of rule 12 tells whether there is a ring.
use mathlib.Core.Path.{◌≡◌, refl}
use mathlib.Core.Logic.{◌↔◌, ⊎_elim}
use mathlib.Core.List.Memᴰ
use mathlib.Core.List.{List, [], ◌∷◌}
use mathlib.Core.Bool.{Bool, true, false, false≢true}
use Prim.Native.Nat.{ℕ, zero, suc, ◌+◌, ◌<◌}
use native.Mathlib.Omega.{arith}
use lib.ListN.{length}
use Rattle.format.specs.Decode.{pick}
use Rattle.format.specs.Types.{Ty, atom, named, template, pointer, str, fn, array}
use Rattle.format.specs.Sheet.{Item}
use Rattle.syntax.specs.Items.{item_at, is_struct}
use Rattle.toposort.specs.Graph.{◌∈◌, Structs}
use Rattle.toposort.proofs.Theorems.{ringed_iff_ring}
use Rattle.rules.specs.Rules.{gather, held_by, fields_of, held_structs, structs_from, structs, RingOf, ring}

-- a struct's number is listed, and only numbers of items are
listed : (items : List Item) (n i : ℕ) → is_struct (item_at items i).body ≡ true → (n + i) ∈ structs_from n items
unfolding item_at structs_from
listed [] n i e = absurd (false≢true e)
listed (x ∷ xs) n zero e = let same : n + 0 ≡ n = omega arith in rw e (Memᴰ.head same)
listed (x ∷ xs) n (suc i) e =
    Memᴰ.append_right (pick (is_struct x.body) (n ∷ []) []) (Memᴰ.cast (omega arith) (listed xs (n + 1) i e))

pub struct_listed : (items : List Item) (i : ℕ) → is_struct (item_at items i).body ≡ true → i ∈ structs items
struct_listed items i e = Memᴰ.cast (omega arith) (listed items 0 i e)

below : (items : List Item) (n i : ℕ) → i ∈ structs_from n items → i < n + length items
unfolding structs_from
below [] n i d = absurd (Memᴰ.not-nil d)
below (x ∷ xs) n i d =
    ⊎_elim (λ a. own (is_struct x.body) a) (λ a. omega (arith, below xs (n + 1) i a))
    (Memᴰ.append_cases (pick (is_struct x.body) (n ∷ []) []) d)
  where
    own : (b : Bool) → i ∈ pick b (n ∷ []) [] → i < n + suc (length xs)
    own true a = let e = Memᴰ.eq_of_singleton a in omega (arith, e)
    own false a = absurd (Memᴰ.not-nil a)

-- what a field holds is a struct
held_struct : (items : List Item) (t : Ty) (c : ℕ) → c ∈ held_by items t → is_struct (item_at items c).body ≡ true
held_struct items (named i) c d = go (is_struct (item_at items i).body) refl d
  where
    go : (b : Bool) → is_struct (item_at items i).body ≡ b → c ∈ pick b (i ∷ []) [] → is_struct (item_at items c).body ≡ true
    go true e a = rw (Memᴰ.eq_of_singleton a) e
    go false e a = absurd (Memᴰ.not-nil a)
held_struct items (atom a) c d = absurd (Memᴰ.not-nil d)
held_struct items (template k t) c d = absurd (Memᴰ.not-nil d)
held_struct items (pointer k m t) c d = absurd (Memᴰ.not-nil d)
held_struct items str c d = absurd (Memᴰ.not-nil d)
held_struct items (fn r ts) c d = absurd (Memᴰ.not-nil d)
held_struct items (array t n) c d = absurd (Memᴰ.not-nil d)

fields_struct : (items : List Item) (ts : List Ty) (c : ℕ) → c ∈ gather (held_by items) ts → is_struct (item_at items c).body ≡ true
unfolding gather
fields_struct items [] c d = absurd (Memᴰ.not-nil d)
fields_struct items (t ∷ ts) c d =
    ⊎_elim (λ a. held_struct items t c a) (λ a. fields_struct items ts c a) (Memᴰ.append_cases (held_by items t) d)

pub sheet_structs : (items : List Item) → Structs (held_structs items) (length items) (structs items)
unfolding held_structs
sheet_structs items = record {
  below = λ i d. omega (arith, below items 0 i d);
  held = λ i c d. struct_listed items c (fields_struct items (fields_of (item_at items i).body) c d);
}

-- rule 12's test is the existence of a ring
pub ring_rule : (items : List Item) → (ring items ≡ true) ↔ RingOf items
unfolding ring
ring_rule items = ringed_iff_ring (sheet_structs items)
