-- On an accepted sheet every struct is in the list exactly once, and each after every struct that it holds by a
-- named field.
use mathlib.Core.Path.{◌≡◌, refl, sym}
use mathlib.Core.Logic.{⊎_elim}
use mathlib.Core.List.Memᴰ
use mathlib.Core.List.{List, [], ◌∷◌, ◌++◌, Memᴰ}
use mathlib.Core.Bool.{true}
use Prim.Native.Nat.{ℕ}
use lib.ListN.{length}
use Rattle.format.specs.Types.{Ty, named}
use Rattle.format.specs.Sheet.{Item, Sheet}
use Rattle.syntax.specs.Items.{item_at, is_struct}
use Rattle.toposort.specs.Graph.{◌∈◌, times, LegalOrder}
use Rattle.toposort.specs.Crate.{crate_order}
use Rattle.toposort.proofs.Theorems.{sorted_legal}
use Rattle.toposort.proofs.CrateLaws.{same_as_crate}
use Rattle.rules.specs.Rules.{gather, held_by, fields_of, held_structs, structs, ring}
use Rattle.rules.specs.Judge.{accepted, judge}
use Rattle.rules.proofs.RingRule.{sheet_structs, struct_listed}
use Rattle.decoded.proofs.Accepted.{judge_accepted}
use Rattle.services.specs.Services.{struct_order}

-- a field of a struct's name holds it
field_holds : (items : List Item) (c : ℕ) (ts : List Ty) → is_struct (item_at items c).body ≡ true →
    Memᴰ (named c) ts → c ∈ gather (held_by items) ts
unfolding gather
field_holds items c [] e d = absurd (Memᴰ.not-nil d)
field_holds items c (t ∷ ts) e d =
    ⊎_elim (λ q. Memᴰ.append_left (gather (held_by items) ts) (held q))
    (λ m. Memᴰ.append_right (held_by items t) (field_holds items c ts e m)) (Memᴰ.cases_cons d)
  where
    held : named c ≡ t → c ∈ held_by items t
    held q = rw (← q, e) (Memᴰ.head refl)

module _ (s : List ℕ) (x : Sheet) (h : judge s ≡ accepted x) where
  pub struct_order_legal : LegalOrder (held_structs x.items) (structs x.items) (struct_order x)
  unfolding struct_order ring
  struct_order_legal = sorted_legal (sheet_structs x.items) (judge_accepted s x h).no_ring

  -- the same of an item that is a struct
  pub struct_once : (i : ℕ) → is_struct (item_at x.items i).body ≡ true → times i (struct_order x) ≡ 1
  struct_once i e = struct_order_legal.once i (struct_listed x.items i e)

  -- and of a struct c that one of its fields holds by name
  pub held_before : (i c : ℕ) (before behind : List ℕ) → struct_order x ≡ before ++ (i ∷ behind) →
      Memᴰ (named c) (fields_of (item_at x.items i).body) → is_struct (item_at x.items c).body ≡ true →
      c ∈ before
  unfolding held_structs
  held_before i c before behind o f e =
      struct_order_legal.after i c before behind o (field_holds x.items c (fields_of (item_at x.items i).body) e f)

  -- it is the list that toposort.rs' own `sort` returns
  pub crate_order_lem : struct_order x ≡ crate_order (held_structs x.items) (length x.items) (structs x.items)
  unfolding struct_order ring
  crate_order_lem = sym ((same_as_crate (sheet_structs x.items)).1 (judge_accepted s x h).no_ring)
