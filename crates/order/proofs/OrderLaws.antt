-- The sort of the table that was filled from a sheet is the order of the sheet's structs.
use mathlib.Core.Path.{◌≡◌, refl, sym, ap, fun_ext}
use mathlib.Core.List.{List, []}
use mathlib.Core.Bool.{true, false}
use Prim.Native.Nat.{ℕ, ◌≤◌}
use native.Mathlib.Omega.{arith}
use lib.ListN.{length, take}
use Rattle.format.specs.Limits.{most_items}
use Rattle.format.specs.Sheet.{Item}
use Rattle.std.specs.Prelude.{Result, Ok, Err}
use Rattle.toposort.specs.declared.Cycle.{Cycle}
use Rattle.toposort.specs.Graph.{Graph}
use Rattle.toposort.specs.Sort.{Walk, cycle, done, visit_all, sort, is_ring, sorted_of, ringed, order}
use Rattle.toposort.specs.Adjacency.{graph_of, Sorted}
use Rattle.toposort.proofs.TableLaws.{told_ring, told_order}
use Rattle.rules.specs.Rules as rules
use Rattle.rules.specs.Rules.{held_structs, structs}
use Rattle.rules.proofs.RingRule.{sheet_structs}
use Rattle.holds.specs.Edges.{Edges, StructNumbers}
use Rattle.order.specs.Ordered.{Ordered}

-- where the sort meets a ring there is no list
ringed_none : (g : Graph) (n : ℕ) (js : List ℕ) → ringed g n js ≡ true → [] ≡ order g n js
unfolding ringed order
ringed_none g n js e = by_walk (sort g n js) e
  where
    by_walk : (w : Walk) → is_ring w ≡ true → [] ≡ sorted_of w
    by_walk cycle e = refl
    by_walk (done m o) e = absurd (let z : ◌≡◌ {A = ℕ} 0 1 = cc in omega arith)

sorted_sheet : {items : List Item} {starts held numbers m₁ o₁ : List ℕ} {n : ℕ} {r : Result ℕ Cycle} → Edges items starts held →
    StructNumbers items n numbers → Sorted (graph_of starts held) (take n numbers) r m₁ o₁ → Sorted (held_structs items) (structs items) r m₁ o₁
sorted_sheet {items} {starts} {held} {numbers} {m₁} {o₁} {n} {r} e l s =
    let g : graph_of starts held ≡ held_structs items = fun_ext e.graph in
    rw (← g, ← l.front) s

pub ordered : {items : List Item} {starts held numbers m₁ o₁ : List ℕ} {n : ℕ} {r : Result ℕ Cycle} → length items ≤ most_items →
    Edges items starts held → StructNumbers items n numbers → Sorted (graph_of starts held) (take n numbers) r m₁ o₁ →
    Ordered items r o₁
unfolding rules.ring
ordered {items} {m₁ = m₁} {o₁ = o₁} {r = r} few e l s = by_step r (sorted_sheet e l s)
  where
    by_step : (r : Result ℕ Cycle) → Sorted (held_structs items) (structs items) r m₁ o₁ → Ordered items r o₁
    by_step (Err e) s =
        let t = told_ring (sheet_structs items) (omega arith) s in
        record { rings = sym t; list = ringed_none (held_structs items) (length items) (structs items) t; inside = s.inside }
    by_step (Ok end) s =
        let t = told_order (sheet_structs items) (omega arith) s in
        record { rings = sym t.0; list = t.1; inside = s.inside }

-- without structs there is nothing to sort
pub ordered_none : {items : List Item} {numbers out : List ℕ} {n : ℕ} → StructNumbers items n numbers → n ≡ 0 →
    Ordered items (Ok 0) out
unfolding rules.ring ringed order sort visit_all
ordered_none {items} {numbers} {out} {n} l e =
    let none : [] ≡ structs items = rw e at l.front in
    record {
      rings = ap (ringed (held_structs items) (length items)) none;
      list = ap (order (held_structs items) (length items)) none;
      inside = omega arith;
    }

-- ---- the answer is known

pub answered : {items : List Item} {r s : Result ℕ Cycle} {out : List ℕ} → Ordered items r out → r ≡ s → Ordered items s out
answered {items} {r} {s} {out} o e = rw e at o

-- without structs there is no ring
pub ring_none : {items : List Item} {numbers : List ℕ} {n : ℕ} → StructNumbers items n numbers → n ≡ 0 → false ≡ rules.ring items
ring_none p e = (answered (ordered_none {out = []} p e) refl).rings
