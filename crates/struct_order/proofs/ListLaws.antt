-- Laws of the list that is written, from the order that was found.
use mathlib.Core.Path.{◌≡◌, sym, ap, ◌∙◌}
use mathlib.Core.List.{List}
use mathlib.Core.Bool.{false}
use Prim.Native.Nat.{ℕ, ◌≤◌, ◌<◌, ◌^◌}
use native.Mathlib.Omega.{arith}
use lib.ListN.{length, take}
use lib.Seq.{length-take-le}
use borrow.Author.Tests.{le-leb, lt-leb}
use Rattle.refusal.specs.declared.Refusal.TheVariants as Refusal
use Rattle.format.specs.Sheet.{Item}
use Rattle.std.specs.Prelude.{Result, Ok, Err}
use Rattle.toposort.specs.declared.Cycle.{Cycle}
use Rattle.rules.specs.Rules.{ring}
use Rattle.sink.specs.Sink.{sink, Wrote}
use Rattle.sink.proofs.ServiceLaws.{written}
use Rattle.order.specs.Ordered.{Ordered}
use Rattle.order.proofs.OrderLaws.{answered}
use Rattle.struct_order.specs.Lists.{order_of, Lists}

pub list_inside : {items : List Item} {r : Result ℕ Cycle} {out : List ℕ} {end : ℕ} → Ordered items r out → r ≡ Ok end →
    end ≤ length out
list_inside o e = (answered o e).inside

module _ {items : List Item} {r : Result ℕ Cycle} {out : List ℕ} (o : Ordered items r out) (buffer : List ℕ) where
  pub list_ring : {c : Cycle} → r ≡ Err c → Lists items buffer (Err Refusal.Ring) buffer
  list_ring e =
      let a = answered o e in
      record { answers = rw (← a.rings); leaves = rw (← a.rings) }

  module _ {end : ℕ} (e : r ≡ Ok end) where
    size : length (order_of items) ≡ end
    size = let a = answered o e in ap length (sym a.list) ∙ length-take-le end out a.inside

    no_ring_lem : ring items ≡ false
    no_ring_lem = sym (answered o e).rings

    pub list_long : length buffer < end → Lists items buffer (Err Refusal.Overrun) buffer
    list_long h =
        let t = lt-leb (length (order_of items)) (length buffer) (omega (arith, size)) in
        record { answers = rw (no_ring_lem, t); leaves = rw (no_ring_lem, t) }

    pub list_fits : {after : List ℕ} {at : ℕ} → end ≤ length buffer → length buffer < 2 ^ 63 →
        Wrote (sink buffer 0) (take end out) (sink after at) → Lists items buffer (Ok end) after
    list_fits {after} {at} h small w =
        let t = le-leb (length (order_of items)) (length buffer) (omega (arith, size)) in
        let v : Wrote (sink buffer 0) (order_of items) (sink after at) = rw (← (answered o e).list) w in
        record {
          answers = rw (no_ring_lem, t, size);
          leaves = rw (no_ring_lem, t) (written buffer v (omega (arith, size)) small);
        }
