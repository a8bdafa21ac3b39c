-- Laws of types that are kept and spelled.
use mathlib.Core.Path.{◌≡◌, sym, ap, ◌∙◌}
use mathlib.Core.List.{List}
use Prim.Native.Nat.{ℕ, ◌+◌, ◌*◌, ◌/◌, ◌<◌, ◌≤◌, ◌^◌}
use native.Mathlib.Omega.{arith}
use lib.ListN.{length, get_or, set, take}
use lib.Seq.{length-take-le}
use Rattle.std.proofs.lemmas.List.{get_or-take, length-take}
use Rattle.format.specs.Types.{Ty, str}
use Rattle.format.specs.Decoding.{type}
use Rattle.format.proofs.LocalLaws.{type_body_local, type_at_local}
use Rattle.bridge.specs.WriteType.{write_type_space}
use Rattle.sink.specs.Sink.{sink, Wrote}
use Rattle.sink.proofs.SinkLaws.{wrote_length}
use Rattle.sink.proofs.ServiceLaws.{written_front}
use Rattle.types.proofs.KindLaws.{behind_kind}
use Rattle.view.specs.declared.FunctionView.{FunctionView}
use Rattle.view.specs.Values.{next_of, Yields, type_here}
use Rattle.view.specs.Views.{kind_of_type, FactsOf, unpacked}
use Rattle.cursor.proofs.YieldLaws.{yielded}
use Rattle.tables.specs.Tables.{names_in, items_in, items_of, type_of, Typed, Arguments, Lent, Filled}
use Rattle.tables.proofs.TypeLaws.{filled_type}
use Rattle.mangle.proofs.FullLaws.{behind, filled_same}

-- a type has its kind at least
pub type_long : (n : ℕ) (s : List ℕ) (at : ℕ) {t : Ty} → Yields (type n s at) t → at + 4 ≤ next_of (type n s at)
type_long n s at {t} y =
    ((type_body_local (kind_of_type t) n (type_at_local n 7)).gives s (at + 4) t (next_of (type n s at)) (behind_kind n s at y)
    ).onward

-- the pool has one type more
pub spelled : {s t pool after l b : List ℕ} {end k count r : ℕ} (at : ℕ) → Lent s t (take end pool) →
    Wrote (sink l 0) (write_type_space (items_of s t) (type_of s t at)) (sink b count) → length l ≡ 64 → count ≤ 64 →
    Wrote (sink pool end) (take count b) (sink after r) → end + count ≤ length pool → length pool < 2 ^ 63 → k < 127 →
    get_or t (2685 + k) 0 ≡ 0 → Filled s t (set (set t (2558 + k) at) (2685 + k) (end * 1024 + count)) after (end + count)
spelled {s} {t} {pool} {after} {l} {b} {end} {k} {count} {r} at lent p long few q room small h free =
    let c : length (take count b) ≡ count = length-take-le count b (omega (arith, wrote_length p)) in
    let front = ap (λ (n : ℕ). take (end + n) after) (sym c) ∙ behind q (omega arith) small in
    filled_type (filled_same pool lent (omega arith)) k at count (take count b) after c front
    (omega (arith, wrote_length q)) h free (written_front l p (omega arith) (omega arith)) (omega arith)

-- ---- the entries of a function's arguments, where more types are kept

pub record Entries (s t : List ℕ) (n : ℕ) (entries : List ℕ) : Type 0 where
  pub each : (j : ℕ) → j < n →
      Typed s t (get_or entries j 0 / 16384) × FactsOf s (names_in t) (items_in t) (unpacked (get_or entries j 0))

pub entries_of_lem : {s t : List ℕ} {f : FunctionView} {entries : List ℕ} → Arguments s t f entries →
    Entries s t f.arguments entries
unfolding type_here
entries_of_lem a = record { each = λ j h. let y = (a.each j h).0.of in (rw (yielded str y) y, (a.each j h).1) }

-- the front of them, in a list of its own
pub entries_front : {s t : List ℕ} {f : FunctionView} {entries : List ℕ} → Arguments s t f entries →
    Entries s t (length (take f.arguments entries)) (take f.arguments entries)
entries_front {f = f} {entries} a = record {
  each = λ j l.
      let h : j < f.arguments = omega (arith, l, length-take f.arguments entries) in
      rw (get_or-take f.arguments entries j 0 h) ((entries_of_lem a).each j h);
}

module _ {s before t pool : List ℕ} {end : ℕ} (d : Filled s before t pool end) {n : ℕ} {entries : List ℕ}
    (a : Entries s before n entries) {j : ℕ} (h : j < n) where
  pub entry_typed : Typed s t (get_or entries j 0 / 16384)
  entry_typed = rw d.same_items (a.each j h).0

  pub entry_facts : FactsOf s (names_in t) (items_in t) (unpacked (get_or entries j 0))
  entry_facts = rw (d.same_names, d.same_items) (a.each j h).1
