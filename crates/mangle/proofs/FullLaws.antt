-- Laws of the full names in the pool.
use mathlib.Core.Path.{◌≡◌, refl, sym, ap, ◌∙◌}
use mathlib.Core.List.{List, ◌++◌}
use Prim.Native.Nat.{ℕ, ◌+◌, ◌*◌, ◌<◌, ◌≤◌, ◌^◌}
use native.Mathlib.Omega.{arith}
use lib.ListN.{length, get_or, set, take, drop, length-append}
use lib.Seq.{sets-eq, take_at, length-take-le}
use Rattle.syntax.specs.Items.{item_at, full_name}
use Rattle.sink.specs.Sink.{Sink, sink, Wrote}
use Rattle.sink.proofs.SinkLaws.{wrote_length, wrote_whole}
use Rattle.sink.proofs.StoreLaws.{buffer_emit}
use Rattle.sink.proofs.ServiceLaws.{written_front}
use Rattle.tables.specs.Tables.{items_in, items_of, Tabled, Lent, Filled}
use Rattle.tables.proofs.TableLaws.{items_count_lem}
use Rattle.tables.proofs.PoolLaws.{filled_full}

-- what was written behind the first bytes of l
pub behind : {l b text : List ℕ} {at r : ℕ} → Wrote (sink l at) text (sink b r) → at + length text ≤ length l →
    length l < 2 ^ 63 → take (at + length text) b ≡ take at l ++ text
behind {l} {b} {text} {at} p h g =
    ap (λ (x : Sink). take (at + length text) x.buf) (wrote_whole p h)
    ∙ ap (take (at + length text)) (buffer_emit text (sink l at) (omega arith) (omega arith) ∙ sets-eq text l at h)
    ∙ take_at (take at l ++ text) (drop (at + length text) l) (at + length text)
    (length-append (take at l) text ∙ omega (arith, length-take-le at l (omega arith)))

pub filled_same : {s t : List ℕ} (pool : List ℕ) {end : ℕ} → Lent s t (take end pool) → end ≤ length pool → Filled s t t pool end
filled_same pool l h = record { lent = l; room = h; same_names = refl; same_items = refl }

pub filled_item : {s t pool after l b : List ℕ} {end i count r : ℕ} → Lent s t (take end pool) → i < length (items_in t) →
    Wrote (sink l 0) (full_name (item_at (items_of s t) i)) (sink b count) → length l ≡ 520 → count ≤ 520 →
    Wrote (sink pool end) (take count b) (sink after r) → end + count ≤ length pool → length pool < 2 ^ 63 →
    Filled s t (set t (2303 + i) (end * 1024 + count)) after (end + count)
filled_item {s} {t} {pool} {after} {l} {b} {end} {i} {count} {r} lent h p long few q room small =
    let c : length (take count b) ≡ count = length-take-le count b (omega (arith, wrote_length p)) in
    let front : take (end + count) after ≡ take end pool ++ take count b =
    ap (λ (n : ℕ). take (end + n) after) (sym c) ∙ behind q (omega arith) small in
    filled_full (filled_same pool lent (omega arith)) i count (take count b) after c front
    (omega (arith, wrote_length q)) h (written_front l p (omega arith) (omega arith)) (omega arith)

-- ---- the loop over the items

module _ {s before t pool : List ℕ} {end : ℕ} (d : Filled s before t pool end) where
  pub item_left : {i : ℕ} → Tabled s before → i < get_or before 1279 0 → i < length (items_in t)
  item_left a h = omega (arith, items_count_lem a, ap length d.same_items)

  pub filled_next : {u after : List ℕ} {next : ℕ} → Filled s t u after next → Filled s before u after next
  filled_next f = record {
    lent = f.lent;
    room = f.room;
    same_names = f.same_names ∙ d.same_names;
    same_items = f.same_items ∙ d.same_items;
  }
