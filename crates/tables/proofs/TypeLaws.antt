-- Types in the pool, and types that are kept.
use mathlib.Core.Path.{◌≡◌, sym, ap, ◌∙◌}
use mathlib.Core.List.{List, ◌++◌}
use Prim.Native.Nat.{ℕ, ◌+◌, ◌*◌, ◌/◌, ◌%◌, ◌<◌, ◌≤◌}
use native.Mathlib.Omega.{arith}
use lib.ListN.{length, get_or, set, take}
use lib.Seq.{length-take-le}
use Rattle.syntax.specs.Items.{item_at, full_name}
use Rattle.bridge.specs.WriteType.{write_type_space}
use Rattle.view.specs.Values.{name_at}
use Rattle.tables.specs.Tables.{names_in, items_in, items_of, type_of, Met, Tabled, Part, Lent, Filled}
use Rattle.tables.proofs.TableLaws.{items_count_lem}
use Rattle.tables.proofs.PairLaws.{pairs_key, pairs_word}
use Rattle.tables.proofs.PoolLaws.{part_new, lent_more, Spelled, words_other, names_kept, items_kept}
use Rattle.tables.proofs.PoolLaws.{tabled_kept, tabled_but, types_kept, names_count_lem}

-- ---- a place behind the words of names and items

module _ {s t pool : List ℕ} (l : Lent s t pool) (p w : ℕ) (h : 2558 ≤ p) where
  abbrev a : names_in (set t p w) ≡ names_in t
  a = names_kept l.tabled p w (omega arith)

  abbrev b : items_in (set t p w) ≡ items_in t
  b = items_kept l.tabled p w (omega arith)

  -- the words of types aside
  lent_but : Tabled s (set t p w) → ((k : ℕ) → k < 127 → (get_or (set t p w) (2685 + k) 0 ≡ 0 → ⊥) →
      Part pool (get_or (set t p w) (2685 + k) 0 / 1024) (get_or (set t p w) (2685 + k) 0 % 1024)
      (write_type_space (items_of s (set t p w)) (type_of s (set t p w) (get_or (set t p w) (2558 + k) 0)))) →
      Lent s (set t p w) pool
  lent_but tabled types = record {
    tabled = tabled;
    names = rw a (words_other 64 1280 (length (names_in t)) (λ j. name_at s (get_or (names_in t) j 0)) t pool p w
        (λ j g e. omega (arith, names_count_lem l.tabled, l.tabled.names)) l.names);
    full = rw (a, b) (words_other 1024 2303 (length (items_in t)) (λ j. full_name (item_at (items_of s t) j)) t pool p w
        (λ j g e. omega (arith, items_count_lem l.tabled, l.tabled.items)) l.full);
    types = types;
  }

  lent_behind : 2812 ≤ p → Tabled s (set t p w) → Lent s (set t p w) pool
  lent_behind g tabled = lent_but tabled (types_kept l p w (omega arith) (λ k o e. omega arith))

-- ---- a type in the pool

module _ {s t pool : List ℕ} (l : Lent s t pool) (k at : ℕ) (h : k < 127) (free : get_or t (2685 + k) 0 ≡ 0) where
  abbrev u : List ℕ
  u = set t (2558 + k) at

  -- its position
  place_more : Lent s (set t (2558 + k) at) pool
  place_more =
      let p = 2558 + k in
      lent_but l p at (omega arith) (tabled_kept l.tabled p at (omega arith) (omega arith))
      (rw (names_kept l.tabled p at (omega arith), items_kept l.tabled p at (omega arith))
      (pairs_key 2558 2685 127 (Spelled s t pool) (omega arith) t k at h (omega (arith, l.tabled.long)) free l.types))

  abbrev text : List ℕ
  text = write_type_space (items_of s t) (type_of s t at)

  -- its word
  pub type_more : length (write_type_space (items_of s t) (type_of s t at)) < 1024 →
      Lent s (set (set t (2558 + k) at) (2685 + k) (length pool * 1024 + length (write_type_space (items_of s t) (type_of s t at))))
      (pool ++ write_type_space (items_of s t) (type_of s t at))
  type_more short =
      let m : Lent s u (pool ++ text) = lent_more text place_more in
      let p = 2685 + k in
      let w = length pool * 1024 + length text in
      let d : w / 1024 ≡ length pool = omega arith in
      let f : w % 1024 ≡ length text = omega arith in
      let new : Spelled s t (pool ++ text) at w = rw (d, f) (part_new pool text) in
      lent_but m p w (omega arith) (tabled_kept m.tabled p w (omega arith) (omega arith))
      (rw (
        names_kept m.tabled p w (omega arith),
        names_kept l.tabled (2558 + k) at (omega arith),
        items_kept m.tabled p w (omega arith),
        items_kept l.tabled (2558 + k) at (omega arith),
      )
      (pairs_word 2558 2685 127 (Spelled s t (pool ++ text)) (omega arith) t k at h (omega (arith, l.tabled.long)) free
      (lent_more text l).types w new))

pub filled_type : {s before t pool : List ℕ} {end : ℕ} → Filled s before t pool end → (k at n : ℕ) (part after : List ℕ) →
    length part ≡ n → take (end + n) after ≡ take end pool ++ part → end + n ≤ length after → k < 127 →
    get_or t (2685 + k) 0 ≡ 0 → part ≡ write_type_space (items_of s t) (type_of s t at) → n < 1024 →
    Filled s before (set (set t (2558 + k) at) (2685 + k) (end * 1024 + n)) after (end + n)
filled_type {s} {before} {t} {pool} {end} d k at n part after c front room h free e short =
    let m : length (write_type_space (items_of s t) (type_of s t at)) ≡ n = sym (ap length e) ∙ c in
    let l : length (take end pool) ≡ end = length-take-le end pool d.room in
    let g = place_more d.lent k at h free in
    record {
      lent = rw (front, e) (rw (l, m) at (type_more d.lent k at h free (omega arith)));
      room = room;
      same_names = names_kept g.tabled (2685 + k) (end * 1024 + n) (omega arith)
          ∙ names_kept d.lent.tabled (2558 + k) at (omega arith) ∙ d.same_names;
      same_items = items_kept g.tabled (2685 + k) (end * 1024 + n) (omega arith)
          ∙ items_kept d.lent.tabled (2558 + k) at (omega arith) ∙ d.same_items;
    }

-- ---- a type that is kept

module _ {s t : List ℕ} (tabled : Tabled s t) (k key : ℕ) (h : k < 128) (free : get_or t (2940 + k) 0 ≡ 0) where
  tabled_key : Tabled s (set t (2812 + k) key)
  tabled_key =
      let p = 2812 + k in
      tabled_but tabled p key (omega arith)
      (rw (names_kept tabled p key (omega arith), items_kept tabled p key (omega arith))
      (pairs_key 2812 2940 128 (Met s (names_in t) (items_in t)) (omega arith) t k key h (omega (arith, tabled.long)) free
      tabled.met))

  tabled_met : {w : ℕ} → Met s (names_in t) (items_in t) key w → Tabled s (set (set t (2812 + k) key) (2940 + k) w)
  tabled_met {w} m =
      let p = 2940 + k in
      tabled_but tabled_key p w (omega arith)
      (rw (
        names_kept tabled_key p w (omega arith),
        names_kept tabled (2812 + k) key (omega arith),
        items_kept tabled_key p w (omega arith),
        items_kept tabled (2812 + k) key (omega arith),
      )
      (pairs_word 2812 2940 128 (Met s (names_in t) (items_in t)) (omega arith) t k key h (omega (arith, tabled.long)) free
      tabled.met w m))

pub filled_met : {s before t pool : List ℕ} {end : ℕ} → Filled s before t pool end → (k key : ℕ) {w : ℕ} → k < 128 →
    get_or t (2940 + k) 0 ≡ 0 → Met s (names_in t) (items_in t) key w →
    Filled s before (set (set t (2812 + k) key) (2940 + k) w) pool end
filled_met {s} {before} {t} {pool} {end} d k key {w} h free m =
    let tabled = d.lent.tabled in
    let one = tabled_key tabled k key h free in
    let first = lent_behind d.lent (2812 + k) key (omega arith) (omega arith) one in
    record {
      lent = lent_behind first (2940 + k) w (omega arith) (omega arith) (tabled_met tabled k key h free m);
      room = d.room;
      same_names = names_kept one (2940 + k) w (omega arith) ∙ names_kept tabled (2812 + k) key (omega arith) ∙ d.same_names;
      same_items = items_kept one (2940 + k) w (omega arith) ∙ items_kept tabled (2812 + k) key (omega arith) ∙ d.same_items;
    }
