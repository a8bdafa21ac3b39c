-- Texts in the pool, one behind the other.
use mathlib.Core.Path.{◌≡◌, refl, sym, ap, ◌∙◌}
use mathlib.Core.Logic.{by_cases}
use mathlib.Core.List.{List, ◌++◌}
use Prim.Native.Nat.{ℕ, ◌+◌, ◌-◌, ◌*◌, ◌/◌, ◌%◌, ◌<◌, ◌≤◌}
use native.Mathlib.Omega.{arith}
use native.Mathlib.Decide.{ℕ_discrete}
use lib.ListN.{length, get_or, set, take, drop, replicate, length-set, length-append}
use lib.ListN.{take-append-drop}
use lib.Seq.{slice, get_or-set_same, get_or-set_other, get_or-take, take-set-le, drop-set-add, take-add, take_at}
use lib.Seq.{drop_at, length-take-le, take-append-le, take-append-add, drop-append_seam, take-length}
use borrow.Rule.Slice.PartMut.{put_mid, post_of, take_put, same_len_mid}
use Rattle.format.specs.Bits.{bits}
use Rattle.format.specs.Decoding.{name}
use Rattle.syntax.specs.Items.{item_at, full_name}
use Rattle.cursor.specs.declared.Found.{Found}
use Rattle.text.specs.Text.{Holds}
use Rattle.view.specs.Views.{Finds}
use Rattle.put_name.proofs.CharLaws.{name_inside, name_held}
use Rattle.view.specs.Values.{Yields, name_at}
use Rattle.bridge.specs.WriteType.{write_type_space}
use Rattle.tables.specs.Tables.{names_in, items_in, items_of, type_of, Met, Tabled, Part, Lent, Filled}
use Rattle.tables.proofs.FillLaws.{part_long}
use Rattle.tables.proofs.TableLaws.{items_count_lem, zero_word}
use Rattle.tables.proofs.PairLaws.{pairs_other}

-- a part that is lent, as the part of a list
pub part_is : (a k : ℕ) (l : List ℕ) → a ≤ length l → take (a + k - a) (drop a l) ≡ slice a (a + k) l
part_is a k l h =
    let z : a + k - a ≡ k = omega arith in
    rw z (sym (ap (drop a) (take-add a k l) ∙ drop_at (take a l) (take k (drop a l)) a (length-take-le a l h)))

-- ---- a text behind the others

pub part_more : {pool text : List ℕ} {a k : ℕ} (more : List ℕ) → Part pool a k text → Part (pool ++ more) a k text
part_more {pool} {text} {a} {k} more p = record {
  near = omega (arith, length-append pool more, p.near);
  is = ap (drop a) (take-append-le (a + k) pool more p.near) ∙ p.is;
}

pub part_new : (pool text : List ℕ) → Part (pool ++ text) (length pool) (length text) text
part_new pool text = record {
  near = omega (arith, length-append pool text);
  is = ap (drop (length pool)) (take-append-add pool text (length text))
      ∙ drop-append_seam pool (take (length text) text)
      ∙ take-length text;
}

pub lent_more : {s t pool : List ℕ} (more : List ℕ) → Lent s t pool → Lent s t (pool ++ more)
lent_more more l = record {
  tabled = l.tabled;
  names = λ i h k. part_more more (l.names i h k);
  full = λ i h k. part_more more (l.full i h k);
  types = λ i h k. part_more more (l.types i h k);
}

-- the whole pool is lent where its front is
pub lent_whole : {s t : List ℕ} (end : ℕ) (pool : List ℕ) → Lent s t (take end pool) → Lent s t pool
lent_whole {s} {t} end pool l = rw (take-append-drop end pool) at (lent_more (drop end pool) l)

-- the text of a type that is spelled
pub type_part : {s t pool : List ℕ} → Lent s t pool → (k : ℕ) {at : ℕ} → k < 127 → get_or t (2558 + k) 0 ≡ at →
    (get_or t (2685 + k) 0 ≡ 0 → ⊥) → Part pool (get_or t (2685 + k) 0 / 1024) (get_or t (2685 + k) 0 % 1024)
    (write_type_space (items_of s t) (type_of s t at))
type_part l k h e n = rw (← e) (l.types k h n)

-- a word of the table that says where in the pool the type at a position is spelled
abbrev pub Spelled : List ℕ → List ℕ → List ℕ → ℕ → ℕ → Type 0
Spelled s t pool at w = Part pool (w / 1024) (w % 1024) (write_type_space (items_of s t) (type_of s t at))

-- ---- one word of the table

-- words of u * start + length, from `first` on
module _ (u first n : ℕ) (text : ℕ → List ℕ) where
  abbrev Words : List ℕ → List ℕ → Type 0
  Words t pool = (j : ℕ) → j < n → (get_or t (first + j) 0 ≡ 0 → ⊥) →
      Part pool (get_or t (first + j) 0 / u) (get_or t (first + j) 0 % u) (text j)

  pub words_other : (t pool : List ℕ) (p w : ℕ) → ((j : ℕ) → j < n → first + j ≡ p → ⊥) → Words t pool → Words (set t p w) pool
  words_other t pool p w apart l = λ j h k.
      let e : get_or (set t p w) (first + j) 0 ≡ get_or t (first + j) 0 = get_or-set_other t p (first + j) w 0 (apart j h) in
      rw e (l j h (rw e at k))

  words_new : (t pool : List ℕ) (i w : ℕ) → first + i < length t → w / u ≡ length pool → w % u ≡ length (text i) →
      Words t pool → Words (set t (first + i) w) (pool ++ text i)
  words_new t pool i w room d m l = λ j h k.
      by_cases
      (ℕ_discrete j i)
      (λ e.
      let g : get_or (set t (first + i) w) (first + j) 0 ≡ w = rw e (get_or-set_same t (first + i) w 0 room) in
      rw (g, d, m, e) (part_new pool (text i)))
      (λ other.
      let g : get_or (set t (first + i) w) (first + j) 0 ≡ get_or t (first + j) 0 =
      get_or-set_other t (first + i) (first + j) w 0 (λ e. other (omega arith)) in
      rw g (part_more (text i) (l j h (rw g at k))))

module _ {s t : List ℕ} (tabled : Tabled s t) (p w : ℕ) (h : 1280 ≤ p) where
  pub names_kept : names_in (set t p w) ≡ names_in t
  unfolding names_in
  names_kept =
      let e : get_or (set t p w) 1023 0 ≡ get_or t 1023 0 = get_or-set_other t p 1023 w 0 (λ e. omega arith) in
      rw e (take-set-le (get_or t 1023 0) t p w (omega (arith, tabled.names)))

  pub items_kept : items_in (set t p w) ≡ items_in t
  unfolding items_in
  items_kept =
      let e : get_or (set t p w) 1279 0 ≡ get_or t 1279 0 = get_or-set_other t p 1279 w 0 (λ e. omega arith) in
      let q : p ≡ 1024 + (p - 1024) = omega arith in
      let d : drop 1024 (set t p w) ≡ set (drop 1024 t) (p - 1024) w =
      ap (λ (j : ℕ). drop 1024 (set t j w)) q ∙ drop-set-add 1024 t (p - 1024) w in
      rw (e, d) (take-set-le (get_or t 1279 0) (drop 1024 t) (p - 1024) w (omega (arith, tabled.items)))

  -- what is kept of types that were met aside
  pub tabled_but : ((k : ℕ) → k < 128 → (get_or (set t p w) (2940 + k) 0 ≡ 0 → ⊥) → Met s (names_in (set t p w))
      (items_in (set t p w)) (get_or (set t p w) (2812 + k) 0) (get_or (set t p w) (2940 + k) 0)) → Tabled s (set t p w)
  tabled_but met = record {
    long = length-set t p w ∙ tabled.long;
    names = let e = get_or-set_other t p 1023 w 0 (λ e. omega arith) in rw e tabled.names;
    items = let e = get_or-set_other t p 1279 w 0 (λ e. omega arith) in rw e tabled.items;
    whole = rw (names_kept, items_kept) tabled.whole;
    met = met;
  }

  pub tabled_kept : p < 2812 → Tabled s (set t p w)
  tabled_kept l =
      tabled_but (rw (names_kept, items_kept)
      (pairs_other 2812 2940 128 (Met s (names_in t) (items_in t)) t p w (λ k g e. omega arith) (λ k g e. omega arith)
      tabled.met))

-- ---- a name by its number

module _ {s t : List ℕ} (tabled : Tabled s t) where
  pub names_count_lem : length (names_in t) ≡ get_or t 1023 0
  unfolding names_in
  names_count_lem = length-take-le (get_or t 1023 0) t (omega (arith, tabled.names, tabled.long))

  module _ (i : ℕ) where
    pub place_is : i < length (names_in t) → get_or t i 0 ≡ get_or (names_in t) i 0
    unfolding names_in
    place_is h = sym (get_or-take (get_or t 1023 0) t i 0 (omega (arith, names_count_lem)))

    module _ (h : i < length (names_in t)) {f : Found} (e : Finds (bits 6 s (get_or t i 0)) 6 f) where
      place_yields : Yields (name s (get_or t i 0)) (name_at s (get_or t i 0))
      place_yields = rw (← place_is h) at (tabled.whole.named.each i h)

      pub place_inside : f.next.at + 7 * f.value ≤ 8 * length s
      place_inside = name_inside s (get_or t i 0) place_yields e

      pub place_name : {b : List ℕ} → Holds s f.next.at f.value b → length b ≡ f.value →
          b ≡ name_at s (get_or (names_in t) i 0)
      place_name g l = name_held s (get_or t i 0) place_yields e g l ∙ ap (name_at s) (place_is h)

-- ---- the pool with one text more

-- no text yet
pub filled_none : {s t : List ℕ} (pool : List ℕ) → Tabled s t → drop 1280 t ≡ replicate 1788 0 → Filled s t t pool 0
filled_none {s} {t} pool tabled zeros = record {
  lent = record {
    tabled = tabled;
    names = λ i h k. absurd (k (zero_word t zeros i (omega (arith, names_count_lem tabled, tabled.names))));
    full = λ i h k.
        let e : 2303 + i ≡ 1280 + (1023 + i) = omega arith in
        absurd (k (rw e (zero_word t zeros (1023 + i) (omega (arith, items_count_lem tabled, tabled.items)))));
    types = λ i h k.
        let e : 2685 + i ≡ 1280 + (1405 + i) = omega arith in
        absurd (k (rw e (zero_word t zeros (1405 + i) (omega arith))));
  };
  room = omega arith;
  same_names = refl;
  same_items = refl;
}

module _ {s t pool : List ℕ} (l : Lent s t pool) (p w : ℕ) (h : 1280 ≤ p) where
  -- a word that is not one of a type
  pub types_kept : ((k : ℕ) → k < 254 → 2558 + k ≡ p → ⊥) → (k : ℕ) → k < 127 →
      (get_or (set t p w) (2685 + k) 0 ≡ 0 → ⊥) → Part pool (get_or (set t p w) (2685 + k) 0 / 1024)
      (get_or (set t p w) (2685 + k) 0 % 1024)
      (write_type_space (items_of s (set t p w)) (type_of s (set t p w) (get_or (set t p w) (2558 + k) 0)))
  types_kept apart =
      rw (names_kept l.tabled p w h, items_kept l.tabled p w h)
      (pairs_other 2558 2685 127 (Spelled s t pool) t p w (λ k g. apart k (omega arith))
      (λ k g e. apart (127 + k) (omega arith) (omega arith)) l.types)

module _ {s t pool : List ℕ} (l : Lent s t pool) (i : ℕ) where
  -- a name
  name_more : i < length (names_in t) → length (name_at s (get_or (names_in t) i 0)) < 64 →
      Lent s (set t (1280 + i) (length pool * 64 + length (name_at s (get_or (names_in t) i 0))))
      (pool ++ name_at s (get_or (names_in t) i 0))
  name_more h short =
      let p = 1280 + i in
      let text : ℕ → List ℕ = λ j. name_at s (get_or (names_in t) j 0) in
      let w = length pool * 64 + length (text i) in
      let few : length (names_in t) ≤ 1023 = omega (arith, names_count_lem l.tabled, l.tabled.names) in
      let a = names_kept l.tabled p w (omega arith) in
      let b = items_kept l.tabled p w (omega arith) in
      record {
        tabled = tabled_kept l.tabled p w (omega arith) (omega arith);
        names = rw a (words_new 64 1280 (length (names_in t)) text t pool i w (omega (arith, l.tabled.long)) (omega arith)
            (omega arith) l.names);
        full = rw (a, b) (words_other 1024 2303 (length (items_in t)) (λ j. full_name (item_at (items_of s t) j)) t
            (pool ++ text i) p w (λ j _ e. omega arith) (λ j g k. part_more (text i) (l.full j g k)));
        types = types_kept (lent_more (text i) l) p w (omega arith) (λ j _ e. omega arith);
      }

  -- a full name
  full_more : i < length (items_in t) → length (full_name (item_at (items_of s t) i)) < 1024 →
      Lent s (set t (2303 + i) (length pool * 1024 + length (full_name (item_at (items_of s t) i))))
      (pool ++ full_name (item_at (items_of s t) i))
  full_more h short =
      let p = 2303 + i in
      let text : ℕ → List ℕ = λ j. full_name (item_at (items_of s t) j) in
      let w = length pool * 1024 + length (text i) in
      let few : length (items_in t) ≤ 255 = omega (arith, items_count_lem l.tabled, l.tabled.items) in
      let a = names_kept l.tabled p w (omega arith) in
      let b = items_kept l.tabled p w (omega arith) in
      record {
        tabled = tabled_kept l.tabled p w (omega arith) (omega arith);
        names = rw a (words_other 64 1280 (length (names_in t)) (λ j. name_at s (get_or (names_in t) j 0)) t
            (pool ++ text i) p w (λ j g e. omega (arith, names_count_lem l.tabled, l.tabled.names))
            (λ j g k. part_more (text i) (l.names j g k)));
        full = rw (a, b) (words_new 1024 2303 (length (items_in t)) text t pool i w (omega (arith, l.tabled.long))
            (omega arith) (omega arith) l.full);
        types = types_kept (lent_more (text i) l) p w (omega arith) (λ j _ e. omega arith);
      }

-- the pool's front has one text of n bytes more
module _ {s before t pool : List ℕ} {end : ℕ} (d : Filled s before t pool end) (i n : ℕ) (part after : List ℕ)
    (c : length part ≡ n) (front : take (end + n) after ≡ take end pool ++ part) (room : end + n ≤ length after) where
  pub filled_name : i < length (names_in t) → part ≡ name_at s (get_or (names_in t) i 0) → n < 64 →
      Filled s before (set t (1280 + i) (end * 64 + n)) after (end + n)
  filled_name h e short =
      let m : length (name_at s (get_or (names_in t) i 0)) ≡ n = sym (ap length e) ∙ c in
      let l : length (take end pool) ≡ end = length-take-le end pool d.room in
      record {
        lent = rw (front, e) (rw (l, m) at (name_more d.lent i h (omega arith)));
        room = room;
        same_names = names_kept d.lent.tabled (1280 + i) (end * 64 + n) (omega arith) ∙ d.same_names;
        same_items = items_kept d.lent.tabled (1280 + i) (end * 64 + n) (omega arith) ∙ d.same_items;
      }

  pub filled_full : i < length (items_in t) → part ≡ full_name (item_at (items_of s t) i) → n < 1024 →
      Filled s before (set t (2303 + i) (end * 1024 + n)) after (end + n)
  filled_full h e short =
      let m : length (full_name (item_at (items_of s t) i)) ≡ n = sym (ap length e) ∙ c in
      let l : length (take end pool) ≡ end = length-take-le end pool d.room in
      record {
        lent = rw (front, e) (rw (l, m) at (full_more d.lent i h (omega arith)));
        room = room;
        same_names = names_kept d.lent.tabled (2303 + i) (end * 1024 + n) (omega arith) ∙ d.same_names;
        same_items = items_kept d.lent.tabled (2303 + i) (end * 1024 + n) (omega arith) ∙ d.same_items;
      }

-- ---- the loop over the names

-- the pool with a part in the place of n bytes
abbrev pub put : ℕ → ℕ → List ℕ → List ℕ → List ℕ
put end n pool part = put_mid end (end + n - end) pool part

put_front : (end n : ℕ) (pool part : List ℕ) → end ≤ length pool → length part ≡ n →
    take (end + n) (put end n pool part) ≡ take end pool ++ part
put_front end n pool part h c =
    take-add end n (put end n pool part)
    ∙ ap (λ (l : List ℕ). l ++ take n (drop end (put end n pool part))) (take_put end (end + n - end) pool part h)
    ∙ ap (λ (l : List ℕ). take end pool ++ take n l)
    (drop_at (take end pool) (part ++ post_of end (end + n - end) pool) end (length-take-le end pool h))
    ∙ ap (λ (l : List ℕ). take end pool ++ l) (take_at part (post_of end (end + n - end) pool) n c)

module _ {s before t pool : List ℕ} {end : ℕ} (d : Filled s before t pool end) where
  pub name_left : {i : ℕ} → Tabled s before → i < get_or before 1023 0 → i < length (names_in t)
  name_left a h = omega (arith, names_count_lem a, ap length d.same_names)

  module _ (i : ℕ) {f : Found} (part : List ℕ) (e : Finds (bits 6 s (get_or t i 0)) 6 f)
      (kept : length part ≡ length (take (end + f.value - end) (drop end pool))) where
    pub turn_long : length (put end f.value pool part) ≡ length pool
    turn_long = same_len_mid end (end + f.value - end) pool part kept

    pub filled_turn : i < length (names_in t) → Holds s f.next.at f.value part → end + f.value ≤ length pool →
        Filled s before (set t (1280 + i) (end * 64 + f.value)) (put end f.value pool part) (end + f.value)
    filled_turn h g room =
        let c : length part ≡ f.value = kept ∙ part_long end f.value pool room in
        filled_name d i f.value part (put end f.value pool part) c
        (put_front end f.value pool part d.room c) (omega (arith, turn_long)) h
        (place_name d.lent.tabled i h e g c) (omega (arith, e.low))
