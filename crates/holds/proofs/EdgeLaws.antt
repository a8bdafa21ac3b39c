-- Laws of the table of held structs and of the list of structs, as they are filled.
use mathlib.Core.Path.{◌≡◌, refl, sym, ap, ◌∙◌}
use mathlib.Core.List.{List, [], ◌∷◌, ◌++◌, append_assoc, append-nil}
use mathlib.Core.Bool.{Bool, true, false}
use Prim.Native.Nat.{ℕ, ◌+◌, ◌-◌, ◌*◌, ◌<◌, ◌≤◌}
use native.Mathlib.Omega.{arith}
use native.Mathlib.Numerals.{add-one}
use lib.ListN.{length, get_or, set, take, drop, length-set, length-map, get_or-eq_default, drop_of_length-le}
use lib.Dec.{eqb, ltb}
use lib.Seq.{get_or-set_same, get_or-set_other, drop-cons}
use borrow.Author.Tests.{ltb-true, ltb-false}
use Rattle.format.specs.Limits.{most_items, most_fields}
use Rattle.format.specs.Decode.{pick}
use Rattle.format.specs.Sheet.{Body, struct, enum, cxx_type, rust_type, function, Item}
use Rattle.syntax.specs.Items.{item_at, is_struct}
use Rattle.toposort.specs.Graph.{◌∈◌}
use Rattle.toposort.specs.Adjacency.{item_numbers, most_held, graph_of}
use Rattle.rules.specs.Rules.{gather, held_by, fields_of, held_structs, structs_from, structs}
use Rattle.rules.proofs.RingRule.{sheet_structs}
use Rattle.view.specs.Values.{one_item_at, items_at}
use Rattle.holds.specs.Edges.{Flags, counted, Puts, Edges, StructNumbers}
use Rattle.holds.proofs.PutLaws.{put_nothing, part_kept, part_new}
use Rattle.holds.proofs.FieldLaws.{counted_some}
use Rattle.std.specs.Bool.{then_some}

-- an item that is not there holds nothing
pub holds_none : (items : List Item) (i : ℕ) → length items ≤ i → [] ≡ held_structs items i
unfolding held_structs item_at gather
holds_none items i h = rw (get_or-eq_default items _ h) refl

-- nor does one that is no struct
pub holds_other : (items : List Item) (i : ℕ) → is_struct (item_at items i).body ≡ false → [] ≡ held_structs items i
unfolding held_structs gather
holds_other items i e = by_body (item_at items i).body e
  where
    by_body : (b : Body) → is_struct b ≡ false → [] ≡ gather (held_by items) (fields_of b)
    by_body (struct p ts) e = absurd (let z : ◌≡◌ {A = ℕ} 0 1 = cc in omega arith)
    by_body (enum p a c) e = refl
    by_body (cxx_type p) e = refl
    by_body (rust_type p) e = refl
    by_body (function f) e = refl

pub items_length : (s names items : List ℕ) → length (items_at s names items) ≡ length items
unfolding items_at
items_length s names items = length-map items (one_item_at s names items)

module _ (s names items : List ℕ) {i : ℕ} where
  pub items_there : i < length items → i < length (items_at s names items)
  items_there h = rw (items_length s names items) h

  pub items_passed : length items ≤ i → length (items_at s names items) ≤ i
  items_passed h = rw (items_length s names items) h

pub puts_none : {xs : List ℕ} (l : List ℕ) (at : ℕ) → [] ≡ xs → Puts xs at l at l
puts_none l at e = rw (← e) (put_nothing l at)

-- the item of a view is that of its number
pub puts_item : (items : List Item) {i j at r : ℕ} {l m : List ℕ} → j ≡ i → Puts (held_structs items j) at l r m →
    Puts (held_structs items i) at l r m
puts_item items {i} {j} {at} {r} {l} {m} e p = rw e at p

-- ---- the flags

-- the first i flags are there
pub record Flagging (items : List Item) (i : ℕ) (structs : List ℕ) : Type 0 where
  pub size : length structs ≡ item_numbers
  pub each : (j : ℕ) → j < i → eqb (get_or structs j 0) 1 ≡ is_struct (item_at items j).body

pub flag_none : {items : List Item} {structs : List ℕ} → length structs ≡ item_numbers → Flagging items 0 structs
flag_none e = record { size = e; each = λ j h. absurd (omega arith) }

pub flag_next : {items : List Item} {i v : ℕ} {b : Bool} {structs : List ℕ} → Flagging items i structs → i < item_numbers →
    b ≡ is_struct (item_at items i).body → v ≡ pick b 1 0 → Flagging items (i + 1) (set structs i v)
flag_next {items} {i} {v} {b} {structs} f h e z = record {
  size = length-set structs i v ∙ f.size;
  each = λ j k. one j k (ltb j i) refl;
}
  where
    told : (b : Bool) → eqb (pick b 1 0) 1 ≡ b
    told true = refl
    told false = refl

    one : (j : ℕ) → j < i + 1 → (t : Bool) → ltb j i ≡ t → eqb (get_or (set structs i v) j 0) 1 ≡ is_struct (item_at items j).body
    one j k true t =
        let l : j < i = ltb-true j i t in
        rw (get_or-set_other structs i j v 0 (λ q. absurd (omega arith))) (f.each j l)
    one j k false t =
        let l : j ≡ i = omega (arith, ltb-false j i t) in
        rw l (ap (λ (x : ℕ). eqb x 1) (get_or-set_same structs i v 0 (omega (arith, f.size)) ∙ z) ∙ told b ∙ e)

pub flag_done : {items : List Item} {i : ℕ} {structs : List ℕ} → length items ≤ i → Flagging items i structs → Flags items structs
flag_done {items} {i} {structs} h f = record { size = f.size; each = λ j k. f.each j (omega arith) }

-- ---- the table

-- the first i rows are there, and end at `end`
pub record Filling (items : List Item) (i end : ℕ) (starts held : List ℕ) : Type 0 where
  pub count : length starts ≡ item_numbers + 1
  pub size : length held ≡ most_held
  pub few : end ≤ most_fields * i
  pub inside : end ≤ most_held
  pub last : get_or starts i 0 ≡ end
  pub ends : (j : ℕ) → j < i → get_or starts (j + 1) 0 ≤ end
  pub rows : (j : ℕ) → j < i → graph_of starts held j ≡ held_structs items j

pub fill_none : {items : List Item} {held : List ℕ} (starts : List ℕ) → length starts ≡ item_numbers + 1 → length held ≡ most_held →
    Filling items 0 0 (set starts 0 0) held
fill_none {items} {held} starts count size = record {
  count = length-set starts 0 0 ∙ count;
  size = size;
  few = omega arith;
  inside = omega arith;
  last = get_or-set_same starts 0 0 0 (omega arith);
  ends = λ j h. absurd (omega arith);
  rows = λ j h. absurd (omega arith);
}

module _ {items : List Item} {i end r : ℕ} {starts held after : List ℕ} (f : Filling items i end starts held) (h : i < item_numbers)
    (p : Puts (held_structs items i) end held r after) (most : r ≤ end + most_fields) (inside : r ≤ most_held) where
  in_front : (j : ℕ) → j < i + 1 → get_or (set starts (i + 1) r) j 0 ≡ get_or starts j 0
  in_front j k = get_or-set_other starts (i + 1) j r 0 (λ e. absurd (omega arith))

  at_last : get_or (set starts (i + 1) r) (i + 1) 0 ≡ r
  at_last = get_or-set_same starts (i + 1) r 0 (omega (arith, f.count))

  fits : end ≤ length held
  fits = omega (arith, f.inside, f.size)

  row : (j : ℕ) → j < i + 1 → (t : Bool) → ltb j i ≡ t →
      (get_or (set starts (i + 1) r) (j + 1) 0 ≤ r) × (graph_of (set starts (i + 1) r) after j ≡ held_structs items j)
  unfolding graph_of
  row j k true t =
      let l : j < i = ltb-true j i t in
      let e = f.ends j l in
      rw (in_front (j + 1) (omega arith), in_front j (omega arith))
      (omega (arith, p.end), part_kept p fits (get_or starts j 0) (get_or starts (j + 1) 0) e ∙ f.rows j l)
  row j k false t =
      let l : j ≡ i = omega (arith, ltb-false j i t) in
      rw (l, in_front i (omega arith), at_last, f.last) (omega arith, part_new p fits)

  pub fill_next : Filling items (i + 1) r (set starts (i + 1) r) after
  fill_next = record {
    count = length-set starts (i + 1) r ∙ f.count;
    size = p.kept ∙ f.size;
    few = omega (arith, f.few);
    inside = inside;
    last = at_last;
    ends = λ j k. (row j k (ltb j i) refl).0;
    rows = λ j k. (row j k (ltb j i) refl).1;
  }

pub filling_all : {items : List Item} {i end : ℕ} {starts held : List ℕ} → i ≡ item_numbers → Filling items i end starts held →
    Filling items item_numbers end starts held
filling_all {items} {i} {end} {starts} {held} e f = rw e at f

module _ {items : List Item} {end : ℕ} {starts held : List ℕ} (few : length items ≤ most_items)
    (f : Filling items item_numbers end starts held) where
  each_row : (i : ℕ) (t : Bool) → ltb i item_numbers ≡ t → graph_of starts held i ≡ held_structs items i
  unfolding graph_of
  each_row i true t = f.rows i (ltb-true i item_numbers t)
  each_row i false t =
      let l = ltb-false i item_numbers t in
      let e : get_or starts (i + 1) 0 ≡ 0 = get_or-eq_default starts 0 (omega (arith, f.count)) in
      let z : get_or starts (i + 1) 0 - get_or starts i 0 ≡ 0 = omega arith in
      rw z (holds_none items i (omega arith))

  pub fill_done : Edges items starts held
  fill_done = record {
    graph = λ i. each_row i (ltb i item_numbers) refl;
    table = record {
      size = omega (arith, f.size);
      inside = λ i h. omega (arith, f.ends i h, f.inside, f.size);
      within = λ i c d. below i c (rw (each_row i (ltb i item_numbers) refl) at d);
    };
  }
    where
      below : (i c : ℕ) → c ∈ held_structs items i → c < item_numbers
      below i c d =
          let s = sheet_structs items in omega (arith, s.below c (s.held i c d))

-- ---- the list of structs

item_first : (items : List Item) (i : ℕ) → i < length items → drop i items ≡ item_at items i ∷ drop (i + 1) items
unfolding item_at
item_first items i h = rw add-one (drop-cons items i _ h)

-- i items are passed, and n numbers are there
pub record Listing (items : List Item) (i n : ℕ) (numbers : List ℕ) : Type 0 where
  pub few : n ≤ i
  pub inside : n ≤ length numbers
  pub left : take n numbers ++ structs_from i (drop i items) ≡ structs items

pub list_none : {items : List Item} {numbers : List ℕ} → Listing items 0 0 numbers
list_none = record { few = omega arith; inside = omega arith; left = refl }

pub list_next : {items : List Item} {i n r : ℕ} {b : Bool} {numbers after : List ℕ} → Listing items i n numbers →
    n < length numbers → i < length items → b ≡ is_struct (item_at items i).body → Puts (counted (then_some b i)) n numbers r after →
    Listing items (i + 1) r after
unfolding structs_from
list_next {items} {i} {n} {r} {b} {numbers} {after} l room h e p = record {
  few = omega (arith, l.few, p.end, one b);
  inside = omega (arith, p.end, p.kept, one b);
  left =
      rw (p.front, counted_some b i, e) (append_assoc (take n numbers) (pick (is_struct (item_at items i).body) (i ∷ []) []) (structs_from (i + 1) (drop (i + 1) items))
      ∙ ap (λ (k : List ℕ). take n numbers ++ k) step ∙ l.left);
}
  where
    one : (b : Bool) → length (counted (then_some b i)) ≤ 1
    one true = omega arith
    one false = omega arith

    step : pick (is_struct (item_at items i).body) (i ∷ []) [] ++ structs_from (i + 1) (drop (i + 1) items) ≡ structs_from i (drop i items)
    step = rw (item_first items i h)

pub list_done : {items : List Item} {i n : ℕ} {numbers : List ℕ} → length items ≤ i → Listing items i n numbers →
    StructNumbers items n numbers
unfolding structs_from
list_done {items} {i} {n} {numbers} h l = record {
  front = sym (append-nil (take n numbers)) ∙ (rw (drop_of_length-le items h) at l.left);
  inside = l.inside;
}
