-- Summaries of functions: what their words say does not depend on other words.
use Rattle.std.proofs.Common.{◌≡◌, ℕ, ◌+◌, ◌-◌, ◌<◌, ◌≤◌, false, List, ◌++◌, map, length, get_or, take, drop, set, replicate, sym, refl, ap, ◌∙◌, arith, length-append, length-drop, length-set, length-take, length-take-le, get_or-drop, get_or-set_other, get_or-take, get_or-set_same, get_or-append-add}
use mathlib.Core.Logic.{by_cases}
use native.Mathlib.Decide.{ℕ_discrete}
use lib.ListN.{length-replicate}
use lib.ListN.{get_or-append, get_or-replicate}
use borrow.Rule.Slice.PartMut.{put_mid, post_of, same_len_mid}
use Rattle.rules.specs.Rules.{gather}
use Rattle.bridge.specs.WriteType.{write_type_space}
use Rattle.bridge.specs.Write.{commas, extern_arg, held_local, operand}
use Rattle.cursor.specs.declared.Cursor.{Cursor}
use Rattle.cursor.proofs.CheckLaws.{many_length}
use Rattle.view.specs.declared.FunctionView.{FunctionView}
use Rattle.view.specs.Values.{Yields}
use Rattle.view.specs.Views.{comment_lines}
use Rattle.tables.specs.Tables.{items_in, items_of, function_of, Function, Arguments, behind_arguments}
use Rattle.count_type.specs.Counts.{Counts}
use Rattle.summary.specs.Summaries.{Summary, Summaries, Keeping}

-- words that are the same in front are a summary as well
pub summary_agrees : {s t a b : List ℕ} {f : FunctionView} → Summary s t f a → f.arguments + 5 ≤ length b →
    ((j : ℕ) → j < f.arguments + 5 → get_or b j 0 ≡ get_or a j 0) → Summary s t f b
summary_agrees {f = f} x h e = record {
  room = h;
  arguments = record {
    count = x.arguments.count;
    each = λ j k. rw (e j (omega (arith, k))) (x.arguments.each j k);
  };
  declared = rw (e f.arguments (omega arith)) x.declared;
  defined = rw (e (f.arguments + 1) (omega arith)) x.defined;
  held = rw (e (f.arguments + 2) (omega arith)) x.held;
  operands = rw (e (f.arguments + 3) (omega arith)) x.operands;
  comment = rw (e (f.arguments + 4) (omega arith)) x.comment;
}

-- ---- four words, one behind the other

module _ (words : List ℕ) (n a b c d : ℕ) where
  abbrev one : List ℕ
  one = set words n a

  abbrev two : List ℕ
  two = set one (n + 1) b

  abbrev three : List ℕ
  three = set two (n + 2) c

  abbrev pub four : List ℕ
  four = set three (n + 3) d

  long_one : length one ≡ length words
  long_one = length-set words n a

  long_two : length two ≡ length words
  long_two = length-set one (n + 1) b ∙ long_one

  long_three : length three ≡ length words
  long_three = length-set two (n + 2) c ∙ long_two

  pub four_long : length four ≡ length words
  four_long = length-set three (n + 3) d ∙ long_three

  pub four_other : (j : ℕ) → (n ≤ j → n + 4 ≤ j) → get_or four j 0 ≡ get_or words j 0
  four_other j h =
      get_or-set_other three (n + 3) j d 0 (λ q. omega (arith, q, h (omega (arith, q)))) ∙
      get_or-set_other two (n + 2) j c 0 (λ q. omega (arith, q, h (omega (arith, q)))) ∙
      get_or-set_other one (n + 1) j b 0 (λ q. omega (arith, q, h (omega (arith, q)))) ∙
      get_or-set_other words n j a 0 (λ q. omega (arith, q, h (omega (arith, q))))

  module _ (h : n + 4 ≤ length words) where
    pub four_first : get_or four n 0 ≡ a
    four_first =
        get_or-set_other three (n + 3) n d 0 (λ q. omega (arith, q)) ∙
        get_or-set_other two (n + 2) n c 0 (λ q. omega (arith, q)) ∙
        get_or-set_other one (n + 1) n b 0 (λ q. omega (arith, q)) ∙ get_or-set_same words n a 0 (omega (arith, h))

    pub four_second : get_or four (n + 1) 0 ≡ b
    four_second =
        get_or-set_other three (n + 3) (n + 1) d 0 (λ q. omega (arith, q)) ∙
        get_or-set_other two (n + 2) (n + 1) c 0 (λ q. omega (arith, q)) ∙
        get_or-set_same one (n + 1) b 0 (omega (arith, h, long_one))

    pub four_third : get_or four (n + 2) 0 ≡ c
    four_third =
        get_or-set_other three (n + 3) (n + 2) d 0 (λ q. omega (arith, q)) ∙
        get_or-set_same two (n + 2) c 0 (omega (arith, h, long_two))

    pub four_last : get_or four (n + 3) 0 ≡ d
    four_last = get_or-set_same three (n + 3) d 0 (omega (arith, h, long_three))

-- four lengths in a summary
pub summary_stored : {s t words : List ℕ} {f : FunctionView} {d e h o : ℕ} → Summary s t f words →
    Counts (commas false (map (extern_arg (items_of s t)) (function_of s t f.number).arguments)) d →
    Counts (commas false (map (λ a. write_type_space (items_of s t) a.type ++ a.name)
    (function_of s t f.number).arguments)) e →
    Counts (gather (held_local (items_of s t)) (function_of s t f.number).arguments) h →
    Counts (commas false (map (operand (items_of s t)) (function_of s t f.number).arguments)) o →
    Summary s t f (four words f.arguments d e h o)
summary_stored {words = words} {f} {d} {e} {h} {o} m x y u v =
    let n = f.arguments in
    let room : n + 4 ≤ length words = omega (arith, m.room) in
    record {
      room = rw (four_long words n d e h o) m.room;
      arguments = record {
        count = m.arguments.count;
        each = λ j l. rw (four_other words n d e h o j (λ q. absurd (omega (arith, l, q)))) (m.arguments.each j l);
      };
      declared = rw (four_first words n d e h o room) x;
      defined = rw (four_second words n d e h o room) y;
      held = rw (four_third words n d e h o room) u;
      operands = rw (four_last words n d e h o room) v;
      comment = rw (four_other words n d e h o (n + 4) (λ q. omega arith)) m.comment;
    }

pub counted_none : (text : List ℕ) → Counts text 0
counted_none text = record { exact = λ z. absurd (z refl) }

-- views of the arguments, with the five words behind them
pub summary_filled : {s : List ℕ} (t : List ℕ) {a : List ℕ} {f : FunctionView} (c : ℕ) → Arguments s t f a →
    f.arguments + 5 ≤ length a → Yields (comment_lines s c) (function_of s t f.number).comment →
    Summary s t f (set (four a f.arguments 0 0 0 0) (f.arguments + 4) c)
summary_filled t {a} {f} c x h e =
    let n = f.arguments in
    let l = four a n 0 0 0 0 in
    let long : length l ≡ length a = four_long a n 0 0 0 0 in
    let room : n + 4 ≤ length a = omega (arith, h) in
    let before : (j : ℕ) → j < n + 4 → get_or (set l (n + 4) c) j 0 ≡ get_or l j 0 =
    λ j k. get_or-set_other l (n + 4) j c 0 (λ q. omega (arith, k, q)) in
    record {
      room = omega (arith, length-set l (n + 4) c, long, h);
      arguments = record {
        count = x.count;
        each = λ j k. rw (
          before j (omega (arith, k)),
          four_other a n 0 0 0 0 j (λ q. absurd (omega (arith, k, q))),
        ) (x.each j k);
      };
      declared = rw (before n (omega arith), four_first a n 0 0 0 0 room) (counted_none _);
      defined = rw (before (n + 1) (omega arith), four_second a n 0 0 0 0 room) (counted_none _);
      held = rw (before (n + 2) (omega arith), four_third a n 0 0 0 0 room) (counted_none _);
      operands = rw (before (n + 3) (omega arith), four_last a n 0 0 0 0 room) (counted_none _);
      comment = rw (get_or-set_same l (n + 4) c 0 (omega (arith, long, h))) e;
    }

-- the comment stands behind the arguments
pub comment_behind : {s : List ℕ} (t : List ℕ) {f : FunctionView} {c : ℕ} → Function s t f → c ≡ behind_arguments s t f →
    Yields (comment_lines s c) (function_of s t f.number).comment
comment_behind t x e = rw e x.view.comment

-- all views of a function have one summary
as_many : {s : List ℕ} (t : List ℕ) {f g : FunctionView} → Function s t f → Function s t g → g.number ≡ f.number →
    g.arguments ≡ f.arguments
as_many {s} t {f} {g} x y e =
    sym (many_length _ s g.arguments g.first.at y.view.arguments.is) ∙
    rw e (many_length _ s f.arguments f.first.at x.view.arguments.is)

pub summary_view : {s t words : List ℕ} {f g : FunctionView} → Function s t f → Function s t g → g.number ≡ f.number →
    Summary s t f words → Summary s t g words
summary_view x y e w = record {
  room = rw (as_many _ x y e) w.room;
  arguments = record {
    count = rw (e, as_many _ x y e) w.arguments.count;
    each = λ j k. rw e (w.arguments.each j (rw (as_many _ x y e) at k));
  };
  declared = rw (e, as_many _ x y e) w.declared;
  defined = rw (e, as_many _ x y e) w.defined;
  held = rw (e, as_many _ x y e) w.held;
  operands = rw (e, as_many _ x y e) w.operands;
  comment = rw (e, as_many _ x y e) w.comment;
}

-- ---- all functions

module _ {s t kept : List ℕ} {i end : ℕ} (k : Keeping s t i end kept) where
  pub keeping_none : i < 255 → Keeping s t (i + 1) end kept
  keeping_none h = record {
    first = k.first;
    near = k.near;
    small = k.small;
    each = λ f x l z. by_cases (ℕ_discrete f.number i)
        (λ e. absurd (z (k.later f.number (omega (arith, e)) (omega (arith, e, h)))))
        (λ e. k.each f x (omega (arith, l, e)) z);
    later = λ j l m. k.later j (omega (arith, l)) m;
  }

  module _ {f : FunctionView} (x : Function s t f) (n : f.number ≡ i) (small : i < 255) (room : end + 36 ≤ length kept)
      {words : List ℕ} (w : Summary s t f words)
      (long : length words ≡ length (take (length kept - end) (drop end kept))) where
    abbrev both : List ℕ
    both = put_mid end (length kept - end) kept words

    abbrev after : List ℕ
    after = set both i end

    few : f.arguments ≤ 31
    few = x.view.few

    front : length (take end kept) ≡ end
    front = length-take-le end kept k.near

    back : length words ≡ length kept - end
    back = long ∙ omega (arith, length-take (length kept - end) (drop end kept), length-drop end kept)

    pub both_long : length both ≡ length kept
    both_long = same_len_mid end (length kept - end) kept words long

    after_long : length after ≡ length kept
    after_long = length-set both i end ∙ both_long

    before : (j : ℕ) → j < end → get_or both j 0 ≡ get_or kept j 0
    before j l =
        get_or-append (take end kept) (words ++ post_of end (length kept - end) kept) 0 j (omega (arith, front, l))
        ∙ get_or-take end kept j 0 l

    inside : (j : ℕ) → j < length words → get_or both (end + j) 0 ≡ get_or words j 0
    inside j l =
        ap (λ (m : ℕ). get_or both (m + j) 0) (sym front)
        ∙ get_or-append-add (take end kept) (words ++ post_of end (length kept - end) kept) j 0
        ∙ get_or-append words (post_of end (length kept - end) kept) 0 j l

    other : (j : ℕ) → (j ≡ i → ⊥) → get_or after j 0 ≡ get_or both j 0
    other j h = get_or-set_other both i j end 0 h

    own : Summary s t f (drop end after)
    own = summary_agrees w (omega (arith, length-drop end after, after_long, few, room))
        (λ j l. get_or-drop end after j 0 ∙ other (end + j) (λ q. omega (arith, k.first, small, q)) ∙
        inside j (omega (arith, back, few, room, l)))

    old : (g : FunctionView) → Function s t g → g.number < i → (get_or kept g.number 0 ≡ 0 → ⊥) →
        (255 ≤ get_or kept g.number 0) × (get_or kept g.number 0 + (g.arguments + 5) ≤ end + (f.arguments + 5)) ×
        Summary s t g (drop (get_or kept g.number 0) after)
    old g y l z =
        let p = k.each g y l z in
        let from = get_or kept g.number 0 in (
          p.0,
          omega (arith, p.1),
          summary_agrees p.2 (omega (arith, length-drop from after, after_long, p.1, k.near))
              (λ j m. get_or-drop from after j 0 ∙ other (from + j) (λ q. omega (arith, p.0, small, q)) ∙
              before (from + j) (omega (arith, p.1, m)) ∙ sym (get_or-drop from kept j 0)),
        )

    own_place : get_or after i 0 ≡ end
    own_place = get_or-set_same both i end 0 (omega (arith, both_long, k.first, k.near, small))

    same : (g : FunctionView) → Function s t g → g.number ≡ i →
        (255 ≤ get_or after g.number 0) ×
        (get_or after g.number 0 + (g.arguments + 5) ≤ end + (f.arguments + 5)) ×
        Summary s t g (drop (get_or after g.number 0) after)
    same g y e =
        let q : g.number ≡ f.number = e ∙ sym n in
        let p : get_or after g.number 0 ≡ end = rw e own_place in
        rw p (k.first, omega (arith, as_many _ x y q), summary_view x y q own)

    other_one : (g : FunctionView) → Function s t g → g.number < i → (get_or after g.number 0 ≡ 0 → ⊥) →
        (255 ≤ get_or after g.number 0) ×
        (get_or after g.number 0 + (g.arguments + 5) ≤ end + (f.arguments + 5)) ×
        Summary s t g (drop (get_or after g.number 0) after)
    other_one g y l z =
        let p : get_or after g.number 0 ≡ get_or kept g.number 0 =
        other g.number (λ q. omega (arith, q, l)) ∙ before g.number (omega (arith, k.first, small, l)) in
        rw p (old g y l (rw p at z))

    pub keeping_turn : Keeping s t (i + 1) (end + (f.arguments + 5)) after
    keeping_turn = record {
      first = omega (arith, k.first);
      near = omega (arith, after_long, few, room);
      small = omega (arith, after_long, k.small);
      each = λ g y l z. by_cases (ℕ_discrete g.number i) (λ e. same g y e) (λ e. other_one g y (omega (arith, l, e)) z);
      later = λ j l m. other j (λ q. omega (arith, q, l)) ∙ before j (omega (arith, k.first, m)) ∙
          k.later j (omega (arith, l)) m;
    }

pub keeping_begins : {s t kept : List ℕ} → kept ≡ replicate 3744 0 → Keeping s t 0 255 kept
keeping_begins {kept = kept} e =
    let long : length kept ≡ 3744 = ap length e ∙ length-replicate {A = ℕ} 3744 0 in
    record {
      first = omega arith;
      near = omega (arith, long);
      small = omega (arith, long);
      each = λ f x m z. absurd (omega (arith, m));
      later = λ j m n. rw e (get_or-replicate 3744 j 0 0 (omega (arith, n)));
    }

pub keeping_ends : {s t kept : List ℕ} {i end : ℕ} → Keeping s t i end kept → length (items_in t) ≤ i → Summaries s t kept
keeping_ends k h = record { each = λ f x z. (k.each f x (omega (arith, h, x.there)) z).2 }

-- ---- one of them

module _ {s t kept : List ℕ} (words : List ℕ) {f : FunctionView} (x : Function s t f) (k : Summaries s t kept) {from : ℕ}
    (is : from ≡ get_or kept f.number 0) (z : from ≡ 0 → ⊥) (h : 36 ≤ length words) where
  own_kept : Summary s t f (drop from kept)
  own_kept = rw is (k.each f x (rw is at z))

  abbrev m : ℕ
  m = f.arguments + 5

  abbrev part : List ℕ
  part = take (from + m - from) (drop from kept)

  room_in : m ≤ length words
  room_in = omega (arith, h, x.view.few)

  pub kept_room : from + m ≤ length kept
  kept_room = omega (arith, own_kept.room, length-drop from kept)

  part_long : length part ≡ m
  part_long = length-take-le (from + m - from) (drop from kept) (omega (arith, own_kept.room)) ∙ omega arith

  pub front_long : length (take m words) ≡ length part
  front_long = length-take-le m words room_in ∙ sym part_long

  module _ {a : List ℕ} (e : a ≡ part) where
    a_long : length a ≡ m
    a_long = ap length e ∙ part_long

    pub loaded_long : length (a ++ drop m words) ≡ length words
    loaded_long = length-append a (drop m words) ∙ omega (arith, a_long, length-drop m words, room_in)

    -- words in front of others are a summary, if they are those of one that is kept
    pub summary_loaded : Summary s t f (a ++ drop m words)
    summary_loaded =
        summary_agrees own_kept (omega (arith, loaded_long, room_in))
        (λ j l. get_or-append a (drop m words) 0 j (omega (arith, a_long, l)) ∙
        rw e (get_or-take (from + m - from) (drop from kept) j 0 (omega (arith, l))))

    pub comment_loaded : {c : Cursor} → c ≡ record { at = get_or (a ++ drop m words) (m - 1) 0 } →
        Yields (comment_lines s c.at) (function_of s t f.number).comment
    comment_loaded d =
        let q : m - 1 ≡ f.arguments + 4 = omega arith in
        rw (d, q) summary_loaded.comment
