-- A table that is filled from its lists.
use mathlib.Core.Path.{◌≡◌, sym, ap, ◌∙◌}
use mathlib.Core.List.{List, ◌++◌}
use Prim.Native.Nat.{ℕ, ◌+◌, ◌-◌, ◌<◌, ◌≤◌}
use native.Mathlib.Omega.{arith}
use lib.ListN.{length, get_or, set, take, drop, length-set, length-append, length-drop}
use lib.Seq.{get_or-set_same, get_or-set_other, take-take, take-set-le, drop-set-lt, drop-set-add, take_at, drop_at}
use lib.Seq.{length-take-le, drop-drop, drop-append-add}
use borrow.Rule.Slice.PartAt.{part_count}
use borrow.Rule.Slice.PartMut.{put_mid, post_of, take_put, drop_put, same_len_mid}
use Rattle.format.specs.Limits.{most_names, most_items}
use Rattle.tables.specs.Tables.{names_in, items_in, Listed}

-- a part of k places from f on
pub part_long : (f k : ℕ) (l : List ℕ) → f + k ≤ length l → length (take (f + k - f) (drop f l)) ≡ k
part_long f k l h = sym (part_count l f (f + k) (omega arith, h)) ∙ omega arith

pub front_long : {names a : List ℕ} (t : List ℕ) → a ≡ names → length names ≤ length t →
    length (a ++ drop (length names) t) ≡ length t
front_long {names} {a} t x h =
    length-append a (drop (length names) t) ∙ omega (arith, length-drop (length names) t, ap length x)

pub back_room : {names a : List ℕ} (items t : List ℕ) → a ≡ names → length names ≤ most_names → length items ≤ most_items →
    length t ≡ 3068 →
    length (take (1024 + length items - 1024) (drop 1024 (a ++ drop (length names) t))) ≡ length items
back_room {names} {a} items t x n k l =
    part_long 1024 (length items) (a ++ drop (length names) t) (omega (arith, front_long t x (omega arith)))

-- two lists in front of the places p and q, the second from f on
module _ (p f m : ℕ) (names items t a b : List ℕ) where
  abbrev q : ℕ
  q = f + m

  abbrev front : List ℕ
  front = a ++ drop (length names) t

  abbrev both : List ℕ
  both = put_mid f (f + length items - f) front b

  abbrev full : List ℕ
  full = set (set both p (length names)) q (length items)

  module _ (pf : p < f) (x : a ≡ names) (y : b ≡ items) (n : length names ≤ p) (k : length items ≤ m)
      (l : f + m < length t) where
    long_front : length front ≡ length t
    long_front = front_long t x (omega arith)

    long_both : length both ≡ length t
    long_both =
        same_len_mid f (f + length items - f) front b
        (ap length y ∙ sym (part_long f (length items) front (omega (arith, long_front)))) ∙ long_front

    pub full_long : length full ≡ length t
    full_long = length-set (set both p (length names)) q (length items) ∙ length-set both p (length names) ∙ long_both

    pub full_names : get_or full p 0 ≡ length names
    full_names =
        get_or-set_other (set both p (length names)) q p (length items) 0 (λ e. omega arith)
        ∙ get_or-set_same both p (length names) 0 (omega (arith, long_both))

    pub full_items : get_or full q 0 ≡ length items
    full_items =
        get_or-set_same (set both p (length names)) q (length items) 0
        (omega (arith, long_both, length-set both p (length names)))

    pub full_front : take (length names) full ≡ names
    full_front =
        take-set-le (length names) (set both p (length names)) q (length items) (omega arith)
        ∙ take-set-le (length names) both p (length names) n
        ∙ sym (take-take (length names) f both (omega arith))
        ∙ ap (take (length names)) (take_put f (f + length items - f) front b (omega (arith, long_front)))
        ∙ take-take (length names) f front (omega arith)
        ∙ take_at a (drop (length names) t) (length names) (ap length x)
        ∙ x

    pub full_back : take (length items) (drop f full) ≡ items
    full_back =
        ap (take (length items)) (drop-set-add f (set both p (length names)) m (length items))
        ∙ take-set-le (length items) (drop f (set both p (length names))) m (length items) k
        ∙ ap (take (length items)) (drop-set-lt f both p (length names) pf
        ∙ drop_at (take f front) (b ++ post_of f (f + length items - f) front) f
        (length-take-le f front (omega (arith, long_front))))
        ∙ take_at b (post_of f (f + length items - f) front) (length items) (ap length y)
        ∙ y

    -- what is behind all of them stays
    pub full_rest : (r : ℕ) → f + m < r → drop r full ≡ drop r t
    full_rest r h =
        let e = f + length items in
        let xr : r ≡ e + (r - e) = omega arith in
        let yr : r ≡ length a + (r - length a) = omega (arith, ap length x) in
        let z : length names + (r - length a) ≡ r = omega (arith, ap length x) in
        drop-set-lt r (set both p (length names)) q (length items) (omega arith)
        ∙ drop-set-lt r both p (length names) (omega arith)
        ∙ ap (λ (j : ℕ). drop j both) xr
        ∙ sym (drop-drop (r - e) e both)
        ∙ ap (drop (r - e)) (drop_put f e front b (omega arith) (omega (arith, long_front)) (ap length y ∙ omega arith))
        ∙ drop-drop (r - e) e front
        ∙ ap (λ (j : ℕ). drop j front) (sym xr ∙ yr)
        ∙ drop-append-add a (drop (length names) t) (r - length a)
        ∙ drop-drop (r - length a) (length names) t
        ∙ ap (λ (j : ℕ). drop j t) z

pub both_long : {names items : List ℕ} (t : List ℕ) {a b : List ℕ} → a ≡ names → b ≡ items → length names ≤ most_names →
    length items ≤ most_items → length t ≡ 3068 →
    length (put_mid 1024 (1024 + length items - 1024) (a ++ drop (length names) t) b) ≡ 3068
both_long {names} {items} t {a} {b} x y n k l =
    let h : 1024 + 255 < length t = omega arith in
    long_both 1023 1024 255 names items t a b (omega arith) x y n k h ∙ l

pub listed : {names items : List ℕ} (t : List ℕ) {a b : List ℕ} → a ≡ names → b ≡ items → length names ≤ most_names →
    length items ≤ most_items → length t ≡ 3068 → Listed names items
    (set (set (put_mid 1024 (1024 + length items - 1024) (a ++ drop (length names) t) b) 1023 (length names)) 1279
    (length items))
unfolding names_in items_in
listed {names} {items} t {a} {b} x y n k l =
    let h : 1024 + 255 < length t = omega arith in
    let below : 1023 < 1024 = omega arith in
    let all = full 1023 1024 255 names items t a b in
    let c : get_or all 1023 0 ≡ length names = full_names 1023 1024 255 names items t a b below x y n k h in
    let d : get_or all 1279 0 ≡ length items = full_items 1023 1024 255 names items t a b below x y n k h in
    record {
      long = full_long 1023 1024 255 names items t a b below x y n k h ∙ l;
      names_are = ap (λ (j : ℕ). take j all) c ∙ full_front 1023 1024 255 names items t a b below x y n k h;
      items_are = ap (λ (j : ℕ). take j (drop 1024 all)) d ∙ full_back 1023 1024 255 names items t a b below x y n k h;
      names_count = omega (arith, c);
      items_count = omega (arith, d);
    }

pub words_stay : {names items : List ℕ} (t : List ℕ) {a b : List ℕ} → a ≡ names → b ≡ items → length names ≤ most_names →
    length items ≤ most_items → length t ≡ 3068 →
    drop 1280 (set (set (put_mid 1024 (1024 + length items - 1024) (a ++ drop (length names) t) b) 1023 (length names)) 1279
    (length items)) ≡ drop 1280 t
words_stay {names} {items} t {a} {b} x y n k l =
    full_rest 1023 1024 255 names items t a b (omega arith) x y n k (omega arith) 1280 (omega arith)
