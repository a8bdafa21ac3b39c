-- Laws of the table: what stands where in it, and the search of a word.
use mathlib.Core.Path.{◌≡◌, refl, sym, ap, ◌∙◌}
use mathlib.Core.List.{List, [], ◌∷◌, ◌++◌}
use mathlib.Core.Bool.{Bool, true, false, false≢true, ◌||◌, not, and-false}
use Prim.Native.Nat.{ℕ, zero, suc, ◌+◌, ◌-◌, ◌/◌, ◌%◌, ◌^◌, ◌<◌, ◌≤◌}
use native.Mathlib.Omega.{arith}
use native.Mathlib.Numerals.{add-one}
use lib.Dec.{leb, ltb, eqb}
use lib.ListN.{length, get_or, take, drop, length-drop, drop_of_length-le}
use lib.Seq.{drop-cons, drop-drop, length-take-le, get_or-take, get_or-drop}
use borrow.Author.Tests.{leb-true, leb-false, lt-leb, le-leb, eqb-true, ltb-true, lt-ltb, le-ltb, eq-eqb, ne_eqb}
use Rattle.lexical.specs.Bytes.{every, same, member}
use Rattle.lexical.specs.Names.{starts, table_of, sheet_name, name_ok, is_name, reserved}
use Rattle.lexical.proofs.BoolLaws.{by_cases, not-true, not-false}
use Rattle.lexical.proofs.ByteLaws.{byte_eq, every_cons}
use Rattle.lexical.proofs.NameLaws.{table_first, table_later}
use Rattle.format.specs.Decode.{pick}
use Rattle.words.specs.declared.State.{State}
use Rattle.words.specs.Walking.{begins, first_with, step_word, walk, verdict, base_verdict, start, before, sorted, chosen}
use Rattle.words.specs.Walking.{common, char_behind, compared_of, free, is_word, Fits, step, shape_number, shape_of, pack, unpack}
use Rattle.words.specs.declared.Shape.{Shape}
use Rattle.words.specs.declared.Shape.TheVariants.{Empty, Leading, Plain, Underscore, Reserved, Broken}
use Rattle.words.specs.declared.Compared.{Compared}
use Rattle.words.specs.declared.Compared.TheVariants.{Same, Larger, Other}
use Rattle.words.specs.Words.{words_of, total, starts_of, shared_of, firsts_of, lengths_in, shared_in, added_in}
use Rattle.words.specs.Words.{first_in, starts_in, words_in, small, Right}
use Rattle.words.proofs.OrderLaws.{begins_more, begins_less, common_yes, common_no, before_front, before_more}
use Rattle.words.proofs.OrderLaws.{before_larger, take_begins, none_later, sorted_behind}
use Rattle.words.proofs.WalkLaws.{first_least, fits_step, walk_name, walk_base}

-- ---- any lengths and bytes

words_count : (ns b : List ℕ) → length (words_of ns b) ≡ length ns
unfolding words_of
words_count [] b = refl
words_count (n ∷ ns) b = ap suc (words_count ns (drop n b))

words_long : (ns b : List ℕ) (i : ℕ) → i < length ns → total ns ≤ length b → length (get_or (words_of ns b) i []) ≡ get_or ns i 0
unfolding words_of total
words_long [] b i h l = absurd (omega arith)
words_long (n ∷ ns) b zero h l = length-take-le n b (omega arith)
words_long (n ∷ ns) b (suc i) h l = words_long ns (drop n b) i (omega arith) (rw (length-drop n b) (omega arith))

word_at : (ns b : List ℕ) (at i k : ℕ) → i < length ns → k < get_or ns i 0 →
    get_or (get_or (words_of ns (drop at b)) i []) k 0 ≡ get_or b (get_or (starts_of at ns) i 0 + k) 0
unfolding words_of starts_of
word_at [] b at i k h l = absurd (omega arith)
word_at (n ∷ ns) b at zero k h l = get_or-take n (drop at b) k 0 l ∙ get_or-drop at b k 0
word_at (n ∷ ns) b at (suc i) k h l = rw (drop-drop n at b) (word_at ns b (at + n) i k (omega arith) l)

starts_room : (ns : List ℕ) (at i : ℕ) → i < length ns → get_or (starts_of at ns) i 0 + get_or ns i 0 ≤ at + total ns
unfolding starts_of total
starts_room [] at i h = absurd (omega arith)
starts_room (n ∷ ns) at zero h = omega arith
starts_room (n ∷ ns) at (suc i) h = let z = starts_room ns (at + n) i (omega arith) in omega arith

shared_at : (v : List ℕ) (ws : List (List ℕ)) (i : ℕ) → suc i < length ws →
    get_or (shared_of v ws) (suc i) 0 ≡ common (get_or ws i []) (get_or ws (suc i) [])
unfolding shared_of
shared_at v [] i h = absurd (omega arith)
shared_at v (w ∷ []) i h = absurd (omega arith)
shared_at v (w ∷ (x ∷ ws)) zero h = refl
shared_at v (w ∷ (x ∷ ws)) (suc i) h = shared_at w (x ∷ ws) i (omega arith)

firsts_at : (ws : List (List ℕ)) (n c i : ℕ) → i < n → get_or (firsts_of ws n c) i 0 ≡ first_with ((c + i) ∷ []) ws
unfolding firsts_of
firsts_at ws zero c i h = absurd (omega arith)
firsts_at ws (suc n) c zero h = let z : c + 0 ≡ c = omega arith in rw z
firsts_at ws (suc n) c (suc i) h =
    let z : c + suc i ≡ c + 1 + i = omega arith in rw z (firsts_at ws n (c + 1) i (omega arith))

-- no word begins with another character than a small letter
first_other : (ws : List (List ℕ)) (c : ℕ) → every (starts small) ws ≡ true → small c ≡ false → first_with (c ∷ []) ws ≡ length ws
unfolding first_with begins
first_other [] c h n = refl
first_other (w ∷ ws) c h n =
    let q = every_cons (starts small) w ws h in
    rw (unlike w q.0) (ap suc (first_other ws c q.1 n))
  where
    unlike : (w : List ℕ) → starts small w ≡ true → begins (c ∷ []) w ≡ false
    unlike [] s = refl
    unlike (d ∷ w) s =
        by_cases (eqb c d) (λ e. absurd (false≢true (sym n ∙ ap small (byte_eq c d e) ∙ s))) (λ e. rw e)

-- ---- a table that is right

module _ {t : List ℕ} (r : Right t) where
  part_long : (at : ℕ) → at + 92 ≤ 971 → length (take 92 (drop at t)) ≡ 92
  part_long at h = length-take-le 92 (drop at t) (let z = r.size in rw (length-drop at t) (omega arith))

  part_at : (at i : ℕ) → i < 92 → get_or (take 92 (drop at t)) i 0 ≡ get_or t (at + i) 0
  part_at at i h = get_or-take 92 (drop at t) i 0 h ∙ get_or-drop at t i 0

  pub table_count : length (words_in t) ≡ 92
  table_count = words_count (lengths_in t) (drop 394 t) ∙ part_long 0 (omega arith)

  room : total (lengths_in t) ≤ length (drop 394 t)
  room = let z = r.size in let y = r.room in rw (length-drop 394 t) (omega arith)

  word_is : (w : ℕ) → w < 92 → length (get_or (words_in t) w []) ≡ get_or (lengths_in t) w 0
  word_is w h = words_long (lengths_in t) (drop 394 t) w (rw (part_long 0 (omega arith)) h) room

  pub length_at : (w : ℕ) → w < 92 → get_or t w 0 ≡ length (get_or (words_in t) w [])
  length_at w h = sym (word_is w h ∙ get_or-take 92 t w 0 h)

  pub length_short : (w : ℕ) → w < 92 → length (get_or (words_in t) w []) ≤ 16
  length_short w h = rw (word_is w h) (each (lengths_in t) w (rw (part_long 0 (omega arith)) h) r.short)
    where
      each : (ns : List ℕ) (i : ℕ) → i < length ns → every (λ n. leb n 16) ns ≡ true → get_or ns i 0 ≤ 16
      each [] i h e = omega arith
      each (n ∷ ns) zero h e = leb-true n 16 (every_cons (λ n. leb n 16) n ns e).0
      each (n ∷ ns) (suc i) h e = each ns i (omega arith) (every_cons (λ n. leb n 16) n ns e).1

  module _ (w k : ℕ) (h : w < 92) (l : k < length (get_or (words_in t) w [])) {n : ℕ} (e : n ≡ get_or t (302 + w) 0) where
    here : n ≡ get_or (starts_of 0 (lengths_in t)) w 0
    here = e ∙ sym (part_at 302 w h) ∙ rw r.starts

    pub char_room : n + k < 577
    char_room =
        let z = starts_room (lengths_in t) 0 w (rw (part_long 0 (omega arith)) h) in
        let y = word_is w h in
        let x = r.room in
        let v = here in
        omega arith

    pub char_at : get_or t (394 + n + k) 0 ≡ get_or (get_or (words_in t) w []) k 0
    char_at =
        let z : 394 + n + k ≡ 394 + (get_or (starts_of 0 (lengths_in t)) w 0 + k) = let v = here in omega arith in
        rw (z, ← get_or-drop 394 t (get_or (starts_of 0 (lengths_in t)) w 0 + k) 0)
        (sym (word_at (lengths_in t) (drop 394 t) 0 w k (rw (part_long 0 (omega arith)) h) (rw (← word_is w h) l)))

  pub shared_is : (w : ℕ) → 0 < w → w < 92 →
      get_or t (92 + w) 0 ≡ common (get_or (words_in t) (w - 1) []) (get_or (words_in t) w [])
  shared_is zero p h = absurd (omega arith)
  shared_is (suc i) p h =
      let z : suc i - 1 ≡ i = omega arith in
      rw (← part_at 92 (suc i) h, r.shared, z) (shared_at [] (words_in t) i (rw table_count h))

  added_at : (w : ℕ) → w < 92 → get_or t (184 + w) 0 ≡ get_or (added_in t) w 0
  added_at w h = sym (part_at 184 w h)

  pub first_few : (c : ℕ) → first_with (c ∷ []) (words_in t) ≤ 92
  first_few c = let z = table_count in omega (arith, first_least (c ∷ []) (words_in t))

  pub first_at : (c i : ℕ) → i ≡ c - 97 → 97 ≤ c → c ≤ 122 → get_or t (276 + i) 0 ≡ first_with (c ∷ []) (words_in t)
  first_at c i e h l =
      let z : 97 + i ≡ c = omega arith in
      rw (
        ← get_or-drop 276 t i 0,
        ← get_or-take 26 (drop 276 t) i 0 (omega arith),
        r.first,
        firsts_at (words_in t) 26 97 i (omega arith),
        z,
      )

  first_none : (c : ℕ) → small c ≡ false → 92 ≡ first_with (c ∷ []) (words_in t)
  first_none c n = sym (first_other (words_in t) c r.letters n ∙ table_count)

  pub first_below : (c : ℕ) → c < 97 → 92 ≡ first_with (c ∷ []) (words_in t)
  first_below c h = first_none c (rw (lt-leb 97 c h))

  pub first_above : (c : ℕ) → 122 < c → 92 ≡ first_with (c ∷ []) (words_in t)
  first_above c h = first_none c (rw (lt-leb c 122 h) (and-false (leb 97 c)))

  -- the first step
  pub first_step : (c : ℕ) {i m x : ℕ} → i ≡ 0 → m ≡ 0 → x ≡ first_with (c ∷ []) (words_in t) → x ≡ step_word (words_in t) i m c
  unfolding step_word
  first_step c e f h = rw (e, f) (h ∙ omega arith)

  -- ---- the verdict is the rule of a sheet of the edition, and the base rule

  module _ (cs : List ℕ) where
    rules : (e : ℕ) → sheet_name (chosen e (words_in t) (added_in t)) cs ≡ sheet_name (table_of e) cs
    unfolding sheet_name name_ok
    rules e = rw (r.edition e cs)

    pub sheet_verdict : (e : ℕ) → verdict (words_in t) (added_in t) e (walk (words_in t) start cs) ≡ sheet_name (table_of e) cs
    sheet_verdict e = walk_name (words_in t) (added_in t) r.sorted cs e ∙ rules e

    pub base_verdict_lem : base_verdict (words_in t) (added_in t) (walk (words_in t) start cs) ≡ is_name cs
    unfolding name_ok reserved table_of
    base_verdict_lem = walk_base (words_in t) (added_in t) r.sorted cs ∙ rw (r.edition 1 cs)

-- ---- a state is three bytes

shape_of_lem : (q : Shape) → shape_of (shape_number q) ≡ q
shape_of_lem Empty = refl
shape_of_lem Leading = refl
shape_of_lem Plain = refl
shape_of_lem Underscore = refl
shape_of_lem Reserved = refl
shape_of_lem Broken = refl

few_shapes : (q : Shape) → shape_number q ≤ 5
few_shapes Empty = omega arith
few_shapes Leading = omega arith
few_shapes Plain = omega arith
few_shapes Underscore = omega arith
few_shapes Reserved = omega arith
few_shapes Broken = omega arith

-- no more than the 92 words of the table, and one character more than its longest
abbrev Small : State → Type 0
Small q = (q.word ≤ 92) × (q.matched ≤ 17)

-- the three bytes of its number
module _ (q : State) (s : Small q) where
  first_byte : pack q % 256 ≡ q.word
  unfolding pack
  first_byte = omega arith

  second_byte : pack q / 256 % 256 ≡ q.matched
  unfolding pack
  second_byte = omega arith

  third_byte : pack q / 65536 ≡ shape_number q.shape
  unfolding pack
  third_byte = omega arith

packs : (q : State) → Small q → pack q < 2 ^ 24
unfolding pack
packs q s = let f = few_shapes q.shape in omega arith

unpacked : (q : State) → Small q → unpack (pack q) ≡ q
unfolding unpack
unpacked q s =
    let z : ◌≡◌ {A = State} (record { word = pack q % 256; matched = pack q / 256 % 256; shape = shape_of (pack q / 65536) })
    (record { word = q.word; matched = q.matched; shape = q.shape }) =
    rw (first_byte q s, second_byte q s, third_byte q s, shape_of_lem q.shape) in
    z

module _ {t : List ℕ} (r : Right t) where
  small_step : (c : ℕ) (q : State) → Fits (words_in t) q → Small q → Small (step (words_in t) q c)
  unfolding step step_word
  small_step c q f s =
      let z = first_least (take q.matched (get_or (words_in t) q.word []) ++ (c ∷ [])) (drop q.word (words_in t)) in
      let y = length-drop q.word (words_in t) in
      let n = table_count r in (
        omega arith,
        by_cases (ltb q.word (length (words_in t)))
            (λ l. let k = ltb-true q.word (length (words_in t)) l in
            let a = f k in
            let b = length_short r q.word (omega arith) in
            rw l (omega arith))
            (λ l. rw l (omega arith)),
      )

  small_walk : (cs : List ℕ) (q : State) → Fits (words_in t) q → Small q → Small (walk (words_in t) q cs)
  unfolding walk
  small_walk [] q f s = s
  small_walk (c ∷ cs) q f s =
      small_walk cs (step (words_in t) q c) (fits_step (words_in t) c q f) (small_step c q f s)

  -- the state behind any characters is a number of three bytes
  pub state_packed : (cs : List ℕ) →
      (pack (walk (words_in t) start cs) < 2 ^ 24) × (unpack (pack (walk (words_in t) start cs)) ≡ walk (words_in t) start cs)
  state_packed cs =
      let s = small_walk cs start (λ l. omega arith) (omega arith, omega arith) in
      (packs (walk (words_in t) start cs) s, unpacked (walk (words_in t) start cs) s)

-- ---- the words of each edition

-- a list of words, sorted
abbrev insert : List ℕ → List (List ℕ) → List (List ℕ)
insert w [] = w ∷ []
insert w (x ∷ xs) = pick (before w x) (w ∷ (x ∷ xs)) (x ∷ insert w xs)

unfoldable pub sort : List (List ℕ) → List (List ℕ)
sort [] = []
sort (w ∷ ws) = insert w (sort ws)

insert_member : (p w : List ℕ) (ws : List (List ℕ)) → member p (insert w ws) ≡ (same p w || member p ws)
unfolding member
insert_member p w [] = refl
insert_member p w (x ∷ xs) =
    by_cases (before w x) (λ e. rw e)
    (λ e. rw (e, insert_member p w xs) (swapped (same p x) (same p w) (member p xs)))
  where
    swapped : (a b c : Bool) → (a || (b || c)) ≡ (b || (a || c))
    swapped true true c = refl
    swapped true false c = refl
    swapped false b c = refl

sort_member : (p : List ℕ) (ws : List (List ℕ)) → member p (sort ws) ≡ member p ws
unfolding sort member
sort_member p [] = refl
sort_member p (w ∷ ws) = insert_member p w (sort ws) ∙ rw (sort_member p ws)

-- an edition counts only by its being below 2 or not
chosen_by : (d e : ℕ) (ws : List (List ℕ)) (added : List ℕ) → leb 2 d ≡ leb 2 e → chosen d ws added ≡ chosen e ws added
unfolding chosen
chosen_by d e [] added h = refl
chosen_by d e (w ∷ ws) added h = rw (h, chosen_by d e ws (drop 1 added) h)

-- a table is right by tests that are computed
module _ (t : List ℕ) (size : length t ≡ 971) (room : total (lengths_in t) ≡ 577)
    (short : every (λ n. leb n 16) (lengths_in t) ≡ true) (order : sorted (words_in t) ≡ true)
    (letters : every (starts small) (words_in t) ≡ true) (places : starts_in t ≡ starts_of 0 (lengths_in t))
    (shared : shared_in t ≡ shared_of [] (words_in t)) (first : first_in t ≡ firsts_of (words_in t) 26 97)
    (older : chosen 1 (words_in t) (added_in t) ≡ sort reserved) (newer : chosen 2 (words_in t) (added_in t) ≡ sort (table_of 2)) where
  edition_words : (e : ℕ) (w : List ℕ) → member w (chosen e (words_in t) (added_in t)) ≡ member w (table_of e)
  edition_words e w =
      by_cases (leb 2 e)
      (λ h. rw (chosen_by e 2 (words_in t) (added_in t) h, newer, table_later e (leb-true 2 e h)) (sort_member w (table_of 2)))
      (λ h. rw (chosen_by e 1 (words_in t) (added_in t) h, older, table_first e (leb-false 2 e h)) (sort_member w reserved))

  pub right : Right t
  right = record {
    size = size;
    room = room;
    short = short;
    sorted = order;
    letters = letters;
    starts = places;
    shared = shared;
    first = first;
    edition = edition_words;
  }

-- ---- the verdict, test by test

module _ {t : List ℕ} (r : Right t) (e : ℕ) (q : State) {g : Bool} (s : g ≡ free q.shape) where
  pub verdict_lost : not g ≡ true → false ≡ verdict (words_in t) (added_in t) e q
  unfolding verdict
  verdict_lost h = rw (← s, not-true g h)

  module _ (h : not g ≡ false) where
    free_here : free q.shape ≡ true
    free_here = sym s ∙ not-false g h

    pub verdict_none : 92 ≤ q.word → true ≡ verdict (words_in t) (added_in t) e q
    unfolding verdict is_word
    verdict_none l = rw (free_here, le-ltb q.word (length (words_in t)) (rw (table_count r) l))

    module _ (l : q.word < 92) {w n : ℕ} (f : w ≡ q.word) (k : n ≡ length (get_or (words_in t) w [])) where
      there_is : ltb q.word (length (words_in t)) ≡ true
      there_is = lt-ltb q.word (length (words_in t)) (rw (table_count r) l)

      pub verdict_other : {y : ℕ} → y ≡ q.matched → (n ≡ y → ⊥) → true ≡ verdict (words_in t) (added_in t) e q
      unfolding verdict is_word
      verdict_other y d =
          let z = rw f at k in
          rw (free_here, there_is, ne_eqb q.matched (length (get_or (words_in t) q.word [])) (λ x. d (z ∙ sym x ∙ sym y)))

      module _ {y : ℕ} (o : y ≡ q.matched) (d : n ≡ y) where
        whole : eqb q.matched (length (get_or (words_in t) q.word [])) ≡ true
        whole = let z = rw f at k in eq-eqb q.matched (length (get_or (words_in t) q.word [])) (sym (d ∙ o) ∙ z)

        pub verdict_first : {a : ℕ} → e < 2 → a ≡ get_or t (184 + w) 0 → not (eqb a 0) ≡ verdict (words_in t) (added_in t) e q
        unfolding verdict is_word
        verdict_first u v =
            rw (free_here, there_is, whole, lt-leb 2 e u, v, f, added_at r q.word l)

        pub verdict_later : 2 ≤ e → false ≡ verdict (words_in t) (added_in t) e q
        unfolding verdict is_word
        verdict_later u = rw (free_here, there_is, whole, le-leb 2 e u)

-- ---- the search of a word

module _ (w : List ℕ) (m c : ℕ) {n y : ℕ} (e : n ≡ length w) (f : y ≡ m) where
  pub compared_short : n ≤ y → Other ≡ compared_of (char_behind w m) c
  compared_short l =
      rw (le-ltb m (length w) (omega arith), ne_eqb 0 (c + 1) (λ z. omega arith), le-ltb (c + 1) 0 (omega arith))

  module _ {k d x : ℕ} (l : y < n) (j : k ≡ m) (g : d ≡ get_or w k 0) (h : x ≡ c) where
    some : char_behind w m ≡ d + 1
    some = rw (lt-ltb m (length w) (omega arith), g, j)

    pub compared_same : d ≡ x → Same ≡ compared_of (char_behind w m) c
    compared_same z = rw (some, eq-eqb (d + 1) (c + 1) (omega arith))

    pub compared_larger : (d ≡ x → ⊥) → x < d → Larger ≡ compared_of (char_behind w m) c
    compared_larger n z = rw (some, ne_eqb (d + 1) (c + 1) (λ q. omega arith), lt-ltb (c + 1) (d + 1) (omega arith))

    pub compared_other : (d ≡ x → ⊥) → d ≤ x → Other ≡ compared_of (char_behind w m) c
    compared_other n z =
        rw (some, ne_eqb (d + 1) (c + 1) (λ q. n (omega arith)), le-ltb (c + 1) (d + 1) (omega arith))

-- what a comparison tells
module _ (d c : ℕ) {r : Compared} (e : r ≡ compared_of d c) where
  same_told : r ≡ Same → d ≡ c + 1
  same_told s = by_cases (eqb d (c + 1)) (eqb-true d (c + 1)) (λ n. absurd (by_cases (ltb (c + 1) d)
      (λ k. (let z : Same ≡ Larger = sym s ∙ e ∙ rw (n, k) in let o : ◌≡◌ {A = ℕ} 0 1 = cc in omega arith))
      (λ k. (let z : Same ≡ Other = sym s ∙ e ∙ rw (n, k) in let o : ◌≡◌ {A = ℕ} 0 1 = cc in omega arith))))

  larger_told : r ≡ Larger → c + 1 < d
  larger_told s = by_cases (ltb (c + 1) d) (ltb-true (c + 1) d) (λ k. absurd (by_cases (eqb d (c + 1))
      (λ n. (let z : Larger ≡ Same = sym s ∙ e ∙ rw n in let o : ◌≡◌ {A = ℕ} 0 1 = cc in omega arith))
      (λ n. (let z : Larger ≡ Other = sym s ∙ e ∙ rw (n, k) in let o : ◌≡◌ {A = ℕ} 0 1 = cc in omega arith))))

  other_told : r ≡ Other → d ≡ c + 1 → ⊥
  other_told s n =
      let z : Other ≡ Same = sym s ∙ e ∙ rw (eq-eqb d (c + 1) n) in let o : ◌≡◌ {A = ℕ} 0 1 = cc in omega arith

-- what was read: the first characters of the word i
abbrev front : List ℕ → ℕ → ℕ → List ℕ
front t i m = take m (get_or (words_in t) i [])

module _ (t : List ℕ) (i m c : ℕ) where
  -- all words before w are passed
  abbrev pub Passed : ℕ → Type 0
  Passed w = step_word (words_in t) i m c ≡ w + first_with (front t i m ++ (c ∷ [])) (drop w (words_in t))

  -- w, if there is one, begins with what was read
  abbrev pub Front : ℕ → Type 0
  Front w = w < 92 → begins (front t i m) (get_or (words_in t) w []) ≡ true

module _ {t : List ℕ} (r : Right t) (i m c : ℕ) (l : m ≤ length (get_or (words_in t) i [])) where
  front_long : length (front t i m) ≡ m
  front_long = length-take-le m (get_or (words_in t) i []) l

  pub seek_begin : {w : ℕ} → w ≡ i → i < 92 → (w ≤ 92) × Passed t i m c w × Front t i m c w
  unfolding step_word
  seek_begin e h = rw e (omega arith, refl, λ k. take_begins m (get_or (words_in t) i []))

  module _ (w : ℕ) (h : w < 92) (p : Passed t i m c w) (f : Front t i m c w) where
    there : drop w (words_in t) ≡ get_or (words_in t) w [] ∷ drop (suc w) (words_in t)
    there = drop-cons (words_in t) w [] (rw (table_count r) h)

    -- what stands in w behind the characters that were read
    module _ {x : Compared} (o : x ≡ compared_of (char_behind (get_or (words_in t) w []) m) c) where
      abbrev d : ℕ
      d = char_behind (get_or (words_in t) w []) m

      longer : 0 < d → (m < length (get_or (words_in t) w [])) × (d ≡ get_or (get_or (words_in t) w []) m 0 + 1)
      longer g =
          by_cases (ltb m (length (get_or (words_in t) w [])))
          (λ k. (ltb-true m _ k, rw k)) (λ k. absurd (let z : d ≡ 0 = rw k in omega arith))

      pub seek_found : x ≡ Same → w ≡ step_word (words_in t) i m c
      unfolding first_with
      seek_found u =
          let g = same_told d c o u in
          let q = longer (omega arith) in
          let k = q.0 in
          let s = q.1 in
          let v : get_or (get_or (words_in t) w []) m 0 ≡ c = omega arith in
          let b = begins_more c (front t i m) (get_or (words_in t) w []) (f h) (rw front_long k) (rw front_long v) in
          sym (p ∙ rw (there, b) (omega arith))

      not_here : (d ≡ c + 1 → ⊥) → begins (front t i m ++ (c ∷ [])) (get_or (words_in t) w []) ≡ false
      not_here n =
          by_cases (begins (front t i m ++ (c ∷ [])) (get_or (words_in t) w []))
          (λ b. let q = begins_less c (front t i m) (get_or (words_in t) w []) b in
          let k : m < length (get_or (words_in t) w []) = rw front_long at q.1 in
          let v : get_or (get_or (words_in t) w []) m 0 ≡ c = rw front_long at q.2 in
          absurd (n (rw (lt-ltb m (length (get_or (words_in t) w [])) k, v))))
          (λ b. b)

      pub seek_past : x ≡ Larger → 92 ≡ step_word (words_in t) i m c
      unfolding first_with
      seek_past u =
          let g = larger_told d c o u in
          let q = longer (omega arith) in
          let k = q.0 in
          let s = q.1 in
          let v : c < get_or (get_or (words_in t) w []) m 0 = omega arith in
          let b = not_here (λ y. omega arith) in
          let a = before_larger c (front t i m) (get_or (words_in t) w []) (f h) (rw front_long k) (rw front_long v) in
          let z = none_later (front t i m ++ (c ∷ [])) (get_or (words_in t) w []) (drop (suc w) (words_in t)) a b
          (sorted_behind (words_in t) w r.sorted (rw (table_count r) h)) in
          sym (p ∙ rw (there, b, z, length-drop (suc w) (words_in t), table_count r) (omega arith))

      pub seek_next : x ≡ Other → Passed t i m c (w + 1)
      unfolding first_with
      seek_next u = p ∙ rw (there, not_here (other_told d c o u), add-one) (omega arith)

    -- the next word has fewer characters in common: no word behind has them
    pub seek_apart : {s y : ℕ} → y ≡ m → Passed t i m c (w + 1) → w + 1 < 92 →
        s ≡ common (get_or (words_in t) (w + 1 - 1) []) (get_or (words_in t) (w + 1) []) → s < y → 92 ≡ step_word (words_in t) i m c
    unfolding first_with
    seek_apart u q k s g =
        let a = get_or (words_in t) w [] in
        let b = get_or (words_in t) (w + 1) [] in
        let back : w + 1 - 1 ≡ w = omega arith in
        let j = rw back at s in
        let next : drop (w + 1) (words_in t) ≡ b ∷ drop (suc (w + 1)) (words_in t) =
        drop-cons (words_in t) (w + 1) [] (rw (table_count r) k) in
        let n : begins (front t i m) b ≡ false =
        by_cases (begins (front t i m) b) (λ e. absurd (let z = rw front_long at (common_no (front t i m) a b (f h) e) in omega arith)) (λ e. e) in
        let s : every (before a) (b ∷ drop (suc (w + 1)) (words_in t)) ≡ true =
        rw (← next, add-one) (sorted_behind (words_in t) w r.sorted (rw (table_count r) h)) in
        let o = before_front (front t i m) a b (f h) (every_cons (before a) b _ s).0 n in
        let y : begins (front t i m ++ (c ∷ [])) b ≡ false =
        by_cases (begins (front t i m ++ (c ∷ [])) b) (λ e. absurd (false≢true (sym n ∙ (begins_less c (front t i m) b e).0))) (λ e. e) in
        let z = none_later (front t i m ++ (c ∷ [])) b (drop (suc (w + 1)) (words_in t)) (before_more (c ∷ []) (front t i m) b o n) y
        (sorted_behind (words_in t) (w + 1) r.sorted (rw (table_count r) k)) in
        sym (q ∙ rw (next, y, z, length-drop (suc (w + 1)) (words_in t), table_count r) (omega arith))

    pub seek_shares : {s y : ℕ} → y ≡ m → s ≡ common (get_or (words_in t) (w + 1 - 1) []) (get_or (words_in t) (w + 1) []) → y ≤ s →
        Front t i m c (w + 1)
    seek_shares u s n k =
        let back : w + 1 - 1 ≡ w = omega arith in
        let j = rw back at s in
        let g : m ≤ common (get_or (words_in t) w []) (get_or (words_in t) (w + 1) []) = omega arith in common_yes (front t i m) (get_or (words_in t) w []) (get_or (words_in t) (w + 1) []) (f h) (rw front_long g)

  pub seek_end : (w : ℕ) → w ≤ 92 → 92 ≤ w → Passed t i m c w → 92 ≡ step_word (words_in t) i m c
  unfolding first_with
  seek_end w h n p =
      let k : length (words_in t) ≤ w = rw (table_count r) (omega arith) in
      let z : drop w (words_in t) ≡ [] = drop_of_length-le (words_in t) k in
      sym (p ∙ rw z (omega arith))
