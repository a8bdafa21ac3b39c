-- Laws of lanes: characters of 7 bits that stand in one number, tested at once.
use mathlib.Core.Path.{◌≡◌, refl, sym}
use mathlib.Core.List.{List, [], ◌∷◌, ◌++◌}
use mathlib.Core.Bool.{Bool, true, false, ◌&&◌, ◌||◌, not, and-true, and-false, or-false, or_assoc}
use Prim.Native.Nat.{ℕ, zero, suc, ◌+◌, ◌-◌, ◌*◌, ◌/◌, ◌%◌, ◌^◌, ◌<◌, ◌≤◌}
use native.Mathlib.Nat.{mul_assoc}
use native.Mathlib.Omega.{arith}
use lib.Dec.{eqb}
use lib.Pow.{split, high, low, pow-add, shr_lt}
use lib.Bits.{bit_and, bit_or, bit_xor, and_block, or_block, xor_block, and_lt, or_lt, xor_lt, and_le_r}
use borrow.Author.Tests.{eqb-true, eqb-false, eq-eqb, ne_eqb}
use Rattle.lexical.specs.Bytes.{every, chars_in}
use Rattle.lexical.specs.Names.{name_char, underscore, double_underscore}
use Rattle.lexical.proofs.BoolLaws.{both, by_cases}
use Rattle.lexical.proofs.ByteLaws.{every_both}

-- two functions agree below m, as computing shows
abbrev pub agree : (f g : ℕ → ℕ) → ℕ → Bool
agree f g zero = true
agree f g (suc m) = eqb (f m) (g m) && agree f g m

pub agreed : (f g : ℕ → ℕ) (m : ℕ) → agree f g m ≡ true → (c : ℕ) → c < m → f c ≡ g c
agreed f g zero h c l = absurd (omega arith)
agreed f g (suc m) h c l =
    let q = both (eqb (f m) (g m)) (agree f g m) h in
    by_cases (eqb c m) (λ e. rw (eqb-true c m e) (eqb-true (f m) (g m) q.0))
    (λ e. agreed f g m q.1 c (let d = eqb-false c m e in omega (arith, d)))

-- n lanes that hold v each
unfoldable pub lanes : ℕ → ℕ → ℕ
lanes zero v = 0
lanes (suc n) v = lanes n v * 128 + v

-- what a lane scores: 64 where its test holds, else 0
abbrev pub score_lane : Bool → ℕ
score_lane true = 64
score_lane false = 0

-- the first n of eight lanes
lanes_shifted : (n : ℕ) → n < 9 → lanes 8 64 / 2 ^ (56 - 7 * n) ≡ lanes n 64
unfolding lanes
lanes_shifted = agreed (λ n. lanes 8 64 / 2 ^ (56 - 7 * n)) (λ n. lanes n 64) 9 refl

-- all lanes are 64: the last, and those before it
last_lane : (a l : ℕ) (b : Bool) → eqb (a * 128 + score_lane b) (l * 128 + 64) ≡ (eqb a l && b)
last_lane a l true =
    by_cases (eqb a l) (λ e. rw (e, eqb-true a l e) (eq-eqb (l * 128 + 64) _ refl))
    (λ e. rw e (ne_eqb (a * 128 + 64) (l * 128 + 64) (λ q. eqb-false a l e (omega arith))))
last_lane a l false = rw (and-false (eqb a l)) (ne_eqb (a * 128 + 0) (l * 128 + 64) (λ q. omega arith))

-- ---- what holds of the n last of m lanes, with 0 before them, lane by lane

by_lanes : (P : ℕ → ℕ → ℕ → List ℕ → Type 0) → ((m : ℕ) → P 0 m 0 []) →
    ((n m x c : ℕ) (cs : List ℕ) → c < 128 → P n m x cs → P (suc n) (suc m) (x * 128 + c) (cs ++ (c ∷ []))) →
    (n m x : ℕ) → n ≤ m → x < 2 ^ (7 * n) → P n m x (chars_in n x)
unfolding chars_in
by_lanes P base step zero m x l h =
    let z : x ≡ 0 = omega arith in
    rw z (base m)
by_lanes P base step (suc n) zero x l h = absurd (omega arith)
by_lanes P base step (suc n) (suc m) x l h =
    let z : 7 * suc n ≡ 7 * n + 7 = omega arith in
    let c : x % 128 < 128 = omega arith in
    let before = by_lanes P base step n m (x / 128) (omega arith) (shr_lt (7 * n) 7 (rw z at h)) in
    rw (split x 7) at (step n m (x / 128) (x % 128) _ c before)

-- ---- what is made of n lanes of x, each lane by itself

pub record Apart (f : ℕ → ℕ → ℕ) : Type 0 where
  pub fits : (c : ℕ) → c < 128 → f 1 c < 128
  pub more : (n x c : ℕ) → c < 128 → f (suc n) (x * 128 + c) ≡ f n x * 128 + f 1 c

module _ (op : ℕ → ℕ → ℕ) (lt : (k a b : ℕ) → a < 2 ^ k → b < 2 ^ k → op a b < 2 ^ k)
    (block : (k a b r s : ℕ) → r < 2 ^ k → s < 2 ^ k → op (a * 2 ^ k + r) (b * 2 ^ k + s) ≡ op a b * 2 ^ k + op r s)
    {f g : ℕ → ℕ → ℕ} (p : Apart f) (q : Apart g) where
  apart_op : Apart (λ n x. op (f n x) (g n x))
  apart_op = record {
    fits = λ c l. lt 7 (f 1 c) (g 1 c) (p.fits c l) (q.fits c l);
    more = λ n x c l. rw (p.more n x c l, q.more n x c l)
        (block 7 (f n x) (g n x) (f 1 c) (g 1 c) (p.fits c l) (q.fits c l));
  }

pub apart_self : Apart (λ n x. x)
apart_self = record { fits = λ c l. l; more = λ n x c l. refl }

pub apart_all : (v : ℕ) → v < 128 → Apart (λ n x. lanes n v)
unfolding lanes
apart_all v h = record { fits = λ c l. omega arith; more = λ n x c l. omega arith }

pub apart_and : {f g : ℕ → ℕ → ℕ} → Apart f → Apart g → Apart (λ n x. bit_and (f n x) (g n x))
apart_and = apart_op bit_and and_lt and_block

pub apart_or : {f g : ℕ → ℕ → ℕ} → Apart f → Apart g → Apart (λ n x. bit_or (f n x) (g n x))
apart_or = apart_op bit_or or_lt or_block

pub apart_xor : {f g : ℕ → ℕ → ℕ} → Apart f → Apart g → Apart (λ n x. bit_xor (f n x) (g n x))
apart_xor = apart_op bit_xor xor_lt xor_block

-- the bits of a mask, and a sum that carries into no other lane
pub apart_sum : (m v : ℕ) → m + v < 128 → Apart (λ n x. bit_and x (lanes n m) + lanes n v)
unfolding lanes
apart_sum m v h =
    let p = apart_and apart_self (apart_all m (omega arith)) in
    record {
      fits = λ c l. omega (arith, and_le_r c (lanes 1 m));
      more = λ n x c l. omega (arith, p.more n x c l);
    }

-- ---- marks: 64 in each lane that passes a test, else 0

module _ {marks : ℕ → ℕ → ℕ} (test : ℕ → Bool) (p : Apart marks) (none : marks 0 0 ≡ 0) (zeros : test 0 ≡ false)
    (is : (c : ℕ) → c < 128 → marks 1 c ≡ score_lane (test c)) where
  pub marks_none : (n : ℕ) → marks n 0 ≡ 0
  marks_none zero = none
  marks_none (suc n) = rw (p.more n 0 0 (omega arith), marks_none n, is 0 (omega arith), zeros)

  -- n characters, at most eight, pass the test
  pub lanes_pass : (n x : ℕ) → n ≤ 8 → x < 2 ^ (7 * n) →
      eqb (marks 8 x) (lanes 8 64 / 2 ^ (56 - 7 * n)) ≡ every test (chars_in n x)
  unfolding lanes every
  lanes_pass n x l h =
      rw (lanes_shifted n (omega arith))
      (by_lanes (λ n m x cs. eqb (marks m x) (lanes n 64) ≡ every test cs) (λ m. eq-eqb (marks m 0) 0 (marks_none m))
      (λ n m x c cs k ih. rw (
        p.more m x c k,
        is c k,
        last_lane (marks m x) (lanes n 64) (test c),
        ih,
        every_both test cs (c ∷ []),
        and-true (test c),
      )) n 8 x l h)

-- ---- the characters of a name

-- the high bit of each lane: whether its bits of the mask m reach 64 with v and not with w
abbrev pub between : ℕ → ℕ → ℕ → ℕ → ℕ → ℕ
between m v w n x = bit_xor (bit_and x (lanes n m) + lanes n v) (bit_and x (lanes n m) + lanes n w)

-- what the code makes of the n lanes of x: letters, digits and underscores
unfoldable pub name_marks : ℕ → ℕ → ℕ
name_marks n x =
    let letters = between 31 63 37 n x in
    let scores = between 63 33 32 n x in
    let digits = between 63 16 6 n x in
    bit_and (bit_xor digits (bit_and (bit_xor (bit_or letters scores) digits) x)) (lanes n 64)

-- underscores
unfoldable pub score_marks : ℕ → ℕ → ℕ
score_marks n x = bit_and (bit_and (between 63 33 32 n x) x) (lanes n 64)

apart_between : (m v w : ℕ) → m + v < 128 → m + w < 128 → Apart (between m v w)
apart_between m v w h k = apart_xor (apart_sum m v h) (apart_sum m w k)

apart_scores : Apart (between 63 33 32)
apart_scores = apart_between 63 33 32 (omega arith) (omega arith)

apart_digits : Apart (between 63 16 6)
apart_digits = apart_between 63 16 6 (omega arith) (omega arith)

name_apart : Apart name_marks
unfolding name_marks
name_apart =
    let letters = apart_between 31 63 37 (omega arith) (omega arith) in
    let chosen = apart_and (apart_xor (apart_or letters apart_scores) apart_digits) apart_self in
    apart_and (apart_xor apart_digits chosen) (apart_all 64 (omega arith))

score_apart : Apart score_marks
unfolding score_marks
score_apart = apart_and (apart_and apart_scores apart_self) (apart_all 64 (omega arith))

-- a lane by itself
name_is : (c : ℕ) → c < 128 → name_marks 1 c ≡ score_lane (name_char c)
unfolding name_marks lanes
name_is = agreed (name_marks 1) (λ c. score_lane (name_char c)) 128 refl

score_is : (c : ℕ) → c < 128 → score_marks 1 c ≡ score_lane (underscore c)
unfolding score_marks lanes
score_is = agreed (score_marks 1) (λ c. score_lane (underscore c)) 128 refl

pub all_names : (n x : ℕ) → n ≤ 8 → x < 2 ^ (7 * n) →
    eqb (name_marks 8 x) (lanes 8 64 / 2 ^ (56 - 7 * n)) ≡ every name_char (chars_in n x)
unfolding name_marks lanes
all_names = lanes_pass name_char name_apart refl refl name_is

-- ---- underscores, with the character before the lanes

-- an underscore, or another character
abbrev pub score_char : Bool → ℕ
score_char true = 95
score_char false = 0

-- the last character is an underscore; b: the one before the list is
unfoldable pub last_score : Bool → List ℕ → Bool
last_score b [] = b
last_score b (c ∷ cs) = last_score (underscore c) cs

char_score : (b : Bool) → underscore (score_char b) ≡ b
char_score true = refl
char_score false = refl

last_more : (b : Bool) (cs : List ℕ) (c : ℕ) → last_score b (cs ++ (c ∷ [])) ≡ underscore c
unfolding last_score
last_more b [] c = refl
last_more b (d ∷ cs) c = last_more (underscore d) cs c

double_more : (d : ℕ) (cs : List ℕ) (c : ℕ) → double_underscore (d ∷ (cs ++ (c ∷ []))) ≡
    (double_underscore (d ∷ cs) || (last_score (underscore d) cs && underscore c))
unfolding double_underscore last_score
double_more d [] c = rw (and-false (underscore c), and-false (underscore d), or-false (underscore d && underscore c))
double_more d (e ∷ cs) c = rw (double_more e cs c) (sym (or_assoc (underscore d && underscore e) _ _))

not_either : (a b : Bool) → not (a || b) ≡ (not a && not b)
not_either true b = refl
not_either false b = refl

score_lt : (b : Bool) → score_lane b < 128
score_lt true = omega arith
score_lt false = omega arith

score_none : (b : Bool) → eqb (score_lane b) 0 ≡ not b
score_none true = refl
score_none false = refl

score_both : (a b : Bool) → bit_and (score_lane b) (score_lane a) ≡ score_lane (a && b)
score_both true true = refl
score_both true false = refl
score_both false true = refl
score_both false false = refl

-- no lane is 64: the last, and those before it
none_lane : (a : ℕ) (b : Bool) → eqb (a * 128 + score_lane b) 0 ≡ (eqb a 0 && not b)
none_lane a true = rw (and-false (eqb a 0)) (ne_eqb (a * 128 + 64) 0 (λ q. omega arith))
none_lane a false =
    by_cases (eqb a 0) (λ e. rw (e, eqb-true a 0 e))
    (λ e. rw e (ne_eqb (a * 128 + 0) 0 (λ q. eqb-false a 0 e (omega arith))))

-- two lanes in a row that are 64: the last two, or two before them
double_lane : (u : ℕ) (p q : Bool) → u % 128 ≡ score_lane p →
    eqb (bit_and (u * 128 + score_lane q) u) 0 ≡ (eqb (bit_and u (u / 128)) 0 && not (p && q))
double_lane u p q e =
    let h : u % 128 < 128 = omega arith in
    let s = rw (split u 7) at (and_block 7 u (u / 128) (score_lane q) (u % 128) (score_lt q) h) in
    rw (s, e, score_both p q) (none_lane (bit_and u (u / 128)) (p && q))

module _ (b : Bool) where
  -- the underscores of m lanes, and of the character before the last n
  abbrev scored : ℕ → ℕ → ℕ → ℕ
  scored n m x = score_marks m x + score_lane b * 2 ^ (7 * n)

  scored_more : (n m x c : ℕ) → c < 128 →
      scored (suc n) (suc m) (x * 128 + c) ≡ scored n m x * 128 + score_lane (underscore c)
  scored_more n m x c l =
      let z : 7 * suc n ≡ 7 * n + 7 = omega arith in
      rw (score_apart.more m x c l, score_is c l, z, pow-add 2 (7 * n) 7)
      (omega (arith, mul_assoc (score_lane b) (2 ^ (7 * n)) 128))

  -- the last lane tells of the last character, and two lanes in a row of two underscores in a row
  abbrev Scored : ℕ → ℕ → ℕ → List ℕ → Type 0
  Scored n m x cs =
      (scored n m x % 128 ≡ score_lane (last_score b cs)) ×
      (eqb (bit_and (scored n m x) (scored n m x / 128)) 0 ≡ not (double_underscore (score_char b ∷ cs)))

  scored_step : (n m x c : ℕ) (cs : List ℕ) → c < 128 → Scored n m x cs →
      Scored (suc n) (suc m) (x * 128 + c) (cs ++ (c ∷ []))
  scored_step n m x c cs l h =
      let u = scored n m x in
      rw (
        scored_more n m x c l,
        high u 7 (score_lt (underscore c)),
        low u 7 (score_lt (underscore c)),
        last_more b cs c,
        double_more (score_char b) cs c,
        char_score b,
        not_either (double_underscore (score_char b ∷ cs)) (last_score b cs && underscore c),
        ← h.1,
      ) (refl, double_lane u (last_score b cs) (underscore c) h.0)

scores_none : (m : ℕ) → score_marks m 0 ≡ 0
unfolding score_marks lanes
scores_none = marks_none underscore score_apart refl refl score_is

scored_none : (b : Bool) (m : ℕ) → Scored b 0 m 0 []
unfolding last_score double_underscore
scored_none true m = rw (scores_none m) (refl, refl)
scored_none false m = rw (scores_none m) (refl, refl)

scored_all : (b : Bool) (n m x : ℕ) → n ≤ m → x < 2 ^ (7 * n) → Scored b n m x (chars_in n x)
scored_all b = by_lanes (Scored b) (scored_none b) (scored_step b)

module _ (b : Bool) (n x : ℕ) {u : ℕ} (e : u ≡ score_marks 8 x + score_lane b * 2 ^ (7 * n)) (l : n ≤ 8) where
  pub scores_double : x < 2 ^ (7 * n) →
      eqb (bit_and u (u / 2 ^ 7)) 0 ≡ not (double_underscore (score_char b ∷ chars_in n x))
  scores_double h = rw e (scored_all b n 8 x l h).1

  pub scores_last : x < 2 ^ (7 * n) → eqb (u % 128) 0 ≡ not (last_score b (chars_in n x))
  scores_last h = rw (e, (scored_all b n 8 x l h).0) (score_none (last_score b (chars_in n x)))
