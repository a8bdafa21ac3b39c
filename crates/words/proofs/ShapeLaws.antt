-- Laws of the shape: what it says of all characters that were read.
use mathlib.Core.Path.{◌≡◌, refl, sym, ap, ◌∙◌}
use mathlib.Core.List.{List, [], ◌∷◌}
use mathlib.Core.Bool.{Bool, true, false, false≢true, ◌&&◌, ◌||◌, not, or-false, and-true, and-false}
use Prim.Native.Nat.{ℕ}
use Rattle.lexical.specs.Bytes.{within, every}
use Rattle.lexical.specs.Names.{letter, digit, name_char, starts, name_shape, underscore, capital}
use Rattle.lexical.specs.Names.{double_underscore, underscore_capital, reserved_shape}
use Rattle.lexical.proofs.BoolLaws.{by_cases, neither, or_left}
use Rattle.lexical.proofs.ByteLaws.{byte_eq}
use Rattle.format.specs.Decode.{pick}
use Rattle.words.specs.declared.Shape.{Shape}
use Rattle.words.specs.declared.Shape.TheVariants.{Empty, Leading, Plain, Underscore, Reserved, Broken}
use Rattle.words.specs.Walking.{step_shape, walk_shape, well_formed, free}

-- ---- characters

-- a letter or digit is no underscore
pub solid_plain : (c : ℕ) → (letter c || digit c) ≡ true → underscore c ≡ false
solid_plain c h =
    by_cases (underscore c) (λ e. absurd (false≢true (ap (λ (x : ℕ). letter x || digit x) (sym (byte_eq c 95 e)) ∙ h)))
    (λ e. e)

pub solid_name : (c : ℕ) → (letter c || digit c) ≡ true → name_char c ≡ true
solid_name c h = go (letter c) (underscore c) (digit c) h
  where
    go : (l u d : Bool) → (l || d) ≡ true → ((l || u) || d) ≡ true
    go true u d h = refl
    go false true d h = refl
    go false false d h = h

pub score_name : (c : ℕ) → underscore c ≡ true → name_char c ≡ true
score_name c h = go (letter c) (underscore c) (digit c) h
  where
    go : (l u d : Bool) → u ≡ true → ((l || u) || d) ≡ true
    go true u d h = refl
    go false u d h = rw h

pub other_none : (c : ℕ) → (letter c || digit c) ≡ false → underscore c ≡ false → name_char c ≡ false
other_none c h e = let q = neither (letter c) (digit c) h in rw (q.0, e, q.1)

-- ---- steps

pub step_leading : (c : ℕ) {k : Bool} → capital c ≡ k → step_shape Leading c ≡ pick k Reserved (step_shape Underscore c)
step_leading c e = ap (λ (k : Bool). pick k Reserved (step_shape Underscore c)) e

-- ---- shapes that stay

pub broken_stays : (cs : List ℕ) → walk_shape Broken cs ≡ Broken
unfolding walk_shape
broken_stays [] = refl
broken_stays (c ∷ cs) = broken_stays cs

reserved_stays : (cs : List ℕ) → free (walk_shape Reserved cs) ≡ false
unfolding walk_shape
reserved_stays [] = refl
reserved_stays (c ∷ cs) =
    by_cases (letter c || digit c) (λ h. rw h (reserved_stays cs))
    (λ h. by_cases (underscore c) (λ e. rw (h, e) (reserved_stays cs)) (λ e. rw (h, e, broken_stays cs)))

-- ---- the base rule

-- from a name on
formed_on : (q : Shape) (cs : List ℕ) → well_formed q ≡ true → well_formed (walk_shape q cs) ≡ every name_char cs
unfolding walk_shape every
formed_on q [] h = h
formed_on q (c ∷ cs) h =
    by_cases (letter c || digit c)
    (λ s. rw (solid_name c s) (formed_on (step_shape q c) cs (solid_on q h s)))
    (λ s. by_cases (underscore c)
    (λ e. rw (score_name c e) (formed_on (step_shape q c) cs (score_on q h s e)))
    (λ e. rw (other_none c s e, other_on q h s e, broken_stays cs)))
  where
    either : (k : Bool) (x : Shape) → well_formed x ≡ true → well_formed (pick k Reserved x) ≡ true
    either true x h = refl
    either false x h = h

    solid_on : (q : Shape) → well_formed q ≡ true → (letter c || digit c) ≡ true → well_formed (step_shape q c) ≡ true
    solid_on Empty h s = absurd (false≢true h)
    solid_on Leading h s = either (capital c) (step_shape Underscore c) (rw s)
    solid_on Plain h s = rw s
    solid_on Underscore h s = rw s
    solid_on Reserved h s = rw s
    solid_on Broken h s = absurd (false≢true h)

    score_on : (q : Shape) → well_formed q ≡ true → (letter c || digit c) ≡ false → underscore c ≡ true →
        well_formed (step_shape q c) ≡ true
    score_on Empty h s e = absurd (false≢true h)
    score_on Leading h s e = either (capital c) (step_shape Underscore c) (rw (s, e))
    score_on Plain h s e = rw (s, e)
    score_on Underscore h s e = rw (s, e)
    score_on Reserved h s e = rw (s, e)
    score_on Broken h s e = absurd (false≢true h)

    second : (k : Bool) {x : Shape} → k ≡ false → x ≡ Broken → pick k Reserved x ≡ Broken
    second k h e = rw (h, e)

    other_on : (q : Shape) → well_formed q ≡ true → (letter c || digit c) ≡ false → underscore c ≡ false →
        step_shape q c ≡ Broken
    other_on Empty h s e = absurd (false≢true h)
    other_on Leading h s e =
        second (capital c) (neither (within 97 122 c) (capital c) (neither (letter c) (digit c) s).0).1 (rw (s, e))
    other_on Plain h s e = rw (s, e)
    other_on Underscore h s e = rw (s, e)
    other_on Reserved h s e = rw (s, e)
    other_on Broken h s e = refl

pub shape_formed : (cs : List ℕ) → well_formed (walk_shape Empty cs) ≡ name_shape cs
unfolding walk_shape name_shape every
shape_formed [] = refl
shape_formed (c ∷ cs) =
    by_cases (letter c) (λ l. rw l (formed_on Plain cs refl))
    (λ l. by_cases (underscore c) (λ e. rw (byte_eq c 95 e) (formed_on Leading cs refl))
    (λ e. rw (l, e, broken_stays cs)))

-- ---- without what [lex.name] keeps

-- the characters behind a name that ends in an underscore, or not
abbrev run : Bool → List ℕ → Bool
run b cs = every name_char cs && not ((b && starts underscore cs) || double_underscore cs)

abbrev pub ending : Bool → Shape
ending true = Underscore
ending false = Plain

run_cons : (b : Bool) (c : ℕ) (cs : List ℕ) →
    run b (c ∷ cs) ≡ ((name_char c && not (b && underscore c)) && run (underscore c) cs)
unfolding every double_underscore
run_cons b c cs = go (name_char c) (every name_char cs) (b && underscore c) ((underscore c && starts underscore cs) || double_underscore cs)
  where
    go : (n e x y : Bool) → ((n && e) && not (x || y)) ≡ ((n && not x) && (e && not y))
    go true e true y = and-false e
    go true e false y = refl
    go false e x y = refl

module _ (b : Bool) (c : ℕ) (cs : List ℕ) where
  run_solid : (letter c || digit c) ≡ true → run b (c ∷ cs) ≡ run false cs
  run_solid s = run_cons b c cs ∙ go (name_char c) (underscore c) (solid_name c s) (solid_plain c s)
    where
      go : (n u : Bool) → n ≡ true → u ≡ false → ((n && not (b && u)) && run u cs) ≡ run false cs
      go n u h e = rw (h, e, and-false b)

  run_score : underscore c ≡ true → run b (c ∷ cs) ≡ (not b && run true cs)
  run_score e = run_cons b c cs ∙ go (name_char c) (underscore c) (score_name c e) e
    where
      go : (n u : Bool) → n ≡ true → u ≡ true → ((n && not (b && u)) && run u cs) ≡ (not b && run true cs)
      go n u h e = rw (h, e, and-true b)

  run_other : (letter c || digit c) ≡ false → underscore c ≡ false → run b (c ∷ cs) ≡ false
  run_other s e = run_cons b c cs ∙ go (name_char c) (other_none c s e)
    where
      go : (n : Bool) → n ≡ false → ((n && not (b && underscore c)) && run (underscore c) cs) ≡ false
      go n h = rw h

free_on : (b : Bool) (cs : List ℕ) → free (walk_shape (ending b) cs) ≡ run b cs
unfolding walk_shape every double_underscore
free_on true [] = refl
free_on false [] = refl
free_on true (c ∷ cs) =
    by_cases (letter c || digit c) (λ s. rw s (free_on false cs) ∙ sym (run_solid true c cs s))
    (λ s. by_cases (underscore c) (λ e. rw (s, e) (reserved_stays cs) ∙ sym (run_score true c cs e))
    (λ e. rw (s, e) (ap free (broken_stays cs)) ∙ sym (run_other true c cs s e)))
free_on false (c ∷ cs) =
    by_cases (letter c || digit c) (λ s. rw s (free_on false cs) ∙ sym (run_solid false c cs s))
    (λ s. by_cases (underscore c) (λ e. rw (s, e) (free_on true cs) ∙ sym (run_score false c cs e))
    (λ e. rw (s, e) (ap free (broken_stays cs)) ∙ sym (run_other false c cs s e)))

-- behind a leading underscore
free_leading : (cs : List ℕ) → free (walk_shape Leading cs) ≡ (run true cs && not (starts capital cs))
unfolding walk_shape every double_underscore
free_leading [] = refl
free_leading (c ∷ cs) =
    let at : Bool → Bool = λ k. free (walk_shape (pick k Reserved (step_shape Underscore c)) cs) in
    by_cases (capital c)
    (λ k. ap at k ∙ reserved_stays cs ∙ lost (run true (c ∷ cs)) (capital c) k)
    (λ k. ap at k ∙ free_on true (c ∷ cs) ∙ kept (run true (c ∷ cs)) (capital c) k)
  where
    lost : (b k : Bool) → k ≡ true → false ≡ (b && not k)
    lost b k h = rw (h, and-false b)

    kept : (b k : Bool) → k ≡ false → b ≡ (b && not k)
    kept b k h = rw (h, and-true b)

pub shape_free : (cs : List ℕ) → free (walk_shape Empty cs) ≡ (name_shape cs && not (reserved_shape cs))
unfolding walk_shape name_shape every reserved_shape double_underscore underscore_capital
shape_free [] = refl
shape_free (c ∷ cs) =
    by_cases (letter c)
    (λ l. rw l (free_on false cs) ∙ plain l (solid_plain c (or_left (letter c) (digit c) l)))
    (λ l. by_cases (underscore c)
    (λ e. rw (byte_eq c 95 e) (free_leading cs ∙ scored (every name_char cs) (starts underscore cs || double_underscore cs)
    (starts capital cs)))
    (λ e. rw (l, e) (ap free (broken_stays cs))))
  where
    plain : letter c ≡ true → underscore c ≡ false → run false cs ≡ (name_shape (c ∷ cs) && not (reserved_shape (c ∷ cs)))
    plain l e = rw (l, e, or-false (double_underscore cs))

    scored : (e d k : Bool) → ((e && not d) && not k) ≡ (e && not (d || k))
    scored true true k = refl
    scored true false k = refl
    scored false d k = refl
