-- A text that is joined from names has one way to be taken apart: symbols at each `$`, full names at each `::`.
use mathlib.Core.Path.{◌≡◌, refl, sym, ap, ap₂, ◌∙◌}
use mathlib.Core.List.{List, [], ◌∷◌, ◌++◌, append-nil, append_assoc}
use mathlib.Core.Bool.{Bool, true, false, not, false≢true}
use Prim.Native.Nat.{ℕ}
use native.Mathlib.Omega.{arith}
use lib.Dec.{eqb}
use lib.ListN.{length, length-append}
use Rattle.lexical.specs.Bytes.{bytes, every, same, member}
use Rattle.lexical.specs.Names.{name_char, name_shape, name_ok, keywords, alternative_tokens, reserved, is_name}
use Rattle.lexical.proofs.BoolLaws.{both, not-true, by_cases}
use Rattle.lexical.proofs.ByteLaws.{byte_eq, byte_refl, every_append, every_weaken}
use Rattle.lexical.proofs.NameLaws.{name_chars}
use Rattle.format.specs.Decode.{pick}
use Rattle.format.specs.Sheet.{Name}
use Rattle.syntax.specs.Items.{path}
use Rattle.syntax.specs.Symbol.{push_all, join}
use Rattle.syntax.specs.Mangle.{version}

-- ---- a text cut at each byte d

abbrev ahead : ℕ → List (List ℕ) → List (List ℕ)
ahead c [] = []
ahead c (w ∷ ws) = (c ∷ w) ∷ ws

unfoldable split : ℕ → List ℕ → List (List ℕ)
split d [] = [] ∷ []
split d (c ∷ s) = pick (eqb c d) ([] ∷ split d s) (ahead c (split d s))

-- no byte of the text is d
abbrev without : ℕ → List ℕ → Bool
without d w = every (λ c. not (eqb c d)) w

module _ (d : ℕ) where
  split_end : (w : List ℕ) → without d w ≡ true → split d w ≡ w ∷ []
  unfolding split every
  split_end [] h = refl
  split_end (c ∷ w) h =
      let q = both (not (eqb c d)) (without d w) h in
      rw (not-true (eqb c d) q.0, split_end w q.1)

  split_word : (w s : List ℕ) → without d w ≡ true → split d (w ++ (d ∷ s)) ≡ w ∷ split d s
  unfolding split every
  split_word [] s h = rw (byte_refl d)
  split_word (c ∷ w) s h =
      let q = both (not (eqb c d)) (without d w) h in
      rw (not-true (eqb c d) q.0, split_word w s q.1)

  name_without : name_char d ≡ false → (w : Name) → is_name w ≡ true → without d w ≡ true
  name_without z w h =
      every_weaken name_char (λ c. not (eqb c d))
      (λ c e. by_cases (eqb c d) (λ q. absurd (false≢true (sym z ∙ ap name_char (sym (byte_eq c d q)) ∙ e))) (λ q. rw q))
      w (name_chars reserved w h)

  names_without : name_char d ≡ false → (ws : List Name) → every is_name ws ≡ true → every (without d) ws ≡ true
  names_without z ws h = every_weaken is_name (without d) (name_without z) ws h

-- ---- lists with a known end or a known middle

module _ {A : Type 0} where
  pub end_eq : (xs ys : List A) (x y : A) → xs ++ (x ∷ []) ≡ ys ++ (y ∷ []) → (xs ≡ ys) × (x ≡ y)
  end_eq [] [] x y e = (refl, cc)
  end_eq [] (b ∷ ys) x y e = absurd (omega (arith, simp length-append at (ap length e)))
  end_eq (a ∷ xs) [] x y e = absurd (omega (arith, simp length-append at (ap length e)))
  end_eq (a ∷ xs) (b ∷ ys) x y e =
      let u : a ≡ b = cc in
      let v : xs ++ (x ∷ []) ≡ ys ++ (y ∷ []) = cc in
      let q = end_eq xs ys x y v in
      (ap₂ (λ (c : A) (l : List A). c ∷ l) u q.0, q.1)

  -- what stands before and behind the first element that fails the test
  middle_eq : (test : A → Bool) (xs ys s t : List A) (x : A) → every test xs ≡ true → every test ys ≡ true →
      test x ≡ false → xs ++ (x ∷ s) ≡ ys ++ (x ∷ t) → (xs ≡ ys) × (s ≡ t)
  unfolding every
  middle_eq test [] [] s t x h k f e = (refl, cc)
  middle_eq test [] (b ∷ ys) s t x h k f e =
      let u : x ≡ b = cc in absurd (false≢true (sym f ∙ ap test u ∙ (both (test b) (every test ys) k).0))
  middle_eq test (a ∷ xs) [] s t x h k f e =
      let u : x ≡ a = cc in absurd (false≢true (sym f ∙ ap test u ∙ (both (test a) (every test xs) h).0))
  middle_eq test (a ∷ xs) (b ∷ ys) s t x h k f e =
      let u : a ≡ b = cc in
      let v : xs ++ (x ∷ s) ≡ ys ++ (x ∷ t) = cc in
      let q = middle_eq test xs ys s t x (both (test a) (every test xs) h).1 (both (test b) (every test ys) k).1 f v in
      (ap₂ (λ (c : A) (l : List A). c ∷ l) u q.0, q.1)

-- ---- full names

abbrev doubled : List Name → List Name
doubled [] = []
doubled (p ∷ ps) = [] ∷ p ∷ doubled ps

doubled_eq : (ps qs : List Name) → doubled ps ≡ doubled qs → ps ≡ qs
doubled_eq [] [] e = refl
doubled_eq [] (q ∷ qs) e = absurd (let z : ◌≡◌ {A = ℕ} 0 1 = cc in omega arith)
doubled_eq (p ∷ ps) [] e = absurd (let z : ◌≡◌ {A = ℕ} 0 1 = cc in omega arith)
doubled_eq (p ∷ ps) (q ∷ qs) e =
    let u : p ≡ q = cc in
    let v : doubled ps ≡ doubled qs = cc in
    ap₂ (λ (n : Name) (l : List Name). n ∷ l) u (doubled_eq ps qs v)

split_path : (w : Name) (ps : List Name) → without 58 w ≡ true → every (without 58) ps ≡ true →
    split 58 (w ++ path ps) ≡ w ∷ doubled ps
unfolding path split every
split_path w [] h k = rw (append-nil w) (split_end 58 w h)
split_path w (p ∷ ps) h k =
    let q = both (without 58 p) (every (without 58) ps) k in
    split_word 58 w (58 ∷ (p ++ path ps)) h ∙
    ap (λ (l : List Name). w ∷ [] ∷ l) (split_path p ps q.0 q.1)

pub path_eq : (ps qs : List Name) → every is_name ps ≡ true → every is_name qs ≡ true → path ps ≡ path qs → ps ≡ qs
unfolding every
path_eq ps qs h k e =
    let u = split_path [] ps refl (names_without 58 refl ps h) in
    let v = split_path [] qs refl (names_without 58 refl qs k) in
    let w : [] ∷ doubled ps ≡ [] ∷ doubled qs = sym u ∙ ap (split 58) e ∙ v in
    doubled_eq ps qs (cc)

-- ---- symbols

split_pushed : (w : Name) (ws : List Name) → without 36 w ≡ true → every (without 36) ws ≡ true →
    split 36 (w ++ push_all ws) ≡ w ∷ ws
unfolding push_all every
split_pushed w [] h k = rw (append-nil w) (split_end 36 w h)
split_pushed w (x ∷ ws) h k =
    let q = both (without 36 x) (every (without 36) ws) k in
    split_word 36 w (x ++ push_all ws) h ∙ ap (λ (l : List Name). w ∷ l) (split_pushed x ws q.0 q.1)

split_join : (ws : List Name) (w : Name) → every (without 36) (ws ++ (w ∷ [])) ≡ true →
    split 36 (join (ws ++ (w ∷ []))) ≡ ws ++ (w ∷ [])
unfolding join every
split_join [] w h = split_pushed w [] (both (without 36 w) true h).0 refl
split_join (x ∷ ws) w h =
    let q = both (without 36 x) (every (without 36) (ws ++ (w ∷ []))) h in
    split_pushed x (ws ++ (w ∷ [])) q.0 q.1

bridge_name : is_name (bytes "cxxbridge1") ≡ true
unfolding name_ok name_shape reserved keywords alternative_tokens member same every
bridge_name = refl

version_name : is_name (bytes "205") ≡ false
unfolding name_ok name_shape
version_name = refl

-- the segments of a function's symbol: its namespace, the version, its owner, its name
module _ (ns os : List Name) (r : Name) (hn : every is_name ns ≡ true) (ho : every is_name os ≡ true)
    (hr : is_name r ≡ true) where
  segments_without : every (without 36) (ns ++ version ++ os ++ (r ∷ [])) ≡ true
  unfolding every
  segments_without =
      every_append (without 36) (ns ++ version ++ os) (r ∷ [])
      (every_append (without 36) (ns ++ version) os
      (every_append (without 36) ns version (names_without 36 refl ns hn) refl) (names_without 36 refl os ho))
      (rw (name_without 36 refl r hr))

  segments_cut : split 36 (join (ns ++ version ++ os ++ (r ∷ []))) ≡ ns ++ version ++ os ++ (r ∷ [])
  segments_cut = split_join (ns ++ version ++ os) r segments_without

  before_version : every is_name (ns ++ (bytes "cxxbridge1" ∷ [])) ≡ true
  unfolding every
  before_version = every_append is_name ns (bytes "cxxbridge1" ∷ []) hn (rw bridge_name)

  around_version : ns ++ version ++ os ++ (r ∷ []) ≡ (ns ++ (bytes "cxxbridge1" ∷ [])) ++ (bytes "205" ∷ (os ++ (r ∷ [])))
  around_version = simp append_assoc

pub symbol_eq : (ns ms os ps : List Name) (r q : Name) → every is_name ns ≡ true → every is_name ms ≡ true →
    every is_name os ≡ true → every is_name ps ≡ true → is_name r ≡ true → is_name q ≡ true →
    join (ns ++ version ++ os ++ (r ∷ [])) ≡ join (ms ++ version ++ ps ++ (q ∷ [])) → (ns ≡ ms) × (os ≡ ps) × (r ≡ q)
symbol_eq ns ms os ps r q hn hm ho hp hr hq e =
    let a = sym (segments_cut ns os r hn ho hr) ∙ ap (split 36) e ∙ segments_cut ms ps q hm hp hq in
    let b = sym (around_version ns os r hn ho hr) ∙ a ∙ around_version ms ps q hm hp hq in
    let c = middle_eq is_name (ns ++ (bytes "cxxbridge1" ∷ [])) (ms ++ (bytes "cxxbridge1" ∷ [])) (os ++ (r ∷ []))
    (ps ++ (q ∷ [])) (bytes "205") (before_version ns os r hn ho hr) (before_version ms ps q hm hp hq) version_name b in
    let d = end_eq os ps r q c.1 in
    ((end_eq ns ms (bytes "cxxbridge1") (bytes "cxxbridge1") c.0).0, d.0, d.1)
