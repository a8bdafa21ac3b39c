-- No symbol of a sheet is an identifier that C++ reserves for any use.
use Rattle.std.proofs.Common.{◌≡◌, ℕ, Bool, true, false, not, ◌&&◌, List, [], ◌∷◌, ◌++◌, map, length, refl}
use Rattle.lexical.specs.Bytes.{bytes, every}
use Rattle.lexical.specs.Names.{starts, underscore, capital, double_underscore, underscore_capital}
use Rattle.lexical.specs.Names.{reserved_shape}
use Rattle.lexical.proofs.BoolLaws.{neither, not-true, by_cases}
use Rattle.lexical.proofs.ByteLaws.{every_cons, every_append, every_snoc}
use Rattle.format.specs.Sheet.{Function, function, Item}
use Rattle.syntax.specs.Items.{item_at, self_type}
use Rattle.syntax.specs.Symbol.{push_all, join}
use Rattle.syntax.specs.Mangle.{version, extern_fn, operator}
use Rattle.rules.specs.Rules.{argument_names}
use Rattle.decoded.specs.Fits.{form_fits}
use Rattle.decoded.specs.Names.{item_names, names_keep}
use Rattle.grammar.specs.Tree as Tree
use Rattle.grammar.specs.Tree.{Measure}
use Rattle.spelling.specs.DeclarationTree.{operator_name}
use Rattle.spelling.proofs.Symbols.{self_every}
use Rattle.spelling.proofs.TreeNames.{item_named_lem, at_named}

-- ---- segments joined by `$`

-- no underscore begins the second text
double_append : (a b : List ℕ) → starts underscore b ≡ false → double_underscore a ≡ false → double_underscore b ≡ false →
    double_underscore (a ++ b) ≡ false
unfolding double_underscore
double_append [] b u h g = g
double_append (c ∷ []) b u h g = by_cases (underscore c) (λ e. rw (e, u) g) (λ e. rw e g)
double_append (c ∷ (d ∷ a)) b u h g =
    let q = neither (underscore c && underscore d) (double_underscore (d ∷ a)) h in
    rw q.0 (double_append (d ∷ a) b u q.1 g)

abbrev pub ordinary : List ℕ → Bool
ordinary s = not (reserved_shape s)

plain : (s : List ℕ) → ordinary s ≡ true → (double_underscore s ≡ false) × (underscore_capital s ≡ false)
unfolding reserved_shape
plain s h = neither (double_underscore s) (underscore_capital s) (not-true (reserved_shape s) h)

-- `$` begins what is pushed
push_starts : (test : ℕ → Bool) → test 36 ≡ false → (segments : List (List ℕ)) → starts test (push_all segments) ≡ false
unfolding push_all
push_starts test h [] = refl
push_starts test h (s ∷ segments) = h

push_double : (segments : List (List ℕ)) → every ordinary segments ≡ true →
    double_underscore (push_all segments) ≡ false
unfolding double_underscore push_all
push_double [] h = refl
push_double (s ∷ segments) h =
    let q = every_cons ordinary s segments h in
    double_append s (push_all segments) (push_starts underscore refl segments) (plain s q.0).0
    (push_double segments q.1)

push_capital : (s : List ℕ) (segments : List (List ℕ)) → underscore_capital s ≡ false →
    underscore_capital (s ++ push_all segments) ≡ false
unfolding underscore_capital push_all
push_capital [] [] h = refl
push_capital [] (t ∷ segments) h = refl
push_capital (c ∷ []) segments h =
    by_cases (underscore c) (λ e. rw e (push_starts capital refl segments)) (λ e. rw e)
push_capital (c ∷ (d ∷ s)) segments h = h

join_ordinary : (segments : List (List ℕ)) → every ordinary segments ≡ true → reserved_shape (join segments) ≡ false
unfolding double_underscore underscore_capital reserved_shape push_all join
join_ordinary [] h = refl
join_ordinary (s ∷ segments) h =
    let q = every_cons ordinary s segments h in
    rw (push_double (s ∷ segments) h) (push_capital s segments (plain s q.0).1)

-- ---- the symbols of a sheet

version_ordinary : every ordinary version ≡ true
unfolding every double_underscore underscore_capital reserved_shape
version_ordinary = refl

operator_ordinary : (m : Measure) → every ordinary (bytes "operator" ∷ operator_name m ∷ []) ≡ true
unfolding every double_underscore underscore_capital reserved_shape
operator_ordinary Tree.size = refl
operator_ordinary Tree.align = refl

module _ (x : Item) (h : every ordinary (item_names x) ≡ true) where
  begin_ordinary : every ordinary (x.namespace ++ version) ≡ true
  begin_ordinary =
      every_append ordinary x.namespace version (item_named_lem ordinary x h).namespace version_ordinary

  pub function_ordinary : (items : List Item) → names_keep ordinary items ≡ true → (f : Function) → x.body ≡ function f →
      form_fits (length items) f.form ≡ true → reserved_shape (extern_fn items x.namespace f) ≡ false
  unfolding extern_fn
  function_ordinary items all f e fits =
      let begin = x.namespace ++ version in
      let self = map (λ i. (item_at items i).cxx) (self_type f.form) in
      join_ordinary (begin ++ self ++ (f.rust ∷ []))
      (every_snoc ordinary (begin ++ self) f.rust
      (every_append ordinary begin self begin_ordinary (self_every items ordinary (λ i l. (at_named ordinary items all i l).cxx) f.form fits))
      (every_cons ordinary f.rust (argument_names f) ((item_named_lem ordinary x h).function f e)).0)

  pub layout_ordinary : (m : Measure) → reserved_shape (operator x (operator_name m)) ≡ false
  unfolding every operator
  layout_ordinary m =
      let end = x.cxx ∷ bytes "operator" ∷ operator_name m ∷ [] in
      join_ordinary (x.namespace ++ version ++ end)
      (every_append ordinary (x.namespace ++ version) end begin_ordinary
      (rw (item_named_lem ordinary x h).cxx (operator_ordinary m)))
