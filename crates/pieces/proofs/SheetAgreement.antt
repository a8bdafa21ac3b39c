-- Demand 3 of a sheet, if the trees of its items are spelled by its text, keep the rules and match its functions.
use mathlib.Core.Path.{◌≡◌, refl, sym, ap, ◌∙◌}
use mathlib.Core.List.{List, [], ◌∷◌, ◌++◌, map, append_assoc, append-nil}
use mathlib.Core.Bool.{true, false, cond, false≢true}
use Prim.Native.Nat.{ℕ}
use lib.Dec.{eqb}
use Rattle.lexical.specs.Bytes.{bytes, every, same, member}
use Rattle.lexical.specs.Names.{name_char, name_shape, name_ok, keywords, alternative_tokens, reserved, is_name}
use Rattle.lexical.proofs.BoolLaws.{by_cases, or_left, or_right}
use Rattle.lexical.proofs.ByteLaws.{Each, byte_eq, same_eq, same_refl, every_cons}
use Rattle.lexical.proofs.NameLaws.{name_chars}
use Rattle.format.specs.Sheet.{Name, Function, Body, struct, enum, cxx_type, rust_type, function, Item, Sheet}
use Rattle.syntax.specs.Items.{item_at, self_type}
use Rattle.syntax.specs.Symbol.{push_all, join}
use Rattle.syntax.specs.Mangle.{version, extern_fn, operator}
use Rattle.rules.specs.Rules.{gather}
use Rattle.grammar.specs.Tree.{size, align}
use Rattle.agreement.specs.Agreement.{RustFunction, rust_function, rust_functions, function_symbol, of_functions}
use Rattle.agreement.specs.Agreement.{Matches, MatchAll, Agrees, Demand3}
use Rattle.pieces.proofs.ForwardTree.{item_named}
use Rattle.pieces.proofs.SheetEntries.{Trees, entries_of, Spelled, RulesKept, entries_spelled, entries_ok}
use Rattle.pieces.proofs.SheetEntries.{declared_of, defined_of, sheet_declarations, sheet_shims}
use Rattle.pieces.proofs.SheetReading.{tree_of, sheet_reading}

-- ---- the last segment of a symbol

-- what stands behind the last `$`
last_segment : List ℕ → List ℕ → List ℕ
last_segment begun [] = begun
last_segment begun (c ∷ s) = cond (eqb c 36) (last_segment [] s) (last_segment (begun ++ (c ∷ [])) s)

behind_dollar : (begun s t : List ℕ) → last_segment begun (s ++ (36 ∷ t)) ≡ last_segment [] t
unfolding last_segment
behind_dollar begun [] t = refl
behind_dollar begun (c ∷ s) t =
    by_cases (eqb c 36) (λ e. rw e (behind_dollar [] s t)) (λ e. rw e (behind_dollar (begun ++ (c ∷ [])) s t))

no_dollar : (c : ℕ) → name_char c ≡ true → eqb c 36 ≡ false
no_dollar c h =
    by_cases (eqb c 36) (λ e. absurd (false≢true (ap name_char (sym (byte_eq c 36 e)) ∙ h))) (λ e. e)

without_dollar : (begun s : List ℕ) → every name_char s ≡ true → last_segment begun s ≡ begun ++ s
unfolding last_segment
without_dollar begun [] h = sym (append-nil begun)
without_dollar begun (c ∷ s) h =
    let q = every_cons name_char c s h in
    rw (no_dollar c q.0) (without_dollar (begun ++ (c ∷ [])) s q.1 ∙ append_assoc begun (c ∷ []) s)

push_last : (segments : List (List ℕ)) (s : List ℕ) → push_all (segments ++ (s ∷ [])) ≡ push_all segments ++ (36 ∷ s)
unfolding push_all
push_last [] s = rw (append-nil s)
push_last (a ∷ segments) s =
    ap (λ (z : List ℕ). (bytes "$" ++ a) ++ z) (push_last segments s)
    ∙ sym (append_assoc (bytes "$" ++ a) (push_all segments) (36 ∷ s))

join_last : (segments : List (List ℕ)) (s : List ℕ) → every name_char s ≡ true →
    last_segment [] (join (segments ++ (s ∷ []))) ≡ s
unfolding join push_all
join_last [] s h = rw (append-nil s) (without_dollar [] s h)
join_last (a ∷ segments) s h =
    ap (λ (z : List ℕ). last_segment [] (a ++ z)) (push_last segments s)
    ∙ ap (last_segment []) (sym (append_assoc a (push_all segments) (36 ∷ s)))
    ∙ behind_dollar [] (a ++ push_all segments) s ∙ without_dollar [] s h

function_last : (items : List Item) (ns : List Name) (f : Function) → is_name f.rust ≡ true →
    last_segment [] (extern_fn items ns f) ≡ f.rust
unfolding extern_fn
function_last items ns f h =
    join_last (ns ++ version ++ map (λ i. (item_at items i).cxx) (self_type f.form)) f.rust
    (name_chars reserved f.rust h)

layout_last : (x : Item) (name : List ℕ) → every name_char name ≡ true → last_segment [] (operator x name) ≡ name
unfolding operator
layout_last x name h =
    ap (λ (z : List (List ℕ)). last_segment [] (join z))
    (sym (append_assoc (x.namespace ++ version) (x.cxx ∷ bytes "operator" ∷ []) (name ∷ [])))
    ∙ join_last (x.namespace ++ version ++ (x.cxx ∷ bytes "operator" ∷ [])) name h

-- ---- no layout symbol is a function's: `sizeof` and `alignof` are keywords

-- a word that no function can be named by
abbrev Keyword : List ℕ → Type 0
Keyword name = (is_name name ≡ false) × (every name_char name ≡ true)

sizeof_keyword : Keyword (bytes "sizeof")
unfolding every same member name_shape name_ok keywords alternative_tokens reserved
sizeof_keyword = (refl, refl)

alignof_keyword : Keyword (bytes "alignof")
unfolding every same member name_shape name_ok keywords alternative_tokens reserved
alignof_keyword = (refl, refl)

layout_differs : (items : List Item) (x : Item) (name : List ℕ) → Keyword name → (ns : List Name) (f : Function) →
    is_name f.rust ≡ true → same (operator x name) (extern_fn items ns f) ≡ false
layout_differs items x name k ns f h =
    by_cases (same (operator x name) (extern_fn items ns f))
    (λ e.
    let q : name ≡ f.rust = sym (layout_last x name k.1) ∙
    ap (last_segment []) (same_eq (operator x name) (extern_fn items ns f) e) ∙ function_last items ns f h in
    absurd (false≢true (sym k.0 ∙ ap is_name q ∙ h)))
    (λ e. e)

-- ---- what the trees of an item must be

abbrev function_of : Item → Function → RustFunction
function_of x f = record { namespace = x.namespace; cxx = x.cxx; function = f }

abbrev pub Matched : Trees → List Item → Item → Body → Type 0
Matched trees items x (struct p ts) = Unit {0}
Matched trees items x (enum p a cxx) = Unit {0}
Matched trees items x (cxx_type p) = Unit {0}
Matched trees items x (rust_type p) =
    ((trees.layout_declared x size).symbol ≡ operator x (bytes "sizeof")) ×
    ((trees.layout_declared x align).symbol ≡ operator x (bytes "alignof"))
Matched trees items x (function f) =
    (is_name f.rust ≡ true) ×
    Matches items (function_of x f) (record { namespace = x.namespace; declaration = trees.function_declared x f })
    (record { namespace = x.namespace; shim = trees.function_defined x f })

module _ (trees : Trees) (items : List Item) where
  abbrev symbols : List Item → List (List ℕ)
  symbols xs = map (function_symbol items) (rust_functions xs)

  layout_undeclared : (x : Item) (name : List ℕ) → Keyword name → (xs : List Item) →
      Each (λ y. Matched trees items y y.body) xs → member (operator x name) (symbols xs) ≡ false
  unfolding rust_functions member
  layout_undeclared x name k [] h = refl
  layout_undeclared x name k (y ∷ ys) h = go y.body h.0 (layout_undeclared x name k ys h.1)
    where
      go : (b : Body) → Matched trees items y b → member (operator x name) (symbols ys) ≡ false →
          member (operator x name) (map (function_symbol items) (rust_function y b ++ rust_functions ys)) ≡ false
      go (struct p ts) m e = e
      go (enum p a cxx) m e = e
      go (cxx_type p) m e = e
      go (rust_type p) m e = e
      go (function f) m e = rw (layout_differs items x name k y.namespace f m.0) e

  -- the functions of the items, each with its declaration and shim; the layouts are none of theirs
  all_match : (all xs : List Item) → Each (λ y. Matched trees items y y.body) all →
      ((s : List ℕ) → member s (symbols xs) ≡ true → member s (symbols all) ≡ true) →
      Each (λ y. Matched trees items y y.body) xs →
      MatchAll items (rust_functions xs)
      (of_functions (symbols all) (gather (λ x. declared_of trees x x.body) xs))
      (gather (λ x. defined_of trees x x.body) xs)
  unfolding rust_functions gather of_functions member
  all_match all [] k among h = tt
  all_match all (x ∷ xs) k among h =
      go x.body h.0 among (λ among. all_match all xs k among h.1)
    where
      Rest : Type 0
      Rest = MatchAll items (rust_functions xs)
          (of_functions (symbols all) (gather (λ x. declared_of trees x x.body) xs))
          (gather (λ x. defined_of trees x x.body) xs)

      go : (b : Body) → Matched trees items x b →
          ((s : List ℕ) → member s (map (function_symbol items) (rust_function x b ++ rust_functions xs)) ≡ true →
          member s (symbols all) ≡ true) →
          (((s : List ℕ) → member s (symbols xs) ≡ true → member s (symbols all) ≡ true) → Rest) →
          MatchAll items (rust_function x b ++ rust_functions xs)
          (of_functions (symbols all) (declared_of trees x b ++ gather (λ x. declared_of trees x x.body) xs))
          (defined_of trees x b ++ gather (λ x. defined_of trees x x.body) xs)
      go (struct p ts) m among rest = rest among
      go (enum p a cxx) m among rest = rest among
      go (cxx_type p) m among rest = rest among
      go (rust_type p) m among rest =
          let a : member (trees.layout_declared x size).symbol (symbols all) ≡ false =
          rw m.0 (layout_undeclared x (bytes "sizeof") sizeof_keyword all k) in
          let b : member (trees.layout_declared x align).symbol (symbols all) ≡ false =
          rw m.1 (layout_undeclared x (bytes "alignof") alignof_keyword all k) in
          rw (a, b) (rest among)
      go (function f) m among rest =
          let symbol = function_symbol items (function_of x f) in
          let a : member (trees.function_declared x f).symbol (symbols all) ≡ true =
          rw m.1.declares
          (among symbol (or_left (same symbol symbol) (member symbol (symbols xs)) (same_refl symbol))) in
          rw a (m.1, rest (λ s e. among s (or_right (same s symbol) (member s (symbols xs)) e)))

-- ---- demand 3

-- the trees fit the sheet, item by item
pub record TreesFit (s : Sheet) (trees : Trees) : Type 0 where
  pub no_header : s.header ≡ false
  pub named : every item_named s.items ≡ true
  pub spelled : Each (λ x. Spelled trees s x x.body) s.items
  pub kept : Each (λ x. RulesKept trees x x.body) s.items
  pub matched : Each (λ x. Matched trees s.items x x.body) s.items

sheet_agrees : (s : Sheet) (trees : Trees) → TreesFit s trees →
    Agrees s.items (tree_of s (entries_of trees s.items))
sheet_agrees s trees h =
    rw (sheet_declarations trees s.items, sheet_shims trees s.items)
    (all_match trees s.items s.items s.items h.matched (λ r e. e) h.matched)

pub demand_3 : (s : Sheet) (trees : Trees) → TreesFit s trees → Demand3 s
demand_3 s trees h =
    record {
      reading =
          sheet_reading s (entries_of trees s.items) (entries_spelled trees s h.no_header h.spelled)
          (entries_ok trees s.items h.named h.kept) h.named;
      agrees = sheet_agrees s trees h;
    }
