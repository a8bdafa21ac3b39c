-- The names and symbols of an accepted sheet's text, and demand 3 in the grammar whose names keep the rule of the sheet's
-- edition (document 02, orders 3 and 13).
use mathlib.Core.Path.{◌≡◌, refl}
use mathlib.Core.List.{List, [], ◌∷◌, ◌++◌}
use mathlib.Core.Bool.{Bool, true, false, not}
use Prim.Native.Nat.{ℕ}
use Rattle.lexical.specs.Bytes.{bytes, every, same, member}
use Rattle.lexical.specs.Names.{name_shape, name_ok, keywords, added_keywords, keywords20, alternative_tokens, reserved}
use Rattle.lexical.specs.Names.{table_of}
use Rattle.lexical.specs.Names.{double_underscore, underscore_capital, reserved_shape, sheet_name}
use Rattle.lexical.proofs.ByteLaws.{Each, each_of, every_of, every_snoc}
use Rattle.lexical.proofs.NameLaws.{sheet_name_free, by_edition}
use Rattle.format.specs.Sheet.{Name, Body, struct, enum, cxx_type, rust_type, function, Item, Sheet}
use Rattle.rules.specs.Judge.{accepted, judge}
use Rattle.rules.proofs.EveryLaws.{every_gather}
use Rattle.format.specs.Decoding.{edition_of}
use Rattle.decoded.specs.Names.{names_keep}
use Rattle.decoded.proofs.Accepted.{judge_accepted}
use Rattle.decoded.proofs.Kept.{ItemKept, accepted_kept, KeptUnder, each_kept_under, names_weaken}
use Rattle.grammar.specs.Tree.{Text, size, align}
use Rattle.grammar.specs.Reading.{Reading}
use Rattle.bridge.specs.Write.{text}
use Rattle.agreement.specs.Names.{names_of, Demand3Under}
use Rattle.spelling.proofs.TreeNames.{item_named_lem, declaration_names, shim_names, layout_declaration_names}
use Rattle.spelling.proofs.TreeNames.{layout_definition_names}
use Rattle.spelling.proofs.Reserved.{ordinary, function_ordinary, layout_ordinary}
use Rattle.pieces.proofs.SheetNames.{NamesKept, reading_names}
use Rattle.demand3.specs.Symbols.{item_symbols, symbols_of}
use Rattle.demand3.proofs.Demand3.{trees_of, trees_fit, accepted_demand_3}

-- ---- names

module _ (rule : Name → Bool) (self : rule (bytes "self") ≡ true) (s : Sheet) (no_header : s.header ≡ false)
    (kept : Each (ItemKept s.items) s.items) (all : names_keep rule s.items ≡ true) where
  path_kept : (x : Item) → KeptUnder rule s.items x → every rule (x.namespace ++ (x.cxx ∷ [])) ≡ true
  path_kept x k =
      let n = item_named_lem rule x k.names in every_snoc rule x.namespace x.cxx n.namespace n.cxx

  names_kept : (x : Item) → KeptUnder rule s.items x → (b : Body) → x.body ≡ b → NamesKept rule (trees_of s) x b
  names_kept x k (struct p ts) e = tt
  names_kept x k (enum p a c) e = tt
  names_kept x k (cxx_type p) e = tt
  names_kept x k (rust_type p) e = (
    layout_declaration_names rule x size,
    layout_declaration_names rule x align,
    layout_definition_names rule x k.names size,
    layout_definition_names rule x k.names align,
  )
  names_kept x k (function f) e =
      let g = k.kept.function f e in
      (declaration_names rule self s all x k.names f e g, shim_names rule self s all x k.names f e g)

  -- every name of a reading of the text keeps a rule that the sheet's names and `self` keep
  pub text_names : (tree : Text) → Reading tree (text s) → every rule (names_of tree) ≡ true
  text_names =
      let named = each_kept_under rule s.items kept all in
      let P = KeptUnder rule s.items in
      reading_names rule s (trees_of s) (trees_fit s no_header kept) (every_of P _ path_kept s.items named)
      (each_of P _ (λ x k. names_kept x k x.body refl) s.items named)

-- the receiver's name keeps the rule of every edition
self_fits : (e : ℕ) → sheet_name (table_of e) (bytes "self") ≡ true
unfolding every same member name_shape name_ok keywords added_keywords keywords20 alternative_tokens reserved table_of double_underscore underscore_capital reserved_shape sheet_name
self_fits = by_edition (λ words. sheet_name words (bytes "self") ≡ true) refl refl

-- every name of a reading of an accepted sheet's text keeps the rule of the sheet's edition
pub accepted_names : (sheet : List ℕ) (s : Sheet) → judge sheet ≡ accepted s → s.header ≡ false → (tree : Text) →
    Reading tree (text s) → every (sheet_name (table_of (edition_of sheet))) (names_of tree) ≡ true
accepted_names sheet s e no_header =
    let a = judge_accepted sheet s e in
    text_names (sheet_name (table_of (edition_of sheet))) (self_fits (edition_of sheet)) s no_header
    (accepted_kept sheet s a) a.names

-- so there is exactly one reading in the grammar with that rule, and it agrees with the sheet
pub accepted_demand_3_under : (sheet : List ℕ) (s : Sheet) → judge sheet ≡ accepted s → s.header ≡ false →
    Demand3Under (sheet_name (table_of (edition_of sheet))) s
accepted_demand_3_under sheet s e no_header =
    let d = accepted_demand_3 sheet s e no_header in
    record {
      reading = record {
        tree = d.reading.tree;
        reads = record {
          reads = d.reading.reads;
          names = accepted_names sheet s e no_header d.reading.tree d.reading.reads;
        };
        equal = λ a b p q. d.reading.equal a b p.reads q.reads;
      };
      agrees = d.agrees;
    }

-- ---- symbols

module _ (items : List Item) (all : names_keep ordinary items ≡ true) (x : Item) (k : KeptUnder ordinary items x) where
  symbols_ordinary : (b : Body) → x.body ≡ b → every ordinary (item_symbols items x b) ≡ true
  unfolding every
  symbols_ordinary (struct p ts) e = refl
  symbols_ordinary (enum p a c) e = refl
  symbols_ordinary (cxx_type p) e = refl
  symbols_ordinary (rust_type p) e = rw (layout_ordinary x k.names size, layout_ordinary x k.names align)
  symbols_ordinary (function f) e = rw (function_ordinary x k.names items all f e (k.kept.function f e).form_fits)

-- no symbol of an accepted sheet is an identifier that C++ reserves for any use
pub accepted_symbols : (sheet : List ℕ) (s : Sheet) → judge sheet ≡ accepted s →
    every (λ r. not (reserved_shape r)) (symbols_of s.items) ≡ true
unfolding symbols_of
accepted_symbols sheet s e =
    let items = s.items in
    let a = judge_accepted sheet s e in
    let words = table_of (edition_of sheet) in
    let all =
    names_weaken (sheet_name words) ordinary (λ n h. rw (sheet_name_free words n h)) items a.names in
    every_gather (KeptUnder ordinary items) ordinary _ (λ x k. symbols_ordinary items all x k x.body refl) items
    (each_kept_under ordinary items (accepted_kept sheet s a) all)
