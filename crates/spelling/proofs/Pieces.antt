-- The pieces of a text in front of any rest: each is laid out as its tree, which keeps the rules.
use Rattle.std.proofs.Common.{◌≡◌, ℕ, true, false, List, ◌++◌, length, refl}
use Rattle.lexical.proofs.ByteLaws.{Each}
use Rattle.format.specs.Sheet.{Function, Item, Sheet}
use Rattle.decoded.proofs.Kept.{ItemKept, FunctionKept}
use Rattle.bridge.specs.Write.{function_decl, layout_decl, layout_definition, function_shim}
use Rattle.grammar.specs.Token.{Token}
use Rattle.grammar.specs.Layout.{Layout}
use Rattle.grammar.specs.Tree.{Measure, declares, defines, shim}
use Rattle.grammar.specs.Tokens.{item_tokens}
use Rattle.grammar.specs.Rules.{item_ok}
use Rattle.spelling.specs.DeclarationTree.{declaration_of, layout_declaration_of, measure_name, operator_name}
use Rattle.spelling.specs.DeclarationTree.{layout_definition_of}
use Rattle.spelling.specs.ShimTree.{shim_tree}
use Rattle.spelling.proofs.DeclarationSpelling.{declaration_spells, layout_declaration_spells}
use Rattle.spelling.proofs.DeclarationSpelling.{layout_definition_spells}
use Rattle.spelling.proofs.DeclarationRules.{declaration_ok_lem, layout_declaration_ok, layout_definition_ok}
use Rattle.spelling.proofs.ShimSpelling.{shim_spells}
use Rattle.spelling.proofs.ShimRules.{shim_ok_lem}

module _ (s : Sheet) (kept : Each (ItemKept s.items) s.items) (x : Item) (k : ItemKept s.items x) where
  -- ---- declarations

  pub declaration_laid : (f : Function) → FunctionKept s.items f → (ts : List Token) (r : List ℕ) → Layout ts r →
      Layout (item_tokens (declares (declaration_of s.items x f)) ts) (function_decl s.items x f ++ r)
  declaration_laid f g ts r d = (declaration_spells s.items kept x k f g).laid ts r refl d

  pub declaration_keeps : (f : Function) → FunctionKept s.items f → (depth : ℕ) →
      item_ok depth true (declares (declaration_of s.items x f)) ≡ true
  unfolding item_ok
  declaration_keeps f g depth = declaration_ok_lem s.items kept x k f g depth

  -- ---- layouts

  pub layout_declaration_laid : (m : Measure) (ts : List Token) (r : List ℕ) → Layout ts r →
      Layout (item_tokens (declares (layout_declaration_of x m)) ts) (layout_decl x (operator_name m) ++ r)
  layout_declaration_laid m ts r d = (layout_declaration_spells x k m).laid ts r refl d

  pub layout_declaration_keeps : (m : Measure) (depth : ℕ) →
      item_ok depth true (declares (layout_declaration_of x m)) ≡ true
  unfolding item_ok
  layout_declaration_keeps m depth = layout_declaration_ok x k m depth

  pub layout_definition_laid : (m : Measure) (ts : List Token) (r : List ℕ) → Layout ts r →
      Layout (item_tokens (defines (layout_definition_of x m)) ts)
      (layout_definition x (measure_name m) (operator_name m) ++ r)
  layout_definition_laid m ts r d = (layout_definition_spells x k m).laid ts r refl d

  pub layout_definition_keeps : (m : Measure) (depth : ℕ) → item_ok depth false (defines (layout_definition_of x m)) ≡ true
  unfolding item_ok
  layout_definition_keeps m depth = layout_definition_ok x k m

  -- ---- shims

  module _ (f : Function) (g : FunctionKept s.items f) where
    pub shim_laid : s.header ≡ false → (ts : List Token) (r : List ℕ) → Layout ts r →
        Layout (item_tokens (shim (shim_tree s x f)) ts) (function_shim s x f ++ r)
    shim_laid e ts r d = (shim_spells s e kept x k f g).laid ts r refl d

    -- at the depth of its namespace
    pub shim_keeps : item_ok (length x.namespace) false (shim (shim_tree s x f)) ≡ true
    unfolding item_ok
    shim_keeps = shim_ok_lem s kept x k f g
