-- Demand 3: the text of every accepted sheet with header bit 0 has exactly one reading, and it agrees with the sheet.
use mathlib.Core.Path.{◌≡◌, refl}
use mathlib.Core.List.{List}
use mathlib.Core.Bool.{true, false}
use Prim.Native.Nat.{ℕ}
use lib.ListN.{length}
use Rattle.lexical.specs.Bytes.{every}
use Rattle.lexical.proofs.ByteLaws.{Each, each_of, every_of}
use Rattle.format.specs.Sheet.{Body, struct, enum, cxx_type, rust_type, function, Item, Sheet}
use Rattle.rules.specs.Judge.{accepted, judge}
use Rattle.decoded.proofs.Accepted.{judge_accepted}
use Rattle.decoded.proofs.Kept.{ItemKept, accepted_kept}
use Rattle.grammar.specs.Tree.{size, align}
use Rattle.agreement.specs.Agreement.{Demand3}
use Rattle.spelling.specs.DeclarationTree.{declaration_of, layout_declaration_of, layout_definition_of}
use Rattle.spelling.specs.ShimTree.{shim_tree}
use Rattle.spelling.proofs.Pieces.{declaration_laid, declaration_keeps, layout_declaration_laid, layout_declaration_keeps}
use Rattle.spelling.proofs.Pieces.{layout_definition_laid, layout_definition_keeps, shim_laid, shim_keeps}
use Rattle.spelling.proofs.Matching.{function_matches}
use Rattle.pieces.proofs.ForwardTree.{item_named}
use Rattle.pieces.proofs.SheetEntries.{Trees, Spelled, RulesKept}
use Rattle.pieces.proofs.SheetAgreement.{Matched, TreesFit, demand_3}

-- the trees of a sheet's items
abbrev pub trees_of : Sheet → Trees
trees_of s =
    record {
      layout_declared = layout_declaration_of;
      function_declared = declaration_of s.items;
      layout_defined = layout_definition_of;
      function_defined = shim_tree s;
    }

named : {items : List Item} (x : Item) → ItemKept items x → item_named x ≡ true
unfolding item_named
named x k = rw (k.shallow, k.namespace_names, k.cxx_name, k.unreserved)

module _ (s : Sheet) (no_header : s.header ≡ false) (kept : Each (ItemKept s.items) s.items) where
  module _ (x : Item) (k : ItemKept s.items x) where
    spelled : (b : Body) → x.body ≡ b → Spelled (trees_of s) s x b
    spelled (struct p ts) e = tt
    spelled (enum p a c) e = tt
    spelled (cxx_type p) e = tt
    spelled (rust_type p) e = (
      record { laid = layout_declaration_laid s kept x k size },
      record { laid = layout_declaration_laid s kept x k align },
      record { laid = layout_definition_laid s kept x k size },
      record { laid = layout_definition_laid s kept x k align },
    )
    spelled (function f) e =
        let g = k.function f e in
        (record { laid = declaration_laid s kept x k f g }, record { laid = shim_laid s kept x k f g no_header })

    rules_kept : (b : Body) → x.body ≡ b → RulesKept (trees_of s) x b
    rules_kept (struct p ts) e = tt
    rules_kept (enum p a c) e = tt
    rules_kept (cxx_type p) e = tt
    rules_kept (rust_type p) e =
        let depth = length x.namespace in (
          layout_declaration_keeps s kept x k size depth,
          layout_declaration_keeps s kept x k align depth,
          layout_definition_keeps s kept x k size depth,
          layout_definition_keeps s kept x k align depth,
        )
    rules_kept (function f) e =
        let g = k.function f e in
        (declaration_keeps s kept x k f g (length x.namespace), shim_keeps s kept x k f g)

    matched : (b : Body) → x.body ≡ b → Matched (trees_of s) s.items x b
    matched (struct p ts) e = tt
    matched (enum p a c) e = tt
    matched (cxx_type p) e = tt
    matched (rust_type p) e = (refl, refl)
    matched (function f) e = let g = k.function f e in (g.rust_name, function_matches s x f g)

  pub trees_fit : TreesFit s (trees_of s)
  trees_fit = record {
    no_header = no_header;
    named = every_of (ItemKept s.items) item_named named s.items kept;
    spelled = each_of (ItemKept s.items) _ (λ x k. spelled x k x.body refl) s.items kept;
    kept = each_of (ItemKept s.items) _ (λ x k. rules_kept x k x.body refl) s.items kept;
    matched = each_of (ItemKept s.items) _ (λ x k. matched x k x.body refl) s.items kept;
  }

-- the text is the one that the write service promises
pub accepted_demand_3 : (sheet : List ℕ) (s : Sheet) → judge sheet ≡ accepted s → s.header ≡ false → Demand3 s
accepted_demand_3 sheet s e no_header =
    demand_3 s (trees_of s) (trees_fit s no_header (accepted_kept sheet s (judge_accepted sheet s e)))
