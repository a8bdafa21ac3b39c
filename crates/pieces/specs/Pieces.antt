-- The body of a sheet's text as pieces, each with the blocks around it. It is what out.rs' pending boundaries and
-- sections come to.
use Rattle.std.specs.Prelude.{List, [], ◌∷◌, ◌++◌, map, Bool, true, false, not, ◌&&◌, cond, ℕ}
use Rattle.lexical.specs.Bytes.{bytes}
use Rattle.format.specs.Decode.{pick}
use Rattle.format.specs.Sheet.{Body, struct, enum, cxx_type, rust_type, function, Item, Sheet}
use Rattle.rules.specs.Rules.{gather}
use Rattle.bridge.specs.Block.{Block, user_defined_namespace, extern_c, write_begin, write_end, same_block}
use Rattle.bridge.specs.Out.{some}
use Rattle.bridge.specs.Write.{forward_declarations, function_decl, layout_decl, layout_definition, function_shim}
use Rattle.bridge.specs.Write.{is_free}

pub record Piece : Type 0 where
  pub around : List Block  -- outermost first
  pub asks : Bool  -- for a blank line before it
  pub bytes : List ℕ

-- ---- the pieces of a sheet

unfoldable pub namespaces : Item → List Block
namespaces x = map user_defined_namespace x.namespace

abbrev pub declared : Item → Bool → List ℕ → Piece
declared x asks s = record { around = namespaces x ++ (extern_c ∷ []); asks = asks; bytes = s }

abbrev pub defined : Item → List ℕ → Piece
defined x s = record { around = namespaces x; asks = true; bytes = s }

abbrev pub declaration_pieces : List Item → Item → Body → List Piece
declaration_pieces items x (struct p ts) = []
declaration_pieces items x (enum p a cxx) = []
declaration_pieces items x (cxx_type p) = []
declaration_pieces items x (rust_type p) =
    declared x false (layout_decl x (bytes "sizeof")) ∷ declared x false (layout_decl x (bytes "alignof")) ∷ []
declaration_pieces items x (function f) = declared x true (function_decl items x f) ∷ []

-- a header has no layout and shows no method
abbrev pub definition_pieces : Sheet → Item → Body → List Piece
definition_pieces s x (struct p ts) = []
definition_pieces s x (enum p a cxx) = []
definition_pieces s x (cxx_type p) = []
definition_pieces s x (rust_type p) =
    pick s.header []
    (defined x (layout_definition x (bytes "size") (bytes "sizeof")) ∷
    defined x (layout_definition x (bytes "align") (bytes "alignof")) ∷ [])
definition_pieces s x (function f) =
    pick (s.header && not (is_free f.form)) [] (defined x (function_shim s x f) ∷ [])

-- a header has no declarations
unfoldable pub pieces : Sheet → List Piece
pieces s =
    pick s.header [] (gather (λ x. declaration_pieces s.items x x.body) s.items)
    ++ gather (λ x. definition_pieces s x x.body) s.items

-- ---- the text of pieces, each part in front of the rest

abbrev pub blank_line : Bool → List ℕ → List ℕ
blank_line true rest = bytes "\n" ++ rest
blank_line false rest = rest

-- outermost first
unfoldable pub openings : List Block → List ℕ → List ℕ
openings [] rest = rest
openings (b ∷ bs) rest = write_begin b ++ openings bs rest

-- innermost first
unfoldable pub closings : List Block → List ℕ → List ℕ
closings [] rest = rest
closings (b ∷ bs) rest = closings bs (write_end b ++ rest)

-- from the blocks that are open to those around the next piece: what both begin with stays open. A blank line stands
-- behind closings, before openings where there is text before them, and where nothing changes and the piece asks
unfoldable pub change : Bool → Bool → List Block → List Block → List ℕ → List ℕ
change started asks [] [] rest = blank_line (asks && started) rest
change started asks [] (b ∷ bs) rest = blank_line started (openings (b ∷ bs) rest)
change started asks (c ∷ cs) [] rest = closings (c ∷ cs) (blank_line true rest)
change started asks (c ∷ cs) (b ∷ bs) rest =
    cond (same_block c b) (change started asks cs bs rest)
    (closings (c ∷ cs) (blank_line true (openings (b ∷ bs) rest)))

-- whether there is text before, and the blocks that are open
unfoldable pub pieces_text : Bool → List Block → List Piece → List ℕ
pieces_text started opened [] = closings opened []
pieces_text started opened (p ∷ ps) =
    change started p.asks opened p.around (p.bytes ++ pieces_text true p.around ps)

-- what stands behind the forward declarations
unfoldable pub body_text : Sheet → List ℕ
body_text s = pieces_text (some (forward_declarations s.items)) [] (pieces s)
