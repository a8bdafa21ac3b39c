-- A sheet's text has exactly one reading, if its pieces are spelled as the entries of a tree that keep the rules.
use mathlib.Core.Path.{◌≡◌}
use mathlib.Core.List.{List, []}
use mathlib.Core.Bool.{true, false}
use Rattle.lexical.specs.Bytes.{every}
use Rattle.lexical.proofs.BoolLaws.{and_of}
use Rattle.lexical.proofs.ByteLaws.{every_weaken}
use Rattle.format.specs.Sheet.{Sheet}
use Rattle.grammar.specs.Tree as Tree
use Rattle.grammar.specs.Tree.{Text}
use Rattle.grammar.specs.Tokens.{BodyClosings, body_tokens}
use Rattle.grammar.specs.Rules.{forward_ok, body_ok, text_ok}
use Rattle.grammar.specs.Reading.{Reading, OneReading}
use Rattle.grammar.proofs.TextBack.{forward_filled}
use Rattle.grammar.proofs.Braces.{body_filled, text_filled}
use Rattle.grammar.proofs.Unique.{one_reading}
use Rattle.grammar.proofs.Pieces.{usual_closings}
use Rattle.bridge.specs.Out.{some}
use Rattle.bridge.specs.Write.{forward_declarations, text}
use Rattle.pieces.specs.Pieces.{pieces, body_text}
use Rattle.pieces.proofs.TextPieces.{text_pieces}
use Rattle.pieces.proofs.BodyTree.{Entry, body_of, body_filled_lem}
use Rattle.pieces.proofs.BodyFacts.{entry_ok, entry_named, body_ok_lem}
use Rattle.pieces.proofs.BodyLayout.{SpellAll, blocks_named, body_laid}
use Rattle.pieces.proofs.ForwardTree.{forward_of, item_named, forward_laid}
use Rattle.pieces.proofs.ForwardRules.{forward_ok_lem, forward_filled_lem}

abbrev pub tree_of : Sheet → List Entry → Text
tree_of s es = Tree.text (forward_of s.items) (body_of es)

module _ (s : Sheet) (es : List Entry) (spelled : SpellAll (pieces s) es) (kept : every entry_ok es ≡ true)
    (named : every item_named s.items ≡ true) where
  abbrev closings : BodyClosings (body_of es)
  closings = usual_closings (body_of es) 0 false (body_ok_lem es kept)

  pub sheet_reads : Reading (tree_of s es) (text s)
  unfolding text_ok body_text
  sheet_reads =
      record {
        keeps_rules =
            and_of (forward_ok 0 (forward_of s.items)) (body_ok 0 false (body_of es)) (forward_ok_lem s.items named)
            (body_ok_lem es kept);
        closings = closings;
        laid_out =
            rw (text_pieces s)
            (forward_laid s.items (body_tokens (body_of es) closings []) (body_text s) named
            (body_laid (some (forward_declarations s.items)) (pieces s) es spelled
            (every_weaken entry_ok (λ e. blocks_named e.0) entry_named es kept) (body_ok_lem es kept)));
      }

  pub sheet_filled : text_filled (tree_of s es) ≡ true
  sheet_filled =
      and_of (forward_filled (forward_of s.items)) (body_filled (body_of es))
      (forward_filled_lem s.items named) (body_filled_lem es)

  -- the tree is that of the entries
  abbrev pub sheet_reading : OneReading (text s)
  sheet_reading =
      record {
        tree = tree_of s es;
        reads = sheet_reads;
        equal = (one_reading (tree_of s es) (text s) sheet_reads sheet_filled).equal;
      }
