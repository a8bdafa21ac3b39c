-- The text of pieces is a layout of the tokens of their tree, if each piece's bytes are one of its item's.
use mathlib.Core.Path.{◌≡◌, refl}
use mathlib.Core.List.{List, [], ◌∷◌, ◌++◌, append_assoc}
use mathlib.Core.Bool.{Bool, true, false, ◌&&◌}
use Prim.Native.Nat.{ℕ}
use Rattle.lexical.specs.Bytes.{bytes, every}
use Rattle.lexical.specs.Names.{is_name}
use Rattle.lexical.proofs.BoolLaws.{by_cases}
use Rattle.lexical.proofs.ByteLaws.{every_cons}
use Rattle.grammar.specs.Token.{Token}
use Rattle.grammar.specs.Layout.{Layout, finished, blank}
use Rattle.grammar.specs.Tree as Tree
use Rattle.grammar.specs.Tokens.{item_tokens, body_tokens}
use Rattle.grammar.specs.Rules.{body_ok}
use Rattle.grammar.proofs.Pieces.{open_laid, close_laid, usual_closings}
use Rattle.bridge.specs.Block.{Block, user_defined_namespace, extern_c, write_begin, write_end, same_block}
use Rattle.pieces.specs.Pieces.{Piece, blank_line, openings, closings, change, pieces_text}
use Rattle.pieces.proofs.BodyTree.{tree_block, Entry, body_of}
use Rattle.pieces.proofs.BodyFacts.{open_tokens, close_tokens, opening_tokens, closing_tokens, change_tokens}
use Rattle.pieces.proofs.BodyFacts.{entries_tokens, body_tokens_lem, names_of}

-- in front of any text that is laid out, the bytes are laid out as the item
pub record SpellsItem (s : List ℕ) (i : Tree.Item) : Type 0 where
  pub laid : (ts : List Token) (r : List ℕ) → Layout ts r → Layout (item_tokens i ts) (s ++ r)

-- a piece and its entry: the same blocks around, and the bytes of the item
pub record SpellsEntry (p : Piece) (e : Entry) : Type 0 where
  pub around : e.0 ≡ p.around
  pub spells : SpellsItem p.bytes e.1

abbrev pub SpellAll : List Piece → List Entry → Type 0
SpellAll [] [] = Unit {0}
SpellAll [] (e ∷ es) = ⊥
SpellAll (p ∷ ps) [] = ⊥
SpellAll (p ∷ ps) (e ∷ es) = SpellsEntry p e × SpellAll ps es

-- the namespaces keep the name rule
abbrev pub blocks_named : List Block → Bool
blocks_named bs = every is_name (names_of bs)

-- ---- blocks

abbrev block_named : Block → Bool
block_named (user_defined_namespace n) = is_name n
block_named extern_c = true

named_cons : (b : Block) (bs : List Block) → blocks_named (b ∷ bs) ≡ true →
    (block_named b ≡ true) × (blocks_named bs ≡ true)
named_cons (user_defined_namespace n) bs h = every_cons is_name n (names_of bs) h
named_cons extern_c bs h = (refl, h)

begin_laid : (b : Block) {ts : List Token} {r : List ℕ} → block_named b ≡ true → Layout ts r →
    Layout (open_tokens (tree_block b) ts) (write_begin b ++ r)
begin_laid (user_defined_namespace n) {ts} {r} h d = rw (append_assoc n (bytes " {\n") r) (open_laid (Tree.namespace n) h d)
begin_laid extern_c h d = open_laid Tree.extern_c refl d

end_laid : (b : Block) {ts : List Token} {r : List ℕ} → block_named b ≡ true → Layout ts r →
    Layout (close_tokens (tree_block b) ts) (write_end b ++ r)
end_laid (user_defined_namespace n) {ts} {r} h d = rw (append_assoc n (bytes "\n") r) (close_laid (Tree.namespace n) h d)
end_laid extern_c h d = close_laid Tree.extern_c refl d

blank_laid : (b : Bool) {ts : List Token} {r : List ℕ} → Layout ts r → Layout ts (blank_line b r)
blank_laid true d = blank refl d
blank_laid false d = d

openings_laid : (Q : List Block) {ts : List Token} {r : List ℕ} → blocks_named Q ≡ true → Layout ts r →
    Layout (opening_tokens ts Q) (openings Q r)
unfolding openings
openings_laid [] h d = d
openings_laid (b ∷ Q) h d =
    let q = named_cons b Q h in begin_laid b q.0 (openings_laid Q q.1 d)

closings_laid : (P : List Block) {ts : List Token} {r : List ℕ} → blocks_named P ≡ true → Layout ts r →
    Layout (closing_tokens ts P) (closings P r)
unfolding closings
closings_laid [] h d = d
closings_laid (a ∷ P) h d =
    let q = named_cons a P h in closings_laid P q.1 (end_laid a q.0 d)

change_laid : (started asks : Bool) (P Q : List Block) (ts : List Token) (r : List ℕ) → blocks_named P ≡ true →
    blocks_named Q ≡ true → Layout ts r → Layout (change_tokens ts P Q) (change started asks P Q r)
unfolding change
change_laid started asks [] [] ts r g h d = blank_laid (asks && started) d
change_laid started asks [] (b ∷ Q) ts r g h d = blank_laid started (openings_laid (b ∷ Q) h d)
change_laid started asks (a ∷ P) [] ts r g h d = closings_laid (a ∷ P) g (blank_laid true d)
change_laid started asks (a ∷ P) (b ∷ Q) ts r g h d =
    by_cases (same_block a b)
    (λ e. rw e (change_laid started asks P Q ts r (named_cons a P g).1 (named_cons b Q h).1 d))
    (λ e. rw e (closings_laid (a ∷ P) g (blank_laid true (openings_laid (b ∷ Q) h d))))

-- ---- pieces

pieces_laid : (started : Bool) (P : List Block) (ps : List Piece) (es : List Entry) → SpellAll ps es →
    blocks_named P ≡ true → every (λ e. blocks_named e.0) es ≡ true →
    Layout (entries_tokens [] P es) (pieces_text started P ps)
unfolding pieces_text
pieces_laid started P [] [] all g h = closings_laid P g finished
pieces_laid started P [] (e ∷ es) all g h = absurd all
pieces_laid started P (p ∷ ps) [] all g h = absurd all
pieces_laid started P (p ∷ ps) (e ∷ es) all g h =
    let q = every_cons (λ e. blocks_named e.0) e es h in
    rw (← all.0.around)
    (change_laid started p.asks P e.0 _ _ g q.0
    (all.0.spells.laid _ _ (pieces_laid true e.0 ps es all.1 q.0 q.1)))

pub body_laid : (started : Bool) (ps : List Piece) (es : List Entry) → SpellAll ps es →
    every (λ e. blocks_named e.0) es ≡ true → (o : body_ok 0 false (body_of es) ≡ true) →
    Layout (body_tokens (body_of es) (usual_closings (body_of es) 0 false o) []) (pieces_text started [] ps)
unfolding every
body_laid started ps es all h o = rw (body_tokens_lem es o []) (pieces_laid started [] ps es all refl h)
