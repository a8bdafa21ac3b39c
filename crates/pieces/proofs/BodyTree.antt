-- Entries, each with the blocks around it, as a tree of blocks: between two entries the blocks close down to the
-- longest beginning that both have, and open again. What is folded over the tree is folded over that flat sequence.
use mathlib.Core.Path.{◌≡◌, refl, ap, ◌∙◌}
use mathlib.Core.List.{List, [], ◌∷◌}
use mathlib.Core.Bool.{Bool, true, cond, ◌&&◌}
use Rattle.lexical.proofs.BoolLaws.{both, by_cases}
use Rattle.grammar.specs.Tree as Tree
use Rattle.grammar.specs.Tree.{Body, body_end, item}
use Rattle.grammar.proofs.Braces.{has_content, body_filled}
use Rattle.bridge.specs.Block.{Block, user_defined_namespace, extern_c, same_block}
use Rattle.pieces.proofs.Boundaries.{block_eq}

abbrev pub tree_block : Block → Tree.Block
tree_block (user_defined_namespace name) = Tree.namespace name
tree_block extern_c = Tree.extern_c

-- the blocks around, outermost first, and the item
abbrev pub Entry : Type 0
Entry = List Block × Tree.Item

-- ---- the tree

-- what is to come behind each of the open blocks, and inside the innermost
abbrev Levels : List Block → Type 0
Levels [] = Body
Levels (b ∷ bs) = Body × Levels bs

endings : (P : List Block) → Levels P
endings [] = body_end
endings (b ∷ P) = (body_end, endings P)

wrap : (Q : List Block) → Levels Q → Body
wrap [] l = l
wrap (b ∷ Q) l = Tree.block (tree_block b) (wrap Q l.1) l.0

put : Tree.Item → (Q : List Block) → Levels Q → Levels Q
put i [] l = item i l
put i (b ∷ Q) l = (l.0, put i Q l.1)

-- the blocks P are open, and what is to come stands in the blocks Q
shift : (P Q : List Block) → Levels Q → Levels P
shift [] Q l = wrap Q l
shift (a ∷ P) [] l = (l, endings P)
shift (a ∷ P) (b ∷ Q) l = cond (same_block a b) (l.0, shift P Q l.1) (wrap (b ∷ Q) l, endings P)

grow : (P : List Block) → List Entry → Levels P
grow P [] = endings P
grow P (e ∷ es) = shift P e.0 (put e.1 e.0 (grow e.0 es))

pub body_of : List Entry → Body
body_of es = grow [] es

-- ---- folds

-- a context changes inside a block, and each part is put in front of what follows
module _ {C : Type 0} (into : C → Tree.Block → C) where
  -- the context inside all the blocks
  abbrev pub in_all : C → List Block → C
  in_all c [] = c
  in_all c (b ∷ bs) = in_all (into c (tree_block b)) bs

  module _ {M : Type 0} (on_open on_close : C → Tree.Block → M → M) where
    abbrev pub opens : C → List Block → M → M
    opens c [] r = r
    opens c (b ∷ bs) r = on_open c (tree_block b) (opens (into c (tree_block b)) bs r)

    abbrev pub closes : C → List Block → M → M
    closes c [] r = r
    closes c (b ∷ bs) r = closes (into c (tree_block b)) bs (on_close c (tree_block b) r)

    -- from the blocks P to the blocks Q
    abbrev pub moves : C → List Block → List Block → M → M
    moves c [] Q r = opens c Q r
    moves c (a ∷ P) [] r = closes c (a ∷ P) r
    moves c (a ∷ P) (b ∷ Q) r =
        cond (same_block a b) (moves (into c (tree_block a)) P Q r) (closes c (a ∷ P) (opens c (b ∷ Q) r))

    module _ (on_item : C → Tree.Item → M → M) where
      abbrev pub fold_body : C → Body → M → M
      fold_body c body_end r = r
      fold_body c (item i next) r = on_item c i (fold_body c next r)
      fold_body c (Tree.block b inside next) r =
          on_open c b (fold_body (into c b) inside (on_close c b (fold_body c next r)))

      -- from the open blocks, one entry after the other
      abbrev pub fold_entries : C → List Block → List Entry → M → M
      fold_entries c P [] r = closes c P r
      fold_entries c P (e ∷ es) r = moves c P e.0 (on_item (in_all c e.0) e.1 (fold_entries c e.0 es r))

      abbrev fold_levels : C → (P : List Block) → Levels P → M → M
      fold_levels c [] l r = fold_body c l r
      fold_levels c (b ∷ P) l r =
          fold_levels (into c (tree_block b)) P l.1 (on_close c (tree_block b) (fold_body c l.0 r))

      fold_endings : (c : C) (P : List Block) (r : M) → fold_levels c P (endings P) r ≡ closes c P r
      unfolding endings
      fold_endings c [] r = refl
      fold_endings c (b ∷ P) r = fold_endings (into c (tree_block b)) P (on_close c (tree_block b) r)

      fold_wrap : (c : C) (Q : List Block) (l : Levels Q) (r : M) →
          fold_body c (wrap Q l) r ≡ opens c Q (fold_levels c Q l r)
      unfolding wrap
      fold_wrap c [] l r = refl
      fold_wrap c (b ∷ Q) l r =
          ap (on_open c (tree_block b))
          (fold_wrap (into c (tree_block b)) Q l.1 (on_close c (tree_block b) (fold_body c l.0 r)))

      fold_put : (c : C) (i : Tree.Item) (Q : List Block) (l : Levels Q) (r : M) →
          fold_levels c Q (put i Q l) r ≡ on_item (in_all c Q) i (fold_levels c Q l r)
      unfolding put
      fold_put c i [] l r = refl
      fold_put c i (b ∷ Q) l r = fold_put (into c (tree_block b)) i Q l.1 (on_close c (tree_block b) (fold_body c l.0 r))

      fold_shift : (c : C) (P Q : List Block) (l : Levels Q) (r : M) →
          fold_levels c P (shift P Q l) r ≡ moves c P Q (fold_levels c Q l r)
      unfolding shift
      fold_shift c [] Q l r = fold_wrap c Q l r
      fold_shift c (a ∷ P) [] l r = fold_endings (into c (tree_block a)) P (on_close c (tree_block a) (fold_body c l r))
      fold_shift c (a ∷ P) (b ∷ Q) l r =
          by_cases (same_block a b)
          (λ e. rw (e, block_eq a b e)
          (fold_shift (into c (tree_block b)) P Q l.1 (on_close c (tree_block b) (fold_body c l.0 r))))
          (λ e. rw e
          (fold_endings (into c (tree_block a)) P _ ∙
          ap (λ (x : M). closes (into c (tree_block a)) P (on_close c (tree_block a) x)) (fold_wrap c (b ∷ Q) l r)))

      fold_grow : (c : C) (es : List Entry) (P : List Block) (r : M) → fold_levels c P (grow P es) r ≡ fold_entries c P es r
      unfolding grow
      fold_grow c [] P r = fold_endings c P r
      fold_grow c (e ∷ es) P r =
          fold_shift c P e.0 (put e.1 e.0 (grow e.0 es)) r ∙
          ap (moves c P e.0)
          (fold_put c e.1 e.0 (grow e.0 es) r ∙ ap (on_item (in_all c e.0) e.1) (fold_grow c es e.0 r))

      pub fold_body_of : (c : C) (es : List Entry) (r : M) → fold_body c (body_of es) r ≡ fold_entries c [] es r
      unfolding body_of
      fold_body_of c es r = fold_grow c es [] r

-- ---- each block has content

abbrev levels_filled : (P : List Block) → Levels P → Bool
levels_filled [] l = body_filled l
levels_filled (b ∷ P) l = body_filled l.0 && levels_filled P l.1

abbrev innermost : (Q : List Block) → Levels Q → Body
innermost [] l = l
innermost (b ∷ Q) l = innermost Q l.1

endings_filled : (P : List Block) → levels_filled P (endings P) ≡ true
unfolding endings
endings_filled [] = refl
endings_filled (b ∷ P) = endings_filled P

wrap_content : (Q : List Block) (l : Levels Q) → has_content (innermost Q l) ≡ true → has_content (wrap Q l) ≡ true
unfolding wrap
wrap_content [] l h = h
wrap_content (b ∷ Q) l h = refl

wrap_filled : (Q : List Block) (l : Levels Q) → has_content (innermost Q l) ≡ true → levels_filled Q l ≡ true →
    body_filled (wrap Q l) ≡ true
unfolding wrap
wrap_filled [] l c h = h
wrap_filled (b ∷ Q) l c h =
    let q = both (body_filled l.0) (levels_filled Q l.1) h in
    rw (wrap_content Q l.1 c, wrap_filled Q l.1 c q.1) q.0

put_content : (i : Tree.Item) (Q : List Block) (l : Levels Q) → has_content (innermost Q (put i Q l)) ≡ true
unfolding put
put_content i [] l = refl
put_content i (b ∷ Q) l = put_content i Q l.1

put_filled : (i : Tree.Item) (Q : List Block) (l : Levels Q) → levels_filled Q l ≡ true →
    levels_filled Q (put i Q l) ≡ true
unfolding put
put_filled i [] l h = h
put_filled i (b ∷ Q) l h =
    let q = both (body_filled l.0) (levels_filled Q l.1) h in
    rw q.0 (put_filled i Q l.1 q.1)

shift_filled : (P Q : List Block) (l : Levels Q) → has_content (innermost Q l) ≡ true → levels_filled Q l ≡ true →
    levels_filled P (shift P Q l) ≡ true
unfolding shift
shift_filled [] Q l c h = wrap_filled Q l c h
shift_filled (a ∷ P) [] l c h = rw h (endings_filled P)
shift_filled (a ∷ P) (b ∷ Q) l c h =
    let q = both (body_filled l.0) (levels_filled Q l.1) h in
    by_cases (same_block a b) (λ e. rw (e, q.0) (shift_filled P Q l.1 c q.1))
    (λ e. rw (e, wrap_filled (b ∷ Q) l c h) (endings_filled P))

grow_filled : (P : List Block) (es : List Entry) → levels_filled P (grow P es) ≡ true
unfolding grow
grow_filled P [] = endings_filled P
grow_filled P (e ∷ es) =
    shift_filled P e.0 (put e.1 e.0 (grow e.0 es)) (put_content e.1 e.0 (grow e.0 es))
    (put_filled e.1 e.0 (grow e.0 es) (grow_filled e.0 es))

pub body_filled_lem : (es : List Entry) → body_filled (body_of es) ≡ true
unfolding body_of
body_filled_lem es = grow_filled [] es
