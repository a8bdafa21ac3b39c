-- The text of every sheet is its forward declarations and the text of its pieces, and flush_blocks never panics.
use mathlib.Core.Path.{◌≡◌, refl, ap, ◌∙◌}
use mathlib.Core.List.{List, [], ◌∷◌, ◌++◌, append_assoc, append-nil}
use mathlib.Core.Bool.{Bool, true, false, cond, not, ◌&&◌}
use Prim.Native.Nat.{ℕ}
use Rattle.lexical.specs.Bytes.{bytes}
use Rattle.lexical.specs.Decimal.{pick_text}
use Rattle.lexical.proofs.BoolLaws.{by_cases}
use Rattle.format.specs.Decode.{pick}
use Rattle.format.specs.Sheet.{Name, Function, Body, struct, enum, cxx_type, rust_type, function, Item, Sheet}
use Rattle.rules.specs.Rules.{gather}
use Rattle.syntax.specs.Mangle.{extern_fn}
use Rattle.bridge.specs.Block.{Block, extern_c, write_begin, same_block}
use Rattle.bridge.specs.Out.{Content, new, some, next_section, set_namespace, write, flush}
use Rattle.bridge.specs.Write.{extern_return, commas, extern_parameters, write_doc, shim_decl}
use Rattle.bridge.specs.Write.{forward_declarations, function_decl, write_rust_function_decl, layout_decl, is_free, shim_body}
use Rattle.bridge.specs.Write.{write_opaque_type_layout_decls, layout_definition, write_opaque_type_layout, function_shim}
use Rattle.bridge.specs.Write.{write_rust_function_shim, declare, define, for_each, write_functions, content, text}
use Rattle.pieces.specs.Pieces.{Piece, namespaces, declared, defined, declaration_pieces, definition_pieces, pieces}
use Rattle.pieces.specs.Pieces.{blank_line, openings, closings, change, pieces_text, body_text}
use Rattle.pieces.specs.Between.{named, standing}
use Rattle.pieces.proofs.Machine.{some_right, some_closings, change_append, Ends, push_begin_block}
use Rattle.pieces.proofs.Machine.{push_end_block, section_asked, namespace_set, piece_written, nothing_written}
use Rattle.pieces.proofs.Machine.{new_standing, all_flushed}

-- ---- texts

some_blank : (b : Bool) (r : List ℕ) → some r ≡ true → some (blank_line b r) ≡ true
some_blank true r h = refl
some_blank false r h = h

some_openings : (Q : List Block) (r : List ℕ) → some r ≡ true → some (openings Q r) ≡ true
unfolding openings
some_openings [] r h = h
some_openings (b ∷ Q) r h = some_right (write_begin b) (openings Q r) (some_openings Q r h)

some_change : (started asks : Bool) (P Q : List Block) (r : List ℕ) → some r ≡ true →
    some (change started asks P Q r) ≡ true
unfolding change
some_change started asks [] [] r h = some_blank (asks && started) r h
some_change started asks [] (b ∷ Q) r h = some_blank started (openings (b ∷ Q) r) (some_openings (b ∷ Q) r h)
some_change started asks (a ∷ P) [] r h = some_closings (a ∷ P) _ refl
some_change started asks (a ∷ P) (b ∷ Q) r h =
    by_cases (same_block a b) (λ e. rw e (some_change started asks P Q r h))
    (λ e. rw e (some_closings (a ∷ P) _ refl))

-- whether a piece asks matters only where text is before it
change_asks : (started asks asks' : Bool) (P Q : List Block) (r : List ℕ) → (asks && started) ≡ (asks' && started) →
    change started asks P Q r ≡ change started asks' P Q r
unfolding change
change_asks started asks asks' [] [] r e = rw e
change_asks started asks asks' [] (b ∷ Q) r e = refl
change_asks started asks asks' (a ∷ P) [] r e = refl
change_asks started asks asks' (a ∷ P) (b ∷ Q) r e =
    ap (λ (x : List ℕ). cond (same_block a b) x (closings (a ∷ P) (blank_line true (openings (b ∷ Q) r))))
    (change_asks started asks asks' P Q r e)

-- a piece written, and then the others
piece_text : (t : List ℕ) (P : List Block) (p : Piece) (ps : List Piece) → some p.bytes ≡ true →
    (t ++ change (some t) p.asks P p.around p.bytes)
    ++ pieces_text (some (t ++ change (some t) p.asks P p.around p.bytes)) p.around ps
    ≡ t ++ pieces_text (some t) P (p ∷ ps)
unfolding pieces_text
piece_text t P p ps h =
    rw (some_right t _ (some_change (some t) p.asks P p.around p.bytes h))
    (append_assoc t _ _ ∙ ap (λ (x : List ℕ). t ++ x) (change_append (some t) p.asks P p.around p.bytes _))

-- ---- no piece is empty

pub some_layout_decl : (x : Item) (name : List ℕ) → some (layout_decl x name) ≡ true
unfolding layout_decl
some_layout_decl x name = refl

pub some_function_decl : (items : List Item) (x : Item) (f : Function) → some (function_decl items x f) ≡ true
unfolding function_decl
some_function_decl items x f =
    some_right
    (extern_return items f ++ extern_fn items x.namespace f ++ bytes "(" ++ commas false (extern_parameters items f))
    (bytes ") noexcept;\n") refl

pub some_layout_definition : (x : Item) (m name : List ℕ) → some (layout_definition x m name) ≡ true
unfolding layout_definition
some_layout_definition x m name = refl

pub some_shim : (s : Sheet) (x : Item) (f : Function) → some (function_shim s x f) ≡ true
unfolding function_shim shim_body
some_shim s x f =
    some_right (pick_text (is_free f.form) (write_doc s.doxygen f.comment) [] ++ shim_decl s.items x f)
    (pick_text s.header (bytes ";\n") (shim_body s.items x f)) (behind s.header)
  where
    behind : (header : Bool) → some (pick_text header (bytes ";\n") (shim_body s.items x f)) ≡ true
    behind true = refl
    behind false = refl

-- ---- the machine run from any state between two items

-- what K writes and what it leaves
abbrev Runs : (Content → Content) → List Piece → Type 0
Runs K ps =
    (t : List ℕ) (ns : List Name) (P : List Block) (asks : Bool) →
    Ends (K (standing t ns P (named ns) asks)) (t ++ pieces_text (some t) P ps)

-- the same where no section is asked for between text
abbrev RunsRested : (Content → Content) → List Piece → Type 0
RunsRested K ps =
    (t : List ℕ) (ns : List Name) (P : List Block) (asks : Bool) → (asks && some t) ≡ false →
    Ends (K (standing t ns P (named ns) asks)) (t ++ pieces_text (some t) P ps)

flush_runs : Runs flush []
unfolding pieces_text
flush_runs t ns P asks = all_flushed t ns P asks

-- ---- definitions

piece_defined : (x : Item) (r t : List ℕ) (ns : List Name) (P : List Block) (asks : Bool) → some r ≡ true →
    write r (next_section (set_namespace x.namespace (standing t ns P (named ns) asks)))
    ≡ standing (t ++ change (some t) true P (namespaces x) r) x.namespace (namespaces x) (namespaces x) false
unfolding namespaces
piece_defined x r t ns P asks h =
    rw (namespace_set t ns P asks x.namespace, section_asked t x.namespace P (named x.namespace) asks)
    (piece_written t x.namespace P (named x.namespace) true r h)

layout_runs : (header : Bool) (x : Item) (K : Content → Content) (ps : List Piece) → Runs K ps →
    Runs (λ c. K (write_opaque_type_layout header x c))
    (pick header []
    (defined x (layout_definition x (bytes "size") (bytes "sizeof")) ∷
    defined x (layout_definition x (bytes "align") (bytes "alignof")) ∷ []) ++ ps)
unfolding write_opaque_type_layout namespaces
layout_runs true x K ps run t ns P asks = run t ns P asks
layout_runs false x K ps run t ns P asks =
    let size = layout_definition x (bytes "size") (bytes "sizeof") in
    let align = layout_definition x (bytes "align") (bytes "alignof") in
    let Q = namespaces x in
    let t₁ = t ++ change (some t) true P Q size in
    let t₂ = t₁ ++ change (some t₁) true Q Q align in
    rw (
      piece_defined x size t ns P asks (some_layout_definition x (bytes "size") (bytes "sizeof")),
      section_asked t₁ x.namespace Q Q false,
      piece_written t₁ x.namespace Q Q true align (some_layout_definition x (bytes "align") (bytes "alignof")),
      ← piece_text t P (defined x size) (defined x align ∷ ps) (some_layout_definition x (bytes "size") (bytes "sizeof")),
      ← piece_text t₁ Q (defined x align) ps (some_layout_definition x (bytes "align") (bytes "alignof")),
    )
    (run t₂ x.namespace Q false)

shim_runs : (hidden : Bool) (s : Sheet) (x : Item) (f : Function) (K : Content → Content) (ps : List Piece) → Runs K ps →
    Runs (λ c. K (write (pick_text hidden [] (function_shim s x f)) (set_namespace x.namespace (next_section c))))
    (pick hidden [] (defined x (function_shim s x f) ∷ []) ++ ps)
unfolding namespaces
shim_runs true s x f K ps run t ns P asks =
    rw (
      section_asked t ns P (named ns) asks,
      namespace_set t ns P true x.namespace,
      nothing_written (standing t x.namespace P (named x.namespace) true),
    )
    (run t x.namespace P true)
shim_runs false s x f K ps run t ns P asks =
    rw (
      section_asked t ns P (named ns) asks,
      namespace_set t ns P true x.namespace,
      piece_written t x.namespace P (namespaces x) true (function_shim s x f) (some_shim s x f),
      ← piece_text t P (defined x (function_shim s x f)) ps (some_shim s x f),
    )
    (run (t ++ change (some t) true P (namespaces x) (function_shim s x f)) x.namespace (namespaces x) false)

define_runs : (s : Sheet) (x : Item) (b : Body) (K : Content → Content) (ps : List Piece) → Runs K ps →
    Runs (λ c. K (define s x b c)) (definition_pieces s x b ++ ps)
unfolding write_rust_function_shim
define_runs s x (struct p ts) K ps run = run
define_runs s x (enum p a cxx) K ps run = run
define_runs s x (cxx_type p) K ps run = run
define_runs s x (rust_type p) K ps run = layout_runs s.header x K ps run
define_runs s x (function f) K ps run = shim_runs (s.header && not (is_free f.form)) s x f K ps run

-- ---- declarations

layouts_declared_run : (x : Item) (K : Content → Content) (ps : List Piece) → RunsRested K ps →
    RunsRested (λ c. K (write_opaque_type_layout_decls x c))
    (declared x false (layout_decl x (bytes "sizeof")) ∷ declared x false (layout_decl x (bytes "alignof")) ∷ ps)
unfolding write_opaque_type_layout_decls namespaces
layouts_declared_run x K ps run t ns P asks rested =
    let size = layout_decl x (bytes "sizeof") in
    let align = layout_decl x (bytes "alignof") in
    let Q = namespaces x ++ (extern_c ∷ []) in
    let t₁ = t ++ change (some t) false P Q size in
    let t₂ = t₁ ++ change (some t₁) false Q Q align in
    rw (
      namespace_set t ns P asks x.namespace,
      push_begin_block t x.namespace P (namespaces x) asks extern_c,
      piece_written t x.namespace P Q asks size (some_layout_decl x (bytes "sizeof")),
      change_asks (some t) asks false P Q size rested,
      piece_written t₁ x.namespace Q Q false align (some_layout_decl x (bytes "alignof")),
      push_end_block t₂ x.namespace Q (namespaces x) false extern_c,
      ← piece_text t P (declared x false size) (declared x false align ∷ ps) (some_layout_decl x (bytes "sizeof")),
      ← piece_text t₁ Q (declared x false align) ps (some_layout_decl x (bytes "alignof")),
    )
    (run t₂ x.namespace Q false refl)

function_declared_runs : (items : List Item) (x : Item) (f : Function) (K : Content → Content) (ps : List Piece) →
    RunsRested K ps →
    RunsRested (λ c. K (write_rust_function_decl items x f c)) (declared x true (function_decl items x f) ∷ ps)
unfolding write_rust_function_decl namespaces
function_declared_runs items x f K ps run t ns P asks rested =
    let r = function_decl items x f in
    let Q = namespaces x ++ (extern_c ∷ []) in
    let t₁ = t ++ change (some t) true P Q r in
    rw (
      namespace_set t ns P asks x.namespace,
      push_begin_block t x.namespace P (namespaces x) asks extern_c,
      section_asked t x.namespace P Q asks,
      piece_written t x.namespace P Q true r (some_function_decl items x f),
      push_end_block t₁ x.namespace Q (namespaces x) false extern_c,
      ← piece_text t P (declared x true r) ps (some_function_decl items x f),
    )
    (run t₁ x.namespace Q false refl)

declare_runs : (items : List Item) (x : Item) (b : Body) (K : Content → Content) (ps : List Piece) → RunsRested K ps →
    RunsRested (λ c. K (declare items x b c)) (declaration_pieces items x b ++ ps)
declare_runs items x (struct p ts) K ps run = run
declare_runs items x (enum p a cxx) K ps run = run
declare_runs items x (cxx_type p) K ps run = run
declare_runs items x (rust_type p) K ps run = layouts_declared_run x K ps run
declare_runs items x (function f) K ps run = function_declared_runs items x f K ps run

-- ---- the two passes

module _ (R : (Content → Content) → List Piece → Type 0) (one : Item → Content → Content) (pieces_of : Item → List Piece)
    (step : (x : Item) (K : Content → Content) (ps : List Piece) → R K ps → R (λ c. K (one x c)) (pieces_of x ++ ps)) where
  each_runs : (xs : List Item) (K : Content → Content) (ps : List Piece) → R K ps →
      R (λ c. K (for_each one xs c)) (gather pieces_of xs ++ ps)
  unfolding for_each gather
  each_runs [] K ps run = run
  each_runs (x ∷ xs) K ps run =
      rw (append_assoc (pieces_of x) (gather pieces_of xs) ps)
      (step x (λ c. K (for_each one xs c)) (gather pieces_of xs ++ ps) (each_runs xs K ps run))

definitions_run : (s : Sheet) →
    Runs (λ c. flush (for_each (λ x. define s x x.body) s.items c))
    (gather (λ x. definition_pieces s x x.body) s.items)
definitions_run s =
    rw (append-nil (gather (λ x. definition_pieces s x x.body) s.items)) at
    (each_runs Runs (λ x. define s x x.body) (λ x. definition_pieces s x x.body) (λ x. define_runs s x x.body)
    s.items flush [] flush_runs)

functions_run : (s : Sheet) → RunsRested (λ c. flush (write_functions s c)) (pieces s)
unfolding write_functions pieces
functions_run s = passes s.header
  where
    passes : (header : Bool) →
        RunsRested (λ c. flush (for_each (λ x. define s x x.body) s.items
        (pick header c (for_each (λ x. declare s.items x x.body) s.items c))))
        (pick header [] (gather (λ x. declaration_pieces s.items x x.body) s.items)
        ++ gather (λ x. definition_pieces s x x.body) s.items)
    passes true = λ t ns P asks rested. definitions_run s t ns P asks
    passes false =
        each_runs RunsRested (λ x. declare s.items x x.body) (λ x. declaration_pieces s.items x x.body)
        (λ x. declare_runs s.items x x.body) s.items
        (λ c. flush (for_each (λ x. define s x x.body) s.items c))
        (gather (λ x. definition_pieces s x x.body) s.items) (λ t ns P asks rested. definitions_run s t ns P asks)

-- ---- the text

forward_written : (r : List ℕ) (K : Content → Content) (ps : List Piece) → RunsRested K ps →
    Ends (K (write r (next_section new))) (r ++ pieces_text (some r) [] ps)
unfolding change
forward_written [] K ps run =
    rw (new_standing, nothing_written (standing [] [] [] [] true)) (run [] [] [] true refl)
forward_written (c ∷ r) K ps run =
    rw (new_standing, piece_written [] [] [] [] true (c ∷ r) refl) (run (c ∷ r) [] [] false refl)

sheet_ends : (s : Sheet) → Ends (content s) (forward_declarations s.items ++ body_text s)
unfolding content body_text
sheet_ends s =
    forward_written (forward_declarations s.items) (λ c. flush (write_functions s c)) (pieces s) (functions_run s)

pub text_pieces : (s : Sheet) → text s ≡ forward_declarations s.items ++ body_text s
unfolding text
text_pieces s = (sheet_ends s).0

pub never_panics : (s : Sheet) → (content s).panicked ≡ false
never_panics s = (sheet_ends s).1
