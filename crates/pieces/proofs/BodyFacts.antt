-- The tree of entries: its tokens, the declarations and shims in it, and that it keeps the rules.
use mathlib.Core.Path.{◌≡◌, refl, sym, ap, ◌∙◌}
use mathlib.Core.List.{List, [], ◌∷◌, ◌++◌, append_assoc, append-nil}
use mathlib.Core.Bool.{Bool, true, false, ◌&&◌, ◌||◌}
use Prim.Native.Nat.{ℕ, suc, ◌+◌, ◌≤◌}
use native.Mathlib.Omega.{arith}
use borrow.Author.Tests.{leb-true, lt-ltb}
use lib.Dec.{leb, ltb}
use lib.ListN.{length}
use Rattle.lexical.specs.Bytes.{every}
use Rattle.lexical.specs.Names.{is_name}
use Rattle.lexical.proofs.BoolLaws.{both, by_cases}
use Rattle.lexical.proofs.ByteLaws.{every_cons}
use Rattle.format.specs.Sheet.{Name}
use Rattle.rules.specs.Rules.{gather}
use Rattle.grammar.specs.Token.{Token, comment, quoted}
use Rattle.grammar.specs.Tree as Tree
use Rattle.grammar.specs.Tree.{Body, body_end, item, declares, defines, shim}
use Rattle.grammar.specs.Tokens.{item_tokens, block_tokens, body_tokens}
use Rattle.grammar.specs.Rules.{max_namespaces, item_ok, body_ok}
use Rattle.grammar.proofs.TextBack.{block_rules}
use Rattle.grammar.proofs.Pieces.{usual_comment, usual_closings}
use Rattle.agreement.specs.Agreement.{Declared, Defined, declarations, shims}
use Rattle.bridge.specs.Block.{Block, user_defined_namespace, extern_c, same_block}
use Rattle.pieces.proofs.Boundaries.{block_eq}
use Rattle.pieces.proofs.BodyTree.{tree_block, Entry, body_of, fold_body, in_all, opens, closes, moves, fold_entries}
use Rattle.pieces.proofs.BodyTree.{fold_body_of}

-- ---- tokens

abbrev pub open_tokens : Tree.Block → List Token → List Token
open_tokens b rest = block_tokens b (quoted "{" rest)

abbrev pub close_tokens : Tree.Block → List Token → List Token
close_tokens b rest = quoted "}" (comment (usual_comment b) ∷ rest)

module _ (rest : List Token) where
  abbrev pub opening_tokens : List Block → List Token
  opening_tokens blocks = opens {C = Unit {0}} (λ c b. c) (λ c. open_tokens) (λ c. close_tokens) tt blocks rest

  abbrev pub closing_tokens : List Block → List Token
  closing_tokens blocks = closes {C = Unit {0}} (λ c b. c) (λ c. open_tokens) (λ c. close_tokens) tt blocks rest

  abbrev pub change_tokens : List Block → List Block → List Token
  change_tokens P Q = moves {C = Unit {0}} (λ c b. c) (λ c. open_tokens) (λ c. close_tokens) tt P Q rest

  abbrev tree_tokens : Body → List Token
  tree_tokens b = fold_body {C = Unit {0}} (λ c b. c) (λ c. open_tokens) (λ c. close_tokens) (λ c. item_tokens) tt b rest

  -- the closings, openings and items one after the other
  abbrev pub entries_tokens : List Block → List Entry → List Token
  entries_tokens opened es =
      fold_entries {C = Unit {0}} (λ c b. c) (λ c. open_tokens) (λ c. close_tokens) (λ c. item_tokens) tt opened es rest

tokens_fold : (b : Body) (depth : ℕ) (c : Bool) (o : body_ok depth c b ≡ true) (r : List Token) →
    body_tokens b (usual_closings b depth c o) r ≡ tree_tokens r b
unfolding body_ok usual_closings
tokens_fold body_end depth c o r = refl
tokens_fold (item i next) depth c o r =
    ap (item_tokens i) (tokens_fold next depth c (both (item_ok depth c i) (body_ok depth c next) o).1 r)
tokens_fold (Tree.block b inside next) depth c o r =
    let q = block_rules b inside next depth c o in
    ap (open_tokens b)
    (tokens_fold inside q.0 q.1 q.2 _ ∙
    ap (λ (x : List Token). tree_tokens (close_tokens b x) inside) (tokens_fold next depth c q.3 r))

pub body_tokens_lem : (es : List Entry) (o : body_ok 0 false (body_of es) ≡ true) (r : List Token) →
    body_tokens (body_of es) (usual_closings (body_of es) 0 false o) r ≡ entries_tokens r [] es
body_tokens_lem es o r =
    tokens_fold (body_of es) 0 false o r ∙
    fold_body_of (λ c b. c) (λ c. open_tokens) (λ c. close_tokens) (λ c. item_tokens) tt es r

-- ---- what is found in the tree, with the namespaces around it

abbrev pub names_of : List Block → List Name
names_of [] = []
names_of (user_defined_namespace n ∷ bs) = n ∷ names_of bs
names_of (extern_c ∷ bs) = names_of bs

module _ {C M : Type 0} (into : C → Tree.Block → C) where
  pub nothing_closed : (on_open : C → Tree.Block → M → M) (c : C) (P : List Block) (r : M) →
      closes into on_open (λ c b r. r) c P r ≡ r
  nothing_closed on_open c [] r = refl
  nothing_closed on_open c (a ∷ P) r = nothing_closed on_open (into c (tree_block a)) P r

  nothing_opened : (c : C) (Q : List Block) (r : M) → opens into (λ c b r. r) (λ c b r. r) c Q r ≡ r
  nothing_opened c [] r = refl
  nothing_opened c (b ∷ Q) r = nothing_opened (into c (tree_block b)) Q r

  -- what opening keeps, moving keeps
  pub moves_keep : (on_open : C → Tree.Block → M → M) (Fits : C → List Block → Type 0) (Good : M → Type 0) →
      ((c : C) (b : Block) (Q : List Block) → Fits c (b ∷ Q) → Fits (into c (tree_block b)) Q) →
      ((c : C) (Q : List Block) (r : M) → Fits c Q → Good r → Good (opens into on_open (λ c b r. r) c Q r)) →
      (c : C) (P Q : List Block) (r : M) → Fits c Q → Good r → Good (moves into on_open (λ c b r. r) c P Q r)
  moves_keep on_open Fits Good inner opened c [] Q r h e = opened c Q r h e
  moves_keep on_open Fits Good inner opened c (a ∷ P) [] r h e = rw (nothing_closed on_open c (a ∷ P) r) e
  moves_keep on_open Fits Good inner opened c (a ∷ P) (b ∷ Q) r h e =
      by_cases (same_block a b)
      (λ q. rw (q, block_eq a b q)
      (moves_keep on_open Fits Good inner opened (into c (tree_block b)) P Q r (inner c b Q h) e))
      (λ q. rw (q, nothing_closed on_open c (a ∷ P)) (opened c (b ∷ Q) r h e))

  nothing_moved : (c : C) (P Q : List Block) (r : M) → moves into (λ c b r. r) (λ c b r. r) c P Q r ≡ r
  nothing_moved c P Q r =
      moves_keep (λ c b r. r) (λ c Q. Unit {0}) (λ x. x ≡ r) (λ c b Q h. h)
      (λ c Q x h e. nothing_opened c Q x ∙ e) c P Q r tt refl

abbrev into_name : List Name → Tree.Block → List Name
into_name ns (Tree.namespace x) = ns ++ (x ∷ [])
into_name ns Tree.extern_c = ns

all_names : (ns : List Name) (P : List Block) → in_all into_name ns P ≡ ns ++ names_of P
all_names ns [] = sym (append-nil ns)
all_names ns (user_defined_namespace n ∷ P) = all_names (ns ++ (n ∷ [])) P ∙ append_assoc ns (n ∷ []) (names_of P)
all_names ns (extern_c ∷ P) = all_names ns P

module _ {D : Type 0} (found : List Name → Tree.Item → List D) where
  -- in the tree
  abbrev collect : List Name → Body → List D
  collect ns body_end = []
  collect ns (item i next) = found ns i ++ collect ns next
  collect ns (Tree.block b inside next) = collect (into_name ns b) inside ++ collect ns next

  -- in the entries
  abbrev pub in_entries : List Entry → List D
  in_entries es = gather (λ e. found (names_of e.0) e.1) es

  abbrev on_found : List Name → Tree.Item → List D → List D
  on_found ns i r = found ns i ++ r

  collect_fold : (ns : List Name) (b : Body) (r : List D) →
      collect ns b ++ r ≡ fold_body into_name (λ c b r. r) (λ c b r. r) on_found ns b r
  collect_fold ns body_end r = refl
  collect_fold ns (item i next) r =
      append_assoc (found ns i) (collect ns next) r ∙ ap (λ (x : List D). found ns i ++ x) (collect_fold ns next r)
  collect_fold ns (Tree.block b inside next) r =
      append_assoc (collect (into_name ns b) inside) (collect ns next) r
      ∙ ap (λ (x : List D). collect (into_name ns b) inside ++ x) (collect_fold ns next r)
      ∙ collect_fold (into_name ns b) inside _

  entries_fold : (P : List Block) (es : List Entry) →
      fold_entries into_name (λ c b r. r) (λ c b r. r) on_found [] P es [] ≡ in_entries es
  unfolding gather
  entries_fold P [] = nothing_closed into_name (λ c b r. r) [] P []
  entries_fold P (e ∷ es) =
      nothing_moved into_name [] P e.0 _
      ∙ rw (all_names [] e.0) (ap (λ (x : List D). found (names_of e.0) e.1 ++ x) (entries_fold e.0 es))

  collected : (es : List Entry) → collect [] (body_of es) ≡ in_entries es
  collected es =
      sym (append-nil (collect [] (body_of es))) ∙ collect_fold [] (body_of es) []
      ∙ fold_body_of into_name (λ c b r. r) (λ c b r. r) on_found [] es [] ∙ entries_fold [] es

abbrev pub declared_by : List Name → Tree.Item → List Declared
declared_by ns (declares d) = record { namespace = ns; declaration = d } ∷ []
declared_by ns (defines d) = []
declared_by ns (shim s) = []

abbrev pub defined_by : List Name → Tree.Item → List Defined
defined_by ns (declares d) = []
defined_by ns (defines d) = []
defined_by ns (shim s) = record { namespace = ns; shim = s } ∷ []

declarations_collect : (ns : List Name) (b : Body) → declarations ns b ≡ collect declared_by ns b
unfolding declarations
declarations_collect ns body_end = refl
declarations_collect ns (item (declares d) next) =
    ap (λ (x : List Declared). declared_by ns (declares d) ++ x) (declarations_collect ns next)
declarations_collect ns (item (defines d) next) = declarations_collect ns next
declarations_collect ns (item (shim s) next) = declarations_collect ns next
declarations_collect ns (Tree.block (Tree.namespace x) inside next) =
    rw (declarations_collect (ns ++ (x ∷ [])) inside, declarations_collect ns next)
declarations_collect ns (Tree.block Tree.extern_c inside next) =
    rw (declarations_collect ns inside, declarations_collect ns next)

shims_collect : (ns : List Name) (b : Body) → shims ns b ≡ collect defined_by ns b
unfolding shims
shims_collect ns body_end = refl
shims_collect ns (item (declares d) next) = shims_collect ns next
shims_collect ns (item (defines d) next) = shims_collect ns next
shims_collect ns (item (shim s) next) =
    ap (λ (x : List Defined). defined_by ns (shim s) ++ x) (shims_collect ns next)
shims_collect ns (Tree.block (Tree.namespace x) inside next) =
    rw (shims_collect (ns ++ (x ∷ [])) inside, shims_collect ns next)
shims_collect ns (Tree.block Tree.extern_c inside next) = rw (shims_collect ns inside, shims_collect ns next)

pub body_declarations : (es : List Entry) → declarations [] (body_of es) ≡ in_entries declared_by es
body_declarations es = declarations_collect [] (body_of es) ∙ collected declared_by es

pub body_shims : (es : List Entry) → shims [] (body_of es) ≡ in_entries defined_by es
body_shims es = shims_collect [] (body_of es) ∙ collected defined_by es

-- ---- the rules

abbrev pub has_extern_c : List Block → Bool
has_extern_c [] = false
has_extern_c (user_defined_namespace n ∷ bs) = has_extern_c bs
has_extern_c (extern_c ∷ bs) = true

-- the names around an entry keep the name rule, are not too many, and the item keeps the rules there
unfoldable pub entry_ok : Entry → Bool
entry_ok e =
    every is_name (names_of e.0) && (leb (length (names_of e.0)) max_namespaces &&
    item_ok (length (names_of e.0)) (has_extern_c e.0) e.1)

-- how many namespaces are open, and whether an extern "C" is
abbrev Place : Type 0
Place = ℕ × Bool

abbrev into_place : Place → Tree.Block → Place
into_place c (Tree.namespace x) = (suc c.0, c.1)
into_place c Tree.extern_c = (c.0, true)

abbrev ok_item : Place → Tree.Item → Bool → Bool
ok_item c i r = item_ok c.0 c.1 i && r

abbrev ok_open : Place → Tree.Block → Bool → Bool
ok_open c (Tree.namespace x) r = is_name x && (ltb c.0 max_namespaces && r)
ok_open c Tree.extern_c r = r

and_assoc : (a b c : Bool) → ((a && b) && c) ≡ (a && (b && c))
and_assoc true b c = refl
and_assoc false b c = refl

ok_fold : (c : Place) (b : Body) (r : Bool) →
    (body_ok c.0 c.1 b && r) ≡ fold_body into_place ok_open (λ c b r. r) ok_item c b r
unfolding body_ok
ok_fold c body_end r = refl
ok_fold c (item i next) r =
    and_assoc (item_ok c.0 c.1 i) (body_ok c.0 c.1 next) r ∙ ap (ok_item c i) (ok_fold c next r)
ok_fold c (Tree.block (Tree.namespace x) inside next) r =
    let n = body_ok c.0 c.1 next in
    let m = body_ok (suc c.0) c.1 inside in
    and_assoc (is_name x) (ltb c.0 max_namespaces && (m && n)) r ∙ ap (λ (y : Bool). is_name x && y)
    (and_assoc (ltb c.0 max_namespaces) (m && n) r ∙ ap (λ (y : Bool). ltb c.0 max_namespaces && y)
    (and_assoc m n r ∙ ap (λ (y : Bool). m && y) (ok_fold c next r) ∙ ok_fold (suc c.0, c.1) inside _))
ok_fold c (Tree.block Tree.extern_c inside next) r =
    and_assoc (body_ok c.0 true inside) (body_ok c.0 c.1 next) r
    ∙ ap (λ (y : Bool). body_ok c.0 true inside && y) (ok_fold c next r) ∙ ok_fold (c.0, true) inside _

place_eq : {m n : ℕ} {x y : Bool} → m ≡ n → x ≡ y → ◌≡◌ {A = Place} (m, x) (n, y)
place_eq p q = λ i. (p i, q i)

or-false : (x : Bool) → x ≡ (x || false)
or-false true = refl
or-false false = refl

or_true : (x : Bool) → true ≡ (x || true)
or_true true = refl
or_true false = refl

all_places : (d : ℕ) (x : Bool) (P : List Block) →
    in_all into_place (d, x) P ≡ (d + length (names_of P), x || has_extern_c P)
all_places d x [] = place_eq (omega arith) (or-false x)
all_places d x (user_defined_namespace n ∷ P) = all_places (suc d) x P ∙ place_eq (omega arith) refl
all_places d x (extern_c ∷ P) = all_places d true P ∙ place_eq refl (or_true x)

-- the blocks may be opened there
record Fits (c : Place) (Q : List Block) : Type 0 where
  names : every is_name (names_of Q) ≡ true
  depth : c.0 + length (names_of Q) ≤ max_namespaces

fits_in : (c : Place) (b : Block) (Q : List Block) → Fits c (b ∷ Q) → Fits (into_place c (tree_block b)) Q
fits_in c (user_defined_namespace n) Q h =
    record { names = (every_cons is_name n (names_of Q) h.names).1; depth = omega arith }
fits_in c extern_c Q h = record { names = h.names; depth = h.depth }

opens_ok : (c : Place) (Q : List Block) (r : Bool) → Fits c Q → r ≡ true →
    opens into_place ok_open (λ c b r. r) c Q r ≡ true
opens_ok c [] r h e = e
opens_ok c (user_defined_namespace n ∷ Q) r h e =
    rw ((every_cons is_name n (names_of Q) h.names).0, lt-ltb c.0 max_namespaces (omega arith))
    (opens_ok (suc c.0, c.1) Q r (fits_in c (user_defined_namespace n) Q h) e)
opens_ok c (extern_c ∷ Q) r h e = opens_ok (c.0, true) Q r (fits_in c extern_c Q h) e

moves_ok : (c : Place) (P Q : List Block) (r : Bool) → Fits c Q → r ≡ true →
    moves into_place ok_open (λ c b r. r) c P Q r ≡ true
moves_ok = moves_keep into_place ok_open Fits (λ r. r ≡ true) fits_in opens_ok

entries_ok : (P : List Block) (es : List Entry) → every entry_ok es ≡ true →
    fold_entries into_place ok_open (λ c b r. r) ok_item (0, false) P es true ≡ true
unfolding entry_ok
entries_ok P [] h = nothing_closed into_place ok_open (0, false) P true
entries_ok P (e ∷ es) h =
    let q = every_cons entry_ok e es h in
    let a = both (every is_name (names_of e.0))
    (leb (length (names_of e.0)) max_namespaces && item_ok (length (names_of e.0)) (has_extern_c e.0) e.1)
    q.0 in
    let b = both (leb (length (names_of e.0)) max_namespaces)
    (item_ok (length (names_of e.0)) (has_extern_c e.0) e.1) a.1 in
    let n : length (names_of e.0) ≤ max_namespaces = leb-true (length (names_of e.0)) max_namespaces b.0 in
    let place : in_all into_place (0, false) e.0 ≡ (length (names_of e.0), has_extern_c e.0)
    = all_places 0 false e.0 ∙ place_eq (omega arith) refl in
    moves_ok (0, false) P e.0 _ (record { names = a.0; depth = omega arith })
    (rw (place, b.1) (entries_ok e.0 es q.1))

pub body_ok_lem : (es : List Entry) → every entry_ok es ≡ true → body_ok 0 false (body_of es) ≡ true
body_ok_lem es h =
    (both (body_ok 0 false (body_of es)) true
    (ok_fold (0, false) (body_of es) true ∙ fold_body_of into_place ok_open (λ c b r. r) ok_item (0, false) es true
    ∙ entries_ok [] es h)).0

pub entry_named : (e : Entry) → entry_ok e ≡ true → every is_name (names_of e.0) ≡ true
unfolding entry_ok
entry_named e h = (both (every is_name (names_of e.0)) _ h).0
