-- The states of out.rs' machine between the open blocks and those that are set, and what each of its functions makes
-- of such a state. In none of them is it panicked.
use mathlib.Core.Path.{◌≡◌, refl, sym, ap, ◌∙◌}
use mathlib.Core.List.{List, [], ◌∷◌, ◌++◌, append_assoc, append-nil}
use mathlib.Core.Bool.{Bool, true, false, ◌&&◌, false≢true}
use Prim.Native.Nat.{ℕ}
use Rattle.lexical.specs.Bytes.{bytes}
use Rattle.lexical.specs.Decimal.{pick_text}
use Rattle.lexical.proofs.BoolLaws.{by_cases}
use Rattle.format.specs.Sheet.{Name}
use Rattle.bridge.specs.Block.{Block, user_defined_namespace, write_begin, write_end, same_block}
use Rattle.bridge.specs.Out.{Boundary, begin, end, Content, new, some, next_section, push_block_boundary, end_namespaces}
use Rattle.bridge.specs.Out.{begin_namespaces, set_namespace, flush_all, is_pending, flush_blocks}
use Rattle.bridge.specs.Out.{append, write, flush}
use Rattle.pieces.specs.Pieces.{blank_line, openings, closings, change}
use Rattle.pieces.specs.Between.{named, ending, beginning, between}
use Rattle.pieces.specs.Between.{innermost_first, unbroken, standing}
use Rattle.pieces.proofs.Boundaries.{block_eq, block_refl, between_same, push_begin, push_end, none_pending}

-- ---- texts

pub some_right : (s t : List ℕ) → some t ≡ true → some (s ++ t) ≡ true
some_right [] t h = h
some_right (c ∷ s) t h = refl

pub blank_append : (b : Bool) (r s : List ℕ) → blank_line b r ++ s ≡ blank_line b (r ++ s)
blank_append true r s = refl
blank_append false r s = refl

pub openings_append : (Q : List Block) (r s : List ℕ) → openings Q r ++ s ≡ openings Q (r ++ s)
unfolding openings
openings_append [] r s = refl
openings_append (b ∷ Q) r s =
    append_assoc (write_begin b) (openings Q r) s
    ∙ ap (λ (x : List ℕ). write_begin b ++ x) (openings_append Q r s)

pub closings_append : (P : List Block) (r s : List ℕ) → closings P r ++ s ≡ closings P (r ++ s)
unfolding closings
closings_append [] r s = refl
closings_append (a ∷ P) r s = closings_append P (write_end a ++ r) s ∙ ap (closings P) (append_assoc (write_end a) r s)

pub some_closings : (P : List Block) (r : List ℕ) → some r ≡ true → some (closings P r) ≡ true
unfolding closings
some_closings [] r h = h
some_closings (a ∷ P) r h = some_closings P (write_end a ++ r) refl

pub change_append : (started asks : Bool) (P Q : List Block) (r s : List ℕ) →
    change started asks P Q r ++ s ≡ change started asks P Q (r ++ s)
unfolding change
change_append started asks [] [] r s = blank_append (asks && started) r s
change_append started asks [] (b ∷ Q) r s =
    blank_append started (openings (b ∷ Q) r) s ∙ ap (blank_line started) (openings_append (b ∷ Q) r s)
change_append started asks (a ∷ P) [] r s = closings_append (a ∷ P) (blank_line true r) s
change_append started asks (a ∷ P) (b ∷ Q) r s =
    by_cases (same_block a b) (λ e. rw e (change_append started asks P Q r s))
    (λ e. rw e (closings_append (a ∷ P) (blank_line true (openings (b ∷ Q) r)) s
    ∙ ap (λ (x : List ℕ). closings (a ∷ P) (blank_line true x)) (openings_append (b ∷ Q) r s)))

pub change_none : (started asks : Bool) (P : List Block) (r : List ℕ) →
    change started asks P P r ≡ blank_line (asks && started) r
unfolding change
change_none started asks [] r = refl
change_none started asks (a ∷ P) r = rw (block_refl a) (change_none started asks P r)

-- ---- states

pub new_standing : next_section new ≡ standing [] [] [] [] true
unfolding standing innermost_first between beginning next_section
new_standing = refl

pub push_begin_block : (t : List ℕ) (ns : List Name) (P Q : List Block) (asks : Bool) (b : Block) →
    push_block_boundary (begin b) (standing t ns P Q asks) ≡ standing t ns P (Q ++ (b ∷ [])) asks
unfolding standing push_block_boundary
push_begin_block t ns P Q asks b = rw (push_begin P Q b)

pub push_end_block : (t : List ℕ) (ns : List Name) (P Q : List Block) (asks : Bool) (b : Block) →
    push_block_boundary (end b) (standing t ns P (Q ++ (b ∷ [])) asks) ≡ standing t ns P Q asks
unfolding standing push_block_boundary
push_end_block t ns P Q asks b = rw (push_end P Q b)

pub section_asked : (t : List ℕ) (ns : List Name) (P Q : List Block) (asks : Bool) →
    next_section (standing t ns P Q asks) ≡ standing t ns P Q true
unfolding standing next_section
section_asked t ns P Q asks = refl

-- ---- set_namespace

begun : (t : List ℕ) (ns : List Name) (P Q : List Block) (asks : Bool) (names : List Name) →
    begin_namespaces names (standing t ns P Q asks) ≡ standing t ns P (Q ++ named names) asks
unfolding begin_namespaces
begun t ns P Q asks [] = rw (append-nil Q)
begun t ns P Q asks (name ∷ names) =
    rw (push_begin_block t ns P Q asks (user_defined_namespace name))
    (begun t ns P (Q ++ (user_defined_namespace name ∷ [])) asks names
    ∙ rw (append_assoc Q (user_defined_namespace name ∷ []) (named names)))

ended : (t : List ℕ) (ns : List Name) (P Q : List Block) (asks : Bool) (names : List Name) →
    end_namespaces names (standing t ns P (Q ++ named names) asks) ≡ standing t ns P Q asks
unfolding end_namespaces
ended t ns P Q asks [] = rw (append-nil Q)
ended t ns P Q asks (name ∷ names) =
    rw (
      ← append_assoc Q (user_defined_namespace name ∷ []) (named names),
      ended t ns P (Q ++ (user_defined_namespace name ∷ [])) asks names,
    )
    (push_end_block t ns P Q asks (user_defined_namespace name))

pub namespace_set : (t : List ℕ) (ns : List Name) (P : List Block) (asks : Bool) (names : List Name) →
    set_namespace names (standing t ns P (named ns) asks) ≡ standing t names P (named names) asks
unfolding set_namespace standing
namespace_set t ns P asks names =
    rw (ended t ns P [] asks ns, begun t ns P [] asks names)

-- ---- flush_blocks

closed_section : List Block → Bool → Bool
closed_section [] section = section
closed_section (a ∷ P) section = true

ends_flushed : (P outer : List Block) (t : List ℕ) (ns : List Name) (pending : List Boundary) (asks : Bool) →
    flush_all (ending P) (unbroken t ns (innermost_first P outer) pending asks)
    ≡ unbroken (t ++ closings P []) ns outer [] (closed_section P (some t))
unfolding flush_all ending innermost_first closings closed_section
ends_flushed [] outer t ns pending asks = rw (append-nil t)
ends_flushed (a ∷ P) outer t ns pending asks =
    rw (ends_flushed P (a ∷ outer) t ns pending asks, block_refl a)
    (ap (λ (x : List ℕ). unbroken x ns outer [] true)
    (append_assoc t (closings P []) (write_end a) ∙
    ap (λ (x : List ℕ). t ++ x) (closings_append P [] (write_end a) ∙ ap (closings P) (sym (append-nil (write_end a))))))

picked_blank : (t : List ℕ) (b : Bool) (s : List ℕ) → t ++ pick_text b (bytes "\n") [] ++ s ≡ t ++ blank_line b s
picked_blank t true s = append_assoc t (bytes "\n") s
picked_blank t false s = rw (append-nil t)

opened_text : (t : List ℕ) (section : Bool) (w r : List ℕ) →
    (t ++ pick_text section (bytes "\n") [] ++ w) ++ r ≡ t ++ blank_line section (w ++ r)
opened_text t section w r =
    ap (λ (x : List ℕ). x ++ r) (picked_blank t section w) ∙ append_assoc t (blank_line section w) r
    ∙ ap (λ (x : List ℕ). t ++ x) (blank_append section w r)

begins_flushed : (Q outer : List Block) (t : List ℕ) (ns : List Name) (section : Bool) (pending : List Boundary)
    (c : Content) (b : Block) → flush_all pending c ≡ unbroken t ns outer [] section →
    flush_all (beginning (b ∷ Q) pending) c
    ≡ unbroken (t ++ blank_line section (openings (b ∷ Q) [])) ns (innermost_first (b ∷ Q) outer) [] false
unfolding flush_all beginning innermost_first openings
begins_flushed [] outer t ns section pending c b e =
    rw e (ap (λ (x : List ℕ). unbroken x ns (b ∷ outer) [] false)
    (sym (append-nil _) ∙ opened_text t section (write_begin b) []))
begins_flushed (d ∷ Q) outer t ns section pending c b e =
    begins_flushed Q (b ∷ outer) (t ++ pick_text section (bytes "\n") [] ++ write_begin b) ns false (begin b ∷ pending) c d
    (rw e)
    ∙ ap (λ (x : List ℕ). unbroken x ns (innermost_first Q (d ∷ b ∷ outer)) [] false)
    (opened_text t section (write_begin b) (openings (d ∷ Q) []))

nothing_flushed : (t : List ℕ) (ns : List Name) (outer : List Block) (pending : List Boundary) (asks : Bool) →
    flush_all [] (unbroken t ns outer pending asks) ≡ unbroken t ns outer [] (some t)
unfolding flush_all
nothing_flushed t ns outer pending asks = refl

-- ---- write

behind_openings : (t : List ℕ) (section : Bool) (Q : List Block) (s : List ℕ) →
    (t ++ blank_line section (openings Q [])) ++ [] ++ s ≡ t ++ blank_line section (openings Q s)
behind_openings t section Q s =
    rw (
      append-nil (t ++ blank_line section (openings Q [])),
      append_assoc t (blank_line section (openings Q [])) s,
      blank_append section (openings Q []) s,
      openings_append Q [] s,
    )

behind_closings : (t : List ℕ) (P : List Block) (r s : List ℕ) → (t ++ closings P r) ++ s ≡ t ++ closings P (r ++ s)
behind_closings t P r s = rw (append_assoc t (closings P r) s, closings_append P r s)

some_closed : (t : List ℕ) (a : Block) (P : List Block) → some (t ++ closings (a ∷ P) []) ≡ true
unfolding closings
some_closed t a P = some_right t _ (some_closings P (write_end a ++ []) refl)

nothing_pending : is_pending (between [] []) ≡ true → ⊥
unfolding between beginning
nothing_pending h = false≢true h

flushed_write : (P Q outer : List Block) (t : List ℕ) (ns : List Name) (pending : List Boundary) (asks : Bool)
    (s : List ℕ) → is_pending (between P Q) ≡ true →
    append s (flush_all (between P Q) (unbroken t ns (innermost_first P outer) pending asks))
    ≡ unbroken (t ++ change (some t) asks P Q s) ns (innermost_first Q outer) [] false
unfolding between change innermost_first closed_section
flushed_write [] [] outer t ns pending asks s h = absurd (nothing_pending h)
flushed_write [] (b ∷ Q) outer t ns pending asks s h =
    let c = unbroken t ns outer pending asks in
    rw (begins_flushed Q outer t ns (some t) [] c b (nothing_flushed t ns outer pending asks))
    (ap (λ (x : List ℕ). unbroken x ns (innermost_first Q (b ∷ outer)) [] false) (behind_openings t (some t) (b ∷ Q) s))
flushed_write (a ∷ P) [] outer t ns pending asks s h =
    rw (ends_flushed (a ∷ P) outer t ns pending asks, some_closed t a P)
    (ap (λ (x : List ℕ). unbroken x ns outer [] false)
    (append_assoc (t ++ closings (a ∷ P) []) (bytes "\n") s ∙ behind_closings t (a ∷ P) [] (bytes "\n" ++ s)))
flushed_write (a ∷ P) (b ∷ Q) outer t ns pending asks s h =
    by_cases (same_block a b)
    (λ e. rw (e, block_eq a b e) (flushed_write P Q (b ∷ outer) t ns pending asks s (rw e at h)))
    (λ e.
    let c = unbroken t ns (innermost_first (a ∷ P) outer) pending asks in
    rw (
      e,
      begins_flushed Q outer (t ++ closings (a ∷ P) []) ns true (ending (a ∷ P)) c b
          (ends_flushed (a ∷ P) outer t ns pending asks),
    )
    (ap (λ (x : List ℕ). unbroken x ns (innermost_first Q (b ∷ outer)) [] false)
    (behind_openings (t ++ closings (a ∷ P) []) true (b ∷ Q) s
    ∙ behind_closings t (a ∷ P) [] (blank_line true (openings (b ∷ Q) s)))))

-- the blocks flushed and the text behind them
pub flushed_append : (t : List ℕ) (ns : List Name) (P Q : List Block) (asks : Bool) (s : List ℕ) →
    append s (flush_blocks (standing t ns P Q asks)) ≡ standing (t ++ change (some t) asks P Q s) ns Q Q false
unfolding flush_blocks standing
flushed_append t ns P Q asks s =
    by_cases (is_pending (between P Q))
    (λ e. rw (e, between_same Q) (flushed_write P Q [] t ns (between P Q) asks s e))
    (λ e. rw (none_pending P Q e, between_same Q, change_none (some t) asks Q s)
    (ap (λ (x : List ℕ). unbroken x ns (innermost_first Q []) [] false) (picked_blank t (asks && some t) s)))

pub piece_written : (t : List ℕ) (ns : List Name) (P Q : List Block) (asks : Bool) (s : List ℕ) → some s ≡ true →
    write s (standing t ns P Q asks) ≡ standing (t ++ change (some t) asks P Q s) ns Q Q false
unfolding write
piece_written t ns P Q asks s h = rw h (flushed_append t ns P Q asks s)

pub nothing_written : (c : Content) → write [] c ≡ c
unfolding write
nothing_written c = refl

-- ---- flush

abbrev pub Ends : Content → List ℕ → Type 0
Ends c t = (c.text ≡ t) × (c.panicked ≡ false)

pub blocks_flushed : (t : List ℕ) (ns : List Name) (P : List Block) (asks : Bool) →
    Ends (flush_blocks (standing t ns P [] asks)) (t ++ closings P [])
unfolding flush_blocks standing between beginning ending closings
blocks_flushed t ns [] asks = (sym (append-nil t), refl)
blocks_flushed t ns (a ∷ P) asks =
    let e = ends_flushed (a ∷ P) [] t ns (ending (a ∷ P)) asks in
    (ap (λ (c : Content). c.text) e, ap (λ (c : Content). c.panicked) e)

pub all_flushed : (t : List ℕ) (ns : List Name) (P : List Block) (asks : Bool) →
    Ends (flush (standing t ns P (named ns) asks)) (t ++ closings P [])
unfolding flush
all_flushed t ns P asks = rw (namespace_set t ns P asks []) (blocks_flushed t [] P asks)
