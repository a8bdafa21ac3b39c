-- The two passes over the items, and the whole text.
use mathlib.Core.Path.{◌≡◌, refl, sym, ap, ◌∙◌}
use mathlib.Core.List.{List, [], ◌∷◌, ◌++◌}
use mathlib.Core.Bool.{Bool, true, false}
use Prim.Native.Nat.{ℕ, ◌+◌, ◌≤◌, ◌<◌}
use native.Mathlib.Omega.{arith}
use native.Mathlib.Numerals.{add-one}
use lib.ListN.{length, get_or, take, length-map}
use lib.Seq.{take-suc, take_all}
use Rattle.format.specs.declared.ItemKind.{ItemKind}
use Rattle.format.specs.declared.ItemKind.TheVariants.{Struct, Enum, CxxType, RustType, RustFunction, Bad}
use Rattle.format.specs.Sheet.{Body, struct, enum, cxx_type, rust_type, function, Item, Sheet}
use Rattle.syntax.specs.Items.{item_at}
use Rattle.bridge.specs.Out as machine
use Rattle.bridge.specs.Out.{next_section}
use Rattle.bridge.specs.Write.{write_rust_function_decl, write_opaque_type_layout_decls, write_opaque_type_layout}
use Rattle.bridge.specs.Write.{declare, define, for_each, write_functions}
use Rattle.bridge.specs.Write.{content, text, forward_declarations}
use Rattle.pieces.specs.Between.{standing}
use Rattle.pieces.specs.Pieces.{change}
use Rattle.pieces.proofs.Machine.{new_standing, nothing_written, piece_written, all_flushed}
use Rattle.sink.specs.Sink.{Sink, sink, emit, Wrote}
use Rattle.sink.proofs.SinkLaws.{wrote_place}
use Rattle.view.specs.Values.{function_in, one_item_at, items_at}
use Rattle.view.specs.Views.{kind_of_body}
use Rattle.out.specs.declared.Content.{Content}
use Rattle.out.specs.Steps.{Starts, asking, behind, Flushes}
use Rattle.out.proofs.StateLaws.{asked, placed}
use Rattle.sections.specs.Runs.{Representing, Runs, shim_section}
use Rattle.sections.proofs.StateLaws.{represent, runs_as, runs_none, runs_then}
use Rattle.write.specs.Passes.{declare_item, define_item, Begins, Ends}

-- ---- an item, by its kind

abbrev pub declare_kind : ItemKind → List Item → Item → machine.Content → machine.Content
declare_kind RustFunction items x m = write_rust_function_decl items x (function_in x.body) m
declare_kind RustType items x m = write_opaque_type_layout_decls x m
declare_kind Struct items x m = m
declare_kind Enum items x m = m
declare_kind CxxType items x m = m
declare_kind Bad items x m = m

abbrev pub define_kind : ItemKind → Sheet → Item → machine.Content → machine.Content
define_kind RustFunction s x m = shim_section s x (function_in x.body) m
define_kind RustType s x m = write_opaque_type_layout s.header x m
define_kind Struct s x m = m
define_kind Enum s x m = m
define_kind CxxType s x m = m
define_kind Bad s x m = m

declare_kind_lem : (items : List Item) (x : Item) (m : machine.Content) (b : Body) → x.body ≡ b →
    declare_kind (kind_of_body b) items x m ≡ declare items x b m
declare_kind_lem items x m (struct p ts) e = refl
declare_kind_lem items x m (enum p a o) e = refl
declare_kind_lem items x m (cxx_type p) e = refl
declare_kind_lem items x m (rust_type p) e = refl
declare_kind_lem items x m (function f) e = rw e

define_kind_lem : (s : Sheet) (x : Item) (m : machine.Content) (b : Body) → x.body ≡ b →
    define_kind (kind_of_body b) s x m ≡ define s x b m
define_kind_lem s x m (struct p ts) e = refl
define_kind_lem s x m (enum p a o) e = refl
define_kind_lem s x m (cxx_type p) e = refl
define_kind_lem s x m (rust_type p) e = refl
define_kind_lem s x m (function f) e = rw e

-- a kind of no pass
declare_other : (k : ItemKind) (items : List Item) (x : Item) (m : machine.Content) → (k ≡ RustFunction → ⊥) →
    (k ≡ RustType → ⊥) → m ≡ declare_kind k items x m
declare_other RustFunction items x m p q = absurd (p refl)
declare_other RustType items x m p q = absurd (q refl)
declare_other Struct items x m p q = refl
declare_other Enum items x m p q = refl
declare_other CxxType items x m p q = refl
declare_other Bad items x m p q = refl

define_other : (k : ItemKind) (s : Sheet) (x : Item) (m : machine.Content) → (k ≡ RustFunction → ⊥) →
    (k ≡ RustType → ⊥) → m ≡ define_kind k s x m
define_other RustFunction s x m p q = absurd (p refl)
define_other RustType s x m p q = absurd (q refl)
define_other Struct s x m p q = refl
define_other Enum s x m p q = refl
define_other CxxType s x m p q = refl
define_other Bad s x m p q = refl

-- n is the item's number, and its kind is told
module _ {sheet names buf after : List ℕ} {c r : Content} {n i : ℕ} {k told : ItemKind} (e : n ≡ i) where
  pub declared_at : (items : List Item) → k ≡ kind_of_body (item_at items n).body → k ≡ told →
      Runs sheet names buf after (declare_kind told items (item_at items n)) c r →
      Runs sheet names buf after (declare_item items (item_at items i)) c r
  declared_at items a b run =
      rw (sym e) (runs_as
      (λ m. ap (λ (j : ItemKind). declare_kind j items (item_at items n) m) (sym b ∙ a)
      ∙ declare_kind_lem items (item_at items n) m (item_at items n).body refl) run)

  pub defined_at : (s : Sheet) → k ≡ kind_of_body (item_at s.items n).body → k ≡ told →
      Runs sheet names buf after (define_kind told s (item_at s.items n)) c r →
      Runs sheet names buf after (define_item s (item_at s.items i)) c r
  defined_at s a b run =
      rw (sym e) (runs_as
      (λ m. ap (λ (j : ItemKind). define_kind j s (item_at s.items n) m) (sym b ∙ a)
      ∙ define_kind_lem s (item_at s.items n) m (item_at s.items n).body refl) run)

-- likewise, of no pass
module _ {sheet names buf : List ℕ} {c : Content} {n i : ℕ} {k : ItemKind} (e : n ≡ i) (p : k ≡ RustFunction → ⊥)
    (q : k ≡ RustType → ⊥) where
  pub declared_other : (items : List Item) → k ≡ kind_of_body (item_at items n).body →
      Runs sheet names buf buf (declare_item items (item_at items i)) c c
  declared_other items a =
      declared_at e items a refl (runs_as (λ m. declare_other k items (item_at items n) m p q) runs_none)

  pub defined_other : (s : Sheet) → k ≡ kind_of_body (item_at s.items n).body →
      Runs sheet names buf buf (define_item s (item_at s.items i)) c c
  defined_other s a =
      defined_at e s a refl (runs_as (λ m. define_other k s (item_at s.items n) m p q) runs_none)

-- ---- one item after the other

each_last : (one : Item → machine.Content → machine.Content) (xs : List Item) (x : Item) (m : machine.Content) →
    for_each one (xs ++ (x ∷ [])) m ≡ one x (for_each one xs m)
unfolding for_each
each_last one [] x m = refl
each_last one (y ∷ xs) x m = each_last one xs x (one y m)

each_next : (one : Item → machine.Content → machine.Content) (xs : List Item) (i : ℕ) (z : Item) → i < length xs →
    (m : machine.Content) → one (get_or xs i z) (for_each one (take i xs) m) ≡ for_each one (take (i + 1) xs) m
each_next one xs i z h m = sym (rw (add-one, take-suc xs i z h) (each_last one (take i xs) (get_or xs i z) m))

module _ (s names items : List ℕ) (one : Item → machine.Content → machine.Content) where
  -- the first i items are written
  pub record Passed (buf after : List ℕ) (c r : Content) (i : ℕ) : Type 0 where
    pub few : i ≤ length items
    pub runs : Runs s names buf after (for_each one (take i (items_at s names items))) c r

  items_length : length (items_at s names items) ≡ length items
  unfolding items_at
  items_length = length-map items (one_item_at s names items)

  pub pass_none : (buf : List ℕ) (c : Content) → Passed buf buf c c 0
  unfolding for_each
  pass_none buf c = record { few = omega arith; runs = record { each = λ h. h } }

  pub pass_next : {buf mid after : List ℕ} {c d r : Content} {i : ℕ} → i < length items → Passed buf mid c d i →
      Runs s names mid after (one (item_at (items_at s names items) i)) d r → Passed buf after c r (i + 1)
  unfolding item_at
  pass_next {i = i} h p q =
      record {
        few = omega (arith, h);
        runs = runs_as (each_next one (items_at s names items) i _ (rw items_length h)) (runs_then p.runs q);
      }

  pub pass_all : {buf after : List ℕ} {c r : Content} {i : ℕ} → length items ≤ i → Passed buf after c r i →
      Runs s names buf after (for_each one (items_at s names items)) c r
  pass_all {i = i} h p = rw (take_all i (items_at s names items) (rw items_length h)) at p.runs

-- ---- a header

pub layout_hidden : {s names buf : List ℕ} (x : Item) {header : Bool} {c : Content} → header ≡ true →
    Runs s names buf buf (write_opaque_type_layout header x) c c
unfolding write_opaque_type_layout
layout_hidden x e = runs_as (λ m. rw e) runs_none

pub layout_shown : {s names buf after : List ℕ} (x : Item) {header : Bool} {c r : Content} → header ≡ false →
    Runs s names buf after (write_opaque_type_layout false x) c r →
    Runs s names buf after (write_opaque_type_layout header x) c r
layout_shown x e run = runs_as (λ m. rw e) run

module _ {sheet names buf after : List ℕ} (s : Sheet) {c r : Content} where
  pub functions_header : s.header ≡ true →
      Runs sheet names buf after (for_each (define_item s) s.items) c r →
      Runs sheet names buf after (write_functions s) c r
  unfolding write_functions
  functions_header e run = runs_as (λ m. rw e) run

  pub functions_both : {mid : List ℕ} {d : Content} → s.header ≡ false →
      Runs sheet names buf mid (for_each (declare_item s.items) s.items) c d →
      Runs sheet names mid after (for_each (define_item s) s.items) d r →
      Runs sheet names buf after (write_functions s) c r
  unfolding write_functions
  functions_both e p q = runs_as (λ m. rw e) (runs_then p q)

-- ---- the text

no_text : (t : List ℕ) → length t ≡ 0 → machine.write t (next_section machine.new) ≡ standing t [] [] [] true
no_text [] e = nothing_written (next_section machine.new) ∙ new_standing
no_text (b ∷ t) e = absurd (omega arith)

some_text : (t : List ℕ) → 0 < length t → machine.write t (next_section machine.new) ≡ standing t [] [] [] false
unfolding change
some_text [] e = absurd (omega arith)
some_text (b ∷ t) e = rw new_standing (piece_written [] [] [] [] true (b ∷ t) refl)

module _ {at : ℕ} {c d : Content} (starts : Starts c) (p : d ≡ behind c at) where
  at_start : c.at ≡ 0
  unfolding emit
  at_start = ap (λ (x : Sink). x.at) (starts.each {s = []} {names = []} {first = []}).wrote.is

  pub begins_none : {r : Content} → r ≡ asking d → at ≡ 0 → Begins at r
  begins_none a e =
      record {
        each = λ {s} {names} {first} {buf} {t} w.
            represent (no_text t (omega (arith, wrote_place w (omega arith)))) (asked a (placed p starts.each (rw at_start w)));
      }

  pub begins_some : 0 < at → Begins at d
  begins_some h =
      record {
        each = λ {s} {names} {first} {buf} {t} w.
            represent (some_text t (omega (arith, wrote_place w (omega arith)))) (placed p starts.each (rw at_start w));
      }

pub ends_flushed : {s names buf mid after : List ℕ} {K : machine.Content → machine.Content} {c d : Content} {at : ℕ} →
    Runs s names buf mid K c d → Flushes s names mid after d at → Ends s names buf after K c at
ends_flushed run flushes =
    record {
      each = λ h.
          let g = run.each h in
          rw (g.is, (all_flushed g.text g.namespace g.opened g.asks).0) (flushes.each g.stands);
    }

pub whole_text : {s names first buf after : List ℕ} (x : Sheet) {c : Content} {at end : ℕ} → Begins at c →
    Wrote (sink first 0) (forward_declarations x.items) (sink buf at) →
    Ends s names buf after (write_functions x) c end → Wrote (sink first 0) (text x) (sink after end)
unfolding text content
whole_text x begins w ends = ends.each (begins.each w)

pub begun : {s names first buf t : List ℕ} {c : Content} {at : ℕ} → Begins at c →
    Wrote (sink first 0) t (sink buf at) → Representing s names buf c
begun {first = first} {t = t} begins w =
    record {
      first = first;
      state = machine.write t (next_section machine.new);
      represents = begins.each w;
    }
