-- Laws of states: what a boundary more makes of one.
use mathlib.Core.Path.{◌≡◌, refl, sym, ap, ◌∙◌}
use mathlib.Core.List.{List, [], ◌∷◌, ◌++◌, map-append}
use mathlib.Core.Bool.{Bool, true, false}
use Prim.Native.Nat.{ℕ, zero, suc, ◌+◌, ◌-◌, ◌*◌, ◌<◌, ◌≤◌}
use native.Mathlib.Omega.{arith}
use native.Mathlib.Numerals.{add-one}
use lib.ListN.{length, get_or, take, length-append, length-map, length-take}
use lib.Seq.{take-suc, take_all}
use Rattle.lexical.proofs.BoolLaws.{by_cases}
use Rattle.format.specs.Bits.{bits, width_of}
use Rattle.format.specs.Decode.{many}
use Rattle.format.specs.Sheet.{Name, Item}
use Rattle.format.specs.Decoding.{name_of}
use Rattle.cursor.specs.declared.Cursor.{Cursor}
use Rattle.cursor.proofs.CheckLaws.{many_length}
use Rattle.sink.specs.Sink.{sink, Wrote}
use Rattle.sink.proofs.SinkLaws.{◌▷◌, wrote_nil}
use Rattle.view.specs.Values.{name_at, names_at}
use Rattle.view.specs.Views.{Finds, ViewOf}
use Rattle.cursor.specs.declared.Found.{Found}
use Rattle.view.specs.declared.ItemView.{ItemView}
use Rattle.cursor.proofs.YieldLaws.{yielded}
use Rattle.view.proofs.ItemLaws.{space_there}
use Rattle.bridge.specs.Block.{Block, user_defined_namespace, extern_c, same_block}
use Rattle.bridge.specs.Out as machine
use Rattle.bridge.specs.Out.{begin, end, push}
use Rattle.pieces.specs.Between.{named, ending, beginning, between}
use Rattle.pieces.proofs.Boundaries.{push_begin, push_end}
use Rattle.out.specs.declared.Block.TheVariants.{UserDefinedNamespace, ExternC}
use Rattle.out.specs.declared.Boundary.{Boundary}
use Rattle.out.specs.declared.Boundary.TheVariants.{Begin, End}
use Rattle.out.specs.declared.Pending.{Pending}
use Rattle.out.specs.declared.Content.{Content}
use Rattle.out.specs.State.{boundary_of, latest, pending_of, Listed, namespace_at, Spaces, Stands, Standing}
use Rattle.out.specs.State.{max_pending, inside}
use Rattle.out.specs.Steps.{Starts, asking, behind, Pushes, Turns, Sets, Indexes}

-- c with another namespace
abbrev pub respaced : Content → Cursor → ℕ → Content
respaced c spaces depth = record {
  at = c.at;
  spaces = spaces;
  depth = depth;
  pending = c.pending;
  count = c.count;
  section_pending = c.section_pending;
}

-- ---- new, next_section, and text behind the text

starts_spaces : (s names : List ℕ) → Spaces s names (record { at = 0 }) 0 []
unfolding many
starts_spaces s names = record { are = record { is = refl }; shallow = omega arith; near = omega arith }

pub starts : (pending : List Pending) → length pending ≡ max_pending → Starts (record {
  at = 0;
  spaces = record { at = 0 };
  depth = 0;
  pending = pending;
  count = 0;
  section_pending = false;
})
unfolding latest between beginning
starts pending room = record {
  each = λ {s} {names} {first}. record {
    wrote = wrote_nil (sink first 0);
    spaces = starts_spaces s names;
    listed = record { room = room; few = omega arith; known = λ i l. absurd (omega arith) };
    pending = refl;
    section = refl;
    few_open = omega arith;
    few_set = omega arith;
  };
}

module _ {s names first buf t : List ℕ} {ns : List Name} {P Q : List Block} {asks : Bool} {c r : Content} where
  pub asked : r ≡ asking c → Stands s names first buf c t ns P Q asks → Stands s names first buf r t ns P Q true
  asked e st = rw e (record {
    wrote = st.wrote;
    spaces = st.spaces;
    listed = record { room = st.listed.room; few = st.listed.few; known = st.listed.known };
    pending = st.pending;
    section = refl;
    few_open = st.few_open;
    few_set = st.few_set;
  })

  pub placed : {after text : List ℕ} {at : ℕ} → r ≡ behind c at → Stands s names first buf c t ns P Q asks →
      Wrote (sink buf c.at) text (sink after at) → Stands s names first after r (t ++ text) ns P Q asks
  placed e st p = rw e (record {
    wrote = st.wrote ▷ p;
    spaces = st.spaces;
    listed = record { room = st.listed.room; few = st.listed.few; known = st.listed.known };
    pending = st.pending;
    section = st.section;
    few_open = st.few_open;
    few_set = st.few_set;
  })

-- ---- the index of a name

pub indexes : (s names : List ℕ) (c : Cursor) (d : ℕ) {w : ℕ} {r : Found} → w ≡ width_of (length names) →
    Finds (bits w s (c.at + d * w)) w r → Indexes s names c d r.value
indexes s names c d z f = record { each = λ p l. space_there s names c.at d p.are l z f }

-- ---- how many boundaries are pending

ending_length : (P : List Block) → length (ending P) ≡ length P
unfolding ending
ending_length [] = refl
ending_length (a ∷ P) = ap suc (ending_length P)

beginning_length : (Q : List Block) (pending : List machine.Boundary) →
    length (beginning Q pending) ≡ length Q + length pending
unfolding beginning
beginning_length [] pending = omega arith
beginning_length (b ∷ Q) pending = beginning_length Q (begin b ∷ pending) ∙ omega arith

between_length : (P Q : List Block) → length (between P Q) ≤ length P + length Q
unfolding between
between_length [] Q = omega (arith, beginning_length Q [])
between_length (a ∷ P) [] = omega (arith, ending_length (a ∷ P))
between_length (a ∷ P) (b ∷ Q) =
    by_cases (same_block a b) (λ e. rw e (omega (arith, between_length P Q)))
    (λ e. rw e (omega (arith, beginning_length (b ∷ Q) (ending (a ∷ P)), ending_length (a ∷ P))))

-- ---- a boundary more

module _ {s names first buf : List ℕ} {c : Content} {t : List ℕ} {ns : List Name} {P Q : List Block} {asks : Bool} where
  turned : {b : Boundary} {r : Content} {R : List Block} → Stands s names first buf c t ns P Q asks →
      Pushes s names c b r → pending_of s names r ≡ between P R → length R ≤ 8 → Stands s names first buf r t ns P R asks
  turned st p e f = record {
    wrote = rw p.at st.wrote;
    spaces = rw (p.spaces, p.depth) st.spaces;
    listed = p.listed;
    pending = e;
    section = p.section ∙ st.section;
    few_open = st.few_open;
    few_set = f;
  }

few_more : (Q : List Block) (B : Block) → length Q ≤ 7 → length (Q ++ (B ∷ [])) ≤ 8
few_more Q B f = omega (arith, length-append Q (B ∷ []))

module _ {s names first buf : List ℕ} {c : Content} {t : List ℕ} {ns : List Name} {P : List Block} {asks : Bool} where
  module _ (Q : List Block) (B : Block) (b : Boundary) (f : length Q ≤ 7) where
    module _ (e : boundary_of s names b ≡ begin B) (st : Stands s names first buf c t ns P Q asks) where
      begin_pending : push (boundary_of s names b) (pending_of s names c) ≡ between P (Q ++ (B ∷ []))
      begin_pending = rw (e, st.pending) (push_begin P Q B)

      pub begin_room : length (push (boundary_of s names b) (pending_of s names c)) ≤ max_pending
      begin_room = rw begin_pending (omega (arith, between_length P (Q ++ (B ∷ [])), few_more Q B f, st.few_open))

      pub begun : {r : Content} → Pushes s names c b r → Stands s names first buf r t ns P (Q ++ (B ∷ [])) asks
      begun p = turned st p (p.pending ∙ begin_pending) (few_more Q B f)

    module _ (e : boundary_of s names b ≡ end B) (st : Stands s names first buf c t ns P (Q ++ (B ∷ [])) asks) where
      end_pending : push (boundary_of s names b) (pending_of s names c) ≡ between P Q
      end_pending = rw (e, st.pending) (push_end P Q B)

      pub end_room : length (push (boundary_of s names b) (pending_of s names c)) ≤ max_pending
      end_room = rw end_pending (omega (arith, between_length P Q, f, st.few_open))

      pub ended : {r : Content} → Pushes s names c b r → Stands s names first buf r t ns P Q asks
      ended p = turned st p (p.pending ∙ end_pending) (omega arith)

-- ---- extern "C"

spaces_length : {s names : List ℕ} {c : Cursor} {depth : ℕ} {ns : List Name} → Spaces s names c depth ns →
    length ns ≡ depth
spaces_length {s} {names} {c} {depth} p = many_length (name_of (names_at s names)) s depth c.at p.are.is

no_names : (ns : List Name) → length ns ≡ 0 → ns ≡ []
no_names [] z = refl
no_names (n ∷ ns) z = absurd (omega arith)

named_few : {s names : List ℕ} {c : Cursor} {depth : ℕ} {ns : List Name} → Spaces s names c depth ns →
    length (named ns) ≤ 7
named_few {ns = ns} p = omega (arith, length-map ns user_defined_namespace, spaces_length p, p.shallow)

module _ {s names : List ℕ} {c : Content} where
  pub begin_extern_c_room : (w : Standing s names named c) →
      length (push (boundary_of s names (Begin ExternC)) (pending_of s names c)) ≤ max_pending
  begin_extern_c_room w =
      begin_room (named w.there.namespace) extern_c (Begin ExternC) (named_few w.there.stands.spaces) refl w.there.stands

  pub begins_extern_c : {r : Content} → Pushes s names c (Begin ExternC) r → Turns s names named inside c r
  begins_extern_c p =
      record { each = λ st. begun _ extern_c (Begin ExternC) (named_few st.spaces) refl st p }

  pub end_extern_c_room : (w : Standing s names inside c) →
      length (push (boundary_of s names (End ExternC)) (pending_of s names c)) ≤ max_pending
  end_extern_c_room w =
      end_room (named w.there.namespace) extern_c (End ExternC) (named_few w.there.stands.spaces) refl w.there.stands

  pub ends_extern_c : {r : Content} → Pushes s names c (End ExternC) r → Turns s names inside named c r
  ends_extern_c p =
      record { each = λ st. ended _ extern_c (End ExternC) (named_few st.spaces) refl st p }

-- ---- the names of a namespace, one after the other

-- one name more
named_more : (ns : List Name) (d : ℕ) → d < length ns →
    named (take (suc d) ns) ≡ named (take d ns) ++ (user_defined_namespace (get_or ns d []) ∷ [])
named_more ns d h =
    ap named (take-suc ns d [] h) ∙ map-append user_defined_namespace (take d ns) (get_or ns d [] ∷ [])

taken_few : (d : ℕ) (ns : List Name) → d ≤ 7 → length (named (take d ns)) ≤ 7
taken_few d ns h =
    omega (arith, length-map (take d ns) user_defined_namespace, length-take d ns)

module _ (s names : List ℕ) where
  -- ---- end_namespaces: the names from d on have ended

  pub record Ending (c₀ c : Content) (d : ℕ) : Type 0 where
    pub few : d ≤ c₀.depth
    pub turns : Turns s names named (λ ns. named (take d ns)) c₀ c

  pub ending_none : (c : Content) → Ending c c c.depth
  ending_none c = record {
    few = omega arith;
    turns = record {
      each = λ {first} {buf} {t} {ns} {P} {asks} st.
          rw (take_all c.depth ns (omega (arith, spaces_length st.spaces))) st;
    };
  }

  module _ {c₀ c : Content} (d : ℕ) {i : ℕ} (l : 0 < d) (g : Ending c₀ c d) (x : Indexes s names c₀.spaces (d - 1) i) where
    before_end : {first buf t : List ℕ} {ns : List Name} {P : List Block} {asks : Bool} →
        Stands s names first buf c₀ t ns P (named ns) asks →
        Stands s names first buf c t ns P
        (named (take (d - 1) ns) ++ (user_defined_namespace (get_or ns (d - 1) []) ∷ [])) asks
    before_end {ns = ns} st =
        let z : suc (d - 1) ≡ d = omega arith in
        rw (← named_more ns (d - 1) (omega (arith, spaces_length st.spaces, g.few)), z) (g.turns.each st)

    module _ (w : Standing s names named c₀) where
      found_end : (i < length names) × (name_at s (get_or names i 0) ≡ get_or w.there.namespace (d - 1) [])
      found_end = x.each w.there.stands.spaces (omega (arith, g.few))

      pub ending_known : i < length names
      ending_known = found_end.0

      pub ending_listed : Listed names c
      ending_listed = (before_end w.there.stands).listed

      pub ending_room : length (push (boundary_of s names (End (UserDefinedNamespace i))) (pending_of s names c)) ≤ max_pending
      ending_room =
          end_room (named (take (d - 1) w.there.namespace)) _ (End (UserDefinedNamespace i))
          (taken_few (d - 1) w.there.namespace (omega (arith, g.few, w.there.stands.spaces.shallow)))
          (ap (λ (y : Name). end (user_defined_namespace y)) found_end.1) (before_end w.there.stands)

    pub ending_turn : {r : Content} → Pushes s names c (End (UserDefinedNamespace i)) r → Ending c₀ r (d - 1)
    ending_turn p = record {
      few = omega (arith, g.few);
      turns = record {
        each = λ {first} {buf} {t} {ns} {P} {asks} st.
            ended (named (take (d - 1) ns)) (user_defined_namespace (get_or ns (d - 1) [])) (End (UserDefinedNamespace i))
            (taken_few (d - 1) ns (omega (arith, g.few, st.spaces.shallow)))
            (ap (λ (y : Name). end (user_defined_namespace y)) (x.each st.spaces (omega (arith, g.few))).1)
            (before_end st) p;
      };
    }

  pub ending_done : {c₀ c : Content} (d : ℕ) → d ≤ 0 → Ending c₀ c d → Turns s names named (λ _. []) c₀ c
  ending_done zero h g = g.turns
  ending_done (suc d) h g = absurd (omega arith)

  -- ---- begin_namespaces: the names before d have begun

  pub record Beginning (ms : List Name) (c₀ c : Content) (d : ℕ) : Type 0 where
    pub few : d ≤ length ms
    pub turns : Turns s names (λ _. []) (λ _. named (take d ms)) c₀ c

  pub beginning_none : (ms : List Name) (c : Content) → Beginning ms c c 0
  beginning_none ms c = record { few = omega arith; turns = record { each = λ st. st } }

  module _ {ms : List Name} {at : Cursor} {depth : ℕ} (p : Spaces s names at depth ms) {c₀ c : Content} (d : ℕ) {i : ℕ}
      (l : d < depth) (g : Beginning ms c₀ c d) (x : Indexes s names at d i) where
    found_begin : (i < length names) × (name_at s (get_or names i 0) ≡ get_or ms d [])
    found_begin = x.each p l

    few_begin : length (named (take d ms)) ≤ 7
    few_begin = taken_few d ms (omega (arith, p.shallow))

    name_begin : boundary_of s names (Begin (UserDefinedNamespace i)) ≡ begin (user_defined_namespace (get_or ms d []))
    name_begin = ap (λ (y : Name). begin (user_defined_namespace y)) found_begin.1

    pub beginning_known : i < length names
    beginning_known = found_begin.0

    module _ (w : Standing s names (λ _. []) c₀) where
      pub beginning_listed : Listed names c
      beginning_listed = (g.turns.each w.there.stands).listed

      pub beginning_room : length (push (boundary_of s names (Begin (UserDefinedNamespace i))) (pending_of s names c)) ≤ max_pending
      beginning_room =
          begin_room (named (take d ms)) _ (Begin (UserDefinedNamespace i)) few_begin name_begin
          (g.turns.each w.there.stands)

    pub beginning_turn : {r : Content} → Pushes s names c (Begin (UserDefinedNamespace i)) r → Beginning ms c₀ r (d + 1)
    beginning_turn q = record {
      few = omega (arith, spaces_length p);
      turns = record {
        each = λ st.
            rw (add-one d, named_more ms d (omega (arith, spaces_length p)))
            (begun (named (take d ms)) (user_defined_namespace (get_or ms d [])) (Begin (UserDefinedNamespace i)) few_begin
            name_begin (g.turns.each st) q);
      };
    }

  pub beginning_done : {ms : List Name} {at : Cursor} {depth : ℕ} {c₀ c : Content} (d : ℕ) → Spaces s names at depth ms →
      depth ≤ d → Beginning ms c₀ c d → Turns s names (λ _. []) (λ _. named ms) c₀ c
  beginning_done {ms} d p h g = rw (take_all d ms (omega (arith, spaces_length p))) at g.turns

  -- ---- set_namespace

  pub sets : {ms : List Name} {at : Cursor} {depth : ℕ} {c ended begun : Content} → Spaces s names at depth ms →
      Turns s names named (λ _. []) c ended → Turns s names (λ _. []) (λ _. named ms) ended begun →
      Sets s names ms c (respaced begun at depth)
  sets p f g = record {
    each = λ st.
        let u = g.each (f.each st) in
        record {
          wrote = u.wrote;
          spaces = p;
          listed = record { room = u.listed.room; few = u.listed.few; known = u.listed.known };
          pending = u.pending;
          section = u.section;
          few_open = u.few_open;
          few_set = u.few_set;
        };
  }

  -- no namespace before, and none behind
  pub sets_outermost : {ms : List Name} {at : Cursor} {depth : ℕ} {c : Content} → Spaces s names at depth ms →
      c.depth ≡ 0 → depth ≡ 0 → Sets s names ms c c
  sets_outermost {ms} p d e = record {
    each = λ {ns = ns} st.
        let z : ms ≡ ns = no_names ms (spaces_length p ∙ e) ∙ sym (no_names ns (spaces_length st.spaces ∙ d)) in
        rw z st;
  }

  -- the namespace of an item, and that of none

  pub item_spaces : {n : ℕ} {x : Item} (v : ItemView) → ViewOf s names n x v →
      (namespace_at s names v.spaces v.depth ≡ x.namespace) ×
      Spaces s names v.spaces v.depth (namespace_at s names v.spaces v.depth)
  unfolding namespace_at
  item_spaces v w =
      let e = yielded [] w.spaces in
      (e, rw e record { are = w.spaces; shallow = w.shallow; near = w.near })

  pub no_spaces : (namespace_at s names (record { at = 0 }) 0 ≡ []) ×
      Spaces s names (record { at = 0 }) 0 (namespace_at s names (record { at = 0 }) 0)
  unfolding namespace_at many
  no_spaces = (refl, starts_spaces s names)

  pub sets_item : {n : ℕ} {x : Item} {v : ItemView} {c r : Content} → ViewOf s names n x v →
      Sets s names (namespace_at s names v.spaces v.depth) c r → Sets s names x.namespace c r
  sets_item {v = v} w p = rw (item_spaces v w).0 at p

  pub sets_none : {c r : Content} → Sets s names (namespace_at s names (record { at = 0 }) 0) c r → Sets s names [] c r
  sets_none p = rw no_spaces.0 at p

pub standing_turned : {s names : List ℕ} {from to : List Name → List Block} {c r : Content} →
    Turns s names from to c r → Standing s names from c → Standing s names to r
standing_turned p w =
    let v = w.there in
    record {
      buf = w.buf;
      there = record {
        first = v.first;
        text = v.text;
        namespace = v.namespace;
        opened = v.opened;
        asks = v.asks;
        stands = p.each v.stands;
      };
    }
