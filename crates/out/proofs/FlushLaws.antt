-- Laws of flush_blocks, of what stands before a text, and of the end.
use mathlib.Core.Path.{◌≡◌, refl, sym, ap, ap₂, ◌∙◌}
use mathlib.Core.List.{List, [], ◌∷◌, ◌++◌, append_assoc, append-nil}
use mathlib.Core.Bool.{Bool, true, false, ◌&&◌}
use Prim.Native.Nat.{ℕ, zero, suc, ◌+◌, ◌<◌, ◌≤◌}
use native.Mathlib.Omega.{arith}
use native.Mathlib.Numerals.{add-one}
use lib.ListN.{length}
use lib.Dec.{ltb}
use borrow.Author.Tests.{lt-ltb, le-ltb}
use Rattle.lexical.specs.Bytes.{bytes}
use Rattle.lexical.specs.Decimal.{pick_text}
use Rattle.format.specs.Sheet.{Name}
use Rattle.sink.specs.Sink.{sink, Wrote}
use Rattle.sink.proofs.SinkLaws.{◌▷◌, wrote_as, wrote_place, wrote_length}
use Rattle.bridge.specs.Block.{Block}
use Rattle.bridge.specs.Out as machine
use Rattle.bridge.specs.Out.{begin, end, some, flush_boundary, flush_all, flush_blocks, is_pending}
use Rattle.pieces.specs.Pieces.{change}
use Rattle.pieces.specs.Between.{named, between}
use Rattle.pieces.proofs.Boundaries.{between_same}
use Rattle.pieces.specs.Between.{standing}
use Rattle.pieces.proofs.Machine.{flushed_append, blocks_flushed}
use Rattle.out.specs.declared.Boundary.{Boundary}
use Rattle.out.specs.declared.Boundary.TheVariants.{Begin, End}
use Rattle.out.specs.declared.Pending.{Pending}
use Rattle.out.specs.declared.Content.{Content}
use Rattle.out.specs.declared.Flushed.{Flushed}
use Rattle.out.specs.State.{boundary_of, boundary_at, latest, pending_of, Listed, Stands, Standing}
use Rattle.out.specs.Steps.{Sets, boundary_text, is_end, Reached, Flushing, Prepares, Flushes}

-- there is text where the place is not the first
started : (t : List ℕ) {first buf : List ℕ} {at : ℕ} → Wrote (sink first 0) t (sink buf at) → ltb 0 at ≡ some t
started [] {at = at} p = le-ltb 0 at (omega (arith, wrote_place p (omega arith)))
started (b ∷ t) {at = at} p = lt-ltb 0 at (omega (arith, wrote_place p (omega arith)))

-- ---- one turn

turn_text : (b : machine.Boundary) (m : machine.Content) →
    (flush_boundary b m).text ≡ m.text ++ boundary_text m.section_pending b
turn_text (begin b) m = append_assoc m.text _ _
turn_text (end b) m = refl

turn_section : (s names : List ℕ) (b : Boundary) (m : machine.Content) →
    (flush_boundary (boundary_of s names b) m).section_pending ≡ is_end b
turn_section s names (Begin b) m = refl
turn_section s names (End b) m = refl

-- ---- the loop: the first i boundaries are flushed

abbrev flushed_as : ℕ → Bool → Flushed
flushed_as at section = record { at = at; section = section }

none_flushed : (m : machine.Content) → is_pending m.pending ≡ false → flush_blocks m ≡ m
unfolding flush_blocks
none_flushed m e = rw e

some_flushed : (m : machine.Content) → is_pending m.pending ≡ true → flush_blocks m ≡ flush_all m.pending m
unfolding flush_blocks
some_flushed m e = rw e

-- c with nothing pending behind more text
abbrev pub settled : Content → ℕ → Content
settled c at = record {
  at = at;
  spaces = c.spaces;
  depth = c.depth;
  pending = c.pending;
  count = 0;
  section_pending = false;
}

module _ (s names : List ℕ) where
  pub record Turned (out₀ : List ℕ) (c : Content) (out : List ℕ) (at : ℕ) (section : Bool) (i : ℕ) : Type 0 where
    pub few : i ≤ c.count
    pub long : length out ≡ length out₀
    pub each : {first : List ℕ} (m : machine.Content) → Wrote (sink first 0) m.text (sink out₀ c.at) →
        Reached first out (flushed_as at section) (flush_all (latest s names c.pending i) m)

  pub turned_none : (out : List ℕ) (c : Content) → Turned out c out c.at (ltb 0 c.at) 0
  unfolding latest flush_all
  turned_none out c = record {
    few = omega arith;
    long = refl;
    each = λ m p. record { wrote = p; section = started m.text p };
  }

  pub turned_one : {out₀ : List ℕ} {c : Content} {out after : List ℕ} {at next : ℕ} {section : Bool} (i : ℕ) → i < c.count →
      Turned out₀ c out at section i → {b : Boundary} → b ≡ boundary_at c.pending i →
      Wrote (sink out at) (boundary_text section (boundary_of s names b)) (sink after next) →
      {ended : Bool} → ended ≡ is_end b → Turned out₀ c after next ended (i + 1)
  unfolding latest flush_all
  turned_one {c = c} {section = section} i l g {b} is w e = record {
    few = omega arith;
    long = wrote_length w ∙ g.long;
    each = λ m p.
        let n = flush_all (latest s names c.pending i) m in
        let r = g.each m p in
        rw (add-one i, ← is) (record {
          wrote = wrote_as (r.wrote ▷ w) (rw r.section (sym (turn_text (boundary_of s names b) n)));
          section = e ∙ sym (turn_section s names b n);
        });
  }

  pub turned_all : {out₀ : List ℕ} {c : Content} {out : List ℕ} {at : ℕ} {section : Bool} (i : ℕ) → c.count ≤ i →
      Turned out₀ c out at section i → Flushing s names out₀ out flush_all c (flushed_as at section)
  turned_all {c = c} i h g =
      let z : i ≡ c.count = omega (arith, g.few) in
      record { each = λ m p _ _. rw (← z) (g.each m p) }

  -- ---- flush_blocks

  nothing_pending : (c : Content) → c.count ≡ 0 → is_pending (pending_of s names c) ≡ false
  unfolding latest
  nothing_pending c z = rw z

  some_pending : (l : List Pending) (n : ℕ) → (n ≡ 0 → ⊥) → is_pending (latest s names l n) ≡ true
  unfolding latest
  some_pending l zero h = absurd (h refl)
  some_pending l (suc n) h = refl

  pub flushing_none : (out : List ℕ) (c : Content) → c.count ≡ 0 →
      Flushing s names out out (λ _ m. flush_blocks m) c (flushed_as c.at c.section_pending)
  flushing_none out c z = record {
    each = λ m p e f.
        rw (none_flushed m (ap is_pending (sym f) ∙ nothing_pending c z)) (record { wrote = p; section = e });
  }

  pub flushing_some : {out after : List ℕ} {c : Content} {r : Flushed} → (c.count ≡ 0 → ⊥) →
      Flushing s names out after flush_all c r → Flushing s names out after (λ _ m. flush_blocks m) c r
  flushing_some {c = c} n g = record {
    each = λ m p e f.
        rw (some_flushed m (ap is_pending (sym f) ∙ some_pending c.pending c.count n)
        ∙ ap (λ (l : List machine.Boundary). flush_all l m) (sym f))
        (g.each m p e f);
  }

  -- ---- before a text

  flushed : {out after first : List ℕ} {c : Content} {r : Flushed} {t : List ℕ} {ns : List Name} {P Q : List Block}
      {asks : Bool} → Flushing s names out after (λ _ m. flush_blocks m) c r →
      Stands s names first out c t ns P Q asks → Reached first after r (flush_blocks (standing t ns P Q asks))
  unfolding standing
  flushed {t = t} {ns = ns} {P = P} {Q = Q} {asks = asks} g st =
      g.each (standing t ns P Q asks) st.wrote st.section st.pending

  appended_text : (t : List ℕ) (ns : List Name) (P Q : List Block) (asks : Bool) →
      let m = flush_blocks (standing t ns P Q asks) in
      m.text ++ pick_text (m.section_pending && some m.text) (bytes "\n") [] ≡ t ++ change (some t) asks P Q []
  unfolding standing
  appended_text t ns P Q asks =
      sym (append-nil _) ∙ ap (λ (m : machine.Content). m.text) (flushed_append t ns P Q asks [])

  settled_pending : (c : Content) (at : ℕ) (Q : List Block) → pending_of s names (settled c at) ≡ between Q Q
  unfolding latest
  settled_pending c at Q = sym (between_same Q)

  pub prepares : {out between after : List ℕ} {c : Content} {f : Flushed} {at : ℕ} {blank : Bool} →
      Flushing s names out between (λ _ m. flush_blocks m) c f → blank ≡ (f.section && ltb 0 f.at) →
      Wrote (sink between f.at) (pick_text blank (bytes "\n") []) (sink after at) →
      Prepares s names out after c (settled c at)
  prepares {c = c} {f = f} {at = at} g e w = record {
    each = λ {first} {t} {ns} {P} {Q} {asks} st.
        let r = flushed g st in
        let m = flush_blocks (standing t ns P Q asks) in
        let z = e ∙ ap₂ (λ (a b : Bool). a && b) r.section (started m.text r.wrote) in
        record {
          wrote = wrote_as (r.wrote ▷ w)
              (ap (λ (b : Bool). m.text ++ pick_text b (bytes "\n") []) z ∙ appended_text t ns P Q asks);
          spaces = st.spaces;
          listed = record { room = st.listed.room; few = omega arith; known = λ i l. absurd (omega arith) };
          pending = settled_pending c at Q;
          section = refl;
          few_open = st.few_set;
          few_set = st.few_set;
        };
  }

  -- ---- the end

  pub flushes : {out after : List ℕ} {c outermost : Content} {f : Flushed} → Sets s names [] c outermost →
      Flushing s names out after (λ _ m. flush_blocks m) outermost f → Flushes s names out after c f.at
  flushes k g = record {
    each = λ {first} {t} {ns} {P} {asks} st.
        let r = flushed g (k.each st) in
        wrote_as r.wrote (blocks_flushed t [] P asks).0;
  }

  pub sets_listed : {c r : Content} {ms : List Name} → Sets s names ms c r → Standing s names named c → Listed names r
  sets_listed k w = (k.each w.there.stands).listed
