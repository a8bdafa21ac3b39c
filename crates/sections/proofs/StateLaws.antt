-- The states of the code on the way through the steps of out.rs, and what the steps come to between two items.
use mathlib.Core.Path.{◌≡◌, sym, ap, ◌∙◌}
use mathlib.Core.List.{List, [], ◌++◌, append_assoc}
use mathlib.Core.Bool.{Bool, true, false}
use Prim.Native.Nat.{ℕ}
use Rattle.format.specs.Sheet.{Name}
use Rattle.bridge.specs.Block.{Block, extern_c}
use Rattle.bridge.specs.Out as machine
use Rattle.bridge.specs.Out.{some, begin_block, end_block}
use Rattle.pieces.specs.Pieces.{change}
use Rattle.pieces.specs.Between.{named, standing}
use Rattle.pieces.proofs.Machine.{change_append, change_none, push_begin_block, push_end_block, section_asked}
use Rattle.pieces.proofs.Machine.{namespace_set, piece_written}
use Rattle.sink.specs.Sink.{sink, Wrote}
use Rattle.out.specs.declared.Content.{Content}
use Rattle.out.specs.State.{Listed, Stands, StandingIn, Standing, inside}
use Rattle.out.specs.Steps.{asking, behind, Turns, Sets, Prepares}
use Rattle.out.proofs.StateLaws.{asked, placed}
use Rattle.sections.specs.Runs.{Represents, Representing, Runs}

-- ---- a state, whatever its text and its namespace

stood : {s names first buf t : List ℕ} {ns : List Name} {P : List Block} {asks : Bool} {c : Content}
    (around : List Name → List Block) → Stands s names first buf c t ns P (around ns) asks → StandingIn s names buf around c
stood {first = first} {t = t} {ns = ns} {P = P} {asks = asks} around h =
    record { first = first; text = t; namespace = ns; opened = P; asks = asks; stands = h }

pub representing_stood : {s names buf : List ℕ} {c : Content} → Representing s names buf c → StandingIn s names buf named c
representing_stood h = stood named h.represents.stands

module _ {s names buf : List ℕ} {c r : Content} where
  pub stood_set : {xs : List Name} → StandingIn s names buf named c → Sets s names xs c r → StandingIn s names buf named r
  stood_set a p = stood named (p.each a.stands)

  pub stood_turned : {from to : List Name → List Block} → StandingIn s names buf from c → Turns s names from to c r →
      StandingIn s names buf to r
  stood_turned {to = to} a p = stood to (p.each a.stands)

  pub stood_asked : {around : List Name → List Block} → StandingIn s names buf around c → r ≡ asking c →
      StandingIn s names buf around r
  stood_asked {around} a e = stood around (asked e a.stands)

  pub stood_ready : {around : List Name → List Block} {after : List ℕ} → StandingIn s names buf around c →
      Prepares s names buf after c r → StandingIn s names after around r
  stood_ready {around} a p = stood around (p.each a.stands)

  pub stood_placed : {around : List Name → List Block} {after text : List ℕ} {at : ℕ} → StandingIn s names buf around c →
      Wrote (sink buf c.at) text (sink after at) → r ≡ behind c at → StandingIn s names after around r
  stood_placed {around} a w e = stood around (placed e a.stands w)

module _ {s names buf : List ℕ} {around : List Name → List Block} {c : Content} (a : StandingIn s names buf around c) where
  pub stood_standing : Standing s names around c
  stood_standing = record { buf = buf; there = a }

  pub stood_listed : Listed names c
  stood_listed = a.stands.listed

-- ---- steps as runs

pub represent : {s names first buf t : List ℕ} {ns : List Name} {P : List Block} {asks : Bool} {c : Content}
    {m : machine.Content} → m ≡ standing t ns P (named ns) asks →
    Stands s names first buf c t ns P (named ns) asks → Represents s names first buf c m
represent {t = t} {ns = ns} {P = P} {asks = asks} e h =
    record { text = t; namespace = ns; opened = P; asks = asks; is = e; stands = h }

pub representing_after : {s names buf after : List ℕ} {K : machine.Content → machine.Content} {c r : Content} →
    Representing s names buf c → Runs s names buf after K c r → Representing s names after r
representing_after {K = K} h run = record { first = h.first; state = K h.state; represents = run.each h.represents }

pub runs_as : {s names buf after : List ℕ} {K L : machine.Content → machine.Content} {c r : Content} →
    ((m : machine.Content) → K m ≡ L m) → Runs s names buf after K c r → Runs s names buf after L c r
runs_as {s} {names} {buf} {after} {K} {L} {c} {r} e run =
    record { each = λ {first} {m} h. rw (e m) at (run.each h) }

pub runs_none : {s names buf : List ℕ} {c : Content} → Runs s names buf buf (λ m. m) c c
runs_none = record { each = λ h. h }

pub runs_then : {s names buf mid after : List ℕ} {K L : machine.Content → machine.Content} {c d r : Content} →
    Runs s names buf mid K c d → Runs s names mid after L d r → Runs s names buf after (λ m. L (K m)) c r
runs_then p q = record { each = λ h. q.each (p.each h) }

pub runs_set : {s names buf : List ℕ} {xs : List Name} {c r : Content} → Sets s names xs c r →
    Runs s names buf buf (machine.set_namespace xs) c r
runs_set {xs = xs} p =
    record {
      each = λ h. represent (rw h.is (namespace_set h.text h.namespace h.opened h.asks xs))
          (p.each h.stands);
    }

pub runs_asked : {s names buf : List ℕ} {c r : Content} → r ≡ asking c → Runs s names buf buf machine.next_section c r
runs_asked e =
    record {
      each = λ h.
          represent (rw h.is (section_asked h.text h.namespace h.opened (named h.namespace) h.asks))
          (asked e h.stands);
    }

-- what is written before a text, and the text
ready_text : (t : List ℕ) (started asks : Bool) (P Q : List Block) (r : List ℕ) →
    t ++ change started asks P Q r ≡ t ++ change started asks P Q [] ++ r
ready_text t started asks P Q r =
    ap (λ (x : List ℕ). t ++ x) (sym (change_append started asks P Q [] r))
    ∙ sym (append_assoc t (change started asks P Q []) r)

pub runs_written : {s names buf mid after t : List ℕ} {c d r : Content} {at : ℕ} → some t ≡ true →
    Prepares s names buf mid c d → Wrote (sink mid d.at) t (sink after at) → r ≡ behind d at →
    Runs s names buf after (machine.write t) c r
runs_written {t = t} e p w q =
    record {
      each = λ h.
          let Q = named h.namespace in
          represent
          (rw (h.is, piece_written h.text h.namespace h.opened Q h.asks t e)
          (ap (λ (x : List ℕ). standing x h.namespace Q Q false)
          (ready_text h.text (some h.text) h.asks h.opened Q t)))
          (placed q (p.each h.stands) w);
    }

-- ---- in extern "C"

module _ {s names buf : List ℕ} {xs : List Name} {c c₁ c₂ : Content} (sets : Sets s names xs c c₁)
    (begins : Turns s names named inside c₁ c₂) where
  -- a declaration in a section of its own
  pub runs_declared : (t : List ℕ) {mid after : List ℕ} {c₃ c₄ c₅ r : Content} {at : ℕ} → some t ≡ true → c₃ ≡ asking c₂ →
      Prepares s names buf mid c₃ c₄ → Wrote (sink mid c₄.at) t (sink after at) → c₅ ≡ behind c₄ at →
      Turns s names inside named c₅ r →
      Runs s names buf after
      (λ m. end_block extern_c
      (machine.write t (machine.next_section (begin_block extern_c (machine.set_namespace xs m))))) c r
  runs_declared t e a ready w p ends =
      record {
        each = λ h.
            let Q = inside xs in
            let u = h.text ++ change (some h.text) true h.opened Q t in
            represent
            (rw (
              h.is,
              namespace_set h.text h.namespace h.opened h.asks xs,
              push_begin_block h.text xs h.opened (named xs) h.asks extern_c,
              section_asked h.text xs h.opened Q h.asks,
              piece_written h.text xs h.opened Q true t e,
              push_end_block u xs Q (named xs) false extern_c,
            )
            (ap (λ (x : List ℕ). standing x xs Q (named xs) false)
            (ready_text h.text (some h.text) true h.opened Q t)))
            (ends.each (placed p (ready.each (asked a (begins.each (sets.each h.stands)))) w));
      }

  -- two declarations with no section between them
  pub runs_declared_two : (t u : List ℕ) {mid after : List ℕ} {c₃ c₄ r : Content} {at : ℕ} → some t ≡ true → some u ≡ true →
      Prepares s names buf mid c₂ c₃ → Wrote (sink mid c₃.at) (t ++ u) (sink after at) → c₄ ≡ behind c₃ at →
      Turns s names inside named c₄ r →
      Runs s names buf after
      (λ m. end_block extern_c (machine.write u (machine.write t (begin_block extern_c (machine.set_namespace xs m))))) c r
  runs_declared_two t u e g ready w p ends =
      record {
        each = λ h.
            let Q = inside xs in
            let t₁ = h.text ++ change (some h.text) h.asks h.opened Q t in
            represent
            (rw (
              h.is,
              namespace_set h.text h.namespace h.opened h.asks xs,
              push_begin_block h.text xs h.opened (named xs) h.asks extern_c,
              piece_written h.text xs h.opened Q h.asks t e,
              piece_written t₁ xs Q Q false u g,
              change_none (some t₁) false Q u,
              push_end_block (t₁ ++ u) xs Q (named xs) false extern_c,
            )
            (ap (λ (x : List ℕ). standing x xs Q (named xs) false)
            (ap (λ (x : List ℕ). x ++ u) (ready_text h.text (some h.text) h.asks h.opened Q t)
            ∙ append_assoc (h.text ++ change (some h.text) h.asks h.opened Q []) t u)))
            (ends.each (placed p (ready.each (begins.each (sets.each h.stands))) w));
      }
