-- Texts that are counted, and the lengths that a summary keeps.
use Rattle.std.proofs.Common.{◌≡◌, ℕ, ◌+◌, ◌-◌, ◌/◌, ◌%◌, ◌<◌, ◌≤◌, min, Bool, false, List, [], length, get_or, sym, refl, ap, arith}
use lib.Seq.{length-slice}
use Rattle.lexical.specs.Bytes.{bytes}
use Rattle.lexical.specs.Decimal.{pick_text}
use Rattle.bridge.specs.Write.{commas}
use Rattle.sink.specs.Sink.{sink, limit, Wrote}
use Rattle.sink.proofs.SinkLaws.{◌▷◌, wrote_as, wrote_length, wrote_place}
use Rattle.sink.proofs.StoreLaws.{wrote_none}
use Rattle.view.specs.Values.{name_at}
use Rattle.tables.specs.Tables.{names_in, Lent}
use Rattle.count_type.specs.Counts.{Counts}
use Rattle.shape.proofs.CommaLaws.{commas_behind}
use Rattle.count_type.proofs.CountLaws.{wrote_counted}
use Rattle.summary.specs.declared.count.Places.{Places}
use Rattle.summary.specs.Places.{Word, Passed, Placed}

-- a name that is in the pool
pub name_spelled : {s t pool : List ℕ} (i : ℕ) → Lent s t pool → i < length (names_in t) →
    (get_or t (1280 + i) 0 ≡ 0 → ⊥) →
    get_or t (1280 + i) 0 % 64 ≡ min limit (length (name_at s (get_or (names_in t) i 0)))
name_spelled {s} {t} {pool} i p l h =
    let q = p.names i l h in
    let a : ℕ = get_or t (1280 + i) 0 / 64 in
    omega (arith, length-slice a (a + get_or t (1280 + i) 0 % 64) pool q.near, ap length q.is)

-- ---- places in an empty buffer

-- behind a text of that length
pub passed : {text : List ℕ} {at n r : ℕ} → n ≡ length text → 0 < at → at ≤ limit → r ≡ min limit (at + n) →
    Wrote (sink [] at) text (sink [] r)
passed e h g q = wrote_none (sym e) (omega arith) g q

-- the same, where the length was counted in a buffer
pub passed_near : {text : List ℕ} {at n r : ℕ} → n ≡ min limit (length text) → 0 < at → at ≤ limit →
    r ≡ min limit (at + n) → Wrote (sink [] at) text (sink [] r)
passed_near {text} {at} e h g q = wrote_none {n = length text} refl (omega arith) g (omega arith)

pub positive : {n : ℕ} → (n ≡ 0 → ⊥) → 0 < n
positive h = omega arith

-- a place that was advanced
pub ahead : (at n : ℕ) {r : ℕ} → r ≡ min limit (at + n) → 0 < at → 0 < r
ahead at n e h = omega arith

pub within : (at n : ℕ) {r : ℕ} → r ≡ min limit (at + n) → r ≤ limit
within at n e = omega arith

-- a place behind a text
pub later : {text : List ℕ} {at r : ℕ} → Wrote (sink [] at) text (sink [] r) → 0 < at → at ≤ limit → 0 < r
later p h g = ahead _ _ (wrote_place p g) h

pub near : {text : List ℕ} {at r : ℕ} → Wrote (sink [] at) text (sink [] r) → at ≤ limit → r ≤ limit
near p g = within _ _ (wrote_place p g)

-- the places alone
pub alone : {l m text : List ℕ} {at r : ℕ} → 0 < at → at ≤ limit → Wrote (sink l at) text (sink m r) →
    Wrote (sink [] at) text (sink [] r)
alone {text = text} h g p = wrote_none {n = length text} refl (omega arith) g (wrote_place p g)

-- ---- the places of four texts

pub placed : {a b c d : List ℕ} {p : Places} → Wrote (sink [] 1) a (sink [] p.exts) →
    Wrote (sink [] 1) b (sink [] p.pars) → Wrote (sink [] 1) c (sink [] p.locals) →
    Wrote (sink [] 1) d (sink [] p.operands) → Placed p
placed x y u v = record {
  exts = (later x (omega arith) (omega arith), near x (omega arith));
  pars = (later y (omega arith) (omega arith), near y (omega arith));
  locals = (later u (omega arith) (omega arith), near u (omega arith));
  operands = (later v (omega arith) (omega arith), near v (omega arith));
}

pub placed_behind : {p q : Places} (gap : ℕ) → Placed p →
    (q.exts ≡ min limit (p.exts + gap)) × (q.pars ≡ min limit (p.pars + gap)) × (q.locals ≡ p.locals) ×
    (q.operands ≡ min limit (p.operands + gap)) → Placed q
placed_behind gap h e = record {
  exts = (ahead _ gap e.0 h.exts.0, within _ gap e.0);
  pars = (ahead _ gap e.1 h.pars.0, within _ gap e.1);
  locals = rw e.2 h.locals;
  operands = (ahead _ gap e.3 h.operands.0, within _ gap e.3);
}

pub passed_none : {x y u v : List ℕ} {p r : Places} → r.exts ≡ 0 → Passed x y u v p r
passed_none e = record {
  declared_to = λ h. absurd (h e);
  defined_to = λ h. absurd (h e);
  held_to = λ h. absurd (h e);
  operands_to = λ h. absurd (h e);
}

pub passed_all : {x y u v : List ℕ} {p r : Places} → Wrote (sink [] p.exts) x (sink [] r.exts) →
    Wrote (sink [] p.pars) y (sink [] r.pars) → Wrote (sink [] p.locals) u (sink [] r.locals) →
    Wrote (sink [] p.operands) v (sink [] r.operands) → Passed x y u v p r
passed_all a b c d = record {
  declared_to = λ h. a;
  defined_to = λ h. b;
  held_to = λ h. c;
  operands_to = λ h. d;
}

-- ---- lengths

-- the length of a text from place 1 on
pub counted : {l m text : List ℕ} {r : ℕ} → Wrote (sink l 1) text (sink m r) → r < limit → Counts text (r - 1)
counted p h = record { exact = λ z. omega (arith, wrote_place p (omega arith)) }

-- the same as a word
pub counted_word : {text : List ℕ} {place r : ℕ} → Wrote (sink [] 1) text (sink [] place) → Word place r → Counts text r
counted_word p w = record { exact = λ z. omega (arith, wrote_place p (omega arith), w.exact z) }

pub word_none : (place : ℕ) → Word place 0
word_none place = record { exact = λ z. absurd (z refl) }

pub word_some : {place : ℕ} → 0 < place → place < limit → Word place (place - 1)
word_some h g = record { exact = λ z. (omega arith, g) }

-- the length in a word that was read
pub kept : {text : List ℕ} {n w : ℕ} → n ≡ w → Counts text w → Counts text n
kept e c = rw e c

-- a list that was counted, behind a comma or none, where the buffer ends before the place
pub list_counted : {l m : List ℕ} {at next n r : ℕ} (b : Bool) (xs : List (List ℕ)) → length l < at → at ≤ limit →
    Wrote (sink l at) (pick_text b (bytes ", ") []) (sink m next) → Counts (commas false xs) n → 0 < n →
    r ≡ min limit (next + n) → Wrote (sink l at) (commas b xs) (sink m r)
list_counted {l} {m} {at} {next} {n} b xs past g p c h e =
    let place = wrote_place p g in
    let same : length m ≡ length l = wrote_length p in
    wrote_as (p ▷ wrote_counted (omega arith) c h (omega arith) e)
    (commas_behind b xs (λ z. let k = c.exact (λ y. omega arith) in omega arith))
