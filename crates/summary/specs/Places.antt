-- Texts that are counted in an empty buffer, from a place behind its end on.
use Rattle.std.specs.Prelude.{◌≡◌, ℕ, ◌+◌, ◌<◌, ◌≤◌, List, [], ◌≢◌}
use Rattle.sink.specs.Sink.{sink, limit, Wrote}
use Rattle.summary.specs.declared.count.Places.{Places}

-- a word that has the length of a text from place 1 on up to this place, or 0
pub record Word (place r : ℕ) : Type 0 where
  pub exact : (r ≢ 0) → (r + 1 ≡ place) × (place < limit)

-- r has the places behind the texts of the declaration, the head, the locals and the operands, each from that of
-- `before` on, or 0 in the first
pub record Passed (declared defined held operands : List ℕ) (before r : Places) : Type 0 where
  pub declared_to : (r.exts ≢ 0) → Wrote (sink [] before.exts) declared (sink [] r.exts)
  pub defined_to : (r.exts ≢ 0) → Wrote (sink [] before.pars) defined (sink [] r.pars)
  pub held_to : (r.exts ≢ 0) → Wrote (sink [] before.locals) held (sink [] r.locals)
  pub operands_to : (r.exts ≢ 0) → Wrote (sink [] before.operands) operands (sink [] r.operands)

-- places behind the beginning of an empty buffer
pub record Placed (p : Places) : Type 0 where
  pub exts : (0 < p.exts) × (p.exts ≤ limit)
  pub pars : (0 < p.pars) × (p.pars ≤ limit)
  pub locals : (0 < p.locals) × (p.locals ≤ limit)
  pub operands : (0 < p.operands) × (p.operands ≤ limit)
