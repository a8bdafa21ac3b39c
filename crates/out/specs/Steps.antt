-- What the functions of the code do to a state, whichever it is.
use Rattle.std.specs.Prelude.{◌≡◌, List, [], ◌++◌, Bool, true, false, ℕ, ◌+◌, ◌<◌, length, get_or, set}
use Rattle.lexical.specs.Bytes.{bytes}
use Rattle.lexical.specs.Decimal.{pick_text}
use Rattle.format.specs.Sheet.{Name}
use Rattle.cursor.specs.declared.Cursor.{Cursor}
use Rattle.sink.specs.Sink.{sink, Wrote}
use Rattle.view.specs.Values.{name_at}
use Rattle.bridge.specs.Block.{Block, write_begin, write_end}
use Rattle.bridge.specs.Out as machine
use Rattle.pieces.specs.Pieces.{closings, change}
use Rattle.pieces.specs.Between.{named}
use Rattle.out.specs.declared.Boundary.{Boundary}
use Rattle.out.specs.declared.Boundary.TheVariants.{Begin, End}
use Rattle.out.specs.declared.Content.{Content}
use Rattle.out.specs.declared.Flushed.{Flushed}
use Rattle.out.specs.State.{boundary_of, packed, pending_of, Listed, Spaces, Stands}

-- ---- new, next_section, and text behind the text

pub record Starts (r : Content) : Type 0 where
  pub each : {s names first : List ℕ} → Stands s names first first r [] [] [] [] false

-- c with a section pending
abbrev pub asking : Content → Content
asking c = record {
  at = c.at;
  spaces = c.spaces;
  depth = c.depth;
  pending = c.pending;
  count = c.count;
  section_pending = true;
}

-- c behind more text
abbrev pub behind : Content → ℕ → Content
behind c at = record {
  at = at;
  spaces = c.spaces;
  depth = c.depth;
  pending = c.pending;
  count = c.count;
  section_pending = c.section_pending;
}

-- ---- push_block_boundary

-- c with one boundary more
abbrev pub appended_to : Content → Boundary → Content
appended_to c b = record {
  at = c.at;
  spaces = c.spaces;
  depth = c.depth;
  pending = set c.pending c.count (packed b);
  count = c.count + 1;
  section_pending = c.section_pending;
}

-- r is c with other boundaries pending
pub record Pushes (s names : List ℕ) (c : Content) (b : Boundary) (r : Content) : Type 0 where
  pub at : r.at ≡ c.at
  pub spaces : r.spaces ≡ c.spaces
  pub depth : r.depth ≡ c.depth
  pub section : r.section_pending ≡ c.section_pending
  pub listed : Listed names r
  pub pending : pending_of s names r ≡ machine.push (boundary_of s names b) (pending_of s names c)

-- ---- blocks and namespaces

-- other blocks are set for the same namespace
pub record Turns (s names : List ℕ) (from to : List Name → List Block) (c r : Content) : Type 0 where
  pub each : {first buf t : List ℕ} {ns : List Name} {P : List Block} {asks : Bool} →
      Stands s names first buf c t ns P (from ns) asks → Stands s names first buf r t ns P (to ns) asks

-- another namespace is set
pub record Sets (s names : List ℕ) (ms : List Name) (c r : Content) : Type 0 where
  pub each : {first buf t : List ℕ} {ns : List Name} {P : List Block} {asks : Bool} →
      Stands s names first buf c t ns P (named ns) asks → Stands s names first buf r t ms P (named ms) asks

-- i is the index of name d of the namespace that stands at a position
pub record Indexes (s names : List ℕ) (c : Cursor) (d i : ℕ) : Type 0 where
  pub each : {depth : ℕ} {ns : List Name} → Spaces s names c depth ns → d < depth →
      (i < length names) × (name_at s (get_or names i 0) ≡ get_or ns d [])

-- ---- flush_blocks

-- what one turn of its loop writes, and whether a section is pending behind it
abbrev pub boundary_text : Bool → machine.Boundary → List ℕ
boundary_text section (machine.begin b) = pick_text section (bytes "\n") [] ++ write_begin b
boundary_text section (machine.end b) = write_end b

abbrev pub is_end : Boundary → Bool
is_end (Begin b) = false
is_end (End b) = true

-- the machine's text is in the buffer, and its section is pending as in r
pub record Reached (first buf : List ℕ) (r : Flushed) (m : machine.Content) : Type 0 where
  pub wrote : Wrote (sink first 0) m.text (sink buf r.at)
  pub section : r.section ≡ m.section_pending

-- flush_blocks, or its loop over the boundaries that are pending
pub record Flushing (s names buf after : List ℕ) (run : List machine.Boundary → machine.Content → machine.Content)
    (c : Content) (r : Flushed) : Type 0 where
  pub each : {first : List ℕ} (m : machine.Content) → Wrote (sink first 0) m.text (sink buf c.at) →
      c.section_pending ≡ m.section_pending → pending_of s names c ≡ m.pending →
      Reached first after r (run (pending_of s names c) m)

-- ---- before a text, and at the end

-- the blocks that are set are open, and what stands before a text in them is written
pub record Prepares (s names buf after : List ℕ) (c r : Content) : Type 0 where
  pub each : {first t : List ℕ} {ns : List Name} {P Q : List Block} {asks : Bool} →
      Stands s names first buf c t ns P Q asks →
      Stands s names first after r (t ++ change (machine.some t) asks P Q []) ns Q Q false

-- the blocks that were open are closed, and the place is the text's end
pub record Flushes (s names buf after : List ℕ) (c : Content) (at : ℕ) : Type 0 where
  pub each : {first t : List ℕ} {ns : List Name} {P : List Block} {asks : Bool} →
      Stands s names first buf c t ns P (named ns) asks →
      Wrote (sink first 0) (t ++ closings P []) (sink after at)
