-- bridge/out.rs: text with pending boundaries and sections. `suppress_next_section` has no caller in a sheet's text.
use Rattle.std.specs.Prelude.{ℕ, Bool, true, false, not, ◌&&◌, ◌||◌, List, [], ◌∷◌, ◌++◌}
use Rattle.lexical.specs.Bytes.{bytes}
use Rattle.lexical.specs.Decimal.{pick_text}
use Rattle.format.specs.Decode.{pick}
use Rattle.format.specs.Sheet.{Name}
use Rattle.bridge.specs.Block.{Block, user_defined_namespace, write_begin, write_end, same_block}

pub data Boundary : Type 0 where
  begin : Block → Boundary
  end : Block → Boundary

-- `blocks` of out.rs is opened and then pending, each with its last entry first here
pub record Content : Type 0 where
  pub text : List ℕ
  pub namespace : List Name
  pub opened : List Block
  pub pending : List Boundary
  pub section_pending : Bool
  pub panicked : Bool  -- an `unwrap` or `assert_eq!` of flush_blocks failed

abbrev pub new : Content
new =
    record { text = []; namespace = []; opened = []; pending = []; section_pending = false; panicked = false }

abbrev pub some : List ℕ → Bool
some [] = false
some (b ∷ s) = true

unfoldable pub next_section : Content → Content
next_section c =
    record {
      text = c.text;
      namespace = c.namespace;
      opened = c.opened;
      pending = c.pending;
      section_pending = true;
      panicked = c.panicked;
    }

-- `boundary == last.rev()`
abbrev pub cancels : Boundary → Boundary → Bool
cancels (begin a) (begin b) = false
cancels (begin a) (end b) = same_block a b
cancels (end a) (begin b) = same_block a b
cancels (end a) (end b) = false

-- "A boundary cancels only a pending last boundary that is its reverse"
unfoldable pub push : Boundary → List Boundary → List Boundary
push boundary [] = boundary ∷ []
push boundary (last ∷ pending) = pick (cancels boundary last) pending (boundary ∷ last ∷ pending)

unfoldable pub push_block_boundary : Boundary → Content → Content
push_block_boundary boundary c =
    record {
      text = c.text;
      namespace = c.namespace;
      opened = c.opened;
      pending = push boundary c.pending;
      section_pending = c.section_pending;
      panicked = c.panicked;
    }

abbrev pub begin_block : Block → Content → Content
begin_block block c = push_block_boundary (begin block) c

abbrev pub end_block : Block → Content → Content
end_block block c = push_block_boundary (end block) c

-- the namespaces end, innermost first
unfoldable pub end_namespaces : List Name → Content → Content
end_namespaces [] c = c
end_namespaces (name ∷ names) c = end_block (user_defined_namespace name) (end_namespaces names c)

unfoldable pub begin_namespaces : List Name → Content → Content
begin_namespaces [] c = c
begin_namespaces (name ∷ names) c = begin_namespaces names (begin_block (user_defined_namespace name) c)

abbrev pub in_namespace : List Name → Content → Content
in_namespace names c =
    record {
      text = c.text;
      namespace = names;
      opened = c.opened;
      pending = c.pending;
      section_pending = c.section_pending;
      panicked = c.panicked;
    }

unfoldable pub set_namespace : List Name → Content → Content
set_namespace names c = in_namespace names (begin_namespaces names (end_namespaces c.namespace c))

-- the innermost open block is this one
abbrev pub innermost : Block → List Block → Bool
innermost block [] = false
innermost block (b ∷ opened) = same_block block b

abbrev pub drop_innermost : List Block → List Block
drop_innermost [] = []
drop_innermost (b ∷ opened) = opened

-- one turn of flush_blocks' loop
abbrev pub flush_boundary : Boundary → Content → Content
flush_boundary (begin block) c =
    record {
      text = c.text ++ pick_text c.section_pending (bytes "\n") [] ++ write_begin block;
      namespace = c.namespace;
      opened = block ∷ c.opened;
      pending = [];
      section_pending = false;
      panicked = c.panicked;
    }
flush_boundary (end block) c =
    record {
      text = c.text ++ write_end block;
      namespace = c.namespace;
      opened = drop_innermost c.opened;
      pending = [];
      section_pending = true;
      panicked = c.panicked || not (innermost block c.opened);
    }

-- the pending boundaries, the oldest first
unfoldable pub flush_all : List Boundary → Content → Content
flush_all [] c =
    record {
      text = c.text;
      namespace = c.namespace;
      opened = c.opened;
      pending = [];
      section_pending = some c.text;
      panicked = c.panicked;
    }
flush_all (boundary ∷ older) c = flush_boundary boundary (flush_all older c)

abbrev pub is_pending : List Boundary → Bool
is_pending [] = false
is_pending (b ∷ pending) = true

unfoldable pub flush_blocks : Content → Content
flush_blocks c = pick (is_pending c.pending) (flush_all c.pending c) c

abbrev pub append : List ℕ → Content → Content
append s c =
    record {
      text = c.text ++ pick_text (c.section_pending && some c.text) (bytes "\n") [] ++ s;
      namespace = c.namespace;
      opened = c.opened;
      pending = [];
      section_pending = false;
      panicked = c.panicked;
    }

-- "An empty write changes nothing"
unfoldable pub write : List ℕ → Content → Content
write s c = pick (some s) (append s (flush_blocks c)) c

unfoldable pub flush : Content → Content
flush c = flush_blocks (set_namespace [] c)
