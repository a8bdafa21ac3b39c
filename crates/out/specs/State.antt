-- How a Content of the code stands for a state of out.rs' machine.
use Rattle.std.specs.Prelude.{◌≡◌, List, [], ◌∷◌, ◌++◌, map, Bool, ℕ, zero, suc, ◌+◌, ◌*◌, ◌/◌, ◌%◌, ◌<◌, ◌≤◌, ltb}
use Rattle.std.specs.Prelude.{length, get_or, drop}
use Rattle.format.specs.Limits.{most_names, most_bits, most_namespaces}
use Rattle.format.specs.Decode.{many}
use Rattle.format.specs.Sheet.{Name}
use Rattle.format.specs.Decoding.{name_of}
use Rattle.cursor.specs.declared.Cursor.{Cursor}
use Rattle.sink.specs.Sink.{sink, Wrote}
use Rattle.view.specs.Values.{value_or, Yields, name_at, names_at}
use Rattle.bridge.specs.Block as block
use Rattle.bridge.specs.Out as machine
use Rattle.pieces.specs.Between.{named, between}
use Rattle.out.specs.declared.Block.{Block}
use Rattle.out.specs.declared.Block.TheVariants.{UserDefinedNamespace, ExternC}
use Rattle.out.specs.declared.Boundary.{Boundary}
use Rattle.out.specs.declared.Boundary.TheVariants.{Begin, End}
use Rattle.out.specs.declared.Pending.{Pending}
use Rattle.out.specs.declared.Content.{Content}

-- ---- boundaries

-- a namespace of the code holds the index of its name
abbrev pub block_of : List ℕ → List ℕ → Block → block.Block
block_of s names (UserDefinedNamespace i) = block.user_defined_namespace (name_at s (get_or names i 0))
block_of s names ExternC = block.extern_c

abbrev pub boundary_of : List ℕ → List ℕ → Boundary → machine.Boundary
boundary_of s names (Begin b) = machine.begin (block_of s names b)
boundary_of s names (End b) = machine.end (block_of s names b)

-- there is such a name
abbrev pub KnownBlock : List ℕ → Block → Type 0
KnownBlock names (UserDefinedNamespace i) = i < length names
KnownBlock names ExternC = Unit

abbrev pub Known : List ℕ → Boundary → Type 0
Known names (Begin b) = KnownBlock names b
Known names (End b) = KnownBlock names b

-- ---- entries: a boundary as one number

-- its index is that of one of the most names that a sheet may have
abbrev pub SmallBlock : Block → Type 0
SmallBlock (UserDefinedNamespace i) = i < most_names
SmallBlock ExternC = Unit

abbrev pub Small : Boundary → Type 0
Small (Begin b) = SmallBlock b
Small (End b) = SmallBlock b

-- the number of extern "C" is 0, and that of a namespace is the index of its name and one
abbrev pub packed_block : Block → ℕ
packed_block (UserDefinedNamespace i) = i + 1
packed_block ExternC = 0

abbrev pub unpacked_block : ℕ → Block
unpacked_block zero = ExternC
unpacked_block (suc i) = UserDefinedNamespace i

-- twice the block's number, and one more for an end
unfoldable pub packed : Boundary → Pending
packed (Begin b) = record { code = packed_block b * 2 }
packed (End b) = record { code = packed_block b * 2 + 1 }

abbrev pub side_of : ℕ → Block → Boundary
side_of zero b = Begin b
side_of (suc n) b = End b

unfoldable pub unpacked : Pending → Boundary
unpacked p = side_of (p.code % 2) (unpacked_block (p.code / 2))

-- ---- the boundaries that are pending

abbrev pub boundary_at : List Pending → ℕ → Boundary
boundary_at pending i = unpacked (get_or pending i (record { code = 0 }))

-- the first n, the last one first
unfoldable pub latest : List ℕ → List ℕ → List Pending → ℕ → List machine.Boundary
latest s names pending zero = []
latest s names pending (suc n) = boundary_of s names (boundary_at pending n) ∷ latest s names pending n

abbrev pub pending_of : List ℕ → List ℕ → Content → List machine.Boundary
pending_of s names c = latest s names c.pending c.count

-- the most pending boundaries: eight ends and eight begins
abbrev pub max_pending : ℕ
max_pending = 16

-- ---- the places of a Content in the code's array: five numbers, and those of the pending boundaries behind them

abbrev pub entry : ℕ → Pending
entry n = record { code = n }

unfoldable pub content_of : List ℕ → Content
content_of l = record {
  at = get_or l 0 0;
  spaces = record { at = get_or l 1 0 };
  depth = get_or l 2 0;
  pending = map entry (drop 5 l);
  count = get_or l 3 0;
  section_pending = ltb 0 (get_or l 4 0);
}

-- each pending boundary is known
pub record Listed (names : List ℕ) (c : Content) : Type 0 where
  pub room : length c.pending ≡ max_pending
  pub few : c.count ≤ max_pending
  pub known : (i : ℕ) → i < c.count → Known names (boundary_at c.pending i)

-- ---- states

-- the namespace whose names' indexes stand at a position
unfoldable pub namespace_at : List ℕ → List ℕ → Cursor → ℕ → List Name
namespace_at s names c depth = value_or [] (many depth (name_of (names_at s names)) s c.at)

-- it is ns
pub record Spaces (s names : List ℕ) (c : Cursor) (depth : ℕ) (ns : List Name) : Type 0 where
  pub are : Yields (many depth (name_of (names_at s names)) s c.at) ns
  pub shallow : depth ≤ most_namespaces
  pub near : c.at ≤ most_bits

-- c is the state in which the text t stands in the buffer, which was `first` before; the namespace ns is set, the
-- blocks P are open and the blocks Q are set, each outermost first; and a section is pending where one is asked for
pub record Stands (s names first buf : List ℕ) (c : Content) (t : List ℕ) (ns : List Name) (P Q : List block.Block)
    (asks : Bool) : Type 0 where
  pub wrote : Wrote (sink first 0) t (sink buf c.at)
  pub spaces : Spaces s names c.spaces c.depth ns
  pub listed : Listed names c
  pub pending : pending_of s names c ≡ between P Q
  pub section : c.section_pending ≡ asks
  pub few_open : length P ≤ 8
  pub few_set : length Q ≤ 8

-- c is some such state, in which these blocks are set
pub record StandingIn (s names buf : List ℕ) (around : List Name → List block.Block) (c : Content) : Type 0 where
  pub first : List ℕ
  pub text : List ℕ
  pub namespace : List Name
  pub opened : List block.Block
  pub asks : Bool
  pub stands : Stands s names first buf c text namespace opened (around namespace) asks

-- the same where the buffer is not at hand
pub record Standing (s names : List ℕ) (around : List Name → List block.Block) (c : Content) : Type 0 where
  pub buf : List ℕ
  pub there : StandingIn s names buf around c

-- the blocks of a namespace, and extern "C" in them
abbrev pub inside : List Name → List block.Block
inside ns = named ns ++ (block.extern_c ∷ [])
