-- Laws of the code's blocks and boundaries, by their cases.
use mathlib.Core.Path.{◌≡◌}
use mathlib.Core.List.{List, []}
use mathlib.Core.Bool.{Bool, false}
use Prim.Native.Nat.{ℕ, ◌<◌}
use lib.ListN.{length, get_or}
use Rattle.lexical.specs.Bytes.{bytes, same}
use Rattle.lexical.specs.Decimal.{pick_text}
use Rattle.sink.specs.Sink.{Sink, Wrote}
use Rattle.sink.proofs.SinkLaws.{◌▷◌}
use Rattle.view.specs.Values.{name_at}
use Rattle.bridge.specs.Block.{write_common, write_begin, write_end, same_block}
use Rattle.bridge.specs.Out.{cancels}
use Rattle.out.specs.declared.Block.{Block}
use Rattle.out.specs.declared.Block.TheVariants.{UserDefinedNamespace, ExternC}
use Rattle.out.specs.declared.Boundary.{Boundary}
use Rattle.out.specs.declared.Boundary.TheVariants.{Begin, End}
use Rattle.out.specs.State.{block_of, boundary_of, KnownBlock, Known}
use Rattle.out.specs.Steps.{boundary_text}

-- ---- blocks

pub known_index : (names : List ℕ) {b : Block} {i : ℕ} → b ≡ UserDefinedNamespace i → KnownBlock names b → i < length names
known_index names e k = rw e at k

module _ (s names : List ℕ) where
  pub common_name : {b : Block} {i : ℕ} {x y z : Sink} → b ≡ UserDefinedNamespace i → Wrote x (bytes "namespace ") y →
      Wrote y (name_at s (get_or names i 0)) z → Wrote x (write_common (block_of s names b)) z
  common_name e p q = rw e (p ▷ q)

  pub common_extern_c : {b : Block} {x y : Sink} → b ≡ ExternC → Wrote x (bytes "extern \"C\"") y →
      Wrote x (write_common (block_of s names b)) y
  common_extern_c e p = rw e p

  pub same_names_lem : {a b : Block} {m n : ℕ} {r : Bool} → a ≡ UserDefinedNamespace m → b ≡ UserDefinedNamespace n →
      r ≡ same (name_at s (get_or names m 0)) (name_at s (get_or names n 0)) →
      r ≡ same_block (block_of s names a) (block_of s names b)
  same_names_lem d e f = rw (d, e) f

  -- ---- boundaries

  module _ {a b : Block} {x y : Boundary} where
    pub begin_begin : x ≡ Begin a → y ≡ Begin b → false ≡ cancels (boundary_of s names x) (boundary_of s names y)
    begin_begin d e = rw (d, e)

    pub end_end : x ≡ End a → y ≡ End b → false ≡ cancels (boundary_of s names x) (boundary_of s names y)
    end_end d e = rw (d, e)

    module _ {r : Bool} (f : r ≡ same_block (block_of s names a) (block_of s names b)) where
      pub begin_end : x ≡ Begin a → y ≡ End b → r ≡ cancels (boundary_of s names x) (boundary_of s names y)
      begin_end d e = rw (d, e) f

      pub end_begin : x ≡ End a → y ≡ Begin b → r ≡ cancels (boundary_of s names x) (boundary_of s names y)
      end_begin d e = rw (d, e) f

  module _ {b : Block} {x : Boundary} where
    pub begin_text : (section : Bool) {u v w : Sink} → x ≡ Begin b → Wrote u (pick_text section (bytes "\n") []) v →
        Wrote v (write_begin (block_of s names b)) w → Wrote u (boundary_text section (boundary_of s names x)) w
    begin_text section e p q = rw e (p ▷ q)

    pub end_text : (section : Bool) {u v : Sink} → x ≡ End b → Wrote u (write_end (block_of s names b)) v →
        Wrote u (boundary_text section (boundary_of s names x)) v
    end_text section e p = rw e p

pub known_begin : (names : List ℕ) {b : Block} {x : Boundary} → x ≡ Begin b → Known names x → KnownBlock names b
known_begin names e k = rw e at k

pub known_end : (names : List ℕ) {b : Block} {x : Boundary} → x ≡ End b → Known names x → KnownBlock names b
known_end names e k = rw e at k
