-- Laws of the entries of the pending boundaries: a boundary as one number.
use mathlib.Core.Path.{◌≡◌, refl}
use mathlib.Core.List.{List}
use Prim.Native.Nat.{ℕ, zero, suc, ◌+◌, ◌-◌, ◌*◌, ◌/◌, ◌%◌, ◌<◌, ◌≤◌}
use native.Mathlib.Omega.{arith}
use native.Mathlib.Numerals.{add-one}
use Rattle.format.specs.Limits.{most_names}
use Rattle.view.specs.Values.{Named}
use Rattle.out.specs.declared.Block.{Block}
use Rattle.out.specs.declared.Block.TheVariants.{UserDefinedNamespace, ExternC}
use Rattle.out.specs.declared.Boundary.{Boundary}
use Rattle.out.specs.declared.Boundary.TheVariants.{Begin, End}
use Rattle.out.specs.declared.Pending.{Pending}
use Rattle.out.specs.State.{KnownBlock, Known, SmallBlock, Small}
use Rattle.out.specs.State.{packed_block, packed, unpacked_block, unpacked}

-- ---- known boundaries are small

module _ {s names : List ℕ} (named : Named s names) where
  known_small_block : (b : Block) → KnownBlock names b → SmallBlock b
  known_small_block (UserDefinedNamespace i) k = omega (arith, named.few)
  known_small_block ExternC k = tt

  pub known_small : (b : Boundary) → Known names b → Small b
  known_small (Begin b) k = known_small_block b k
  known_small (End b) k = known_small_block b k

-- ---- pack

pub small_index : {b : Block} {i : ℕ} → b ≡ UserDefinedNamespace i → SmallBlock b → i < most_names
small_index e k = rw e at k

pub small_begin : {x : Boundary} {b : Block} → x ≡ Begin b → Small x → SmallBlock b
small_begin e k = rw e at k

pub small_end : {x : Boundary} {b : Block} → x ≡ End b → Small x → SmallBlock b
small_end e k = rw e at k

small_number : (b : Block) → SmallBlock b → packed_block b ≤ most_names
small_number (UserDefinedNamespace i) k = omega arith
small_number ExternC k = omega arith

pub begin_number : {x : Boundary} {b : Block} {n : ℕ} → x ≡ Begin b → n ≡ packed_block b → Small x → n ≤ most_names
begin_number {b = b} e f k = rw f (small_number b (small_begin e k))

pub end_number : {x : Boundary} {b : Block} {n : ℕ} → x ≡ End b → n ≡ packed_block b → Small x → n ≤ most_names
end_number {b = b} e f k = rw f (small_number b (small_end e k))

pub begin_packed : {x : Boundary} {b : Block} {n : ℕ} → x ≡ Begin b → n ≡ packed_block b →
    record { code = n * 2 } ≡ packed x
unfolding packed
begin_packed e f = rw (e, f)

pub end_packed : {x : Boundary} {b : Block} {n : ℕ} → x ≡ End b → n ≡ packed_block b →
    record { code = n * 2 + 1 } ≡ packed x
unfolding packed
end_packed e f = rw (e, f)

-- ---- unpack

pub namespace_unpacked : (n : ℕ) → (n ≡ 0 → ⊥) → UserDefinedNamespace (n - 1) ≡ unpacked_block n
namespace_unpacked zero h = absurd (h refl)
namespace_unpacked (suc i) h =
    let z : suc i - 1 ≡ i = omega arith in
    rw z

module _ (p : Pending) {b : Block} (e : b ≡ unpacked_block (p.code / 2)) where
  pub begin_unpacked : p.code % 2 ≡ 0 → Begin b ≡ unpacked p
  unfolding unpacked
  begin_unpacked z = rw (z, e)

  pub end_unpacked : (p.code % 2 ≡ 0 → ⊥) → End b ≡ unpacked p
  unfolding unpacked
  end_unpacked h =
      let z : p.code % 2 ≡ 1 = omega arith in
      rw (z, e)

-- ---- what was packed is unpacked

block_unpacked : (b : Block) → unpacked_block (packed_block b) ≡ b
block_unpacked (UserDefinedNamespace i) = rw (add-one i)
block_unpacked ExternC = refl

pub unpacked_packed : (b : Boundary) → unpacked (packed b) ≡ b
unfolding packed unpacked
unpacked_packed (Begin b) =
    let q : packed_block b * 2 / 2 ≡ packed_block b = omega arith in
    let r : packed_block b * 2 % 2 ≡ 0 = omega arith in
    rw (q, r, block_unpacked b)
unpacked_packed (End b) =
    let q : (packed_block b * 2 + 1) / 2 ≡ packed_block b = omega arith in
    let r : (packed_block b * 2 + 1) % 2 ≡ 1 = omega arith in
    rw (q, r, block_unpacked b)
