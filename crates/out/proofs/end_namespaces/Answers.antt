use native.Mathlib.Omega.{arith}
use Rattle.out.specs.State.{content_of}
use Rattle.out.proofs.StateLaws.{ending_none, ending_known, ending_listed, ending_room, ending_turn, ending_done}
use Rattle.out.proofs.end_namespaces.Goals as goal

pub overflow_cast-at : goal.overflow_cast-at
unfolding content_of
overflow_cast-at c = omega (arith, c.requires.2.there.stands.spaces.near)

pub overflow_cast-depth : goal.overflow_cast-depth
unfolding content_of
overflow_cast-depth c = omega (arith, c.requires.2.there.stands.spaces.shallow)

pub loop-d-init : goal.loop-d-init
unfolding content_of
loop-d-init c = ending_none _ _ _

pub name_index-name-requires : goal.name_index-name-requires
unfolding content_of
name_index-name-requires c =
    rw c.new-spaces.ensures (
      c.requires.0,
      c.requires.2.there.stands.spaces.near,
      omega
          (arith, c.loop-d.invariant.few, c.requires.2.there.stands.spaces.shallow),
    )

pub push_block_boundary-requires : goal.push_block_boundary-requires
unfolding content_of
push_block_boundary-requires c = (
  c.requires.0,
  c.requires.1,
  ending_listed _ _ _ (omega arith) c.loop-d.invariant (rw c.new-spaces.ensures at
      c.name_index-name.ensures) c.requires.2,
  ending_known _ _ _ (omega arith) c.loop-d.invariant
      (rw c.new-spaces.ensures at c.name_index-name.ensures) c.requires.2,
  ending_room _ _ _ (omega arith)
      c.loop-d.invariant (rw c.new-spaces.ensures at c.name_index-name.ensures) c.requires.2,
)

pub loop-d-preserved : goal.loop-d-preserved
unfolding content_of
loop-d-preserved c =
    ending_turn _ _ _ (omega arith) c.loop-d.invariant (rw c.new-spaces.ensures at c.name_index-name.ensures)
    c.push_block_boundary.ensures

pub returns : goal.returns
returns c = ending_done _ _ _ (omega arith) c.loop-d.invariant
