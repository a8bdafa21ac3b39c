use native.Mathlib.Omega.{arith}
use Rattle.out.proofs.StateLaws.{beginning_known, beginning_listed, beginning_room, beginning_turn, beginning_done}
use Rattle.out.proofs.begin_namespaces.Goals as goal

pub push_block_boundary-requires : goal.push_block_boundary-requires
push_block_boundary-requires c = (
  c.requires.0,
  c.requires.1,
  beginning_listed _ _ c.requires.3 _ (omega arith) c.loop-d.invariant
      c.name_index-name.ensures c.requires.2,
  beginning_known _ _ c.requires.3 _ (omega arith)
      c.loop-d.invariant c.name_index-name.ensures,
  beginning_room _ _ c.requires.3 _ (omega arith)
      c.loop-d.invariant c.name_index-name.ensures c.requires.2,
)

pub loop-d-preserved : goal.loop-d-preserved
loop-d-preserved c =
    beginning_turn _ _ c.requires.3 _ (omega arith) c.loop-d.invariant c.name_index-name.ensures
    c.push_block_boundary.ensures

pub returns : goal.returns
returns c = beginning_done _ _ _ c.requires.3 (omega arith) c.loop-d.invariant
