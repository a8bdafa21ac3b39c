use native.Mathlib.Omega.{arith}
use Rattle.types.proofs.KindLaws.{kind_room}
use Rattle.shape.proofs.ExternLaws.{arg_plain, arg_inner, arg_owner}
use Rattle.tables.specs.Tables.{names_in, items_in}
use Rattle.parameters.proofs.write_extern_arg_type.Goals as goal

pub write_outermost_space-requires : goal.write_outermost_space-requires
write_outermost_space-requires c = (c.requires.0, c.requires.1)

pub returns-then-owner-eq0 : goal.returns-then-owner-eq0
returns-then-owner-eq0 c =
    arg_plain c.args.s.now (names_in c.args.t.now) (items_in c.args.t.now) c.args.c.at c.requires.1 c.requires.2
    c.if-owner-eq0.true c.write_outermost_space.ensures

pub overflow_add-c : goal.overflow_add-c
overflow_add-c c = omega (arith, c.requires.0.tabled.whole.named.limited, kind_room _ _ _ c.requires.1)

pub write_pointer-requires : goal.write_pointer-requires
write_pointer-requires c = (
  c.requires.0,
  rw c.new-inner.ensures (arg_inner c.args.s.now (names_in c.args.t.now) (items_in c.args.t.now)
      c.args.c.at c.requires.1 c.requires.2 c.if-owner-eq0.false),
)

pub returns : goal.returns
returns c =
    arg_owner c.args.s.now (names_in c.args.t.now) (items_in c.args.t.now) c.args.c.at c.requires.1 c.requires.2
    c.if-owner-eq0.false (rw c.new-inner.ensures at c.write_pointer.ensures)
