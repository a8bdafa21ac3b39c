use Rattle.std.proofs.Common.{arith}
use Rattle.types.proofs.KindLaws.{kind_room}
use Rattle.count_type.proofs.CountLaws.{wrote_counted}
use Rattle.shape.proofs.ExternLaws.{arg_plain, arg_inner, arg_owner}
use Rattle.tables.specs.Tables.{names_in, items_in}
use Rattle.summary.proofs.LengthLaws.{alone}
use Rattle.summary.proofs.count.declared_type.Goals as goal

pub returns-then-owner-eq0 : goal.returns-then-owner-eq0
returns-then-owner-eq0 c =
    arg_plain c.args.s.now (names_in c.args.t.now) (items_in c.args.t.now) c.args.c.at c.requires.1 c.requires.2
    c.if-owner-eq0.true (wrote_counted c.requires.5 c.requires.3 c.requires.4 (omega arith) c.advance.ensures)

pub overflow_add-c : goal.overflow_add-c
overflow_add-c c = omega (arith, c.requires.0.tabled.whole.named.limited, kind_room _ _ _ c.requires.1)

pub write_pointer-requires : goal.write_pointer-requires
write_pointer-requires c = (
  c.requires.0,
  rw c.new.ensures (arg_inner c.args.s.now (names_in c.args.t.now) (items_in c.args.t.now)
      c.args.c.at c.requires.1 c.requires.2 c.if-owner-eq0.false),
)

pub returns : goal.returns
returns c =
    arg_owner c.args.s.now (names_in c.args.t.now) (items_in c.args.t.now) c.args.c.at
    c.requires.1 c.requires.2 c.if-owner-eq0.false (alone c.requires.5 (omega arith) (rw c.new.ensures at
    c.write_pointer.ensures))
