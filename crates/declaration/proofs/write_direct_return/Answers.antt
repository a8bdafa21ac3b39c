use Rattle.std.proofs.Common.{refl}
use mathlib.Core.Logic.{◌⊎◌, inl, inr}
use Rattle.shape.proofs.ShapeLaws.{has_inner_lem}
use Rattle.declaration.proofs.ReturnLaws.{direct_return_lem}
use Rattle.tables.specs.Tables.{names_in, items_in}
use Rattle.declaration.proofs.write_direct_return.Goals as goal

pub write_pointer-requires : goal.write_pointer-requires
write_pointer-requires c = (
  c.requires.0,
  elim c.in-RustBox.is [
    | inl e ↦ has_inner_lem c.shape-v.ensures e refl
    | inr e ↦ has_inner_lem c.shape-v.ensures e refl
  ],
)

pub write_pointer-requires-in-Ref : goal.write_pointer-requires-in-Ref
write_pointer-requires-in-Ref c = (c.requires.0, has_inner_lem c.shape-v.ensures c.in-Ref.is refl)

pub returns-in-RustBox : goal.returns-in-RustBox
returns-in-RustBox c = elim c.in-RustBox.is [
  | inl e ↦
      direct_return_lem c.args.s.now (names_in c.args.t.now) (items_in c.args.t.now) c.args.c.at c.shape-v.ensures e
      c.write_pointer.ensures
  | inr e ↦
      direct_return_lem c.args.s.now (names_in c.args.t.now) (items_in c.args.t.now) c.args.c.at c.shape-v.ensures e
      c.write_pointer.ensures
]

pub returns-in-Ref : goal.returns-in-Ref
returns-in-Ref c =
    direct_return_lem c.args.s.now (names_in c.args.t.now) (items_in c.args.t.now) c.args.c.at c.shape-v.ensures
    c.in-Ref.is c.write_pointer-in-Ref.ensures

pub returns-in-Str : goal.returns-in-Str
returns-in-Str c = elim c.in-Str.is [
  | inl e ↦
      direct_return_lem c.args.s.now (names_in c.args.t.now) (items_in c.args.t.now) c.args.c.at c.shape-v.ensures e
      c.put_bytes.ensures
  | inr e ↦
      direct_return_lem c.args.s.now (names_in c.args.t.now) (items_in c.args.t.now) c.args.c.at c.shape-v.ensures e
      c.put_bytes.ensures
]

pub returns-in-Other : goal.returns-in-Other
returns-in-Other c =
    direct_return_lem c.args.s.now (names_in c.args.t.now) (items_in c.args.t.now) c.args.c.at c.shape-v.ensures
    c.in-Other.is c.write_outermost_space.ensures
