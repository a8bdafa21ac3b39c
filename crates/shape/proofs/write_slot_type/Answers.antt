use mathlib.Core.Path.{◌≡◌, refl}
use mathlib.Core.List.{List}
use mathlib.Core.Bool.{Bool}
use Rattle.format.specs.Types.{Ty}
use Rattle.format.specs.Sheet.{Item}
use Rattle.bridge.specs.WriteType.{write_type}
use Rattle.bridge.specs.Write.{slot_type}
use Rattle.sink.proofs.SinkLaws.{wrote_as}
use Rattle.shape.specs.declared.ShapeKind.{ShapeKind}
use Rattle.shape.specs.declared.ShapeKind.TheVariants.{RustBox, UniquePtr, Ref, Str, SliceRef, Other}
use Rattle.shape.specs.Shapes.{shape_with}
use Rattle.shape.proofs.ShapeLaws.{has_inner_lem, slot_type_lem}
use Rattle.tables.specs.Tables.{names_in, items_in}
use Rattle.shape.proofs.write_slot_type.Goals as goal

pub write_pointer-requires : goal.write_pointer-requires
write_pointer-requires c = (c.requires.0, has_inner_lem c.shape-v.ensures c.in-Ref.is refl)

pub returns-in-Ref : goal.returns-in-Ref
returns-in-Ref c =
    slot_type_lem c.args.s.now (names_in c.args.t.now) (items_in c.args.t.now) c.args.c.at c.shape-v.ensures
    c.in-Ref.is c.write_pointer.ensures

-- a kind that is no reference
plain_slot : (items : List Item) (t : Ty) (k : ShapeKind) (m : Bool) (u : Ty) → (k ≡ Ref → ⊥) →
    write_type items t ≡ slot_type items t (shape_with k m u)
plain_slot items t RustBox m u h = refl
plain_slot items t UniquePtr m u h = refl
plain_slot items t Ref m u h = absurd (h refl)
plain_slot items t Str m u h = refl
plain_slot items t SliceRef m u h = refl
plain_slot items t Other m u h = refl

pub returns-in_default : goal.returns-in_default
returns-in_default c =
    slot_type_lem c.args.s.now (names_in c.args.t.now) (items_in c.args.t.now) c.args.c.at c.shape-v.ensures refl
    (wrote_as c.write_outermost.ensures (plain_slot _ _ _ _ _ c.in_default.not-Ref))
