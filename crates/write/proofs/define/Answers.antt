use Rattle.view.specs.Values.{function_at}
use Rattle.write.proofs.PassLaws.{defined_at, defined_other, layout_hidden, layout_shown}
use Rattle.write.proofs.define.Goals as goal

pub returns-then-header : goal.returns-then-header
returns-then-header c =
    defined_at c.item-v.ensures.0 _ c.item-v.ensures.1.view.kind c.in-RustType.is (layout_hidden _ c.if-header.true)

pub returns-in-RustFunction : goal.returns-in-RustFunction
unfolding function_at
returns-in-RustFunction c =
    defined_at c.item-v.ensures.0 _ c.item-v.ensures.1.view.kind c.in-RustFunction.is
    c.write_rust_function_shim.ensures

pub returns-else-header : goal.returns-else-header
returns-else-header c =
    defined_at c.item-v.ensures.0 _ c.item-v.ensures.1.view.kind c.in-RustType.is (layout_shown _ c.if-header.false
    c.write_opaque_type_layout.ensures)

pub returns-in_default : goal.returns-in_default
returns-in_default c =
    defined_other c.item-v.ensures.0 c.in_default.not-RustFunction c.in_default.not-RustType _ c.item-v.ensures.1.view.kind
