use Rattle.view.specs.Values.{function_at}
use Rattle.write.proofs.PassLaws.{declared_at, declared_other}
use Rattle.write.proofs.declare.Goals as goal

pub returns-in-RustFunction : goal.returns-in-RustFunction
unfolding function_at
returns-in-RustFunction c =
    declared_at c.item-v.ensures.0 _ c.item-v.ensures.1.view.kind c.in-RustFunction.is
    c.write_rust_function_decl.ensures

pub returns-in-RustType : goal.returns-in-RustType
returns-in-RustType c =
    declared_at c.item-v.ensures.0 _ c.item-v.ensures.1.view.kind c.in-RustType.is
    c.write_opaque_type_layout_decls.ensures

pub returns-in_default : goal.returns-in_default
returns-in_default c =
    declared_other c.item-v.ensures.0 c.in_default.not-RustFunction c.in_default.not-RustType _ c.item-v.ensures.1.view.kind
