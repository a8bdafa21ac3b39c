-- Laws of an item's line.
use mathlib.Core.Path.{◌≡◌, refl, sym, ◌∙◌}
use mathlib.Core.List.{List, [], ◌++◌}
use mathlib.Core.Bool.{false, false≢true}
use Prim.Native.Nat.{ℕ}
use Rattle.lexical.specs.Bytes.{bytes}
use Rattle.sink.specs.Sink.{Sink, Wrote}
use Rattle.sink.proofs.SinkLaws.{wrote_as}
use Rattle.format.specs.Sheet.{Body, struct, enum, cxx_type, rust_type, function, Item}
use Rattle.format.specs.Decoding.{atom_of}
use Rattle.format.specs.declared.ItemKind.{ItemKind}
use Rattle.format.specs.declared.ItemKind.TheVariants.{Struct, Enum, CxxType, RustType, RustFunction, Bad}
use Rattle.syntax.specs.Items.{full_name}
use Rattle.bridge.specs.WriteType.{write_atom}
use Rattle.bridge.specs.Write.{forward_line}
use Rattle.view.specs.declared.ItemView.{ItemView}
use Rattle.view.specs.Views.{kind_of_body, ItemAt}
use Rattle.nested.specs.declared.EnumView.{EnumView}
use Rattle.view.specs.Values.{item_no}
use Rattle.nested.specs.Groups.{EnumOf}
use Rattle.nested.proofs.ViewLaws.{is_enum_kind}

pub enum_line_lem : (x : Item) {b : Body} {e : EnumView} → EnumOf b e →
    bytes "enum class " ++ x.cxx ++ bytes " : " ++ write_atom (atom_of e.atom) ++ bytes ";\n" ≡ forward_line x b
enum_line_lem x e = rw e.is

-- the line of an item that is no enum, by its kind
abbrev pub kind_line : Item → ItemKind → List ℕ
kind_line x Struct = bytes "struct " ++ x.cxx ++ bytes ";\n"
kind_line x CxxType = bytes "using " ++ x.cxx ++ bytes " = " ++ full_name x ++ bytes ";\n"
kind_line x RustType = bytes "struct " ++ x.cxx ++ bytes ";\n"
kind_line x Enum = []
kind_line x RustFunction = []
kind_line x Bad = []

body_line : (x : Item) (b : Body) → is_enum_kind (kind_of_body b) ≡ false → kind_line x (kind_of_body b) ≡ forward_line x b
body_line x (struct p ts) h = refl
body_line x (enum p a c) h = absurd (false≢true (sym h))
body_line x (cxx_type p) h = refl
body_line x (rust_type p) h = refl
body_line x (function f) h = refl

pub line_written : {s names items : List ℕ} {v : ItemView} {k : ItemKind} {r t : Sink} → ItemAt s names items v →
    v.kind ≡ k → is_enum_kind k ≡ false → Wrote r (kind_line (item_no s names items v.number) k) t →
    Wrote r (forward_line (item_no s names items v.number) (item_no s names items v.number).body) t
line_written {s} {names} {items} {v} {k} a e h w =
    let x = item_no s names items v.number in
    let q : kind_of_body x.body ≡ k = sym a.view.kind ∙ e in
    wrote_as w (rw (← q) (body_line x x.body (rw q h)))
