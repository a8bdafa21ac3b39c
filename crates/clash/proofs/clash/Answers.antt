use mathlib.Core.Path.{sym}
use Rattle.clash.proofs.ViewLaws.{keys_apart, clash_functions, clash_types, function_type, type_function}
use Rattle.clash.proofs.clash.Goals as goal

pub returns-then-keys-i : goal.returns-then-keys-i
returns-then-keys-i c = keys_apart c.requires.0.whole c.requires.1 c.requires.2 c.requires.3 c.if-keys-i.true

pub returns-in-true-true : goal.returns-in-true-true
returns-in-true-true c =
    clash_functions c.requires.0.whole c.requires.2 c.item-w.ensures.1 c.item-w.ensures.0
    (sym c.in-true-true.ensures) (sym c.in-true-true.ensures') c.same_symbol.ensures

pub returns-in-true-false : goal.returns-in-true-false
returns-in-true-false c =
    function_type c.requires.0.whole c.requires.2 c.item-w.ensures.1 c.item-w.ensures.0
    (sym c.in-true-false.ensures) (sym c.in-true-false.ensures')

pub returns-in-false-true : goal.returns-in-false-true
returns-in-false-true c =
    type_function c.requires.0.whole c.requires.2 c.item-w.ensures.1 c.item-w.ensures.0
    (sym c.in-false-true.ensures) (sym c.in-false-true.ensures')

pub returns-in-false-false : goal.returns-in-false-false
returns-in-false-false c =
    clash_types c.requires.0.whole c.requires.2 c.item-w.ensures.1 c.item-w.ensures.0
    (sym c.in-false-false.ensures) (sym c.in-false-false.ensures') c.same_full_name.ensures
