-- Rules 9 to 12 on the items of a decoded sheet: "lowest number".
use Rattle.std.specs.Prelude.{List, Bool, Result, Ok, Err}
use Rattle.refusal.specs.declared.Refusal.{Refusal}
use Rattle.refusal.specs.declared.Refusal.TheVariants.{WrongPart, Taken, UnfitArgument, Ring}
use Rattle.format.specs.Decode.{pick}
use Rattle.format.specs.Sheet.{Item}
use Rattle.rules.specs.Rules.{wrong_part, taken, unfit_argument, ring}

-- rules 9 to 11
unfoldable pub ruled_parts : List Item → Result Unit Refusal
ruled_parts items =
    pick (wrong_part items) (Err WrongPart)
    (pick (taken items) (Err Taken)
    (pick (unfit_argument items) (Err UnfitArgument) (Ok tt)))

-- rule 12, where there is a ring or none
abbrev pub ringed : Bool → Result Unit Refusal
ringed b = pick b (Err Ring) (Ok tt)

abbrev pub ruled_ring : List Item → Result Unit Refusal
ruled_ring items = ringed (ring items)

-- a refusal, else the next answer
abbrev pub else_checked : Result Unit Refusal → Result Unit Refusal → Result Unit Refusal
else_checked (Err e) next = Err e
else_checked (Ok u) next = next

unfoldable pub ruled_items : List Item → Result Unit Refusal
ruled_items items = else_checked (ruled_parts items) (ruled_ring items)
