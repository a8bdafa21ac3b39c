-- The number of each refusal: the table of document 01, "The sheet".
use Rattle.std.specs.Prelude.{ℕ}
use Rattle.refusal.specs.declared.Refusal.{Refusal}
use Rattle.refusal.specs.declared.Refusal.TheVariants.{CutSheet, Edition, BadName, LooseIndex, BadKind, TooDeep}
use Rattle.refusal.specs.declared.Refusal.TheVariants.{BadComment, Tail, WrongPart, Taken, UnfitArgument, Ring}
use Rattle.refusal.specs.declared.Refusal.TheVariants.{Overrun}

abbrev pub number_of : Refusal → ℕ
number_of CutSheet = 1
number_of Edition = 2
number_of BadName = 3
number_of LooseIndex = 4
number_of BadKind = 5
number_of TooDeep = 6
number_of BadComment = 7
number_of Tail = 8
number_of WrongPart = 9
number_of Taken = 10
number_of UnfitArgument = 11
number_of Ring = 12
number_of Overrun = 13
