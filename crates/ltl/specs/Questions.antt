-- The number and the part of each question, and a refusal by these.
use Rattle.std.specs.Prelude.{ℕ}
use Rattle.ltl.specs.declared.refusal.Part.{Part}
use Rattle.ltl.specs.declared.refusal.Part.TheVariants.{Sheet, Recording, Watch}
use Rattle.ltl.specs.declared.refusal.NumberedRefusal.{NumberedRefusal}
use Rattle.ltl.specs.declared.refusal.Question.{Question}
use Rattle.ltl.specs.declared.refusal.Question.TheVariants.{SheetLength, SheetBytes, FirstWord, NewName, OneFormula, SheetRows, WatchLine, SignalsBelowWidth, StepRoom, Opening, RowNumber, GridCells}
use Rattle.ltl.specs.declared.refusal.Refusal.{Refusal}

abbrev pub number_of : Question → ℕ
number_of SheetLength = 1
number_of SheetBytes = 2
number_of FirstWord = 3
number_of NewName = 4
number_of OneFormula = 5
number_of SheetRows = 6
number_of WatchLine = 7
number_of SignalsBelowWidth = 8
number_of StepRoom = 9
number_of Opening = 10
number_of RowNumber = 15
number_of GridCells = 17

abbrev pub part_of : Question → Part
part_of SheetLength = Sheet
part_of SheetBytes = Sheet
part_of FirstWord = Sheet
part_of NewName = Sheet
part_of OneFormula = Sheet
part_of SheetRows = Sheet
part_of WatchLine = Sheet
part_of SignalsBelowWidth = Recording
part_of StepRoom = Recording
part_of Opening = Recording
part_of RowNumber = Watch
part_of GridCells = Watch

abbrev pub numbered : Refusal → NumberedRefusal
numbered r = record { number = number_of r.question; part = part_of r.question; place = r.place }
