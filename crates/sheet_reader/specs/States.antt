-- What the line reader holds.
use Rattle.std.specs.Prelude.{Ok, Err, Result}
use Rattle.sheet.specs.Cuts.{parts_left, end_of}
use Rattle.sheet.specs.declared.token.Keyword.{Keyword}
use Rattle.sheet_reader.specs.Drafts.{kept}
use Rattle.sheet_reader.specs.Names.{names_in}
use Rattle.sheet_reader.specs.Sheets.{State, by_keyword}
use Rattle.sheet_faults.specs.declared.fault.SheetFault.{SheetFault}
use Rattle.sheet_reader.specs.declared.reading.Line.{Line}
use Rattle.sheet_reader.specs.declared.reading.Plan.{Plan}

abbrev pub state_of : Plan → State
state_of p = record { rows = kept p.draft; names = names_in p.names; width = p.width; watch = p.watch }

-- what a call on a plan tells: the state that it leaves, or its fault
abbrev pub told_plan : Result Plan SheetFault → Result State SheetFault
told_plan (Ok p) = Ok (state_of p)
told_plan (Err e) = Err e

-- what a call that changes a plan tells: the state that it leaves, or its fault
abbrev pub told_left : Result (Unit {0}) SheetFault → Plan → Result State SheetFault
told_left (Ok v) p = Ok (state_of p)
told_left (Err e) p = Err e

-- questions 4 to 6 on a line with this keyword
abbrev pub by_line : Keyword → Line → State → Result State SheetFault
by_line k l st = by_keyword l.sheet.now st l.first k (parts_left l.words) (end_of l.words)
