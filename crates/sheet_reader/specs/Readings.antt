-- What a sheet that was read means.
use Rattle.std.specs.Prelude.{Ok, Err, Result}
use Rattle.ltl.specs.Formulas.{table}
use Rattle.sheet_reader.specs.Names.{names_in}
use Rattle.sheet_reader.specs.Sheets.{Reading}
use Rattle.sheet_faults.specs.declared.fault.SheetFault.{SheetFault}
use Rattle.sheet_reader.specs.declared.reading.Sheet.{Sheet}

-- its formula's table and its names
abbrev pub reading_of : Sheet → Reading
reading_of x = record { table = table x.formula; names = names_in x.names }

-- what reading tells: the reading, or the fault
abbrev pub told : Result Sheet SheetFault → Result Reading SheetFault
told (Ok x) = Ok (reading_of x)
told (Err e) = Err e
