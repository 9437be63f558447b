use Rattle.std.proofs.Common.{◌≡◌, drop}
use Rattle.sheet_reader.specs.Names.{names_in, name_of}
use Rattle.sheet_reader.proofs.reading.Declared.name_of.Given as goal

abbrev pub invariant-loop-name : goal.invariant-loop-name
invariant-loop-name l = name_of (names_in l.self.names.now) l.row ≡ name_of (drop l.name-index l.name-items) l.row
