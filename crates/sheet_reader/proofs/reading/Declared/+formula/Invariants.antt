use Rattle.std.proofs.Common.{length}
use Rattle.sheet.specs.Cuts.{parts_left}
use Rattle.sheet_reader.proofs.reading.Declared.+formula.Given as goal

-- the words that are left
abbrev pub decreases-formula : goal.decreases-formula
decreases-formula l = length (parts_left l.words.now)
