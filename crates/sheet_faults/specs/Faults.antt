-- The question and the place of each refusal.
use Rattle.std.specs.Prelude.{ℕ}
use Rattle.ltl.specs.declared.refusal.Question.{Question}
use Rattle.ltl.specs.declared.refusal.Question.TheVariants.{SheetLength, SheetBytes, FirstWord, NewName, OneFormula, SheetRows, WatchLine, RowNumber}
use Rattle.ltl.specs.declared.refusal.Refusal.{Refusal}
use Rattle.sheet_faults.specs.declared.fault.WordFault.{WordFault}
use Rattle.sheet_faults.specs.declared.fault.WordFault.TheVariants as word
use Rattle.sheet_faults.specs.declared.fault.FormulaFault.{FormulaFault}
use Rattle.sheet_faults.specs.declared.fault.FormulaFault.TheVariants as formula
use Rattle.sheet_faults.specs.declared.fault.NameFault.{NameFault}
use Rattle.sheet_faults.specs.declared.fault.NameFault.TheVariants as name
use Rattle.sheet_faults.specs.declared.fault.SheetFault.{SheetFault}
use Rattle.sheet_faults.specs.declared.fault.SheetFault.TheVariants as sheet

abbrev pub refused : Question → ℕ → Refusal
refused question place = record { question = question; place = place }

-- 5: is the rest exactly one formula, or nothing on a signal line?
abbrev pub word_refusal : WordFault → Refusal
word_refusal (word.Unknown p) = refused OneFormula p
word_refusal (word.Missing p) = refused OneFormula p

abbrev pub formula_refusal : FormulaFault → Refusal
formula_refusal (formula.Word f) = word_refusal f
formula_refusal (formula.NoOperator p) = refused OneFormula p
formula_refusal (formula.Surplus p) = refused OneFormula p

-- 4: has a signal or name line a second word, free, not reserved, at most 16 bytes?
abbrev pub name_refusal : NameFault → Refusal
name_refusal (name.Missing p) = refused NewName p
name_refusal (name.Reserved p) = refused NewName p
name_refusal (name.Taken p) = refused NewName p
name_refusal (name.TooLong p) = refused NewName p

-- 1: at most 4,096 bytes? 2: every byte 10 or from 32 to 126? 3: a keyword first, and no watch line before?
-- 6: at most 32 signals and 64 rows? 7: was there a watch line?
abbrev pub sheet_refusal : SheetFault → Refusal
sheet_refusal sheet.TooLong = refused SheetLength 4096
sheet_refusal (sheet.ForeignByte p) = refused SheetBytes p
sheet_refusal (sheet.NoKeyword p) = refused FirstWord p
sheet_refusal (sheet.AfterWatch p) = refused FirstWord p
sheet_refusal (sheet.Name f) = name_refusal f
sheet_refusal (sheet.Formula f) = formula_refusal f
sheet_refusal (sheet.TooMany p) = refused SheetRows p
sheet_refusal (sheet.NoWatch p) = refused WatchLine p

-- 15: is the row below R?
abbrev pub row_refusal : Refusal
row_refusal = refused RowNumber 0
