-- The words for each refusal: the question that was answered no, and what is wrong.
use Rattle.std.specs.Prelude.{ℕ, List, codes}
use Rattle.ltl.specs.Shown.{shown_question}
use Rattle.sheet_faults.specs.Faults.{sheet_refusal}
use Rattle.sheet_faults.specs.declared.fault.WordFault.{WordFault}
use Rattle.sheet_faults.specs.declared.fault.WordFault.TheVariants as word
use Rattle.sheet_faults.specs.declared.fault.FormulaFault.{FormulaFault}
use Rattle.sheet_faults.specs.declared.fault.FormulaFault.TheVariants as formula
use Rattle.sheet_faults.specs.declared.fault.NameFault.{NameFault}
use Rattle.sheet_faults.specs.declared.fault.NameFault.TheVariants as name
use Rattle.sheet_faults.specs.declared.fault.SheetFault.{SheetFault}
use Rattle.sheet_faults.specs.declared.fault.SheetFault.TheVariants as sheet

-- the question
abbrev pub asked : SheetFault → List ℕ
asked f = shown_question (sheet_refusal f).question

-- what is wrong
abbrev pub shown_word : WordFault → List ℕ
shown_word (word.Unknown p) = codes "the word is neither an operator nor an earlier name"
shown_word (word.Missing p) = codes "the line ends where a word is wanted"

abbrev pub shown_formula : FormulaFault → List ℕ
shown_formula (formula.Word f) = shown_word f
shown_formula (formula.NoOperator p) = codes "the formula of a name line begins with an operator"
shown_formula (formula.Surplus p) = codes "the line is complete before this word"

abbrev pub shown_name : NameFault → List ℕ
shown_name (name.Missing p) = codes "the line ends where a name is wanted"
shown_name (name.Reserved p) = codes "the word is reserved"
shown_name (name.Taken p) = codes "an earlier line declares this name"
shown_name (name.TooLong p) = codes "the name has more than 16 bytes"

abbrev pub shown_sheet : SheetFault → List ℕ
shown_sheet sheet.TooLong = codes "the sheet goes on after 4,096 bytes"
shown_sheet (sheet.ForeignByte p) = codes "no sheet holds this byte"
shown_sheet (sheet.NoKeyword p) = codes "the word is no keyword"
shown_sheet (sheet.AfterWatch p) = codes "the watch line is the last"
shown_sheet (sheet.Name f) = shown_name f
shown_sheet (sheet.Formula f) = shown_formula f
shown_sheet (sheet.TooMany p) = codes "with this line there are more than 32 signals or 64 rows"
shown_sheet (sheet.NoWatch p) = codes "the sheet ends without a watch line"
