-- Worked examples of the definition of reading.
use Rattle.std.specs.Prelude.{◌≡◌, ℕ, List, [], ◌∷◌, ◌++◌, Ok, Err, codes}
use Rattle.ltl.specs.Tables.{table_from}
use Rattle.ltl.specs.declared.row.Row.TheVariants.{Signal, Not, Or, Eventually}
use Rattle.sheet.specs.Parts.{part}
use Rattle.sheet_reader.specs.Names.{named}
use Rattle.sheet_reader.specs.Sheets.{read_sheet}
use Rattle.sheet_faults.specs.declared.fault.NameFault.TheVariants.{Reserved}
use Rattle.sheet_faults.specs.declared.fault.WordFault.TheVariants.{Missing}
use Rattle.sheet_faults.specs.declared.fault.FormulaFault.TheVariants.{Word, NoOperator, Surplus}
use Rattle.sheet_faults.specs.declared.fault.SheetFault.TheVariants.{AfterWatch, Name, Formula, NoWatch}

-- lines with byte 10 between them
abbrev pub joined : List (List ℕ) → List ℕ
joined [] = []
joined (l ∷ []) = l
joined (l ∷ m ∷ ls) = l ++ 10 ∷ joined (m ∷ ls)

pub record WorkedSheets : Type 0 where
  -- every request is granted in the end
  pub granted :
      read_sheet (joined (codes "signal r" ∷ codes "signal g" ∷ codes "watch always implies r eventually g" ∷ []))
      ≡ Ok (record {
        table = table_from 2 (Signal 0 ∷ Signal 1 ∷ Eventually 1 ∷ Not 0 ∷ Or 3 2 ∷ Not 4 ∷ Eventually 5 ∷ Not 6 ∷ []) 7;
        names = named (part (codes "r") 7) 0 ∷ named (part (codes "g") 16) 1 ∷ [];
      })
  -- a name makes no row
  pub bare_watch :
      read_sheet (joined (codes "signal a" ∷ codes " name b not a" ∷ codes "watch b" ∷ []))
      ≡ Ok (record {
        table = table_from 1 (Signal 0 ∷ Not 0 ∷ []) 1;
        names = named (part (codes "a") 7) 0 ∷ named (part (codes "b") 15) 1 ∷ [];
      })
  pub empty : read_sheet [] ≡ Err (NoWatch 0)
  pub second_watch : read_sheet (joined (codes "signal a" ∷ codes "watch a" ∷ codes "watch a" ∷ [])) ≡ Err (AfterWatch 17)
  pub reserved_name : read_sheet (codes "signal not") ≡ Err (Name (Reserved 7))
  pub surplus : read_sheet (joined (codes "signal a" ∷ codes "watch or a not a a" ∷ [])) ≡ Err (Formula (Surplus 26))
  pub missing : read_sheet (joined (codes "signal a" ∷ codes "watch or a  " ∷ [])) ≡ Err (Formula (Word (Missing 21)))
  pub no_operator : read_sheet (joined (codes "signal a" ∷ codes "name b a" ∷ [])) ≡ Err (Formula (NoOperator 16))
