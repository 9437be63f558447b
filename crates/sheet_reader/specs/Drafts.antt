-- What the prefix reader keeps, and what it makes of the words of a formula.
use Rattle.std.specs.Prelude.{◌≡◌, ℕ, suc, ◌+◌, ◌<◌, List, [], ◌∷◌, ◌++◌, take, Some, Ok}
use Rattle.ltl.specs.declared.row.Row.{Row}
use Rattle.sheet.specs.Cuts.{parts_left}
use Rattle.sheet.specs.Parts.{Part}
use Rattle.sheet.specs.declared.words.Parts.{Parts}
use Rattle.sheet_reader.specs.Grammar.{Written, Symbol, spelt, wrong, bare}
use Rattle.sheet_reader.specs.Names.{row_named}
use Rattle.sheet_reader.specs.Rows.{size, top, made}
use Rattle.sheet_reader.specs.Sheets.{symbols_of, ask_formula}
use Rattle.sheet_faults.specs.declared.fault.FormulaFault.{FormulaFault}
use Rattle.sheet_reader.specs.declared.reading.Draft.{Draft}
use Rattle.sheet_reader.specs.declared.reading.Name.{Name}

-- the rows that a draft keeps
abbrev pub kept : Draft → List Row
kept d = d.rows.items

-- rows from row n on agree with others as far as they are kept
abbrev pub Agree : ℕ → List Row → List Row → Type 0
Agree n [] [] = Unit {0}
Agree n [] (x ∷ xs) = ⊥
Agree n (r ∷ rs) [] = ⊥
Agree n (r ∷ rs) (x ∷ xs) = (n < 64 → r ≡ x) × Agree (n + 1) rs xs

-- every name is one of a row below n
abbrev pub Known : List ℕ → List Name → ℕ → Type 0
Known sheet names n = (t : List ℕ) (r : ℕ) → row_named sheet names t ≡ Some r → r < n

-- the words that are left, as a formula reads them
abbrev pub line : List ℕ → List Name → Parts 32 → List (Symbol × ℕ)
line sheet names words = symbols_of sheet names (parts_left words)

-- the formula t is added to n rows of which k are kept: then there are n', of which k' are kept
pub record Added (n : ℕ) (k : List Row) (n' : ℕ) (k' : List Row) (row : ℕ) (t : Written) : Type 0 where
  pub count : n' ≡ n + size t
  pub rows : k' ≡ take 64 (k ++ made n t)
  pub number : row ≡ top n t

-- the words ws begin with a formula, which is added, and the words ws' come after it
pub record Got (ws ws' : List (Symbol × ℕ)) (end n : ℕ) (k : List Row) (n' : ℕ) (k' : List Row) (row : ℕ) : Type 0 where
  pub formula : Written
  pub spells : bare ws ≡ spelt formula ++ bare ws'
  pub passes : (m : ℕ) → wrong ws end (suc m) ≡ wrong ws' end m
  pub added : Added n k n' k' row formula

-- a formula is wanted, and no words that begin like these are one
abbrev pub Bad : List (Symbol × ℕ) → ℕ → FormulaFault → Type 0
Bad ws end f = (m : ℕ) → wrong ws end (suc m) ≡ Some f

-- the words are one formula, which is added
pub record Whole (sheet : List ℕ) (names : List Name) (ws : List Part) (end n : ℕ) (k : List Row) (n' : ℕ) (k' : List Row) (row : ℕ) : Type 0 where
  pub formula : Written
  pub asked : ask_formula sheet names ws end ≡ Ok formula
  pub added : Added n k n' k' row formula
