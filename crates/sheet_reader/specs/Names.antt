-- Declared names, and the row that a word names.
use Rattle.std.specs.Prelude.{ℕ, cond, List, [], ◌∷◌, length, take, drop, Some, None, Option, ◌==◌}
use Rattle.std.specs.List.{find}
use Rattle.std.specs.Str.{bytes_eq}
use Rattle.arrayvec.specs.ArrayVec.{ArrayVec}
use Rattle.sheet.specs.Parts.{Part}
use Rattle.sheet_reader.specs.declared.reading.Declared.{Declared}
use Rattle.sheet_reader.specs.declared.reading.Name.{Name}

-- the names of a table, in the order of their lines
abbrev pub names_in : ArrayVec Name → List Name
names_in x = x.items

-- a word as the name of a row
abbrev pub named : Part → ℕ → Name
named w r = record { at = w.at; len = length w.text; row = r }

-- the bytes of a name, which is a part of the sheet
abbrev pub text_of : List ℕ → Name → List ℕ
text_of sheet n = take n.len (drop n.at sheet)

-- the row of the first declared name with these bytes
abbrev pub row_named : List ℕ → List Name → List ℕ → Option ℕ
row_named sheet [] t = None
row_named sheet (n ∷ ns) t = cond (bytes_eq (text_of sheet n) t) (Some n.row) (row_named sheet ns t)

-- what is said of a sheet and the names that it declares
abbrev pub within {ℓ} : {A : Type ℓ} → (List ℕ → List Name → A) → Declared → A
within said d = said d.sheet.now (names_in d.names.now)

-- the first declared name of a row
abbrev pub name_of : List Name → ℕ → Option Name
name_of names r = find (λ n. n.row == r) names
