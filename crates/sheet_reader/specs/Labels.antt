-- The label of a row.
use Rattle.std.specs.Prelude.{ℕ, ◌+◌, cond, List, length, Some, None, Ok, Err, Option, Result, nat_le, nat_lt}
use Rattle.sheet_reader.specs.Names.{text_of, name_of}
use Rattle.sheet_reader.specs.Sheets.{Reading}
use Rattle.sheet_faults.specs.declared.fault.NoSuchRow.{NoSuchRow}
use Rattle.sheet_reader.specs.declared.reading.Label.{Label}
use Rattle.sheet_reader.specs.declared.reading.Label.TheVariants as label
use Rattle.sheet_reader.specs.declared.reading.Name.{Name}

-- a label by its bytes: a part of the sheet, with its place, or the spare text
pub data Text : Type 0 where
  from_sheet : List ℕ → ℕ → Text
  from_spare : List ℕ → Text

abbrev pub shown : Label → Text
shown (label.Sheet w) = from_sheet w.text.now w.at
shown (label.Spare t) = from_spare t.now

abbrev pub told_label : Result Label NoSuchRow → Result Text NoSuchRow
told_label (Ok l) = Ok (shown l)
told_label (Err e) = Err e

-- a name, where the sheet is long enough to have it
abbrev pub label_text : Option Name → List ℕ → List ℕ → Text
label_text None sheet spare = from_spare spare
label_text (Some n) sheet spare =
    cond (nat_le (n.at + n.len) (length sheet)) (from_sheet (text_of sheet n) n.at) (from_spare spare)

-- question 15, and the label of a row that there is
abbrev pub label_of : Reading → List ℕ → List ℕ → ℕ → Result Text NoSuchRow
label_of r sheet spare row =
    cond (nat_lt row (length r.table.rows)) (Ok (label_text (name_of r.names row) sheet spare)) (Err (record {}))
