-- What reading a sheet gives: a formula with its names, or the fault of the first question answered no.
use Rattle.std.specs.Prelude.{ℕ, suc, ◌+◌, Bool, true, false, cond, ◌&&◌, ◌||◌, List, [], ◌∷◌, ◌++◌, length, is_some, Some, None, Ok, Err, Option, Result, ◌==◌, nat_le}
use Rattle.ltl.specs.Tables.{Table, table_from}
use Rattle.ltl.specs.declared.row.Row.{Row}
use Rattle.ltl.specs.declared.row.Row.TheVariants.{Signal}
use Rattle.sheet.specs.Parts.{Part, parts}
use Rattle.sheet.specs.Tokens.{Sort, operator, keyword, name, token_of, reserved}
use Rattle.sheet.specs.declared.token.Keyword.{Keyword}
use Rattle.sheet.specs.declared.token.Keyword.TheVariants as key
use Rattle.sheet_reader.specs.Grammar.{Written, earlier, Symbol, symbols, bare, formulas, wrong}
use Rattle.sheet_reader.specs.Names.{named, row_named}
use Rattle.sheet_reader.specs.Rows.{made, top}
use Rattle.sheet_reader.specs.declared.reading.Name.{Name}
use Rattle.sheet_faults.specs.declared.fault.WordFault.TheVariants as word
use Rattle.sheet_faults.specs.declared.fault.FormulaFault.{FormulaFault}
use Rattle.sheet_faults.specs.declared.fault.FormulaFault.TheVariants as formula
use Rattle.sheet_faults.specs.declared.fault.NameFault.{NameFault}
use Rattle.sheet_faults.specs.declared.fault.NameFault.TheVariants as bad_name
use Rattle.sheet_faults.specs.declared.fault.SheetFault.{SheetFault}
use Rattle.sheet_faults.specs.declared.fault.SheetFault.TheVariants as sheet

-- what the lines so far have made: rows, declared names, so many signals, and the watch row once its line is read
pub record State : Type 0 where
  pub rows : List Row
  pub names : List Name
  pub width : ℕ
  pub watch : Option ℕ

abbrev pub start : State
start = record { rows = []; names = []; width = 0; watch = None }

-- what a sheet is read to: a formula's table, and the names of its rows
pub record Reading : Type 0 where
  pub table : Table
  pub names : List Name

-- one question after another: the first refusal ends them
abbrev pub and_then : {A B E : Type 0} → Result A E → (A → Result B E) → Result B E
and_then (Ok a) go_on = go_on a
and_then (Err e) go_on = Err e

-- a question with nothing to tell: the fault where there is one
abbrev pub unless : {E : Type 0} → Option E → Result (Unit {0}) E
unless None = Ok tt
unless (Some e) = Err e

-- a refusal of a lower part stands whole inside the refusal of the part above
abbrev pub in_formula : {A : Type 0} → Result A FormulaFault → Result A SheetFault
in_formula (Ok a) = Ok a
in_formula (Err e) = Err (sheet.Formula e)

abbrev pub in_name : {A : Type 0} → Result A NameFault → Result A SheetFault
in_name (Ok a) = Ok a
in_name (Err e) = Err (sheet.Name e)

-- a byte that a sheet may hold: 10, or from 32 to 126
abbrev pub allowed : ℕ → Bool
allowed b = b == 10 || (nat_le 32 b && nat_le b 126)

-- question 2: the first other byte, where the first of these stands at p
abbrev pub foreign_byte : ℕ → List ℕ → Option SheetFault
foreign_byte p [] = None
foreign_byte p (b ∷ bs) = cond (allowed b) (foreign_byte (suc p) bs) (Some (sheet.ForeignByte p))

-- the lines of a sheet, the words of a line, and where it ends: at its byte 10 or at the sheet's end
abbrev pub lines : List ℕ → List Part
lines s = parts 10 0 s

abbrev pub words : Part → List Part
words l = parts 32 l.at l.text

abbrev pub end_of : Part → ℕ
end_of l = l.at + length l.text

-- question 3: a keyword first, and no watch line before
abbrev pub ask_keyword : Option ℕ → ℕ → Sort → Result Keyword SheetFault
ask_keyword watch p (operator o) = Err (sheet.NoKeyword p)
ask_keyword None p (keyword k) = Ok k
ask_keyword (Some r) p (keyword k) = Err (sheet.AfterWatch p)
ask_keyword watch p (name t q) = Err (sheet.NoKeyword p)

-- question 4: a second word that is not reserved, not declared and at most 16 bytes long; and the words after it
abbrev pub name_fault : List ℕ → List Name → Part → Option NameFault
name_fault s names w =
    cond (reserved w.text) (Some (bad_name.Reserved w.at))
    (cond (is_some (row_named s names w.text)) (Some (bad_name.Taken w.at))
    (cond (nat_le (length w.text) 16) None (Some (bad_name.TooLong w.at))))

abbrev pub ask_name : List ℕ → List Name → List Part → ℕ → Result (Part × List Part) NameFault
ask_name s names [] end = Err (bad_name.Missing end)
ask_name s names (w ∷ ws) end = and_then (unless (name_fault s names w)) (λ _. Ok (w, ws))

-- question 5 on a signal line: nothing follows
abbrev pub ask_nothing : List Part → Result (Unit {0}) FormulaFault
ask_nothing [] = Ok tt
ask_nothing (w ∷ ws) = Err (formula.Surplus w.at)

-- question 5 on a name line: an operator comes first
abbrev pub is_operator : Sort → Bool
is_operator (operator o) = true
is_operator (keyword k) = false
is_operator (name t p) = false

abbrev pub ask_operator : List Part → ℕ → Result (Unit {0}) FormulaFault
ask_operator [] end = Err (formula.Word (word.Missing end))
ask_operator (w ∷ ws) end = cond (is_operator (token_of w.text w.at)) (Ok tt) (Err (formula.NoOperator w.at))

-- question 5 on the words of a formula: they are one formula over the names declared before
abbrev pub symbols_of : List ℕ → List Name → List Part → List (Symbol × ℕ)
symbols_of s names ws = symbols (row_named s names) ws

abbrev pub first : List Written → Written
first [] = earlier 0
first (t ∷ ts) = t

abbrev pub ask_formula : List ℕ → List Name → List Part → ℕ → Result Written FormulaFault
ask_formula s names ws end =
    and_then (unless (wrong (symbols_of s names ws) end 1)) (λ _. Ok (first (formulas (bare (symbols_of s names ws)))))

-- question 6, for the line whose first word is at p
abbrev pub ask_room : ℕ → State → Result State SheetFault
ask_room p st = cond (nat_le st.width 32 && nat_le (length st.rows) 64) (Ok st) (Err (sheet.TooMany p))

-- a signal line makes the next signal and its row
abbrev pub with_signal : Part → State → State
with_signal w st = record {
  rows = st.rows ++ Signal st.width ∷ [];
  names = st.names ++ named w (length st.rows) ∷ [];
  width = suc st.width;
  watch = st.watch;
}

-- a name line makes the rows of its formula and names the formula's row
abbrev pub with_named : Part → Written → State → State
with_named w t st = record {
  rows = st.rows ++ made (length st.rows) t;
  names = st.names ++ named w (top (length st.rows) t) ∷ [];
  width = st.width;
  watch = st.watch;
}

-- the watch line makes the rows of its formula, whose row is the watch row
abbrev pub with_watch : Written → State → State
with_watch t st = record {
  rows = st.rows ++ made (length st.rows) t;
  names = st.names;
  width = st.width;
  watch = Some (top (length st.rows) t);
}

-- questions 4 to 6 on the words after the keyword, which stands at p
abbrev pub by_keyword : List ℕ → State → ℕ → Keyword → List Part → ℕ → Result State SheetFault
by_keyword s st p key.Signal ws end =
    and_then (in_name (ask_name s st.names ws end))
    (λ n. and_then (in_formula (ask_nothing n.1))
    (λ _. ask_room p (with_signal n.0 st)))
by_keyword s st p key.Name ws end =
    and_then (in_name (ask_name s st.names ws end))
    (λ n. and_then (in_formula (ask_operator n.1 end))
    (λ _. and_then (in_formula (ask_formula s st.names n.1 end))
    (λ t. ask_room p (with_named n.0 t st))))
by_keyword s st p key.Watch ws end =
    and_then (in_formula (ask_formula s st.names ws end))
    (λ t. ask_room p (with_watch t st))

-- questions 3 to 6 on the words of a line; a line without words is skipped
abbrev pub by_words : List ℕ → State → List Part → ℕ → Result State SheetFault
by_words s st [] end = Ok st
by_words s st (w ∷ ws) end =
    and_then (ask_keyword st.watch w.at (token_of w.text w.at)) (λ k. by_keyword s st w.at k ws end)

abbrev pub by_lines : List ℕ → State → List Part → Result State SheetFault
by_lines s st [] = Ok st
by_lines s st (l ∷ ls) = and_then (by_words s st (words l) (end_of l)) (λ st'. by_lines s st' ls)

-- a state with its watch row
abbrev pub reading : State → ℕ → Reading
reading st w = record { table = table_from st.width st.rows w; names = st.names }

-- question 7: was there a watch line?
abbrev pub finished : ℕ → State → Option ℕ → Result Reading SheetFault
finished end st None = Err (sheet.NoWatch end)
finished end st (Some w) = Ok (reading st w)

-- question 1
abbrev pub ask_length : List ℕ → Result (Unit {0}) SheetFault
ask_length s = cond (nat_le (length s) 4096) (Ok tt) (Err sheet.TooLong)

-- questions 1 to 7 in their order
abbrev pub read_sheet : List ℕ → Result Reading SheetFault
read_sheet s =
    and_then (ask_length s)
    (λ _. and_then (unless (foreign_byte 0 s))
    (λ _. and_then (by_lines s start (lines s))
    (λ st. finished (length s) st st.watch)))
