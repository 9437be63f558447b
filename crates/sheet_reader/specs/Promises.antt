-- What is promised of every sheet: which are accepted, what their names mean, and where a formula is refused.
use Rattle.std.specs.Prelude.{◌≡◌, ℕ, ◌<◌, ◌≤◌, true, false, ◌⊎◌, ◌↔◌, List, [], ◌∷◌, ◌++◌, length, Some, Ok, Err, Result, slice_index}
use Rattle.ltl.specs.Trees.{Tree, signal, trees, tree_at}
use Rattle.sheet.specs.Parts.{Part}
use Rattle.sheet.specs.Tokens.{keyword, token_of}
use Rattle.sheet.specs.declared.token.Keyword.{Keyword}
use Rattle.sheet.specs.declared.token.Keyword.TheVariants as key
use Rattle.sheet_faults.specs.Faults.{formula_refusal}
use Rattle.sheet_reader.specs.Examples.{WorkedSheets}
use Rattle.sheet_reader.specs.Grammar.{Written}
use Rattle.sheet_reader.specs.Laws.{Unambiguous, Spell, FirstWrong}
use Rattle.sheet_reader.specs.Lines.{Makes}
use Rattle.sheet_reader.specs.Names.{named, text_of, row_named, name_of}
use Rattle.sheet_reader.specs.Rows.{top, meant}
use Rattle.sheet_reader.specs.Sheets.{State, start, Reading, reading, allowed, lines, words, end_of, symbols_of, is_operator}
use Rattle.sheet_faults.specs.declared.fault.FormulaFault.{FormulaFault}
use Rattle.sheet_faults.specs.declared.fault.SheetFault.{SheetFault}
use Rattle.sheet_faults.specs.declared.fault.SheetFault.TheVariants.{Formula}
use Rattle.sheet_reader.specs.declared.reading.Name.{Name}

-- a sheet of the language, and what it reads to: at most 4,096 allowed bytes, whose lines make it, a watch line among them
pub record Accepted (s : List ℕ) (r : Reading) : Type 0 where
  pub short : length s ≤ 4096
  pub plain : (k : ℕ) → k < length s → allowed (slice_index s k) ≡ true
  pub state : State
  pub made : Makes s start (lines s) state
  pub watched : state.watch ≡ Some r.table.watch
  pub is : r ≡ reading state r.table.watch

-- a line of the sheet, before which the lines have made st
pub record LineAt (s : List ℕ) (st : State) (l : Part) : Type 0 where
  pub before : List Part
  pub behind : List Part
  pub splits : lines s ≡ before ++ l ∷ behind
  pub made : Makes s start before st

-- such a line by its first word, which is this keyword, and the words after it
pub record WordsAt (s : List ℕ) (st : State) (k : Keyword) (ws : List Part) : Type 0 where
  pub line : Part
  pub stands : LineAt s st line
  pub first : Part
  pub words_are : words line ≡ first ∷ ws
  pub is_keyword : token_of first.text first.at ≡ keyword k

-- the words spell the formula over the names declared before
abbrev pub Spelt : List ℕ → State → List Part → Written → Type 0
Spelt s st ws t = Spell (symbols_of s st.names ws) t

-- the tree of each row of a reading's formula
abbrev pub tree_in : Reading → ℕ → Tree
tree_in r = tree_at (trees r.table.rows)

-- the word names the row, and the row's name is that word of the sheet, at its place
pub record Names (s : List ℕ) (names : List Name) (w : Part) (row : ℕ) : Type 0 where
  pub found : row_named s names w.text ≡ Some row
  pub back : name_of names row ≡ Some (named w row)
  pub text : text_of s (named w row) ≡ w.text

-- what every name of an accepted sheet means: each signal line names the next signal; the row of a name line, and the
-- watch row, have the tree that the words of their formula spell
pub record Meanings (s : List ℕ) (r : Reading) : Type 0 where
  pub signals : (st : State) (w : Part) → WordsAt s st key.Signal (w ∷ []) → Names s r.names w (length st.rows) × (tree_in r (length st.rows) ≡ signal st.width)
  pub names : (st : State) (w : Part) (ws : List Part) (t : Written) → WordsAt s st key.Name (w ∷ ws) → Spelt s st ws t → Names s r.names w (top (length st.rows) t) × (tree_in r (top (length st.rows) t) ≡ meant (tree_in r) t)
  pub watch : (st : State) (ws : List Part) (t : Written) → WordsAt s st key.Watch ws → Spelt s st ws t → (r.table.watch ≡ top (length st.rows) t) × (tree_in r r.table.watch ≡ meant (tree_in r) t)

-- the words begin with one that is no operator, at p
pub record NoOperatorAt (ws : List Part) (p : ℕ) : Type 0 where
  pub first : Part
  pub behind : List Part
  pub is : ws ≡ first ∷ behind
  pub no_operator : is_operator (token_of first.text first.at) ≡ false
  pub place : p ≡ first.at

-- a word after a signal's name, at p
pub record SurplusAt (ws : List Part) (p : ℕ) : Type 0 where
  pub name : Part
  pub surplus : Part
  pub behind : List Part
  pub is : ws ≡ name ∷ surplus ∷ behind
  pub place : p ≡ surplus.at

-- a name line on whose formula question 5 is answered no: it begins with no operator, or no formula goes on at p
pub record WrongName (s : List ℕ) (st : State) (ws : List Part) (end p : ℕ) : Type 0 where
  pub name : Part
  pub behind : List Part
  pub is : ws ≡ name ∷ behind
  pub wrong_at : NoOperatorAt behind p ⊎ FirstWrong (symbols_of s st.names behind) end p

-- where question 5 is answered no on the words after a keyword, in a line with this end
abbrev pub WrongBy : Keyword → List ℕ → State → List Part → ℕ → ℕ → Type 0
WrongBy key.Signal s st ws end p = SurplusAt ws p
WrongBy key.Name s st ws end p = WrongName s st ws end p
WrongBy key.Watch s st ws end p = FirstWrong (symbols_of s st.names ws) end p

-- the first line that is wrong, by question 5, at p
pub record WrongLine (s : List ℕ) (p : ℕ) : Type 0 where
  pub state : State
  pub kind : Keyword
  pub rest : List Part
  pub stands : WordsAt s state kind rest
  pub wrong_by : WrongBy kind s state rest (end_of stands.line) p

-- what is promised of reading the sheet s, which answers this
pub record Promised (s : List ℕ) (answer : Result Reading SheetFault) : Type 0 where
  -- no list of words spells two formulas
  pub one_way : Unambiguous
  -- the sheets of the language are accepted, and no others
  pub exact : (r : Reading) → (answer ≡ Ok r) ↔ Accepted s r
  -- reading and then taking a row's tree gives the tree of the words
  pub means : (r : Reading) → answer ≡ Ok r → Meanings s r
  -- the place told by question 5
  pub wrong_word : (f : FormulaFault) → answer ≡ Err (Formula f) → WrongLine s (formula_refusal f).place
  -- worked examples of the definition
  pub examples : WorkedSheets
