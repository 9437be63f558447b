-- The lines of a sheet in the words of its language: which line adds what, and which lines make a sheet.
use Rattle.std.specs.Prelude.{◌≡◌, ℕ, ◌≤◌, false, List, [], ◌∷◌, length, None}
use Rattle.sheet.specs.Parts.{Part}
use Rattle.sheet.specs.Tokens.{keyword, token_of, reserved}
use Rattle.sheet.specs.declared.token.Keyword.{Keyword}
use Rattle.sheet.specs.declared.token.Keyword.TheVariants as key
use Rattle.sheet_reader.specs.Grammar.{Written, earlier, one, two}
use Rattle.sheet_reader.specs.Laws.{Spell}
use Rattle.sheet_reader.specs.Names.{row_named}
use Rattle.sheet_reader.specs.Sheets.{State, words, symbols_of, with_signal, with_named, with_watch}
use Rattle.sheet_reader.specs.declared.reading.Name.{Name}

-- a word that may become a name: not reserved, not declared yet, and at most 16 bytes long
pub record Fresh (sheet : List ℕ) (names : List Name) (t : List ℕ) : Type 0 where
  pub unreserved : reserved t ≡ false
  pub undeclared : row_named sheet names t ≡ None
  pub short : length t ≤ 16

-- at most 32 signals and 64 rows
pub record Room (st : State) : Type 0 where
  pub signals : st.width ≤ 32
  pub rows : length st.rows ≤ 64

-- the formula is an operator with its operands
abbrev pub Operated : Written → Type 0
Operated (earlier r) = ⊥
Operated (one u t) = Unit {0}
Operated (two b l r) = Unit {0}

-- the words after `signal` are a fresh name
pub record SignalLine (sheet : List ℕ) (st : State) (ws : List Part) (st' : State) : Type 0 where
  pub name : Part
  pub is : ws ≡ name ∷ []
  pub fresh : Fresh sheet st.names name.text
  pub makes : st' ≡ with_signal name st
  pub room : Room st'

-- the words after `name` are a fresh name, and an operator with its operands over the names declared before
pub record NameLine (sheet : List ℕ) (st : State) (ws : List Part) (st' : State) : Type 0 where
  pub name : Part
  pub rest : List Part
  pub formula : Written
  pub is : ws ≡ name ∷ rest
  pub fresh : Fresh sheet st.names name.text
  pub operated : Operated formula
  pub spells : Spell (symbols_of sheet st.names rest) formula
  pub makes : st' ≡ with_named name formula st
  pub room : Room st'

-- the words after `watch` are a formula over the names declared before
pub record WatchLine (sheet : List ℕ) (st : State) (ws : List Part) (st' : State) : Type 0 where
  pub formula : Written
  pub spells : Spell (symbols_of sheet st.names ws) formula
  pub makes : st' ≡ with_watch formula st
  pub room : Room st'

abbrev pub LineBy : Keyword → List ℕ → State → List Part → State → Type 0
LineBy key.Signal = SignalLine
LineBy key.Name = NameLine
LineBy key.Watch = WatchLine

-- a line with words begins with a keyword and follows no watch line
pub record WordsLine (sheet : List ℕ) (st : State) (w : Part) (ws : List Part) (st' : State) : Type 0 where
  pub kind : Keyword
  pub is_keyword : token_of w.text w.at ≡ keyword kind
  pub no_watch : st.watch ≡ None
  pub line : LineBy kind sheet st ws st'

-- what the words of one line add; a line without words adds nothing
abbrev pub Adds : List ℕ → State → List Part → State → Type 0
Adds sheet st [] st' = st' ≡ st
Adds sheet st (w ∷ ws) st' = WordsLine sheet st w ws st'

-- what lines add, one after the other
abbrev pub Makes : List ℕ → State → List Part → State → Type 0
Makes sheet st [] st' = st' ≡ st
Makes sheet st (l ∷ ls) st' = (mid : State) × Adds sheet st (words l) mid × Makes sheet mid ls st'
