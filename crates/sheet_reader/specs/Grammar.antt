-- Formulas as they are written: the words that spell one, and the first word with which none goes on.
use Rattle.std.specs.Prelude.{ℕ, zero, suc, List, [], ◌∷◌, ◌++◌, Some, None, Option}
use Rattle.sheet.specs.Parts.{Part}
use Rattle.sheet.specs.Tokens.{Sort, operator, keyword, name, token_of}
use Rattle.sheet.specs.declared.token.Operator.TheVariants.{One, Two}
use Rattle.sheet.specs.declared.token.Unary.{Unary}
use Rattle.sheet.specs.declared.token.Binary.{Binary}
use Rattle.sheet_faults.specs.declared.fault.WordFault.TheVariants.{Unknown, Missing}
use Rattle.sheet_faults.specs.declared.fault.FormulaFault.{FormulaFault}
use Rattle.sheet_faults.specs.declared.fault.FormulaFault.TheVariants.{Word, Surplus}

-- a formula as written: an earlier name, by its row, or an operator and its operands
pub data Written : Type 0 where
  earlier : ℕ → Written
  one : Unary → Written → Written
  two : Binary → Written → Written → Written

-- a word by how many formulas it takes: an earlier name none, an operator one or two, and any other is never in a formula
pub data Symbol : Type 0 where
  takes0 : ℕ → Symbol
  takes1 : Unary → Symbol
  takes2 : Binary → Symbol
  never : Symbol

-- the words of a formula, in prefix order
abbrev pub spelt : Written → List Symbol
spelt (earlier r) = takes0 r ∷ []
spelt (one u t) = takes1 u ∷ spelt t
spelt (two b l r) = takes2 b ∷ (spelt l ++ spelt r)

abbrev pub known : Option ℕ → Symbol
known (Some r) = takes0 r
known None = never

-- what a token is in a formula, where `find` gives the rows of the names declared before
abbrev pub symbol : (List ℕ → Option ℕ) → Sort → Symbol
symbol find (operator (One u)) = takes1 u
symbol find (operator (Two b)) = takes2 b
symbol find (keyword k) = never
symbol find (name t p) = known (find t)

-- words as symbols, each with its place
abbrev pub symbols : (List ℕ → Option ℕ) → List Part → List (Symbol × ℕ)
symbols find [] = []
symbols find (w ∷ ws) = (symbol find (token_of w.text w.at), w.at) ∷ symbols find ws

abbrev pub bare : List (Symbol × ℕ) → List Symbol
bare [] = []
bare (w ∷ ws) = w.0 ∷ bare ws

-- the formulas that symbols spell, one behind the other
abbrev pub onto1 : Unary → List Written → List Written
onto1 u [] = []
onto1 u (t ∷ ts) = one u t ∷ ts

abbrev pub onto2 : Binary → List Written → List Written
onto2 b [] = []
onto2 b (l ∷ []) = []
onto2 b (l ∷ r ∷ ts) = two b l r ∷ ts

abbrev pub formulas : List Symbol → List Written
formulas [] = []
formulas (takes0 r ∷ ss) = earlier r ∷ formulas ss
formulas (takes1 u ∷ ss) = onto1 u (formulas ss)
formulas (takes2 b ∷ ss) = onto2 b (formulas ss)
formulas (never ∷ ss) = []

-- how many formulas are still to come after a symbol, with `need` before it; none where it cannot continue them
abbrev pub after : ℕ → Symbol → Option ℕ
after zero s = None
after (suc k) (takes0 r) = Some k
after (suc k) (takes1 u) = Some (suc k)
after (suc k) (takes2 b) = Some (suc (suc k))
after (suc k) never = None

-- the fault of the word at p, where so many formulas are still to come
abbrev pub stopped : ℕ → ℕ → FormulaFault
stopped zero p = Surplus p
stopped (suc k) p = Word (Unknown p)

abbrev pub or_else : Option ℕ → FormulaFault → (ℕ → Option FormulaFault) → Option FormulaFault
or_else None f go_on = Some f
or_else (Some k) f go_on = go_on k

-- the fault of the first word that cannot continue `need` formulas, or of the end where one is missing
abbrev pub wrong : List (Symbol × ℕ) → ℕ → ℕ → Option FormulaFault
wrong [] end zero = None
wrong [] end (suc k) = Some (Word (Missing end))
wrong (w ∷ ws) end need = or_else (after need w.0) (stopped need w.1) (wrong ws end)
