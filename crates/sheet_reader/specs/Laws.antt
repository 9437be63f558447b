-- What the grammar of formulas promises.
use Rattle.std.specs.Prelude.{◌≡◌, ℕ, ◌⊎◌, List, [], ◌∷◌, ◌++◌}
use Rattle.sheet_reader.specs.Grammar.{Written, Symbol, spelt, bare}

-- the words spell the formula
abbrev pub Spell : List (Symbol × ℕ) → Written → Type 0
Spell ws t = bare ws ≡ spelt t

-- no list of words spells two formulas, whatever stands behind
abbrev pub Unambiguous : Type 0
Unambiguous = (t t' : Written) (ss ss' : List Symbol) → spelt t ++ ss ≡ spelt t' ++ ss' → (t ≡ t') × (ss ≡ ss')

-- some formula begins with these words
abbrev pub Begins : List Symbol → Type 0
Begins ss = (t : Written) × ((rest : List Symbol) × (spelt t ≡ ss ++ rest))

-- p is the place of a word with which no formula goes on, while one goes on with all words before it
pub record StopsAt (ws : List (Symbol × ℕ)) (p : ℕ) : Type 0 where
  pub before : List (Symbol × ℕ)
  pub word : Symbol × ℕ
  pub behind : List (Symbol × ℕ)
  pub splits : ws ≡ before ++ word ∷ behind
  pub place : p ≡ word.1
  pub could : Begins (bare before)
  pub cannot : ¬ Begins (bare before ++ word.0 ∷ [])

-- p is the end: a formula goes on with all the words, and none ends there
pub record EndsEarly (ws : List (Symbol × ℕ)) (end p : ℕ) : Type 0 where
  pub place : p ≡ end
  pub could : Begins (bare ws)
  pub none : (t : Written) → ¬ Spell ws t

-- the first word with which no formula goes on, or the end where none ends yet
abbrev pub FirstWrong : List (Symbol × ℕ) → ℕ → ℕ → Type 0
FirstWrong ws end p = StopsAt ws p ⊎ EndsEarly ws end p
