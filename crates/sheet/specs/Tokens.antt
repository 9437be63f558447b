-- What a word of a formula sheet is.
use Rattle.std.specs.Prelude.{ℕ, Bool, cond, ◌||◌, List, [], ◌∷◌, is_some, Some, None, codes, Option}
use Rattle.std.specs.Str.{bytes_eq}
use Rattle.sheet.specs.declared.token.Operator.{Operator}
use Rattle.sheet.specs.declared.token.Operator.TheVariants.{One, Two}
use Rattle.sheet.specs.declared.token.Unary.TheVariants.{Not, Next, Eventually, Always}
use Rattle.sheet.specs.declared.token.Binary.TheVariants.{Or, And, Implies, Until}
use Rattle.sheet.specs.declared.token.Keyword.{Keyword}
use Rattle.sheet.specs.declared.token.Keyword.TheVariants as key
use Rattle.sheet.specs.declared.token.Token.{Token}
use Rattle.sheet.specs.declared.token.Token.TheVariants as token

-- a token by its values: a name by its bytes and its offset
pub data Sort : Type 0 where
  operator : Operator → Sort
  keyword : Keyword → Sort
  name : List ℕ → ℕ → Sort

abbrev pub shown : Token → Sort
shown (token.Operator o) = operator o
shown (token.Keyword k) = keyword k
shown (token.Name w) = name w.text.now w.at

-- what stands beside the first equal word of a table
abbrev pub beside : {A : Type 0} → List ℕ → List (List ℕ × A) → Option A
beside t [] = None
beside t (e ∷ es) = cond (bytes_eq t e.0) (Some e.1) (beside t es)

-- the eight operators
abbrev pub operator_of : List ℕ → Option Operator
operator_of t =
    beside t
    ((codes "not", One Not) ∷ (codes "next", One Next) ∷ (codes "eventually", One Eventually) ∷ (codes "always", One Always) ∷ (codes "or", Two Or) ∷ (codes "and", Two And) ∷ (codes "implies", Two Implies) ∷ (codes "until", Two Until) ∷ [])

-- the three keywords
abbrev pub keyword_of : List ℕ → Option Keyword
keyword_of t =
    beside t ((codes "signal", key.Signal) ∷ (codes "name", key.Name) ∷ (codes "watch", key.Watch) ∷ [])

abbrev pub sort_of : Option Operator → Option Keyword → List ℕ → ℕ → Sort
sort_of (Some o) k t p = operator o
sort_of None (Some k) t p = keyword k
sort_of None None t p = name t p

-- the word t at offset p: an operator, a keyword, or else a name
abbrev pub token_of : List ℕ → ℕ → Sort
token_of t p = sort_of (operator_of t) (keyword_of t) t p

-- the words that are never names: these eleven, `steps` and `-`
abbrev pub reserved : List ℕ → Bool
reserved t =
    is_some (operator_of t) || (is_some (keyword_of t) || (bytes_eq t (codes "steps") || bytes_eq t (codes "-")))
